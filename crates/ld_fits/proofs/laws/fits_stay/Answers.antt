use Rattle.ld_fits.proofs.Staying.{fits_on}
use Rattle.ld_fits.proofs.laws.fits_stay.Goals as goal

pub returns : goal.returns
returns c limits n stock later entries more session items written within agree none fits = fits_on limits n stock later entries more session items written within agree none fits
