use Rattle.ld_fits.proofs.Examples.{fits_evaluated, fits_unrecorded}
use Rattle.ld_fits.proofs.laws.short_sessions_fit.Goals as goal

pub returns-clause-unrecorded : goal.returns-clause-unrecorded
returns-clause-unrecorded c limits stock status marks = fits_unrecorded limits stock status marks

pub returns-clause-evaluated : goal.returns-clause-evaluated
returns-clause-evaluated c limits stock path op body envelope marks tree is accepted answer = fits_evaluated limits stock path op body envelope marks tree is accepted answer
