use Rattle.ld_fits.specs.Play.{Idle, Lacking}
use Rattle.std.proofs.Common.{◌∷◌}
use Rattle.ld_moves.proofs.Stepping.{pin_moves, pin_rises, pin_told, pin_version}
use Rattle.ld_moves.proofs.steps.pins_move.Goals as goal

pub returns-clause-first : goal.returns-clause-first
returns-clause-first c session limits front found h items text request attempt version f is = pin_moves session limits front found f request attempt version is (Idle (h ∷ items) text)

pub returns-clause-again : goal.returns-clause-again
returns-clause-again c session limits front found r op envelope iri request attempt version f is = pin_moves session limits front found f request attempt version is (Lacking r op envelope iri)

pub returns-clause-any : goal.returns-clause-any
returns-clause-any c session limits front found from request attempt version f is = pin_moves session limits front found f request attempt version is from

pub returns-clause-told : goal.returns-clause-told
returns-clause-told c session limits front found request attempt version f is = pin_told session limits front found f request attempt version is

pub returns-clause-current : goal.returns-clause-current
returns-clause-current c session limits front found request attempt version f is = pin_version session limits front found f request attempt version is

pub returns-clause-within : goal.returns-clause-within
returns-clause-within c session limits front found request attempt version f is = pin_rises session limits front found f request attempt version is
