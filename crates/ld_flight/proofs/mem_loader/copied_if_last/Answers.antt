use Rattle.std.proofs.Common.{rules, ◌≡◌, refl, sym, ◌∙◌, ap, ap₂}
use Rattle.ld_flight.specs.Memory.{answers_for}
use Rattle.ld_flight.proofs.Queues.{some_left}
use Rattle.ld_flight.proofs.mem_loader.copied_if_last.Goals as goal

pub returns-in-Some-clause-not_last : goal.returns-in-Some-clause-not_last
returns-in-Some-clause-not_last c = λ _ none. some_left _ _ _ c.in-Some.ensures (ap₂ answers_for (c.as_str.ensures ∙ c.iri.ensures) c.after.ensures ∙ none)
