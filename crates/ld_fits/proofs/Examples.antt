-- Short histories fit.
use Rattle.std.proofs.Common.{◌≡◌, ℕ, List, [], ◌∷◌, refl, ap}
use Rattle.std.specs.Prelude.{Result, Ok, Some, None}
use Rattle.ld_answer.specs.Answers.{answered}
use Rattle.ld_answer.specs.Envelopes.{IsAccepted}
use Rattle.ld_answer.specs.declared.envelope.Envelope.{Envelope}
use Rattle.ld_answer.specs.declared.op.Op.{Op}
use Rattle.ld_head.specs.Dialogues.{Ask, Bad}
use Rattle.ld_head.specs.declared.dialogue.Marks.{Marks}
use Rattle.ld_head.specs.declared.outcome.Outcome.TheVariants as outcome
use Rattle.ld_head.specs.declared.path.Path.{Path}
use Rattle.ld_history.specs.declared.event.Event.TheVariants as event
use Rattle.ld_history.specs.declared.event.How.TheVariants as how
use Rattle.ld_history.specs.declared.limits.Limits.{Limits}
use Rattle.ld_history.specs.Legal.{state}
use Rattle.ld_history.specs.Steps.{plain}
use Rattle.ld_rec.specs.Outcome.{Stock}
use Rattle.ld_rec.specs.declared.stop.Stop.{Stop}
use Rattle.ld_tree.specs.declared.tree.Tree.{Tree}
use Rattle.ld_fits.specs.Asks.{Evaluation, Unrecorded, operation}
use Rattle.ld_fits.specs.Examples.{evaluated, unrecorded}
use Rattle.ld_fits.specs.Fits.{Fits}
use Rattle.ld_fits.specs.Play.{item_text, replied, result, step}

pub fits_unrecorded : (limits : Limits) (stock : ℕ → Stock) (status : ℕ) (marks : Marks)
    → Fits limits stock unrecorded 1 (record { item = Bad status; marks = marks } ∷ []) (item_text None (outcome.Bad status) marks)
fits_unrecorded limits stock status marks = record {
  heard = (record { marked = record { item = Bad status; marks = marks }; asked = Unrecorded (outcome.Bad status); is = refl }) ∷ [];
  are_items = refl;
  leads = refl;
}

pub fits_evaluated : (limits : Limits) (stock : ℕ → Stock) (path : Path) (op : Op) (body : List ℕ) (envelope : Envelope) (marks : Marks) (tree : Tree)
    → operation path ≡ Some op → IsAccepted op body envelope → answered (stock 0) op envelope ≡ Ok tree
    → Fits limits stock evaluated 1 (record { item = Ask path body; marks = marks } ∷ []) (item_text (Some (1, 0)) (outcome.Result tree) marks)
fits_evaluated limits stock path op body envelope marks tree is accepted answer = record {
  heard = (record { marked = record { item = Ask path body; marks = marks }; asked = Evaluation op envelope; is = (is, accepted) }) ∷ [];
  are_items = refl;
  leads = ap (λ (a : Result Tree Stop). step limits stock (state (plain (event.Opened 1 0) ∷ plain (event.Pinned 1 1 1 0) ∷ plain (event.Answered 1 1 how.Done) ∷ [])) (replied (record { number = 1; version = 0; marks = marks; items = []; text = [] }) (result a)) (event.Closed 1)) answer;
}
