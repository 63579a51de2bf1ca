use Rattle.std.proofs.Common.{◌≡◌, ◌∙◌, ap, sym, true, ℕ, Option, Some, None}
use Rattle.std.specs.Prelude.{is_some}
use Rattle.std.specs.Option.{option_map, IsSome}
use Rattle.ld_history.specs.declared.session.Flight.{Flight}
use Rattle.ld_history.specs.Store.{Store}
use Rattle.ld_history.specs.Words.{flight_at}
use Rattle.ld_history.specs.Rules.{end_of}
use Rattle.ld_history.specs.Legal.{History, state}
use Rattle.ld_book.specs.declared.answers.LookAnswer.{LookAnswer}
use Rattle.ld_book.specs.Kept.{values_in}
use Rattle.ld_book.specs.Said.{told_end}
use Rattle.ld_book.proofs.Viewing.{in_state, seen}
use Rattle.ld_book.proofs.book.Book.look.Goals as goal

found : (o : Option Flight) → is_some o ≡ true → IsSome (option_map (λ (f : Flight). f.end) o)
found None h = cc
found (Some f) h = h

pub unwrap-requires : goal.unwrap-requires
unwrap-requires c =
    let s = c.self.inside in
    rw c.end_of.ensures (found (flight_at (state s.state.entries).flights c.args.flight)
    (in_state s.state (values_in s.documents.items) c.args.self.now c.self.view_is (λ (store : Store). is_some (flight_at store.flights c.args.flight) ≡ true) c.requires))

pub returns : goal.returns
returns c =
    let s = c.self.inside in
    ap (λ (h : History). option_map told_end (end_of (state h.entries) c.args.flight)) (seen s.state (values_in s.documents.items) c.args.self.now c.self.view_is)
    ∙ ap (option_map told_end) (sym c.end_of.ensures ∙ c.unwrap.ensures) ∙ sym (ap (λ (x : LookAnswer). Some x) c.told_end.ensures)
