use Rattle.std.proofs.Common.{List, ℕ, subst, sym}
use Rattle.std.specs.Prelude.{Option, None}
use mathlib.Core.List.{IsPrefix}
use Rattle.ld_book.specs.Pages.{Booked}
use Rattle.ld_book.specs.Seats.{lines_of}
use Rattle.ld_book.specs.declared.page.Line.{Line}
use Rattle.ld_flight.specs.Loads.{Loading}
use Rattle.ld_moves.specs.Stocks.{IsSound}
use Rattle.ld_session.proofs.Closing.{front_closed}
use Rattle.ld_turn.specs.Known.{Known}
use Rattle.ld_visit.specs.Visits.{pages_in}
use Rattle.ld_revise.specs.Rounds.{IsRound, IsRoundOf}
use Rattle.ld_revise.specs.Walking.{nothing}
use Rattle.ld_revise.specs.declared.round.RoundEnd.{RoundEnd}
use Rattle.ld_revise.specs.declared.tally.Tally.{Tally}
use Rattle.ld_revise.proofs.Ending.{is_no_round, is_round}
use Rattle.ld_revise.proofs.round.revise_round.Goals as goal
use Rattle.ld_revise.proofs.round.revise_round.Goals.{in-Ok, in-Err}

pub returns-clause-seen : goal.returns-clause-seen
returns-clause-seen g c =
    let start = c.args.seats.book in
    elim c.match-open.branch [
      | in-Ok w ↦
          let went = w.walk-visit.ensures.went in
          subst (λ b. IsPrefix start.front b.0.front) (sym w.book-is)
          (front_closed start w.in-Ok.visit w.walk-visit.result.0 w.close.result w.in-Ok.ensures.opened w.close.ensures went.limits_are went.grows)
      | in-Err w ↦
          let n = w.in-Err.ensures.refused in
          subst (λ b. IsPrefix start.front b.0.front) (sym w.book-is) (subst (λ (ls : List Line). IsPrefix start.front ls) (sym n.front_is) n.finds.grows)
    ]

-- what the function tells of its round and its loader, and of what it gives back
abbrev Tells : (start : Known Line) (before after : Loading) (left : Known Line) (session : Option ℕ) (t : Tally) (e : RoundEnd) → Type 0
Tells start before after left session t e =
    (book : Booked) → IsSound book.limits book.pages → IsPrefix left.front (lines_of book) → IsRoundOf session book.limits (pages_in start.front) book.pages before after t e

pub returns-clause-made : goal.returns-clause-made
returns-clause-made g c =
    let start = c.args.seats.book in
    let before = g.L.Loader.loading c.args.loader.now in
    elim c.match-open.branch [
      | in-Ok w ↦
          let r = w.walk-visit.result in
          let after = g.L.Loader.loading w.walk-visit.new.loader in
          subst (λ l. Tells start before (g.L.Loader.loading l) c.match-open.book.0 c.match-open.book.1 c.match-open.book.2 c.match-open.book.3) (sym w.loader-is)
          (subst (λ b. Tells start before after b.0 b.1 b.2 b.3) (sym w.book-is)
          (λ book sound grows. subst (λ n. IsRound book.limits (pages_in start.front) book.pages n before after r.1 r.2) (sym w.session-number.ensures)
          (is_round start w.in-Ok.visit r.0 w.close.result w.in-Ok.ensures.opened w.close.ensures before after r.1 r.2 w.walk-visit.ensures book sound grows)))
      | in-Err w ↦
          let refusal = w.in-Err.refusal in
          subst (λ l. Tells start before (g.L.Loader.loading l) c.match-open.book.0 c.match-open.book.1 c.match-open.book.2 c.match-open.book.3) (sym w.loader-is)
          (subst (λ b. Tells start before before b.0 b.1 b.2 b.3) (sym w.book-is)
          (subst (λ t. Tells start before before w.in-Err.book None t w.end_for.result) (sym w.new.ensures)
          (subst (λ e. Tells start before before w.in-Err.book None nothing e) (sym w.end_for.ensures)
          (λ book sound grows. is_no_round start w.in-Err.book refusal w.in-Err.ensures.refused book grows before))))
    ]
