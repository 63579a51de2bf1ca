use Rattle.std.proofs.Common.{◌≡◌, ◌∙◌, [], List, ℕ, ap, refl, sym, subst, Some, None}
use Rattle.std.specs.Prelude.{Option}
use mathlib.Core.List.{IsPrefix}
use Rattle.ld_book.specs.Pages.{Booked}
use Rattle.ld_book.specs.Seats.{lines_of}
use Rattle.ld_book.specs.declared.page.Line.{Line}
use Rattle.ld_edge.proofs.Known.{comes_none}
use Rattle.ld_edge.specs.Passing.{Comes, Goes}
use Rattle.ld_edge.specs.Sides.{Incoming, Outgoing}
use Rattle.ld_flight.specs.Loads.{Loading}
use Rattle.ld_head.specs.declared.session_end.SessionEnd.{SessionEnd}
use Rattle.ld_moves.specs.Stocks.{IsSound}
use Rattle.ld_turn.specs.Known.{Known}
use Rattle.ld_visit.specs.Visits.{pages_in}
use Rattle.ld_session.specs.Serving.{IsConnection, IsServed}
use Rattle.ld_session.proofs.Away.{goes_away, turned_away, went_away}
use Rattle.ld_session.proofs.Closing.{front_closed, served}
use Rattle.ld_session.proofs.serving.serve_session.Goals as goal
use Rattle.ld_session.proofs.serving.serve_session.Goals.{in-Ok, in-Err}

pub returns-clause-number : goal.returns-clause-number
returns-clause-number g c =
    elim c.match-open.branch [
      | in-Ok w ↦
          let t = w.converse-visit.ensures.talked.4 in
          let m = t.told.moved [] w.in-Ok.ensures.opened.sound in
          ap (λ b. b.0.number) w.book-is ∙ w.close.ensures.number_is ∙ m.number_is ∙ w.in-Ok.ensures.opened.number_is
      | in-Err w ↦ ap (λ b. b.0.number) w.book-is ∙ w.in-Err.ensures.refused.number_is
    ]

pub returns-clause-seen : goal.returns-clause-seen
returns-clause-seen g c =
    let start = c.args.seats.book in
    elim c.match-open.branch [
      | in-Ok w ↦
          let o = w.in-Ok.ensures.opened in
          let m = (w.converse-visit.ensures.talked.4.told.moved [] o.sound).moves in
          let seen = front_closed start w.in-Ok.visit w.converse-visit.result.0 w.close.result o w.close.ensures m.limits_are m.grows in
          subst (λ b. IsPrefix start.front b.0.front) (sym w.book-is) seen
      | in-Err w ↦
          let n = w.in-Err.ensures.refused in
          subst (λ b. IsPrefix start.front b.0.front) (sym w.book-is) (subst (λ (ls : List Line). IsPrefix start.front ls) (sym n.front_is) n.finds.grows)
    ]

-- what the function tells of the link and the loader after it, and of what it gives back
abbrev Tells : (incoming : Incoming) (outgoing : Outgoing) (start : Known Line) (before : Loading) → (incoming' : Incoming) (outgoing' : Outgoing) (after : Loading) (left : Known Line) (session : Option ℕ) (e : SessionEnd) → Type 0
Tells incoming outgoing start before incoming' outgoing' after left session e =
    (came went : List ℕ) × Comes incoming incoming' came × Goes outgoing outgoing' went
    × ((book : Booked) → IsSound book.limits book.pages → IsPrefix left.front (lines_of book) → IsConnection session book.limits (pages_in start.front) book.pages came went incoming' before after e)

pub returns-clause-served : goal.returns-clause-served
returns-clause-served g c =
    let source = g.N.Source in
    let sink = g.N.Sink in
    let start = c.args.seats.book in
    let link = c.args.link.now in
    let before = g.L.Loader.loading c.args.loader.now in
    elim c.match-open.branch [
      | in-Ok w ↦
          let h = w.converse-visit.ensures.talked in
          let later = w.converse-visit.result.0 in
          let o = w.in-Ok.ensures.opened in
          let m = h.4.told.moved [] o.sound in
          let after = g.L.Loader.loading w.converse-visit.new.loader in
          subst (λ l. Tells (source.incoming link) (sink.outgoing link) start before (source.incoming l) (sink.outgoing l) (g.L.Loader.loading c.match-open.loader) c.match-open.book.0 c.match-open.book.1 c.match-open.book.2) (sym w.link-is)
          (subst (λ l. Tells (source.incoming link) (sink.outgoing link) start before (source.incoming w.converse-visit.new.link) (sink.outgoing w.converse-visit.new.link) (g.L.Loader.loading l) c.match-open.book.0 c.match-open.book.1 c.match-open.book.2) (sym w.loader-is)
          (subst (λ b. Tells (source.incoming link) (sink.outgoing link) start before (source.incoming w.converse-visit.new.link) (sink.outgoing w.converse-visit.new.link) after b.0 b.1 b.2) (sym w.book-is) (
            h.0,
            h.1,
            h.2,
            h.3,
            λ book sound grows. subst (λ n. IsServed book.limits (pages_in start.front) book.pages n h.0 h.1 (source.incoming w.converse-visit.new.link) before after w.converse-visit.result.1) (sym w.session-number.ensures)
                (served start w.in-Ok.visit later w.close.result o w.close.ensures m.session_is m.moves.limits_are before after h.0 h.1 (source.incoming w.converse-visit.new.link) w.converse-visit.result.1 h.4 book sound grows),
          )))
      | in-Err w ↦
          let n = w.in-Err.ensures.refused in
          let a = w.turn_away.ensures.turned in
          let s' = sink.outgoing w.turn_away.new.link in
          subst (λ l. Tells (source.incoming link) (sink.outgoing link) start before (source.incoming l) (sink.outgoing l) (g.L.Loader.loading c.match-open.loader) c.match-open.book.0 c.match-open.book.1 c.match-open.book.2) (sym w.link-is)
          (subst (λ l. Tells (source.incoming link) (sink.outgoing link) start before (source.incoming w.turn_away.new.link) s' (g.L.Loader.loading l) c.match-open.book.0 c.match-open.book.1 c.match-open.book.2) (sym w.loader-is)
          (subst (λ b. Tells (source.incoming link) (sink.outgoing link) start before (source.incoming w.turn_away.new.link) s' before b.0 b.1 b.2) (sym w.book-is)
          (subst (λ (i : Incoming). Tells (source.incoming link) (sink.outgoing link) start before i s' before w.in-Err.book None w.turn_away.result) (sym w.turn_away.ensures.incoming) (
            [],
            went_away start w.in-Err.book w.in-Err.refusal n (sink.outgoing link) s' w.turn_away.result a,
            comes_none (source.incoming link) (source.incoming link) refl refl,
            goes_away start w.in-Err.book w.in-Err.refusal n (sink.outgoing link) s' w.turn_away.result a,
            λ book sound grows. turned_away start w.in-Err.book w.in-Err.refusal n (sink.outgoing link) s' (source.incoming link) before w.turn_away.result a book grows,
          ))))
    ]
