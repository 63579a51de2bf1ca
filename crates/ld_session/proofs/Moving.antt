-- What a turn moves.
use Rattle.std.proofs.Common.{◌≡◌, ◌∙◌, ℕ, refl, sym, subst}
use Rattle.ld_fits.specs.Play.{Stage}
use Rattle.ld_flight.specs.Loads.{Loading}
use Rattle.ld_history.specs.declared.limits.Limits.{Limits}
use Rattle.ld_history.specs.declared.session.Last.{Last}
use Rattle.ld_history.specs.declared.session.Last.TheVariants as last
use Rattle.ld_history.specs.declared.session.Session.{Session}
use Rattle.ld_book.specs.Pages.{Booked, Pages}
use Rattle.ld_moves.specs.Moving.{Moves, MovesOn, place}
use Rattle.ld_moves.specs.Standing.{HasPinned, IsOpenAt, Stands}
use Rattle.ld_moves.specs.Stocks.{IsSound}
use Rattle.ld_moves.proofs.Joining.{waits_moves}
use Rattle.ld_moves.proofs.Keeping.{session_found}
use Rattle.ld_visit.specs.Visits.{Took, Visiting}
use Rattle.ld_session.specs.Serving.{Moved}

-- what has pinned a version stands so
pub pinned_stands : (pages : Pages) (session request version : ℕ) → HasPinned pages session request version → Stands pages session last.Pinned
pinned_stands pages session request version h = record { s = h.s; is = h.is; last_is = h.last_is }

-- ---- a turn
pub took_sound : (visit later : Visiting) (step : Booked → Pages → Type 0) → Took visit later step → IsSound later.limits later.pages
took_sound visit later step t = subst (λ (l : Limits). IsSound l later.pages) (sym t.limits_are) t.sound

module _ (visit later : Visiting) (step : Booked → Pages → Type 0) (t : Took visit later step) (pages : Pages) (is : later.pages ≡ pages) where
  pub took_moved : (before after : Loading) (from to : Stage) → Moves visit.session (place visit.limits visit.pages before.given before.faults from) (place visit.limits pages after.given after.faults to)
      → Moved visit later before after from to
  took_moved before after from to m = record {
    lock_is = t.lock_is;
    number_is = t.number_is;
    session_is = t.session_is;
    moves = subst (λ (l : Limits). Moves visit.session (place visit.limits visit.pages before.given before.faults from) (place l later.pages after.given after.faults to)) (sym t.limits_are)
        (subst (λ (p : Pages). Moves visit.session (place visit.limits visit.pages before.given before.faults from) (place visit.limits p after.given after.faults to)) (sym is) m);
  }

  pub took_on : (from to : Stage) → MovesOn visit.session visit.limits visit.pages pages from to → (loader : Loading) → Moved visit later loader loader from to
  took_on from to m loader = took_moved loader loader from to (m loader.given loader.faults)

  pub took_standing : ((s : Session) → IsOpenAt t.found.pages visit.session s → IsOpenAt pages visit.session s) → (l : Last) → Stands visit.pages visit.session l → Stands later.pages later.session l
  took_standing open_as l h =
      subst (λ (n : ℕ). Stands later.pages n l) (sym t.session_is)
      (subst (λ (p : Pages). Stands p visit.session l) (sym is) (record { s = h.s; is = open_as h.s (session_found visit.session visit.limits visit.pages t.found t.finds h.s h.is); last_is = h.last_is }))

  pub took_at : (P : Pages → ℕ → Type 0) → P pages visit.session → P later.pages later.session
  took_at P h = subst (P later.pages) (sym t.session_is) (subst (λ (p : Pages). P p visit.session) (sym is) h)

-- at which nothing came
module _ (visit later : Visiting) (step : Booked → Pages → Type 0) (t : Took visit later step) (is : later.pages ≡ t.found.pages) where
  pub took_none : (stage : Stage) (loader : Loading) → Moved visit later loader loader stage stage
  took_none stage loader = took_on visit later step t t.found.pages is stage stage (λ given faults. waits_moves visit.session visit.limits visit.pages t.found t.finds given faults stage) loader

  pub still_stands : (l : Last) → Stands visit.pages visit.session l → Stands later.pages later.session l
  still_stands l h = took_standing visit later step t t.found.pages is (λ s at. at) l h
