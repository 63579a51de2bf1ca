-- What a pin leaves, whether it was refused or not.
use Rattle.std.proofs.Common.{◌≡◌, ◌∙◌, ℕ, Option, Result, Ok, Err, ap, subst}
use Rattle.std.specs.Arc.{arc_value}
use Rattle.std.specs.Prelude.{IfErr, IfOk, OnErr, OnOk}
use Rattle.ld_store.specs.Snapshots.{stock_at}
use Rattle.ld_turn.specs.Known.{Turning}
use Rattle.ld_history.specs.Legal.{state}
use Rattle.ld_history.specs.Steps.{Answers, Taken, pin_step}
use Rattle.ld_history.specs.declared.answers.PinAnswer.TheVariants as pin_answer
use Rattle.ld_book.specs.Pages.{Booked, after_step, entries_of, history_of, stock_of}
use Rattle.ld_book.specs.Said.{IsRefusal}
use Rattle.ld_book.specs.declared.answers.Pin.{Pin}
use Rattle.ld_book.specs.declared.answers.RoomRefusal.{RoomRefusal}
use Rattle.ld_book.specs.declared.page.Line.{Line}
use Rattle.ld_visit.specs.Taking.{Pins}
use Rattle.ld_visit.specs.Turns.{Adding, Enters}
use Rattle.ld_visit.specs.Visits.{Visiting}
use Rattle.ld_visit.proofs.Leaving.{adding_none, adding_step, turned}
use Rattle.ld_visit.proofs.Owning.{Own}

pub adding_or : {A R E : Type 0} (visit : Visiting) (turn : Turning Booked Line) (e : Enters visit turn) (session : ℕ) (same : session ≡ visit.session) (step : Booked → Option (Taken A)) (now : Booked) → now ≡ turn.value
    → (new : Booked) (r : Result R E) → OnOk r (new ≡ after_step now (step now)) → OnErr r (new ≡ now) → Own session (state (entries_of turn.value.pages)) (step turn.value) → Adding session (turned turn new)
adding_or visit turn e session same step now at new (Ok x) ok err own = adding_step visit turn e session same (step turn.value) new (ok ∙ ap (λ (b : Booked). after_step b (step b)) at) own
adding_or visit turn e session same step now at new (Err x) ok err own = adding_none visit turn e session same new (err ∙ at)

pub pin_took : (now b : Booked) → now ≡ b → (n s : ℕ) → n ≡ s → (new : Booked) (r : Result Pin RoomRefusal)
    → IfOk r (λ p. Answers (pin_step (history_of now) n) (pin_answer.Pinned p.request p.attempt (arc_value p.snapshot).version))
    → IfErr r (IsRefusal pin_answer.HistoryFull (pin_step (history_of now) n))
    → OnOk r (new ≡ after_step now (pin_step (history_of now) n)) → OnErr r (new ≡ now)
    → IfOk r (λ p. (stock_at (arc_value p.snapshot)).0 ≡ stock_of new.pages (arc_value p.snapshot).version)
    → (new.limits ≡ b.limits) × Pins s r b new.pages
pin_took now b at n s same new (Ok p) pinned refused ok err stock =
    let is : new ≡ after_step b (pin_step (history_of b) s) =
    ok ∙ ap (λ (x : Booked). after_step x (pin_step (history_of x) n)) at ∙ ap (λ (m : ℕ). after_step b (pin_step (history_of b) m)) same in (
      ap (λ (x : Booked). x.limits) is,
      (
        subst (λ (m : ℕ). Answers (pin_step (history_of b) m) (pin_answer.Pinned p.request p.attempt (arc_value p.snapshot).version)) same
            (subst (λ (x : Booked). Answers (pin_step (history_of x) n) (pin_answer.Pinned p.request p.attempt (arc_value p.snapshot).version)) at pinned),
        ap (λ (x : Booked). x.pages) is,
        stock,
      ),
    )
pin_took now b at n s same new (Err x) pinned refused ok err stock = (
  ap (λ (y : Booked). y.limits) (err ∙ at),
  (
    subst (λ (m : ℕ). IsRefusal pin_answer.HistoryFull (pin_step (history_of b) m) x) same (subst (λ (y : Booked). IsRefusal pin_answer.HistoryFull (pin_step (history_of y) n) x) at refused),
    ap (λ (y : Booked). y.pages) (err ∙ at),
  ),
)
