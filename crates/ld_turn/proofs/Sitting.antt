-- A seat stays one seat, of its number.
use Rattle.std.proofs.Common.{◌≡◌, ℕ, ◌<◌, ◌≤◌, List, length, ◌∙◌, ap, subst, sym, arith, Contains}
use Rattle.ld_turn.specs.declared.rule.View.{View}
use Rattle.ld_turn.specs.declared.rule.Stage.TheVariants.{Idle}
use Rattle.ld_turn.specs.History.{own_after}
use Rattle.ld_turn.specs.Views.{Sits}
use Rattle.ld_turn.proofs.Owning.{own_within}

module _ {E : Type 0} where
  -- what it knows grows
  pub sits_more : (number : ℕ) (d w : View E) → Sits number d → w.seats ≡ 1 → w.number ≡ d.number → d.made ≤ w.made → w.made ≤ 256 → w.own ≡ d.own → length d.front ≤ length w.front → Sits number w
  sits_more number d w sits one same more few own longer = record {
    one = one;
    same = sits.same ∙ sym same;
    low = omega (arith, sits.low);
    few = few;
    within = λ i h. omega (arith, longer, sits.within i (subst (λ (l : List ℕ). Contains l i) own h));
  }

  -- it knows the same, at another stage
  pub sits_still : (number : ℕ) (d w : View E) → Sits number d → w.seats ≡ d.seats → w.number ≡ d.number → w.made ≡ d.made → w.own ≡ d.own → w.front ≡ d.front → Sits number w
  sits_still number d w sits seats same made own front = record {
    one = seats ∙ sits.one;
    same = sits.same ∙ sym same;
    low = subst (λ (m : ℕ). number < m) (sym made) sits.low;
    few = subst (λ (m : ℕ). m ≤ 256) (sym made) sits.few;
    within = λ i h. subst (λ (l : List E). i < length l) (sym front) (sits.within i (subst (λ (l : List ℕ). Contains l i) own h));
  }

  -- after a turn
  pub sits_after : (number : ℕ) (d w : View E) (later : List E) → Sits number d → length d.front ≤ length later → w ≡ record d { stage = Idle; front = later; own = own_after d.own d.front later } → Sits number w
  sits_after number d w later sits longer is = subst (Sits number) (sym is) record {
    one = sits.one;
    same = sits.same;
    low = sits.low;
    few = sits.few;
    within = own_within d.own d.front later longer sits.within;
  }

  -- what a seat knows after the value is back, told and passed on
  pub turned : (d e f g : View E) (later : List E) → e ≡ d → f ≡ record e { front = later; own = own_after e.own e.front later } → g ≡ record f { stage = Idle } → g ≡ record d { stage = Idle; front = later; own = own_after d.own d.front later }
  turned d e f g later p q r =
      r ∙ (ap (λ (x : View E). let y : View E = record x { stage = Idle } in y) q ∙ ap (λ (x : View E). let y : View E = record x { stage = Idle; front = later; own = own_after x.own x.front later } in y) p)
