-- What follows from the stage that a seat is at.
use Rattle.std.proofs.Common.{◌≡◌, ◌≢◌, ◌==◌, ℕ, cond, ◌+◌, ◌≤◌, Bool, true, false, refl, ap, ◌∙◌, arith, eq-eqb, ne_eqb, List, [], ◌∷◌, ◌++◌}
use mathlib.Core.List.{IsPrefix}
use mathlib.Core.Logic.{dite}
use native.Mathlib.Decide.{ℕ_discrete}
use Rattle.ld_turn.specs.declared.rule.View.{View}
use Rattle.ld_turn.specs.declared.rule.Stage.{Stage}
use Rattle.ld_turn.specs.declared.rule.Stage.TheVariants.{Idle, Asking, Giving, Waiting, Holding}
use Rattle.ld_turn.specs.Views.{giving_at, asking_at, unless_asking, seats, asking, settled_at, AllBegin}
use Rattle.ld_turn.proofs.Small.{prefix_trans}

-- it neither asks for a number nor gives one
abbrev pub IsPlain : Stage → Type 0
IsPlain Idle = Unit {0}
IsPlain Asking = ⊥
IsPlain (Giving k) = ⊥
IsPlain (Waiting t) = Unit {0}
IsPlain (Holding t) = Unit {0}

pub waiting_is : (t u : ℕ) → Waiting t ≡ Waiting u → t ≡ u
waiting_is t u e = cc e

pub giving_not : (st : Stage) → giving_at st ≡ 0 → (k : ℕ) → st ≡ Giving k → ⊥
giving_not st none k e = absurd (omega (arith, ap giving_at e))

plain_giving : (st : Stage) → IsPlain st → giving_at st ≡ 0
plain_giving Idle p = refl
plain_giving Asking p = absurd p
plain_giving (Giving k) p = absurd p
plain_giving (Waiting t) p = refl
plain_giving (Holding t) p = refl

plain_asking : (st : Stage) → IsPlain st → asking_at st ≡ 0
plain_asking Idle p = refl
plain_asking Asking p = absurd p
plain_asking (Giving k) p = absurd p
plain_asking (Waiting t) p = refl
plain_asking (Holding t) p = refl

plain_settled : (st : Stage) (n : ℕ) → IsPlain st → unless_asking st (n + giving_at st) ≡ n
plain_settled Idle n p = omega arith
plain_settled Asking n p = absurd p
plain_settled (Giving k) n p = absurd p
plain_settled (Waiting t) n p = omega arith
plain_settled (Holding t) n p = omega arith

unless_le : (st : Stage) (n : ℕ) → unless_asking st n ≤ n
unless_le Idle n = omega arith
unless_le Asking n = omega arith
unless_le (Giving k) n = omega arith
unless_le (Waiting t) n = omega arith
unless_le (Holding t) n = omega arith

cond_none : (b : Bool) → (let n : ℕ = cond b 0 0 in n) ≡ 0
cond_none true = refl
cond_none false = refl

module _ {E : Type 0} where
  pub seats_plain : (d : View E) → IsPlain d.stage → seats d ≡ d.seats
  seats_plain d p = omega (arith, plain_giving d.stage p)

  pub asking_plain : (d : View E) → IsPlain d.stage → asking d ≡ 0
  asking_plain d p = plain_asking d.stage p

  pub no_giving : (d : View E) → IsPlain d.stage → (k : ℕ) → d.stage ≡ Giving k → ⊥
  no_giving d p = giving_not d.stage (plain_giving d.stage p)

  pub settled_plain : (k : ℕ) (d : View E) → IsPlain d.stage → settled_at k d ≡ cond (d.made == k) d.seats 0
  settled_plain k d p = ap (λ (n : ℕ). cond (d.made == k) n 0) (plain_settled d.stage d.seats p)

  pub settled_not : (k : ℕ) (d : View E) → d.made ≢ k → settled_at k d ≡ 0
  settled_not k d ne = ap (λ (b : Bool). cond b (unless_asking d.stage (seats d)) 0) (ne_eqb d.made k ne)

  pub settled_is : (k : ℕ) (d : View E) → d.made ≡ k → settled_at k d ≡ unless_asking d.stage (seats d)
  settled_is k d e = ap (λ (b : Bool). cond b (unless_asking d.stage (seats d)) 0) (eq-eqb d.made k e)

  pub settled_le : (k : ℕ) (d : View E) → settled_at k d ≤ seats d
  settled_le k d = dite (ℕ_discrete d.made k) (λ e. omega (arith, settled_is k d e, unless_le d.stage (seats d))) (λ ne. omega (arith, settled_not k d ne))

  pub settled_asking : (k : ℕ) (d : View E) → d.stage ≡ Asking → settled_at k d ≡ 0
  settled_asking k d e = ap (λ (st : Stage). cond (d.made == k) (unless_asking st (d.seats + giving_at st)) 0) e ∙ cond_none (d.made == k)

  -- what a list that grows has seen
  pub begin_more : (xs ys : List E) (l : List (List E)) → IsPrefix xs ys → AllBegin xs l → AllBegin ys l
  begin_more xs ys [] p a = tt
  begin_more xs ys (x ∷ l) p a = (prefix_trans x xs ys a.0 p, begin_more xs ys l p a.1)

  pub begin_both : (xs : List E) (l k : List (List E)) → AllBegin xs l → AllBegin xs k → AllBegin xs (l ++ k)
  begin_both xs [] k a b = b
  begin_both xs (x ∷ l) k a b = (a.0, begin_both xs l k a.1 b)

  pub begin_rest : (xs : List E) (l k : List (List E)) → AllBegin xs (l ++ k) → AllBegin xs k
  begin_rest xs [] k a = a
  begin_rest xs (x ∷ l) k a = begin_rest xs l k a.1
