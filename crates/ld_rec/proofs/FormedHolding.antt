-- What holds of each value that an answer gives.
use Rattle.std.proofs.Common.{◌≡◌, refl, ℕ, List, [], ◌∷◌, Bool, true, false, Ok, Err}
use Rattle.std.specs.Prelude.{Result, if◌then◌else◌}
use Rattle.ld_rec.specs.declared.stop.Stop.{Stop}
use Rattle.ld_rec.specs.Outcome.{Answer, Stock, ◌>>=◌, give, each, with_value}

abbrev pub HoldsOf : {A : Type 0} → (A → Type 0) → Result A Stop → Type 0
HoldsOf Q (Ok a) = Q a
HoldsOf Q (Err e) = Unit {0}

-- over any stock, what is given is so
abbrev pub Holds : {A : Type 0} → (A → Type 0) → Answer A → Type 0
Holds Q o = (stock : Stock) → HoldsOf Q (o.run stock).result

-- of each item of a list
abbrev pub AllOf : {X : Type 0} → (X → Type 0) → List X → Type 0
AllOf P [] = Unit {0}
AllOf P (x ∷ xs) = P x × AllOf P xs

module _ {A B : Type 0} (Q : A → Type 0) (R : B → Type 0) where
  bound : (stock : Stock) (f : A → Answer B) (runs : ℕ) (reads : List (List ℕ)) (r : Result A Stop) → HoldsOf Q r → ((a : A) → Q a → Holds R (f a))
      → HoldsOf R (with_value runs reads r (λ a. (f a).run stock)).result
  bound stock f runs reads (Ok a) h g = g a h stock
  bound stock f runs reads (Err e) h g = tt

  pub holds_bind : (o : Answer A) (f : A → Answer B) → Holds Q o → ((a : A) → Q a → Holds R (f a)) → Holds R (o >>= f)
  holds_bind o f h g = λ stock. bound stock f (o.run stock).runs (o.run stock).reads (o.run stock).result (h stock) g

-- nothing is asked of what comes first
nothing_asked : {A : Type 0} (r : Result A Stop) → HoldsOf (λ (a : A). Unit {0}) r
nothing_asked (Ok a) = tt
nothing_asked (Err e) = tt

pub holds_after : {A B : Type 0} (R : B → Type 0) (o : Answer A) (f : A → Answer B) → ((a : A) → Holds R (f a)) → Holds R (o >>= f)
holds_after R o f g = holds_bind (λ _. Unit {0}) R o f (λ stock. nothing_asked (o.run stock).result) (λ a _. g a)

pub holds_give : {A : Type 0} (Q : A → Type 0) (a : A) → Q a → Holds Q (give a)
holds_give Q a h = λ stock. h

pub holds_if : {A : Type 0} (Q : A → Type 0) (b : Bool) (x y : Answer A) → (b ≡ true → Holds Q x) → (b ≡ false → Holds Q y) → Holds Q (if b then x else y)
holds_if Q true x y h k = h refl
holds_if Q false x y h k = k refl

pub holds_each : {X S : Type 0} (P : X → Type 0) (Q : S → Type 0) (step : X → S → Answer S) → ((x : X) → P x → (s : S) → Q s → Holds Q (step x s)) → (xs : List X) → AllOf P xs → (s : S) → Q s → Holds Q (each step xs s)
holds_each P Q step keeps [] all s h = λ stock. h
holds_each P Q step keeps (x ∷ xs) all s h = holds_bind Q Q (step x s) (each step xs) (keeps x all.0 s h) (λ t k. holds_each P Q step keeps xs all.1 t k)

pub anything : {X : Type 0} (xs : List X) → AllOf (λ (x : X). Unit {0}) xs
anything [] = tt
anything (x ∷ xs) = (tt, anything xs)
