-- What comes of one question after another.
use Rattle.std.proofs.Common.{◌≡◌, ℕ, ◌+◌, refl, sym, ap, ap₂, ◌∙◌, List, [], ◌∷◌, ◌++◌, Result, Ok, Err, zero-add, add_assoc, append_assoc, subst}
use Rattle.std.specs.Result.{IsErrAnd}
use Rattle.ld_rec.specs.declared.stop.Stop.{Stop}
use Rattle.ld_rec.specs.declared.stop.Stop.TheVariants as stop
use Rattle.ld_rec.specs.Outcome.{Outcome, Stock, after, with_value, continued}
use Rattle.ld_term.specs.Comes.{Runs, Alike, Stops, ComesOf, refused}

abbrev pub value : {A : Type 0} → A → Outcome A
value a = record { runs = 0; reads = []; result = Ok a }

abbrev pub then : {A B : Type 0} → Runs A → (A → Runs B) → Runs B
then o f = λ stock. continued (o stock) (λ a. f a stock)

pub after_none : {A : Type 0} (o : Outcome A) → after 0 [] o ≡ o
after_none o = ap (λ n. record { runs = n; reads = o.reads; result = o.result }) (zero-add o.runs)

pub after_both : {A : Type 0} (r s : ℕ) (xs ys : List (List ℕ)) (o : Outcome A) → after r xs (after s ys o) ≡ after (r + s) (xs ++ ys) o
after_both r s xs ys o = ap₂ (λ n l. record { runs = n; reads = l; result = o.result }) (sym (add_assoc r s o.runs)) (sym (append_assoc xs ys o.reads))

pub inner : {B C : Type 0} (r s : ℕ) (xs ys : List (List ℕ)) (b : Result B Stop) (g : B → Outcome C) → with_value (r + s) (xs ++ ys) b g ≡ after r xs (with_value s ys b g)
inner r s xs ys (Ok b) g = sym (after_both r s xs ys (g b))
inner r s xs ys (Err e) g = refl

module _ {A B C : Type 0} where
  outer : (r : ℕ) (xs : List (List ℕ)) (a : Result A Stop) (f : A → Outcome B) (g : B → Outcome C) → continued (with_value r xs a f) g ≡ with_value r xs a (λ x. continued (f x) g)
  outer r xs (Ok a) f g = inner r (f a).runs xs (f a).reads (f a).result g
  outer r xs (Err e) f g = refl

  -- in which order the parts are put together doesn't matter
  pub assoc : (o : Runs A) (f : A → Runs B) (g : B → Runs C) → Alike (then (then o f) g) (then o (λ a. then (f a) g))
  assoc o f g = λ stock. outer (o stock).runs (o stock).reads (o stock).result (λ a. f a stock) (λ b. g b stock)

pub alike_trans : {A : Type 0} {o p q : Runs A} → Alike o p → Alike p q → Alike o q
alike_trans h k = λ stock. h stock ∙ k stock

module _ {A B : Type 0} where
  -- a first part with the same outcome
  pub alike_first : (o p : Runs A) (f : A → Runs B) → Alike o p → Alike (then o f) (then p f)
  alike_first o p f h = λ stock. ap (λ q. continued q (λ a. f a stock)) (h stock)

  same_then : (stock : Stock) (r : ℕ) (xs : List (List ℕ)) (a : Result A Stop) (f g : A → Runs B) → ((x : A) → Alike (f x) (g x)) → with_value r xs a (λ x. f x stock) ≡ with_value r xs a (λ x. g x stock)
  same_then stock r xs (Ok a) f g h = ap (after r xs) (h a stock)
  same_then stock r xs (Err e) f g h = refl

  -- a second part with the same outcome
  pub alike_then : (o : Runs A) (f g : A → Runs B) → ((x : A) → Alike (f x) (g x)) → Alike (then o f) (then o g)
  alike_then o f g h = λ stock. same_then stock (o stock).runs (o stock).reads (o stock).result f g h

  -- a first part that gives
  pub given : (o : Runs A) (a : A) (f : A → Runs B) → ((stock : Stock) → o stock ≡ value a) → Alike (then o f) (f a)
  given o a f h = λ stock. ap (λ q. continued q (λ x. f x stock)) (h stock) ∙ after_none (f a stock)

  -- a first part that stops
  pub stops_first : (e : Stop) (o : Runs A) (f : A → Runs B) → Stops e o → Stops e (then o f)
  stops_first stop.NoMemory o f h = tt
  stops_first (stop.Code code) o f h = λ stock. ap (λ q. continued q (λ x. f x stock)) (h stock)
  stops_first (stop.Own own) o f h = λ stock. ap (λ q. continued q (λ x. f x stock)) (h stock)
  stops_first (stop.Missing iri) o f h = λ stock. ap (λ q. continued q (λ x. f x stock)) (h stock)

pub stops_along : {A : Type 0} (e : Stop) (o p : Runs A) → Alike o p → Stops e p → Stops e o
stops_along stop.NoMemory o p h k = tt
stops_along (stop.Code code) o p h k = λ stock. h stock ∙ k stock
stops_along (stop.Own own) o p h k = λ stock. h stock ∙ k stock
stops_along (stop.Missing iri) o p h k = λ stock. h stock ∙ k stock

-- what comes of an answer comes of one with the same outcome
pub comes_along : {A B : Type 0} (f : A → Runs B) (r : Result A Stop) (o p : Runs B) → Alike o p → ComesOf f r p → ComesOf f r o
comes_along f (Ok a) o p h k = λ stock. h stock ∙ k stock
comes_along f (Err e) o p h k = stops_along e o p h k

-- after a first part that gives
pub comes_then : {A B C : Type 0} (f : A → Runs C) (r : Result A Stop) (o : Runs B) (b : B) (k : B → Runs C) → ((stock : Stock) → o stock ≡ value b) → ComesOf f r (k b) → ComesOf f r (then o k)
comes_then f r o b k h l = comes_along f r (then o k) (k b) (given o b k h) l

-- an error that `?` passes
pub comes_err : {A B : Type 0} (f : A → Runs B) (r : Result A Stop) (e : Stop) (o : Runs B) → IsErrAnd r (λ e'. e' ≡ e) → Stops e o → ComesOf f r o
comes_err f (Ok a) e o h k = absurd h
comes_err f (Err e') e o h k = subst (λ x. Stops x o) (sym h) k
