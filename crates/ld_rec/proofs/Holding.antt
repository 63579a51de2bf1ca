-- What holds of the value that an answer gives, over every stock.
use Rattle.std.proofs.Common.{◌≡◌, ℕ, refl, Bool, true, false, List, [], ◌∷◌, Option, Some, None, Ok, Err}
use Rattle.std.specs.Prelude.{Result, if◌then◌else◌}
use Rattle.ld_codes.specs.declared.code.Code.{Code}
use Rattle.ld_codes.specs.declared.own.Own.{Own}
use Rattle.ld_tree.specs.Maps.{find}
use Rattle.ld_rec.specs.declared.doc.Doc.{Doc}
use Rattle.ld_rec.specs.declared.stop.Stop.{Stop}
use Rattle.ld_rec.specs.Outcome.{Answer, Outcome, Stock, give, fails, declines, with_value, ◌>>=◌, each, found, asks, counted}

-- the value, where there is one
abbrev pub OkHas : {A : Type 0} → (A → Type 0) → Result A Stop → Type 0
OkHas P (Ok a) = P a
OkHas P (Err e) = Unit {0}

pub record Holds {A : Type 0} (P : A → Type 0) (o : Answer A) : Type 0 where
  pub over : (stock : Stock) → OkHas P (o.run stock).result

-- nothing is said of the value
abbrev pub Anything : {A : Type 0} → A → Type 0
Anything a = Unit {0}

ok_has_anything : {A : Type 0} (r : Result A Stop) → OkHas Anything r
ok_has_anything (Ok a) = tt
ok_has_anything (Err e) = tt

pub anything : {A : Type 0} (o : Answer A) → Holds Anything o
anything o = record { over = λ stock. ok_has_anything (o.run stock).result }

module _ {A : Type 0} {P : A → Type 0} where
  pub gives : (a : A) → P a → Holds P (give a)
  gives a h = record { over = λ _. h }

  pub failing : (code : Code) → Holds P (fails code)
  failing code = record { over = λ _. tt }

  pub declining : (own : Own) → Holds P (declines own)
  declining own = record { over = λ _. tt }

  -- both ways
  pub when : (test : Bool) (x y : Answer A) → Holds P x → Holds P y → Holds P (if test then x else y)
  when true x y h k = h
  when false x y h k = k

  -- where the first way rests on the test
  pub when_so : (test : Bool) (x y : Answer A) → (test ≡ true → Holds P x) → Holds P y → Holds P (if test then x else y)
  when_so true x y h k = h refl
  when_so false x y h k = k

  with_found : (stock : Stock) (iri : List ℕ) (doc : Option Doc) (f : Doc → Answer A) → ((d : Doc) → Holds P (f d)) → OkHas P (found stock iri doc (λ d. (f d).run stock)).result
  with_found stock iri (Some doc) f h = (h doc).over stock
  with_found stock iri None f h = tt

  pub asking : (iri : List ℕ) (f : Doc → Answer A) → ((doc : Doc) → Holds P (f doc)) → Holds P (asks iri f)
  asking iri f h = record { over = λ stock. with_found stock iri (find stock iri) f h }

  pub counting : (o : Answer A) → Holds P o → Holds P (counted o)
  counting o h = record { over = h.over }

  with_result : {B : Type 0} (Q : B → Type 0) (runs : ℕ) (reads : List (List ℕ)) (r : Result A Stop) (f : A → Outcome B) → OkHas P r → ((a : A) → P a → OkHas Q (f a).result)
      → OkHas Q (with_value runs reads r f).result
  with_result Q runs reads (Ok a) f h k = k a h
  with_result Q runs reads (Err e) f h k = tt

  pub next : {B : Type 0} {Q : B → Type 0} (o : Answer A) (f : A → Answer B) → Holds P o → ((a : A) → P a → Holds Q (f a)) → Holds Q (o >>= f)
  next {Q = Q} o f h k = record { over = λ stock. with_result Q (o.run stock).runs (o.run stock).reads (o.run stock).result (λ a. (f a).run stock) (h.over stock) (λ a p. (k a p).over stock) }

  pub each_keeps : {X : Type 0} (step : X → A → Answer A) → ((x : X) (a : A) → P a → Holds P (step x a)) → (xs : List X) (a : A) → P a → Holds P (each step xs a)
  each_keeps step h [] a p = gives a p
  each_keeps step h (x ∷ xs) a p = next (step x a) (each step xs) (h x a p) (each_keeps step h xs)
