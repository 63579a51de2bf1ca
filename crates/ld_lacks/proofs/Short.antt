-- Answers that name no missing document but under a short IRI, over every stock.
use Rattle.std.proofs.Common.{ℕ, ◌≤◌, Bool, true, false, List, [], ◌∷◌, length, Option, Some, None, Ok, Err}
use Rattle.std.specs.Prelude.{Result, if◌then◌else◌}
use Rattle.ld_codes.specs.declared.code.Code.{Code}
use Rattle.ld_codes.specs.declared.own.Own.{Own}
use Rattle.ld_tree.specs.Maps.{find}
use Rattle.ld_rec.specs.declared.doc.Doc.{Doc}
use Rattle.ld_rec.specs.declared.stop.Stop.{Stop}
use Rattle.ld_rec.specs.declared.stop.Stop.TheVariants as stop
use Rattle.ld_rec.specs.Outcome.{Answer, Outcome, Stock, give, fails, declines, with_value, ◌>>=◌, each, found, asks, counted, scoped_result, as_scoped}

-- what is missing, where something is
abbrev pub NamesShort : {A : Type 0} → Result A Stop → Type 0
NamesShort (Err (stop.Missing iri)) = length iri ≤ 2048
NamesShort _ = Unit {0}

pub record AsksShort {A : Type 0} (o : Answer A) : Type 0 where
  pub over : (stock : Stock) → NamesShort (o.run stock).result

module _ {A : Type 0} where
  pub giving : {a : A} → AsksShort (give a)
  giving = record { over = λ _. tt }

  pub failing : {code : Code} → AsksShort {A = A} (fails code)
  failing = record { over = λ _. tt }

  pub declining : {own : Own} → AsksShort {A = A} (declines own)
  declining = record { over = λ _. tt }

  pub when : (test : Bool) {x y : Answer A} → AsksShort x → AsksShort y → AsksShort (if test then x else y)
  when true h k = h
  when false h k = k

  with_found : (stock : Stock) (iri : List ℕ) (doc : Option Doc) (f : Doc → Answer A) → length iri ≤ 2048 → ((d : Doc) → AsksShort (f d)) → NamesShort (found stock iri doc (λ d. (f d).run stock)).result
  with_found stock iri (Some doc) f few h = (h doc).over stock
  with_found stock iri None f few h = few

  pub asking : (iri : List ℕ) (f : Doc → Answer A) → length iri ≤ 2048 → ((doc : Doc) → AsksShort (f doc)) → AsksShort (asks iri f)
  asking iri f few h = record { over = λ stock. with_found stock iri (find stock iri) f few h }

  pub counting : {o : Answer A} → AsksShort o → AsksShort (counted o)
  counting h = record { over = h.over }

  scoped_names : (r : Result A Stop) → NamesShort r → NamesShort (scoped_result r)
  scoped_names (Ok a) h = tt
  scoped_names (Err (stop.Missing iri)) h = h
  scoped_names (Err (stop.Code code)) h = tt
  scoped_names (Err (stop.Own own)) h = tt
  scoped_names (Err stop.NoMemory) h = tt

  pub scoping : (o : Answer A) → AsksShort o → AsksShort (as_scoped o)
  scoping o h = record { over = λ stock. scoped_names (o.run stock).result (h.over stock) }

  with_result : {B : Type 0} (runs : ℕ) (reads : List (List ℕ)) (r : Result A Stop) (f : A → Outcome B) → NamesShort r → ((a : A) → NamesShort (f a).result) → NamesShort (with_value runs reads r f).result
  with_result runs reads (Ok a) f h k = k a
  with_result runs reads (Err (stop.Missing iri)) f h k = h
  with_result runs reads (Err (stop.Code code)) f h k = tt
  with_result runs reads (Err (stop.Own own)) f h k = tt
  with_result runs reads (Err stop.NoMemory) f h k = tt

  pub next : {B : Type 0} {o : Answer A} {f : A → Answer B} → AsksShort o → ((a : A) → AsksShort (f a)) → AsksShort (o >>= f)
  next {o = o} {f = f} h k = record { over = λ stock. with_result (o.run stock).runs (o.run stock).reads (o.run stock).result (λ a. (f a).run stock) (h.over stock) (λ a. (k a).over stock) }

-- of each item of a list
abbrev pub AllOf : {X : Type 0} → (X → Type 0) → List X → Type 0
AllOf P [] = Unit {0}
AllOf P (x ∷ xs) = P x × AllOf P xs

pub each_of : {X S : Type 0} (P : X → Type 0) (step : X → S → Answer S) → ((x : X) → P x → (s : S) → AsksShort (step x s)) → (xs : List X) → AllOf P xs → (s : S) → AsksShort (each step xs s)
each_of P step h [] all s = giving
each_of P step h (x ∷ xs) all s = next (h x all.0 s) (each_of P step h xs all.1)

pub each_short : {X S : Type 0} (step : X → S → Answer S) → ((x : X) (s : S) → AsksShort (step x s)) → (xs : List X) (s : S) → AsksShort (each step xs s)
each_short step h [] s = giving
each_short step h (x ∷ xs) s = next (h x s) (each_short step h xs)
