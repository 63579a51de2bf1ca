-- What an algorithm answers over a stock of documents.
use Rattle.std.specs.Prelude.{◌≡◌, ℕ, ◌+◌, List, [], ◌∷◌, ◌++◌, Option, Some, None, Result, Ok, Err, refl}
use Rattle.std.proofs.Common.{ap, ◌∙◌}
use Rattle.ld_codes.specs.declared.code.Code.{Code}
use Rattle.ld_codes.specs.declared.own.Own.{Own}
use Rattle.ld_codes.specs.declared.code.Code.TheVariants.{InvalidScopedContext}
use Rattle.ld_tree.specs.Names.{Sorted}
use Rattle.ld_tree.specs.Maps.{find}
use Rattle.ld_rec.specs.declared.doc.Doc.{Doc}
use Rattle.ld_rec.specs.declared.stop.Stop.{Stop}
use Rattle.ld_rec.specs.declared.stop.Stop.TheVariants as stop

-- the documents that are there, by the IRI that asks for them
abbrev pub Stock : Type 0
Stock = Sorted Doc

-- what comes of a question: how many invocations of context processing it took, which documents it asked
-- for, in order, and a value, or why there is none
pub record Outcome (A : Type 0) : Type 0 where
  pub runs : ℕ
  pub reads : List (List ℕ)
  pub result : Result A Stop

-- both stocks have the same under each of these IRIs
abbrev pub AreAlike : Stock → Stock → List (List ℕ) → Type 0
AreAlike stock other [] = Unit {0}
AreAlike stock other (iri ∷ iris) = (find other iri ≡ find stock iri) × AreAlike stock other iris

-- the stock has each of these documents
abbrev pub AreThere : Stock → List (List ℕ) → Type 0
AreThere stock [] = Unit {0}
AreThere stock (iri ∷ iris) = ((doc : Doc) × (find stock iri ≡ Some doc)) × AreThere stock iris

-- all but the last one are there, and the last is the one that is missing
abbrev pub IsMissingLast : Stock → List (List ℕ) → List ℕ → Type 0
IsMissingLast stock reads iri = (known : List (List ℕ)) × (reads ≡ known ++ iri ∷ []) × AreThere stock known × (find stock iri ≡ None)

-- each document that was asked for is there; or all are but the last one, which is missing
abbrev pub IsAskedRight : Stock → List (List ℕ) → {A : Type 0} → Result A Stop → Type 0
IsAskedRight stock reads (Err (stop.Missing iri)) = IsMissingLast stock reads iri
IsAskedRight stock reads _ = AreThere stock reads

abbrev pub IsNotMissing : {A : Type 0} → Result A Stop → Type 0
IsNotMissing (Err (stop.Missing iri)) = ⊥
IsNotMissing _ = Unit {0}

-- the second stock has all that the first has, and maybe more
abbrev pub IsWithin : Stock → Stock → Type 0
IsWithin stock more = (iri : List ℕ) (doc : Doc) → find stock iri ≡ Some doc → find more iri ≡ Some doc

-- a question to the stock, with two laws: what comes of it rests on the documents asked for alone, and it
-- ends at the first that isn't there
pub record Answer (A : Type 0) : Type 0 where
  pub run : Stock → Outcome A
  pub rests : (stock other : Stock) → AreAlike stock other (run stock).reads → run other ≡ run stock
  pub asked : (stock : Stock) → IsAskedRight stock (run stock).reads (run stock).result

-- ---- answers without a question

abbrev pub give : {A : Type 0} → A → Answer A
give a = record { run = λ _. record { runs = 0; reads = []; result = Ok a }; rests = λ _ _ _. refl; asked = λ _. tt }

-- fails with a code of the Recommendation
abbrev pub fails : {A : Type 0} → Code → Answer A
fails code = record { run = λ _. record { runs = 0; reads = []; result = Err (stop.Code code) }; rests = λ _ _ _. refl; asked = λ _. tt }

-- own refusals
abbrev pub declines : {A : Type 0} → Own → Answer A
declines own = record { run = λ _. record { runs = 0; reads = []; result = Err (stop.Own own) }; rests = λ _ _ _. refl; asked = λ _. tt }

-- ---- one question after another

abbrev pub after : {A : Type 0} → ℕ → List (List ℕ) → Outcome A → Outcome A
after runs reads o = record { runs = runs + o.runs; reads = reads ++ o.reads; result = o.result }

abbrev pub with_value : {A B : Type 0} → ℕ → List (List ℕ) → Result A Stop → (A → Outcome B) → Outcome B
with_value runs reads (Ok a) f = after runs reads (f a)
with_value runs reads (Err e) f = record { runs = runs; reads = reads; result = Err e }

abbrev pub continued : {A B : Type 0} → Outcome A → (A → Outcome B) → Outcome B
continued o f = with_value o.runs o.reads o.result f

module _ (stock other : Stock) where
  alike_left : (xs ys : List (List ℕ)) → AreAlike stock other (xs ++ ys) → AreAlike stock other xs
  alike_left [] ys h = tt
  alike_left (x ∷ xs) ys h = (h.0, alike_left xs ys h.1)

  alike_right : (xs ys : List (List ℕ)) → AreAlike stock other (xs ++ ys) → AreAlike stock other ys
  alike_right [] ys h = h
  alike_right (x ∷ xs) ys h = alike_right xs ys h.1

  rests_then : {A B : Type 0} (runs : ℕ) (reads : List (List ℕ)) (result : Result A Stop) (after_stock after_other : A → Outcome B)
      → ((a : A) → AreAlike stock other (after_stock a).reads → after_other a ≡ after_stock a)
      → AreAlike stock other (with_value runs reads result after_stock).reads → with_value runs reads result after_other ≡ with_value runs reads result after_stock
  rests_then runs reads (Ok a) f g same h = ap (after runs reads) (same a (alike_right reads (f a).reads h))
  rests_then runs reads (Err e) f g same h = refl

  first_alike : {A B : Type 0} (runs : ℕ) (reads : List (List ℕ)) (result : Result A Stop) (f : A → Outcome B) → AreAlike stock other (with_value runs reads result f).reads → AreAlike stock other reads
  first_alike runs reads (Ok a) f h = alike_left reads (f a).reads h
  first_alike runs reads (Err e) f h = h

pub rests_on : {A B : Type 0} (o : Answer A) (f : A → Answer B) (stock other : Stock) → AreAlike stock other (continued (o.run stock) (λ a. (f a).run stock)).reads
    → continued (o.run other) (λ a. (f a).run other) ≡ continued (o.run stock) (λ a. (f a).run stock)
rests_on o f stock other h =
    ap (λ first. continued first (λ a. (f a).run other)) (o.rests stock other (first_alike stock other (o.run stock).runs (o.run stock).reads (o.run stock).result (λ a. (f a).run stock) h))
    ∙ rests_then stock other (o.run stock).runs (o.run stock).reads (o.run stock).result (λ a. (f a).run stock) (λ a. (f a).run other) (λ a. (f a).rests stock other) h

module _ (stock : Stock) where
  there_both : (xs ys : List (List ℕ)) → AreThere stock xs → AreThere stock ys → AreThere stock (xs ++ ys)
  there_both [] ys h k = k
  there_both (x ∷ xs) ys h k = (h.0, there_both xs ys h.1 k)

  append_assoc : (xs ys zs : List (List ℕ)) → xs ++ (ys ++ zs) ≡ (xs ++ ys) ++ zs
  append_assoc [] ys zs = refl
  append_assoc (x ∷ xs) ys zs = ap (λ l. x ∷ l) (append_assoc xs ys zs)

  asked_more : {B : Type 0} (reads more : List (List ℕ)) (result : Result B Stop) → AreThere stock reads → IsAskedRight stock more result → IsAskedRight stock (reads ++ more) result
  asked_more reads more (Ok b) h k = there_both reads more h k
  asked_more reads more (Err (stop.Missing iri)) h k =
      (reads ++ k.0, ap (λ l. reads ++ l) k.1 ∙ append_assoc reads k.0 (iri ∷ []), there_both reads k.0 h k.2, k.3)
  asked_more reads more (Err (stop.Code code)) h k = there_both reads more h k
  asked_more reads more (Err (stop.Own own)) h k = there_both reads more h k
  asked_more reads more (Err stop.NoMemory) h k = there_both reads more h k

  asked_then : {A B : Type 0} (runs : ℕ) (reads : List (List ℕ)) (result : Result A Stop) (f : A → Answer B) → IsAskedRight stock reads result
      → IsAskedRight stock (with_value runs reads result (λ a. (f a).run stock)).reads (with_value runs reads result (λ a. (f a).run stock)).result
  asked_then runs reads (Ok a) f h = asked_more reads ((f a).run stock).reads ((f a).run stock).result h ((f a).asked stock)
  asked_then runs reads (Err (stop.Missing iri)) f h = h
  asked_then runs reads (Err (stop.Code code)) f h = h
  asked_then runs reads (Err (stop.Own own)) f h = h
  asked_then runs reads (Err stop.NoMemory) f h = h

pub asked_on : {A B : Type 0} (o : Answer A) (f : A → Answer B) (stock : Stock)
    → IsAskedRight stock (continued (o.run stock) (λ a. (f a).run stock)).reads (continued (o.run stock) (λ a. (f a).run stock)).result
asked_on o f stock = asked_then stock (o.run stock).runs (o.run stock).reads (o.run stock).result f (o.asked stock)

-- the second asks with the first's value
infixl 10 ◌>>=◌
abbrev pub ◌>>=◌ : {A B : Type 0} → Answer A → (A → Answer B) → Answer B
o >>= f = record { run = λ stock. continued (o.run stock) (λ a. (f a).run stock); rests = rests_on o f; asked = asked_on o f }

-- one after the other, each with what came before
abbrev pub each : {X S : Type 0} → (X → S → Answer S) → List X → S → Answer S
each step [] s = give s
each step (x ∷ xs) s = step x s >>= each step xs

-- ---- questions

abbrev pub found : {A : Type 0} → Stock → List ℕ → Option Doc → (Doc → Outcome A) → Outcome A
found stock iri (Some doc) f = after 0 (iri ∷ []) (f doc)
found stock iri None f = record { runs = 0; reads = iri ∷ []; result = Err (stop.Missing iri) }

rests_found : {A : Type 0} (stock other : Stock) (iri : List ℕ) (doc : Option Doc) (f : Doc → Answer A)
    → AreAlike stock other (found stock iri doc (λ d. (f d).run stock)).reads → found other iri doc (λ d. (f d).run other) ≡ found stock iri doc (λ d. (f d).run stock)
rests_found stock other iri (Some doc) f h = ap (after 0 (iri ∷ [])) ((f doc).rests stock other h.1)
rests_found stock other iri None f h = refl

head_alike : {A : Type 0} (stock other : Stock) (iri : List ℕ) (doc : Option Doc) (f : Doc → Outcome A) → AreAlike stock other (found stock iri doc f).reads → find other iri ≡ find stock iri
head_alike stock other iri (Some doc) f h = h.0
head_alike stock other iri None f h = h.0

pub rests_asking : {A : Type 0} (iri : List ℕ) (f : Doc → Answer A) (stock other : Stock) → AreAlike stock other (found stock iri (find stock iri) (λ d. (f d).run stock)).reads
    → found other iri (find other iri) (λ d. (f d).run other) ≡ found stock iri (find stock iri) (λ d. (f d).run stock)
rests_asking iri f stock other h =
    ap (λ doc. found other iri doc (λ d. (f d).run other)) (head_alike stock other iri (find stock iri) (λ d. (f d).run stock) h)
    ∙ rests_found stock other iri (find stock iri) f h

asked_found : {A : Type 0} (stock : Stock) (iri : List ℕ) (doc : Option Doc) (f : Doc → Answer A) → find stock iri ≡ doc
    → IsAskedRight stock (found stock iri doc (λ d. (f d).run stock)).reads (found stock iri doc (λ d. (f d).run stock)).result
asked_found stock iri (Some doc) f is = asked_more stock (iri ∷ []) ((f doc).run stock).reads ((f doc).run stock).result ((doc, is), tt) ((f doc).asked stock)
asked_found stock iri None f is = ([], refl, tt, is)

pub asked_asking : {A : Type 0} (iri : List ℕ) (f : Doc → Answer A) (stock : Stock)
    → IsAskedRight stock (found stock iri (find stock iri) (λ d. (f d).run stock)).reads (found stock iri (find stock iri) (λ d. (f d).run stock)).result
asked_asking iri f stock = asked_found stock iri (find stock iri) f refl

-- the document of the IRI is asked for; one that isn't there is missing
abbrev pub asks : {A : Type 0} → List ℕ → (Doc → Answer A) → Answer A
asks iri f = record { run = λ stock. found stock iri (find stock iri) (λ doc. (f doc).run stock); rests = rests_asking iri f; asked = asked_asking iri f }

-- ---- invocations

-- one invocation of context processing more
abbrev pub one_more : {A : Type 0} → Outcome A → Outcome A
one_more o = record o { runs = o.runs + 1 }

pub rests_counted : {A : Type 0} (o : Answer A) (stock other : Stock) → AreAlike stock other (one_more (o.run stock)).reads → one_more (o.run other) ≡ one_more (o.run stock)
rests_counted o stock other h = ap one_more (o.rests stock other h)

pub asked_counted : {A : Type 0} (o : Answer A) (stock : Stock) → IsAskedRight stock (one_more (o.run stock)).reads (one_more (o.run stock)).result
asked_counted o stock = o.asked stock

abbrev pub counted : {A : Type 0} → Answer A → Answer A
counted o = record { run = λ stock. one_more (o.run stock); rests = rests_counted o; asked = asked_counted o }

-- ---- the code of a scoped context

-- a code becomes `invalid scoped context`
abbrev pub scoped_result : {A : Type 0} → Result A Stop → Result A Stop
scoped_result (Err (stop.Code code)) = Err (stop.Code InvalidScopedContext)
scoped_result r = r

abbrev pub scoped_outcome : {A : Type 0} → Outcome A → Outcome A
scoped_outcome o = record o { result = scoped_result o.result }

pub rests_scoped : {A : Type 0} (o : Answer A) (stock other : Stock) → AreAlike stock other (scoped_outcome (o.run stock)).reads → scoped_outcome (o.run other) ≡ scoped_outcome (o.run stock)
rests_scoped o stock other h = ap scoped_outcome (o.rests stock other h)

asked_scoped_result : {A : Type 0} (stock : Stock) (reads : List (List ℕ)) (r : Result A Stop) → IsAskedRight stock reads r → IsAskedRight stock reads (scoped_result r)
asked_scoped_result stock reads (Ok a) h = h
asked_scoped_result stock reads (Err (stop.Missing iri)) h = h
asked_scoped_result stock reads (Err (stop.Code code)) h = h
asked_scoped_result stock reads (Err (stop.Own own)) h = h
asked_scoped_result stock reads (Err stop.NoMemory) h = h

pub asked_scoped : {A : Type 0} (o : Answer A) (stock : Stock) → IsAskedRight stock (scoped_outcome (o.run stock)).reads (scoped_outcome (o.run stock)).result
asked_scoped o stock = asked_scoped_result stock (o.run stock).reads (o.run stock).result (o.asked stock)

abbrev pub as_scoped : {A : Type 0} → Answer A → Answer A
as_scoped o = record { run = λ stock. scoped_outcome (o.run stock); rests = rests_scoped o; asked = asked_scoped o }

-- ---- calls

-- the refusal is the definition's, or want of memory, which has no cause
abbrev pub Refuses : {A : Type 0} → Stop → Result A Stop → Type 0
Refuses stop.NoMemory r = Unit {0}
Refuses e r = r ≡ Err e

-- a call answers what the definition gives, where a value of the call stands for one of the definition
abbrev pub GivesAs : {A B : Type 0} → (A → B) → Result A Stop → Result B Stop → Type 0
GivesAs view (Ok a) r = r ≡ Ok (view a)
GivesAs view (Err e) r = Refuses e r

-- the same value
abbrev pub Gives : {A : Type 0} → Result A Stop → Result A Stop → Type 0
Gives given r = GivesAs (λ a. a) given r
