-- Where the loader tells its answers, one status is due: what is loaded is determined.
use Rattle.std.proofs.Common.{◌≡◌, ◌∙◌, ◌⊎◌, ◌<◌, ◌≤◌, ℕ, ◌+◌, List, [], ◌∷◌, ◌++◌, length, length-append, Option, Some, None, inl, inr, refl, sym, ap, ap₂, subst, arith}
use Rattle.std.specs.Prelude.{Result, Ok, Err}
use Rattle.std.proofs.Math.Logic.{∥∥₁_prop}
use Rattle.std.proofs.lemmas.Bool.{cases_lt}
use mathlib.Core.HLevel.{is_prop→PathP}
use Rattle.ld_edge.specs.Faults.{Rose}
use Rattle.ld_edge.specs.declared.status.Status.{Status}
use Rattle.ld_edge.specs.declared.status.Status.TheVariants.{LoadFault}
use Rattle.ld_tree.specs.declared.tree.Tree.{Tree}
use Rattle.ld_tree.proofs.Once.{read_once}
use Rattle.ld_rec.specs.Documents.{Keeps, IsStored}
use Rattle.ld_rec.specs.Outcome.{Stock}
use Rattle.ld_rec.specs.declared.doc.Doc.{Doc}
use Rattle.ld_rec.specs.declared.stored.Stored.{Stored}
use Rattle.ld_rec.specs.declared.stored.Stored.TheVariants.{Read, Unreadable, Oversize}
use Rattle.ld_rec.specs.declared.stop.Stop.{Stop}
use Rattle.ld_rec.specs.declared.stop.Stop.TheVariants as stop
use Rattle.ld_answer.specs.declared.op.Op.{Op}
use Rattle.ld_answer.proofs.Once.{answered_once}
use Rattle.ld_ctx.specs.Stocks.{stock_of}
use Rattle.ld_flight.specs.Loads.{Answer, IsDocument, IsNext, Loading}
use Rattle.ld_flight.specs.declared.given.Given.{Given}
use Rattle.ld_once.specs.Loading.{AreLoads, Answering, answering, Held, IsLoad, Lacks, held_limit, none, more}
use Rattle.ld_once.specs.Outcomes.{IsAnswer, IsReached, IsSettled, settled, too_many, load_fault}
use Rattle.ld_once.specs.Runs.{IsAnswered, IsNoEnvelope, IsTelling}
use Rattle.ld_once.proofs.Replied.{missing_unsettled, not_both, settled_once, settled_status, status_of}

-- ---- one document of a text

same_body : (text : List ℕ) (a b : Stored) → Keeps text a → Keeps text b → a ≡ b
same_body text (Read k s) (Read l t) h w = ap₂ Read (h.0 ∙ sym w.0) (read_once text s t h.2 w.2)
same_body text (Read k s) (Unreadable l) h w = absurd (w.2 s h.2)
same_body text (Read k s) Oversize h w = absurd (omega (arith, h.1, w))
same_body text (Unreadable k) (Read l t) h w = absurd (h.2 t w.2)
same_body text (Unreadable k) (Unreadable l) h w = ap Unreadable (h.0 ∙ sym w.0)
same_body text (Unreadable k) Oversize h w = absurd (omega (arith, h.1, w))
same_body text Oversize (Read l t) h w = absurd (omega (arith, h, w.1))
same_body text Oversize (Unreadable l) h w = absurd (omega (arith, h, w.1))
same_body text Oversize Oversize h w = refl

same_doc : (a b : Doc) → a.url ≡ b.url → a.body ≡ b.body → a ≡ b
same_doc a b url body = λ i. record { url = url i; body = body i; is_of_a_text = is_prop→PathP (λ j. ∥ IsStored (body j) ∥₁) (λ j. ∥∥₁_prop) a.is_of_a_text b.is_of_a_text i }

same_document : (a b : Doc) (u v x y : List ℕ) → u ≡ v → x ≡ y → IsDocument a u x → IsDocument b v y → a ≡ b
same_document a b u v x y url text h w = same_doc a b (h.url_is ∙ url ∙ sym w.url_is) (same_body x a.body b.body h.keeps (subst (λ t. Keeps t b.body) (sym text) w.keeps))

-- ---- one next answer, where the answers are told

first_once : (told : Option (List Answer)) (answers : List Answer) (a b : Answer) → told ≡ Some answers → IsNext told a → IsNext told b → a ≡ b
first_once None answers a b is h w = absurd (let bad : None ≡ Some answers = is in cc)
first_once (Some []) answers a b is h w = absurd h
first_once (Some (first ∷ rest)) answers a b is h w = sym h ∙ w

-- ---- the loads

abbrev missing : List ℕ → Result Tree Stop
missing iri = Err (stop.Missing iri)

missing_alike : (a b : List ℕ) → missing a ≡ missing b → a ≡ b
missing_alike a b e = cc

missing_once : (r : Result Tree Stop) (a b : List ℕ) → r ≡ missing a → r ≡ missing b → a ≡ b
missing_once r a b h w = missing_alike a b (sym h ∙ w)

module _ (answering : Answering) (told : List ℕ → Option (List Answer)) where
  abbrev Loaded : List Given → List Held → Type 0
  Loaded given documents = AreLoads told answering given documents

  -- as many entries as documents, and no more than may be held
  as_many : (given : List Given) (documents : List Held) → Loaded given documents → length given ≡ length documents
  as_many given documents none = refl
  as_many given documents (more given' documents' entry document loads few lacks load) =
      length-append given' (entry ∷ []) ∙ ap (λ n. n + 1) (as_many given' documents' loads) ∙ sym (length-append documents' (document ∷ []))

  no_more : (given : List Given) (documents : List Held) → Loaded given documents → length given ≤ held_limit
  no_more given documents none = omega arith
  no_more given documents (more given' documents' entry document loads few lacks load) = omega (arith, few, length-append given' (entry ∷ []))

  -- what was loaded before the others
  record Front (n : ℕ) : Type 0 where
    pub given : List Given
    pub documents : List Held
    pub loads : Loaded given documents
    pub length_is : length documents ≡ n
    pub iri : List ℕ
    pub lacks : Lacks answering documents iri

  front : (n : ℕ) (given : List Given) (documents : List Held) → Loaded given documents → n < length documents → Front n
  front n given documents none lt = absurd (omega (arith, lt))
  front n given documents (more given' documents' entry document loads few lacks load) lt = elim (cases_lt n (length documents')) [
    | inl below ↦ front n given' documents' loads below
    | inr up ↦ record {
      given = given';
      documents = documents';
      loads = loads;
      length_is = omega (arith, up, lt, length-append documents' (document ∷ []));
      iri = document.0;
      lacks = lacks;
    }
  ]

  module _ (telling : (iri : List ℕ) → (answers : List Answer) × (told iri ≡ Some answers)) where
    same_held : (n m : ℕ) (x y : Given) (a b : Held) → a.0 ≡ b.0 → IsLoad (told a.0) n x a → IsLoad (told b.0) m y b → a ≡ b
    same_held n m x y a b iri h w =
        let known = telling b.0 in
        let next = first_once (told b.0) known.0 (a.1.url, h.text) (b.1.url, w.text) known.1 (subst (λ i. IsNext (told i) (a.1.url, h.text)) iri h.first) w.first in
        ap₂ (λ i d. let held : Held = (i, d) in held) iri
        (same_document a.1 b.1 a.1.url b.1.url h.text w.text (ap (λ (p : Answer). p.0) next) (ap (λ (p : Answer). p.1) next) h.document_is w.document_is)

    -- of as many loads the documents are the same
    same_loads : (g1 : List Given) (d1 : List Held) (g2 : List Given) (d2 : List Held) → Loaded g1 d1 → Loaded g2 d2 → length d1 ≡ length d2 → d1 ≡ d2
    same_loads g1 d1 g2 d2 none none is = refl
    same_loads g1 d1 g2 d2 none (more g d e x loads few lacks load) is = absurd (omega (arith, is, length-append d (x ∷ [])))
    same_loads g1 d1 g2 d2 (more g d e x loads few lacks load) none is = absurd (omega (arith, is, length-append d (x ∷ [])))
    same_loads g1 d1 g2 d2 (more g d e x loads few lacks load) (more g' d' e' x' loads' few' lacks' load') is =
        let before = same_loads g d g' d' loads loads' (omega (arith, is, length-append d (x ∷ []), length-append d' (x' ∷ []))) in
        let iri = missing_once (answering (stock_of d)) x.0 x'.0 lacks (subst (λ ds. Lacks answering ds x'.0) (sym before) lacks') in
        ap₂ (λ ds y. ds ++ y ∷ []) before (same_held (length g + 1) (length g' + 1) e e' x x' iri load load')

    -- where more was loaded, what was loaded first lacked something
    lacked : (g1 : List Given) (d1 : List Held) (g2 : List Given) (d2 : List Held) → Loaded g1 d1 → Loaded g2 d2 → length d1 < length d2 → (iri : List ℕ) × Lacks answering d1 iri
    lacked g1 d1 g2 d2 h w lt =
        let f = front (length d1) g2 d2 w lt in
        (f.iri, subst (λ ds. Lacks answering ds f.iri) (sym (same_loads g1 d1 f.given f.documents h f.loads (sym f.length_is))) f.lacks)

-- ---- what is answered

status_is : (r : Result Tree Stop) → status_of r ≡ LoadFault → ⊥
status_is (Ok tree) e = cc
status_is (Err error) e = cc

-- an answer for a failed load, or another
by_fault : (loader loader' : Loading) (count : ℕ) (r : Result Tree Stop) (s : Status) (out : List ℕ) → IsAnswer loader loader' count r s out
    → ((s ≡ LoadFault) × Rose loader.faults loader'.faults) ⊎ (s ≡ LoadFault → ⊥)
by_fault loader loader' count r s o (settled status out h same) = inr (λ is. status_is r (sym (settled_status r status out h) ∙ is))
by_fault loader loader' count r s o (too_many iri missing many same) = inr (λ is. cc)
by_fault loader loader' count r s o (load_fault iri missing few rose) = inl (refl, rose)

-- what is missing is answered so where no more contexts may be held
is_full : (loader loader' : Loading) (count : ℕ) (r : Result Tree Stop) (s : Status) (out iri : List ℕ) → IsAnswer loader loader' count r s out → (s ≡ LoadFault → ⊥)
    → r ≡ Err (stop.Missing iri) → count ≡ held_limit
is_full loader loader' count r s o iri (settled status out h same) other is = absurd (missing_unsettled iri status out (subst (λ r. IsSettled r status out) is h))
is_full loader loader' count r s o iri (too_many i missing many same) other is = many
is_full loader loader' count r s o iri (load_fault i missing few rose) other is = absurd (other refl)

-- one result is answered with one status
answered_alike : (loader after loader' : Loading) (c d : ℕ) (r : Result Tree Stop) (s t : Status) (out out' : List ℕ) → IsAnswer loader after c r s out → IsAnswer loader loader' d r t out'
    → (s ≡ LoadFault → ⊥) → (t ≡ LoadFault → ⊥) → t ≡ s
answered_alike loader after loader' c d r s t o o' (settled status out h same) (settled status' out' h' same') _ _ = settled_once r status status' out out' h h'
answered_alike loader after loader' c d r s t o o' (settled status out h same) (too_many iri is many same') _ _ = absurd (missing_unsettled iri status out (subst (λ r. IsSettled r status out) is h))
answered_alike loader after loader' c d r s t o o' (too_many iri is many same) (settled status out h same') _ _ = absurd (missing_unsettled iri status out (subst (λ r. IsSettled r status out) is h))
answered_alike loader after loader' c d r s t o o' (too_many iri is many same) (too_many iri' is' many' same') _ _ = refl
answered_alike loader after loader' c d r s t o o' (load_fault iri is few rose) k other _ = absurd (other refl)
answered_alike loader after loader' c d r s t o o' h (load_fault iri is few rose) _ other = absurd (other refl)

-- the same loads for an answering that gives the same
with_answering : (told : List ℕ → Option (List Answer)) (answering answering' : Answering) → ((s : Stock) → answering' s ≡ answering s) → (given : List Given) (documents : List Held)
    → AreLoads told answering' given documents → AreLoads told answering given documents
with_answering told answering answering' same given documents none = none
with_answering told answering answering' same given documents (more given' documents' entry document loads few lacks load) =
    more given' documents' entry document (with_answering told answering answering' same given' documents' loads) few (sym (same (stock_of documents')) ∙ lacks) load

module _ (answering answering' : Answering) (loader after loader' : Loading) (s t : Status) (out out' : List ℕ) (same : (stock : Stock) → answering' stock ≡ answering stock) (telling : IsTelling loader) where
  -- where the loader tells its answers, an envelope is answered with one status, but for a load that fails
  pub reached_alike : IsReached answering loader after s out → (s ≡ LoadFault → ⊥) → IsReached answering' loader loader' t out' → (t ≡ s) ⊎ ((t ≡ LoadFault) × Rose loader.faults loader'.faults)
  reached_alike h other k = elim (by_fault loader loader' (length k.given) (answering' (stock_of k.documents)) t out' k.answer) [
    | inl fault ↦ inr fault
    | inr other' ↦ inl (elim (cases_lt (length h.documents) (length k.documents)) [
      | inl fewer ↦ absurd (full_first fewer)
      | inr up ↦ elim (cases_lt (length k.documents) (length h.documents)) [
        | inl fewer ↦ absurd (full_second other' fewer)
        | inr down ↦ alike other' (omega (arith, up, down))
      ]
    ])
  ]
    where
      told : List ℕ → Option (List Answer)
      told = loader.held

      loads : AreLoads told answering h.given h.documents
      loads = h.loads.are_loads

      loads' : AreLoads told answering k.given k.documents
      loads' = with_answering told answering answering' same k.given k.documents k.loads.are_loads

      answer' : IsAnswer loader loader' (length k.given) (answering (stock_of k.documents)) t out'
      answer' = subst (λ r. IsAnswer loader loader' (length k.given) r t out') (same (stock_of k.documents)) k.answer

      full_first : length h.documents < length k.documents → ⊥
      full_first fewer =
          let l = lacked answering told telling h.given h.documents k.given k.documents loads loads' fewer in
          let full = is_full loader after (length h.given) (answering (stock_of h.documents)) s out l.0 h.answer other l.1 in
          omega (arith, fewer, full, as_many answering told h.given h.documents loads, as_many answering told k.given k.documents loads', no_more answering told k.given k.documents loads')

      full_second : (t ≡ LoadFault → ⊥) → length k.documents < length h.documents → ⊥
      full_second other' fewer =
          let l = lacked answering told telling k.given k.documents h.given h.documents loads' loads fewer in
          let full = is_full loader loader' (length k.given) (answering (stock_of k.documents)) t out' l.0 answer' other' l.1 in
          omega (arith, fewer, full, as_many answering told h.given h.documents loads, as_many answering told k.given k.documents loads', no_more answering told h.given h.documents loads)

      alike : (t ≡ LoadFault → ⊥) → length h.documents ≡ length k.documents → t ≡ s
      alike other' is =
          let documents = same_loads answering told telling h.given h.documents k.given k.documents loads loads' is in
          answered_alike loader after loader' (length h.given) (length k.given) (answering (stock_of h.documents)) s t out out' h.answer
          (subst (λ ds. IsAnswer loader loader' (length k.given) (answering (stock_of ds)) t out') (sym documents) answer') other other'

pub replied_foreseen : (op : Op) (bytes : List ℕ) (loader after loader' : Loading) (s t : Status) (out out' : List ℕ) → IsTelling loader
    → IsNoEnvelope op bytes loader after s out ⊎ IsAnswered op bytes loader after s out → (s ≡ LoadFault → ⊥)
    → IsNoEnvelope op bytes loader loader' t out' ⊎ IsAnswered op bytes loader loader' t out' → (t ≡ s) ⊎ ((t ≡ LoadFault) × Rose loader.faults loader'.faults)
replied_foreseen op bytes loader after loader' s t out out' telling (inl h) other (inl k) = inl (k.status_is ∙ sym h.status_is)
replied_foreseen op bytes loader after loader' s t out out' telling (inl h) other (inr k) = absurd (not_both op bytes loader loader' after t s out' out k h)
replied_foreseen op bytes loader after loader' s t out out' telling (inr h) other (inl k) = absurd (not_both op bytes loader after loader' s t out out' h k)
replied_foreseen op bytes loader after loader' s t out out' telling (inr h) other (inr k) =
    reached_alike (answering op h.envelope) (answering op k.envelope) loader after loader' s t out out'
    (λ stock. answered_once op bytes stock k.envelope h.envelope k.accepted h.accepted) telling h.reached other k.reached
