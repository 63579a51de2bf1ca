-- The steps in which the contexts of a request are loaded.
use Rattle.std.proofs.Common.{◌≡◌, ◌∙◌, ◌⊎◌, ◌<◌, ◌+◌, inl, inr, refl, sym, ap, ap₂, subst, ℕ, Bool, true, false, List, [], ◌∷◌, ◌++◌, length, length-append, append_assoc, append-nil, Option, None, Some, arith}
use Rattle.std.specs.Prelude.{if◌then◌else◌, option_map, Result, Ok, Err, IfOk, IfSome, OnErr}
use Rattle.std.specs.Arc.{arc_value}
use Rattle.std.specs.Str.{bytes_eq}
use Rattle.std.specs.declared.sync.Arc.{Arc}
use Rattle.std.specs.declared.alloc.Global.{Global}
use Rattle.std.proofs.lemmas.List.{map-append, length-map}
use Rattle.ld_edge.specs.Faults.{Rose}
use Rattle.ld_edge.specs.declared.status.Status.{Status}
use Rattle.ld_edge.specs.declared.status.Status.TheVariants as statuses
use Rattle.ld_answer.specs.Bodies.{load_fault_body, too_many_body}
use Rattle.ld_ctx.specs.Shares.{value_in}
use Rattle.ld_ctx.specs.Stocks.{shared_entries, stock_of}
use Rattle.ld_flight.specs.Loads.{Answer, IsNext, Loading, entry_of, rest_of}
use Rattle.ld_flight.specs.Passes.{Flight}
use Rattle.ld_flight.specs.declared.given.Given.{Given}
use Rattle.ld_rec.specs.declared.doc.Doc.{Doc}
use Rattle.ld_tree.specs.Maps.{find}
use Rattle.ld_once.specs.Loading.{answering, Answering, AreLoads, Held, IsLoad, Lacks, LoadsInPart, held_limit, none, more}
use Rattle.ld_once.specs.Outcomes.{IsAnswer, IsReached, IsSettled, body_line, settled, too_many, load_fault}
use Rattle.ld_once.specs.Underway.{IsCut, IsFaultReply, IsJoined, IsLoaded, IsUnderway}
use Rattle.ld_once.proofs.Found.{not_there}

-- one shared document more
pub joined : (documents : List (List ℕ × Arc Doc Global)) (document : List ℕ × Arc Doc Global)
    → shared_entries (documents ++ document ∷ []) ≡ shared_entries documents ++ (document.0, arc_value document.1) ∷ []
joined documents document = map-append _ documents (document ∷ [])

-- what holds of each value of a kind holds of the value that is there
pub IfOk-map : {T E : Type 0} (r : Result T E) (P Q : T → Type 0) → ((t : T) → P t → Q t) → IfOk r P → IfOk r Q
IfOk-map (Ok t) P Q f h = f t h
IfOk-map (Err e) P Q f h = tt

pub IfSome-map : {T : Type 0} (o : Option T) (P Q : T → Type 0) → ((t : T) → P t → Q t) → IfSome o P → IfSome o Q
IfSome-map (Some t) P Q f h = f t h
IfSome-map None P Q f h = tt

pub IfOk-both : {T E : Type 0} (r : Result T E) (P Q R : T → Type 0) → ((t : T) → P t → Q t → R t) → IfOk r P → IfOk r Q → IfOk r R
IfOk-both (Ok t) P Q R f h k = f t h k
IfOk-both (Err e) P Q R f h k = tt

pub OnErr-both : {T E : Type 0} (r : Result T E) (P Q R : Type 0) → (P → Q → R) → OnErr r P → OnErr r Q → OnErr r R
OnErr-both (Ok t) P Q R f h k = tt
OnErr-both (Err e) P Q R f h k = f h k

pub OnErr-always : {T E : Type 0} (r : Result T E) (P : Type 0) → P → OnErr r P
OnErr-always (Ok t) P h = tt
OnErr-always (Err e) P h = h

-- as many documents
pub as_many_shared : (documents : List (List ℕ × Arc Doc Global)) → length (shared_entries documents) ≡ length documents
as_many_shared documents = length-map documents _

-- ---- steps

taken_other : (same : Bool) (answers : Option (List Answer)) → same ≡ false → (if same then option_map rest_of answers else answers) ≡ answers
taken_other same answers other = ap (λ (b : Bool). if b then option_map rest_of answers else answers) other

module _ (answering : Answering) (start : Loading) where
  pub begun : IsUnderway answering start start []
  begun = record {
    given = [];
    gained = sym (append-nil start.given);
    are_loads = none;
    as_many = refl;
    held = λ iri not_there. refl;
    faults = refl;
  }

  module _ (before after : Loading) (documents : List Held) (under : IsUnderway answering start before documents) (pass : Flight) (lacks : Lacks answering documents pass.iri)
      (few : length documents < held_limit) (number : pass.number ≡ length documents + 1) where
    counted : pass.number ≡ length under.given + 1
    counted = number ∙ ap (λ n. n + 1) (sym under.as_many)

    few_given : length under.given < held_limit
    few_given = subst (λ n. n < held_limit) (sym under.as_many) few

    module _ (absent : find (stock_of documents) pass.iri ≡ None) (document : Held) (loaded : IsLoaded pass before after document) where
      abbrev entry : Given
      entry = entry_of pass document.1.url loaded.text

      load : IsLoad (start.held document.0) (length under.given + 1) entry document
      load = record {
        text = loaded.text;
        entry_is = ap₂ (λ n i. entry_of (record { number = n; iri = i }) document.1.url loaded.text) counted (sym loaded.iri);
        document_is = loaded.document_is;
        first = subst (λ i. IsNext (start.held i) (document.1.url, loaded.text)) (sym loaded.iri)
            (subst (λ h. IsNext h (document.1.url, loaded.text)) (under.held pass.iri absent) loaded.first);
      }

      pub one_more : IsUnderway answering start after (documents ++ document ∷ [])
      one_more = record {
        given = under.given ++ entry ∷ [];
        gained = loaded.given ∙ ap (λ g. g ++ entry ∷ []) under.gained ∙ append_assoc start.given under.given (entry ∷ []);
        are_loads = more under.given documents entry document under.are_loads few_given (subst (λ i. Lacks answering documents i) (sym loaded.iri) lacks) load;
        as_many = length-append under.given (entry ∷ []) ∙ ap (λ n. n + 1) under.as_many ∙ sym (length-append documents (document ∷ []));
        held = λ iri missing.
            let apart = not_there iri documents document missing in
            loaded.held iri
            ∙ taken_other (bytes_eq iri pass.iri) (before.held iri) (ap (λ i. bytes_eq iri i) (sym loaded.iri) ∙ apart.0)
            ∙ under.held iri apart.1;
        faults = loaded.faults ∙ under.faults;
      }

    -- a failed load ends the request
    pub faulted : (status : Status) (out : List ℕ) → IsFaultReply pass before after status out → IsReached answering start after status out
    faulted status out fault = record {
      given = under.given;
      documents = documents;
      loads = record { gained = fault.given ∙ under.gained; are_loads = under.are_loads };
      answer = subst (λ s. IsAnswer start after (length under.given) (answering (stock_of documents)) s out) (sym fault.status_is)
          (subst (λ o. IsAnswer start after (length under.given) (answering (stock_of documents)) statuses.LoadFault o)
          (ap₂ (λ n b. body_line (load_fault_body pass.iri n b after.faults)) (sym counted) (sym under.faults) ∙ sym fault.out_is)
          (load_fault pass.iri lacks few_given (subst (λ n. Rose n after.faults) under.faults fault.rose)));
    }

    -- memory was wanting
    pub cut_short : IsCut pass before after → LoadsInPart answering start after
    cut_short cut = record {
      given = under.given;
      documents = documents;
      are_loads = under.are_loads;
      gained = gain cut.1;
    }
      where
        gain : ((after.given ≡ before.given) ⊎ ((entry : Given) × (after.given ≡ before.given ++ entry ∷ []) × (entry.iri ≡ pass.iri)))
            → (after.given ≡ start.given ++ under.given) ⊎ ((entry : Given) × (after.given ≡ start.given ++ (under.given ++ entry ∷ [])) × Lacks answering documents entry.iri)
        gain (inl same) = inl (same ∙ under.gained)
        gain (inr (entry, is, iri)) = inr (
          entry,
          is ∙ ap (λ g. g ++ entry ∷ []) under.gained ∙ append_assoc start.given under.given (entry ∷ []),
          subst (λ i. Lacks answering documents i) (sym iri) lacks,
        )

  module _ (now : Loading) (documents : List Held) (under : IsUnderway answering start now documents) where
    pub settled_now : (status : Status) (out : List ℕ) → IsSettled (answering (stock_of documents)) status out → IsReached answering start now status out
    settled_now status out h = record {
      given = under.given;
      documents = documents;
      loads = record { gained = under.gained; are_loads = under.are_loads };
      answer = settled status out h under.faults;
    }

    pub in_part_now : LoadsInPart answering start now
    in_part_now = record { given = under.given; documents = documents; are_loads = under.are_loads; gained = inl under.gained }

    pub many_now : (iri : List ℕ) → Lacks answering documents iri → length documents ≡ held_limit → (status : Status) (out : List ℕ) → status ≡ statuses.TooMany
        → out ≡ body_line (too_many_body iri) → IsReached answering start now status out
    many_now iri lacks many status out status_is out_is = record {
      given = under.given;
      documents = documents;
      loads = record { gained = under.gained; are_loads = under.are_loads };
      answer = subst (λ s. IsAnswer start now (length under.given) (answering (stock_of documents)) s out) (sym status_is)
          (subst (λ o. IsAnswer start now (length under.given) (answering (stock_of documents)) statuses.TooMany o) (sym out_is)
          (too_many iri lacks (under.as_many ∙ many) under.faults));
    }

-- ---- the request's own steps

module _ (answering : Answering) (before after : Loading) (documents documents' : List (List ℕ × Arc Doc Global)) (pass : Flight) (lacks : Lacks answering (shared_entries documents) pass.iri)
    (few : length documents < held_limit) (number : pass.number ≡ length documents + 1) where
  few_shared : length (shared_entries documents) < held_limit
  few_shared = subst (λ n. n < held_limit) (sym (as_many_shared documents)) few

  number_shared : pass.number ≡ length (shared_entries documents) + 1
  number_shared = number ∙ ap (λ n. n + 1) (sym (as_many_shared documents))

  pub next_underway : (start : Loading) → find (stock_of (shared_entries documents)) pass.iri ≡ None → IsJoined pass before after (shared_entries documents) (shared_entries documents')
      → IsUnderway answering start before (shared_entries documents) → IsUnderway answering start after (shared_entries documents')
  next_underway start absent join under =
      subst (λ ds. IsUnderway answering start after ds) (sym join.1)
      (one_more answering start before after (shared_entries documents) under pass lacks few_shared number_shared absent join.0 join.2)

  pub next_faulted : (start : Loading) (status : Status) (out : List ℕ) → IsFaultReply pass before after status out → IsUnderway answering start before (shared_entries documents)
      → IsReached answering start after status out
  next_faulted start status out fault under = faulted answering start before after (shared_entries documents) under pass lacks few_shared number_shared status out fault

  pub next_cut : (start : Loading) → IsCut pass before after → IsUnderway answering start before (shared_entries documents) → LoadsInPart answering start after
  next_cut start cut under = cut_short answering start before after (shared_entries documents) under pass lacks few_shared number_shared cut
