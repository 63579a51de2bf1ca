-- That an envelope's reply is one.
use Rattle.std.proofs.Common.{◌≡◌, ◌∙◌, ◌⊎◌, ◌<◌, ℕ, ◌+◌, List, [], ◌∷◌, ◌++◌, length, length-append, Option, Some, None, inl, inr, refl, sym, ap, subst, arith}
use Rattle.std.specs.Prelude.{Result, Ok, Err, option_map}
use Rattle.ld_edge.specs.declared.status.Status.{Status}
use Rattle.ld_edge.specs.declared.status.Status.TheVariants.{Done, Refused, Usage, ReadFault, WriteFault, LoadFault, TooMany, NoMemory, InputTooLong}
use Rattle.ld_edge.specs.Faults.{Rose}
use Rattle.ld_tree.specs.declared.tree.Tree.{Tree}
use Rattle.ld_rec.specs.declared.stop.Stop.{Stop}
use Rattle.ld_rec.specs.declared.stop.Stop.TheVariants as stop
use Rattle.ld_answer.specs.Bodies.{refusal_body}
use Rattle.ld_answer.specs.Envelopes.{IsAccepted}
use Rattle.ld_answer.specs.declared.envelope.Envelope.{Envelope}
use Rattle.ld_answer.specs.declared.op.Op.{Op}
use Rattle.ld_answer.specs.declared.refusal.EnvelopeRefusal.{EnvelopeRefusal}
use Rattle.ld_answer.proofs.Once.{accepted_or_refused, answered_once}
use Rattle.ld_ctx.specs.Stocks.{stock_of}
use Rattle.ld_flight.specs.Loads.{Answer, Loading}
use Rattle.ld_flight.specs.declared.given.Given.{Given}
use Rattle.ld_once.specs.Loading.{answering, Answering, AreLoads, Held, Lacks, Loads, none, more}
use Rattle.ld_once.specs.Outcomes.{IsAnswer, IsReached, IsSettled, body_line, body_of, settled, too_many, load_fault}
use Rattle.ld_once.specs.Runs.{IsAnswered, IsNoEnvelope}

no_body : (out : List ℕ) → option_map body_line None ≡ Some out → ⊥
no_body out h = cc

-- what is missing settles nothing
pub missing_unsettled : (iri : List ℕ) (status : Status) (out : List ℕ) → IsSettled (Err (stop.Missing iri)) status out → ⊥
missing_unsettled iri Refused out h = no_body out h
missing_unsettled iri _ out h = h

-- a result settles one status
abbrev pub status_of : Result Tree Stop → Status
status_of (Ok tree) = Done
status_of (Err e) = Refused

pub settled_status : (r : Result Tree Stop) (status : Status) (out : List ℕ) → IsSettled r status out → status ≡ status_of r
settled_status (Ok tree) Done out h = refl
settled_status (Ok tree) _ out h = absurd h
settled_status (Err e) Refused out h = refl
settled_status (Err e) _ out h = absurd h

pub settled_once : (r : Result Tree Stop) (s t : Status) (out out' : List ℕ) → IsSettled r s out → IsSettled r t out' → t ≡ s
settled_once r s t out out' h k = settled_status r t out' k ∙ sym (settled_status r s out h)

-- ---- what was loaded

later : (answering : Answering) (documents : List Held) (iri : List ℕ) → Lacks answering documents iri → (documents ≡ []) ⊎ ((first : List ℕ) × Lacks answering [] first)
    → (first : List ℕ) × Lacks answering [] first
later answering documents iri lacks (inl is) = (iri, subst (λ ds. Lacks answering ds iri) is lacks)
later answering documents iri lacks (inr h) = h

-- where something was loaded, the answer over no documents lacks one
first_lacked : (told : List ℕ → Option (List Answer)) (answering : Answering) (given : List Given) (documents : List Held) → AreLoads told answering given documents
    → (documents ≡ []) ⊎ ((first : List ℕ) × Lacks answering [] first)
first_lacked told answering given documents none = inl refl
first_lacked told answering given documents (more given' documents' entry document loads few lacks load) =
    inr (later answering documents' document.0 lacks (first_lacked told answering given' documents' loads))

nothing_loaded : (told : List ℕ → Option (List Answer)) (answering : Answering) (given : List Given) (documents : List Held) → AreLoads told answering given documents
    → length given ≡ 0 → documents ≡ []
nothing_loaded told answering given documents none is = refl
nothing_loaded told answering given documents (more given' documents' entry document loads few lacks load) is =
    absurd (grind (arith, is, length-append given' (entry ∷ [])))

-- what is answered where nothing was loaded
settled_at_once : (loader after : Loading) (count : ℕ) (r : Result Tree Stop) (status : Status) (out : List ℕ) → IsAnswer loader after count r status out → count ≡ 0
    → (status ≡ LoadFault → ⊥) → IsSettled r status out
settled_at_once loader after count r s o (settled status out h same) zero other = h
settled_at_once loader after count r s o (too_many iri is many same) zero other = absurd (grind (arith, zero, many))
settled_at_once loader after count r s o (load_fault iri is few rose) zero other = absurd (other refl)

-- a result that is settled isn't asked for again
answered_once_more : (loader loader' : Loading) (count : ℕ) (r : Result Tree Stop) (s t : Status) (out out' : List ℕ) → IsSettled r s out → IsAnswer loader loader' count r t out' → t ≡ s
answered_once_more loader loader' count r s t o o' h (settled status out k same) = settled_once r s status o out h k
answered_once_more loader loader' count r s t o o' h (too_many iri is many same) = absurd (missing_unsettled iri s o (subst (λ r'. IsSettled r' s o) is h))
answered_once_more loader loader' count r s t o o' h (load_fault iri is few rose) = absurd (missing_unsettled iri s o (subst (λ r'. IsSettled r' s o) is h))

none_given : (xs ys zs : List Given) → zs ≡ xs ++ ys → zs ≡ xs → length ys ≡ 0
none_given xs ys zs is same = let lengths = ap length (sym same ∙ is) in grind (arith, lengths, length-append xs ys)

-- where nothing is loaded, an envelope is answered with one status
module _ (answering answering' : Answering) (loader after loader' : Loading) (s t : Status) (out out' : List ℕ) (same : answering' (stock_of []) ≡ answering (stock_of [])) where
  reached_once : IsReached answering loader after s out → after.given ≡ loader.given → (s ≡ LoadFault → ⊥) → IsReached answering' loader loader' t out' → t ≡ s
  reached_once h unloaded other k =
      let zero = none_given loader.given h.given after.given h.loads.gained unloaded in
      let no_documents = nothing_loaded loader.held answering h.given h.documents h.loads.are_loads zero in
      let at_once : IsSettled (answering (stock_of [])) s out
      = subst (λ ds. IsSettled (answering (stock_of ds)) s out) no_documents (settled_at_once loader after (length h.given) (answering (stock_of h.documents)) s out h.answer zero other) in
      elim (first_lacked loader.held answering' k.given k.documents k.loads.are_loads) [
        | inl is ↦ answered_once_more loader loader' (length k.given) (answering (stock_of [])) s t out out' at_once
            (subst (λ r. IsAnswer loader loader' (length k.given) r t out') (ap (λ ds. answering' (stock_of ds)) is ∙ same) k.answer)
        | inr first ↦ absurd (missing_unsettled first.0 s out (subst (λ r. IsSettled r s out) (sym same ∙ first.1) at_once))
      ]

-- bytes aren't both an envelope and none
pub not_both : (op : Op) (bytes : List ℕ) (loader after loader' : Loading) (s t : Status) (out out' : List ℕ) → IsAnswered op bytes loader after s out → IsNoEnvelope op bytes loader loader' t out' → ⊥
not_both op bytes loader after loader' s t out out' h k =
    accepted_or_refused op bytes h.envelope k.refusal h.accepted k.refused (λ is. no_body out' (sym (ap (λ e. option_map body_line (refusal_body e)) is) ∙ k.body))

pub replied_once : (op : Op) (bytes : List ℕ) (loader after loader' : Loading) (s t : Status) (out out' : List ℕ)
    → IsNoEnvelope op bytes loader after s out ⊎ IsAnswered op bytes loader after s out → after.given ≡ loader.given → (s ≡ LoadFault → ⊥)
    → IsNoEnvelope op bytes loader loader' t out' ⊎ IsAnswered op bytes loader loader' t out' → t ≡ s
replied_once op bytes loader after loader' s t out out' (inl h) unloaded other (inl k) = k.status_is ∙ sym h.status_is
replied_once op bytes loader after loader' s t out out' (inl h) unloaded other (inr k) = absurd (not_both op bytes loader loader' after t s out' out k h)
replied_once op bytes loader after loader' s t out out' (inr h) unloaded other (inl k) = absurd (not_both op bytes loader after loader' s t out out' h k)
replied_once op bytes loader after loader' s t out out' (inr h) unloaded other (inr k) =
    reached_once (answering op h.envelope) (answering op k.envelope) loader after loader' s t out out' (answered_once op bytes (stock_of []) k.envelope h.envelope k.accepted h.accepted)
    h.reached unloaded other k.reached
