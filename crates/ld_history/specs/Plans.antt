-- What the code plans, as the step that it is.
use Rattle.std.specs.Prelude.{◌≡◌, ℕ, ◌≤◌, List, [], ◌∷◌, ◌-◌, take, length, Option, Some, None}
use Rattle.std.specs.Map.{set_value}
use Rattle.std.specs.BTreeMap.{is_at}
use Rattle.ld_tree.specs.Names.{name_cmp}
use Rattle.ld_history.specs.declared.limits.Limits.{Limits}
use Rattle.ld_history.specs.declared.event.Event.{Event}
use Rattle.ld_history.specs.declared.event.Event.TheVariants as event
use Rattle.ld_history.specs.declared.event.How.TheVariants as how
use Rattle.ld_history.specs.declared.answers.LackAnswer.{LackAnswer}
use Rattle.ld_history.specs.declared.answers.LackAnswer.TheVariants as lack_answer
use Rattle.ld_history.specs.declared.answers.EvictAnswer.{EvictAnswer}
use Rattle.ld_history.specs.declared.answers.EvictAnswer.TheVariants as evict_answer
use Rattle.ld_history.specs.declared.plans.LackPlan.{LackPlan}
use Rattle.ld_history.specs.declared.plans.LackPlan.TheVariants as lack_plan
use Rattle.ld_history.specs.declared.plans.Replacement.{Replacement}
use Rattle.ld_history.specs.declared.plans.EvictPlan.{EvictPlan}
use Rattle.ld_history.specs.declared.plans.EvictPlan.TheVariants as evict_plan
use Rattle.ld_history.specs.declared.session.Session.{Session}
use Rattle.ld_history.specs.Store.{Store}
use Rattle.ld_history.specs.Words.{at_number, at_iri, is_pinned}
use Rattle.ld_history.specs.ByTurns.{LegalFrom}
use Rattle.ld_history.specs.Steps.{Taken, taken, plain, of_session, where_, evicting_stored}

abbrev pub goes_out : Replacement → Event (List ℕ)
goes_out r = event.Evicted r.session r.out r.version

abbrev pub comes_in : Replacement → Event (List ℕ)
comes_in r = event.Led r.session r.iri r.flight

abbrev pub lack_planned : LackPlan → Taken LackAnswer
lack_planned (lack_plan.One answer event) = taken answer (plain event ∷ [])
lack_planned (lack_plan.Replace r) =
    taken (lack_answer.Led r.flight (Some (record { iri = r.out; version = r.version }))) (plain (goes_out r) ∷ plain (comes_in r) ∷ [])

-- the answer to a request whose context went out with this version
abbrev pub told_out : ℕ → ℕ → ℕ → Event (List ℕ)
told_out session request version = event.Answered session request (how.Evicted version)

abbrev pub evict_taken : ℕ → List ℕ → EvictPlan → Taken EvictAnswer
evict_taken session iri (evict_plan.One answer event) = taken answer (plain event ∷ [])
evict_taken session iri (evict_plan.Evict request version) =
    taken (evict_answer.Evicted version) (plain (event.Evicted session iri version) ∷ plain (told_out session request version) ∷ [])

abbrev pub evict_found : Store → ℕ → List ℕ → Option (Taken EvictAnswer)
evict_found store session iri = of_session store session (λ s. where_ (is_pinned s.last) (evicting_stored store session iri s))

-- no open session holds more than it may
abbrev pub AreFew : Limits → Store → Type 0
AreFew limits store = (n : ℕ) (s : Session) → at_number store.sessions n ≡ Some s → length s.held ≤ limits.held

-- the IRI's turns without the last one
abbrev pub unturn_found : List (List ℕ × List ℕ) → List ℕ → Option (List ℕ) → List (List ℕ × List ℕ)
unturn_found turns iri None = turns
unturn_found turns iri (Some before) = set_value (is_at (name_cmp iri)) turns (take (length before - 1) before)

abbrev pub unturned : List (List ℕ × List ℕ) → List ℕ → List (List ℕ × List ℕ)
unturned turns iri = unturn_found turns iri (at_iri turns iri)

-- the rules allow what the step appends, in turn
abbrev pub AllowsStep : {A : Type 0} → Limits → Store → Option (Taken A) → Type 0
AllowsStep limits store None = Unit {0}
AllowsStep limits store (Some t) = LegalFrom limits store t.entries
