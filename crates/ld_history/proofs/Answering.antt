-- A request that may be answered so.
use Rattle.std.proofs.Common.{◌≡◌, ℕ, refl, sym, ap, ◌∙◌, subst, Option, Some, None, Bool, true, false, List, [], ◌∷◌}
use Rattle.std.specs.Prelude.{is_some, option_map}
use Rattle.ld_history.specs.declared.limits.Limits.{Limits}
use Rattle.ld_history.specs.declared.event.Given.{Given}
use Rattle.ld_history.specs.declared.event.Event.TheVariants as event
use Rattle.ld_history.specs.declared.event.How.{How}
use Rattle.ld_history.specs.declared.event.Entry.{Entry}
use Rattle.ld_history.specs.declared.session.Session.{Session}
use Rattle.ld_history.specs.Store.{Store}
use Rattle.ld_history.specs.Words.{at_number}
use Rattle.ld_history.specs.Legal.{Entries, History, state}
use Rattle.ld_history.specs.Steps.{Taken, of_found, where_, taken, plain, ending, answer_step}
use Rattle.ld_history.specs.ByTurns.{allows, may_answer, IsKept}
use Rattle.ld_history.proofs.LawTold.{answer_kept, answer_found}

is_some_where : {A : Type 0} (b : Bool) (t : Taken A) → is_some (where_ b t) ≡ b
is_some_where true t = refl
is_some_where false t = refl

module _ (limits : Limits) (entries : Entries) (store : Store) (h : History) (kept : IsKept limits entries store) (view : record { limits = limits; entries = entries } ≡ h) where
  -- what the rules allow after the tables, they allow after the history that is seen
  pub allowed_outside : (entry : Entry (List ℕ) Given) → allows limits store entry ≡ true → allows h.limits (state h.entries) entry ≡ true
  allowed_outside entry ok = subst (λ (v : History). allows v.limits (state v.entries) entry ≡ true) view (subst (λ s. allows limits s entry ≡ true) kept.replayed ok)

  module _ (session : ℕ) (how : How (List ℕ)) where
    abbrev pub asked : Option ℕ
    asked = option_map (λ s. s.request) (at_number store.sessions session)

    pub answers_so : (request : ℕ) → asked ≡ Some request → (b : Bool) → b ≡ may_answer limits store session request how
        → answer_step h session how ≡ where_ b (taken request (plain (event.Answered session request how) ∷ []))
    answers_so request is b same = answer_kept limits entries store h kept view session how ∙ answer_found limits store session request how is b (sym same)

    pub may_so : (request : ℕ) → asked ≡ Some request → (b : Bool) → b ≡ may_answer limits store session request how → b ≡ is_some (answer_step h session how)
    may_so request is b same = sym (ap is_some (answers_so request is b same) ∙ is_some_where b (taken request (plain (event.Answered session request how) ∷ [])))

    pub unopened : asked ≡ None → false ≡ is_some (answer_step h session how)
    unopened none = sym (ap is_some (answer_kept limits entries store h kept view session how) ∙ by_found (at_number store.sessions session) none)
      where
        by_found : (o : Option Session) → option_map (λ s. s.request) o ≡ None → is_some (of_found (λ s. where_ (may_answer limits store session s.request how) (ending session s s.request how)) o) ≡ false
        by_found None e = refl
        by_found (Some s) e = cc

    -- an answer that is a step is allowed
    pub allowed_so : (request : ℕ) → asked ≡ Some request → is_some (answer_step h session how) ≡ true → may_answer limits store session request how ≡ true
    allowed_so request is ok = may_so request is (may_answer limits store session request how) refl ∙ ok
