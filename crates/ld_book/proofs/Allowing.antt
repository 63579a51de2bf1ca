-- Steps that may be taken are taken.
use Rattle.std.proofs.Common.{◌≡◌, ℕ, List, refl, sym, ap, ◌∙◌, Bool, true, false, ◌&&◌, ◌||◌, Option, Some, None, not}
use Rattle.std.specs.Prelude.{is_some, nat_lt}
use Rattle.ld_history.specs.declared.session.Session.{Session}
use Rattle.ld_history.specs.Words.{at_number, is_idle, is_pinned, is_some_and, is_taken}
use Rattle.ld_history.specs.Rules.{has_pinned, may_pin_again, on_session}
use Rattle.ld_history.specs.Legal.{History, Legal, is_in_stock, state}
use Rattle.ld_history.specs.Steps as steps
use Rattle.ld_history.specs.Steps.{Taken, where_, of_found}
use Rattle.ld_history.proofs.LawSteps.{lack_taken_where, pin_taken_where}
use Rattle.ld_history.proofs.LawTold.{by_turns}

where_taken : {A : Type 0} (b : Bool) (t : Taken A) → b ≡ true → where_ b t ≡ None → ⊥
where_taken true t ok none = cc
where_taken false t ok none = cc

is_taken_so : {A : Type 0} (step : Option (Taken A)) (b : Bool) → is_some step ≡ b → b ≡ true → step ≡ None → ⊥
is_taken_so step b is ok none = let no : false ≡ true = sym (ap is_some none) ∙ is ∙ ok in cc

session_taken : {A : Type 0} (o : Option Session) (test : Session → Bool) (f : Session → Option (Taken A)) → ((s : Session) → test s ≡ true → f s ≡ None → ⊥)
    → is_some_and test o ≡ true → of_found f o ≡ None → ⊥
session_taken None test f each ok none = cc
session_taken (Some s) test f each ok none = each s ok none

pub opens : (h : History) (seat : ℕ) → (nat_lt seat 256 && not (is_taken (state h.entries) seat)) ≡ true → steps.open_step h seat ≡ None → ⊥
opens h seat ok none = where_taken (nat_lt seat 256 && not (is_taken (state h.entries) seat)) (steps.opening h.limits (state h.entries) seat) ok none

pub pins : (h : History) (session : ℕ) → on_session (state h.entries) session (λ s. is_idle s.last || may_pin_again (state h.entries) s.last) ≡ true → steps.pin_step h session ≡ None → ⊥
pins h session ok none = is_taken_so (steps.pin_step h session) _ (pin_taken_where h.limits h.entries session) ok none

pub lacks : (h : History) (session : ℕ) (iri : List ℕ) → Legal h.limits h.entries → on_session (state h.entries) session (steps.may_lack (is_in_stock h.entries) iri) ≡ true
    → steps.lack_step h session iri ≡ None → ⊥
lacks h session iri legal ok none = is_taken_so (steps.lack_step h session iri) _ (lack_taken_where h.limits h.entries session iri (by_turns h.limits h.entries legal)) ok none

pub evicts : (h : History) (session : ℕ) (iri : List ℕ) → has_pinned (state h.entries) session ≡ true → steps.evict_step h session iri ≡ None → ⊥
evicts h session iri ok none =
    session_taken (at_number (state h.entries).sessions session) (λ s. is_pinned s.last) (λ s. where_ (is_pinned s.last) (steps.evicting_stored (state h.entries) session iri s))
    (λ s. where_taken (is_pinned s.last) (steps.evicting_stored (state h.entries) session iri s)) ok none

pub revises : (h : History) (session : ℕ) (iri : List ℕ) → has_pinned (state h.entries) session ≡ true → steps.revise_step h session iri ≡ None → ⊥
revises h session iri ok none =
    session_taken (at_number (state h.entries).sessions session) (λ s. is_pinned s.last) (λ s. where_ (is_pinned s.last) (steps.revising_stored h.limits (state h.entries) session iri s))
    (λ s. where_taken (is_pinned s.last) (steps.revising_stored h.limits (state h.entries) session iri s)) ok none
