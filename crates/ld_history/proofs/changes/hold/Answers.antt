use Rattle.std.proofs.Common.{◌≡◌, subst, ◌++◌, ◌∷◌, [], refl, sym, ap, ◌∙◌, true, false, is_some, rules}
use Rattle.std.specs.Prelude.{not}
use Rattle.std.specs.Map.{keys_of}
use Rattle.ld_history.specs.declared.session.Session.{Session}
use Rattle.ld_history.specs.declared.session.Last.{Last}
use Rattle.ld_history.specs.Words.{at_number, is_idle}
use Rattle.ld_history.proofs.LawCounts.{has}
use Rattle.ld_history.proofs.IndexSessions.{keys_changed, index_fits, index_listed, index_same}
use Rattle.ld_history.proofs.HeldAlike.{alike_same, alike_marked, alike_again}
use Rattle.ld_history.specs.declared.index.Index.{Index}
use Rattle.ld_history.specs.Order.{IsHeldAlike}
use Rattle.ld_history.proofs.changes.hold.Goals as goal

-- a session whose last own event isn't Answered isn't idle
never : (l : Last) → is_idle l ≡ false → is_idle l ≡ true → ⊥
never l busy idle = let bad : true ≡ false = sym idle ∙ busy in cc

pub returns-in_err-first-clause-index : goal.returns-in_err-first-clause-index
returns-in_err-first-clause-index c =
    index_same c.args.sessions.now.entries c.args.index.now c.requires.index (record c.args.index.now { holders = c.list_holder.new.holders }) refl (λ q. refl) c.list_holder.ensures.filled c.in_err-first.ensures.unchanged

pub begin-requires : goal.begin-requires
begin-requires c =
    index_fits c.args.sessions.now.entries c.args.number (λ (s : Session). record s { held = s.held ++ c.args.iri.now ∷ []; last = c.args.last }) c.args.index.now c.is_idle-was_idle.result c.requires.index
    (λ s. ap not c.requires.busy) c.is_idle-was_idle.ensures

pub returns-in-Ok-clause-numbers : goal.returns-in-Ok-clause-numbers
returns-in-Ok-clause-numbers c =
    ap keys_of c.in-Ok.ensures.ok ∙ keys_changed c.args.sessions.now.entries c.args.number (λ (s : Session). record s { held = s.held ++ c.in_ok-held.held ∷ []; last = c.args.last })

pub returns-in-Ok-clause-index : goal.returns-in-Ok-clause-index
returns-in-Ok-clause-index c =
    let sessions = c.args.sessions.now.entries in
    let there : is_some (at_number sessions c.args.number) ≡ true = search rules in
    let s = has (at_number sessions c.args.number) there in
    index_listed sessions c.args.number (λ (s : Session). record s { held = s.held ++ c.in_ok-held.held ∷ []; last = c.args.last }) (λ s. refl) (λ s idle. absurd (never c.args.last c.requires.busy idle)) c.args.index.now
    (record c.args.index.now { holders = c.list_holder.new.holders }) c.begin.new.self c.push_held.new.sessions.entries c.is_idle-was_idle.result c.args.iri.now c.requires.index (λ s. ap not c.requires.busy)
    (λ s. ap (λ iri. s.held ++ iri ∷ []) c.in_ok-held.ensures) c.in-Ok.ensures.ok c.is_idle-was_idle.ensures s.0 s.1 refl refl c.list_holder.ensures.filled c.in_ok-first.ensures.listed c.begin.ensures

pub returns-in_err-first-clause-alike : goal.returns-in_err-first-clause-alike
returns-in_err-first-clause-alike c =
    alike_same c.args.index.now.holders.entries c.list_holder.new.holders.entries c.requires.index.filled c.list_holder.ensures.filled (c.args.iri.now ∷ []) c.in_err-first.ensures.unchanged

pub returns-in-Ok-clause-alike : goal.returns-in-Ok-clause-alike
returns-in-Ok-clause-alike c =
    let before = c.args.index.now.holders.entries in
    let iri = c.args.iri.now in
    subst (IsHeldAlike (iri ∷ []) before) (sym (ap (λ (i : Index). i.holders.entries) c.begin.ensures))
    (alike_marked before c.list_holder.new.holders.entries c.requires.index.filled c.list_holder.ensures.filled iri c.args.number true c.in_ok-first.ensures.listed)

pub returns-in-Err-clause-alike : goal.returns-in-Err-clause-alike
returns-in-Err-clause-alike c =
    alike_again c.args.index.now.holders.entries c.undo_listing.new.holders.entries c.requires.index.filled c.undo_listing.ensures.filled c.list_holder.new.holders.entries c.args.iri.now c.args.number true (not c.in_ok-first.first)
    c.in_ok-first.ensures.listed c.undo_listing.ensures.undone
