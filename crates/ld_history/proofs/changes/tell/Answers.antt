use Rattle.std.proofs.Common.{◌≡◌, refl, sym, ap, ◌∙◌, true, false}
use Rattle.std.specs.Prelude.{not}
use Rattle.std.specs.Map.{keys_of}
use Rattle.ld_history.specs.declared.session.Session.{Session}
use Rattle.ld_history.specs.declared.session.Last.{Last}
use Rattle.ld_history.specs.Words.{is_idle}
use Rattle.ld_history.proofs.IndexSessions.{keys_changed, index_fits, index_begun}
use Rattle.ld_history.proofs.changes.tell.Goals as goal

never : (l : Last) → is_idle l ≡ false → is_idle l ≡ true → ⊥
never l busy idle = let bad : true ≡ false = sym idle ∙ busy in cc

pub begin-requires : goal.begin-requires
begin-requires c =
    index_fits c.args.sessions.now.entries c.args.number (λ (s : Session). record s { last = c.args.last }) c.args.index.now c.is_idle-was_idle.result c.requires.index (λ s. ap not c.requires.busy) c.is_idle-was_idle.ensures

pub returns-clause-numbers : goal.returns-clause-numbers
returns-clause-numbers c = ap keys_of c.set_last.ensures ∙ keys_changed c.args.sessions.now.entries c.args.number (λ (s : Session). record s { last = c.args.last })

pub returns-clause-index : goal.returns-clause-index
returns-clause-index c =
    index_begun c.args.sessions.now.entries c.args.number (λ (s : Session). record s { last = c.args.last }) (λ s. refl) (λ s idle. absurd (never c.args.last c.requires.busy idle)) c.args.index.now c.begin.new.self c.set_last.new.sessions.entries
    c.is_idle-was_idle.result c.requires.index (λ s. ap not c.requires.busy) (λ s. refl) c.set_last.ensures c.is_idle-was_idle.ensures c.begin.ensures
