use Rattle.std.proofs.Common.{ℕ, refl, ap, ◌∙◌}
use Rattle.std.specs.Map.{keys_of}
use Rattle.ld_history.specs.declared.session.Session.{Session}
use Rattle.ld_history.specs.declared.session.Last.TheVariants as last
use Rattle.ld_history.proofs.IndexSessions.{keys_changed, index_fits, index_begun}
use Rattle.ld_history.proofs.changes.pin.Goals as goal

abbrev pin_change : (request attempt version : ℕ) → Session → Session
pin_change request attempt version = λ s. record s { request = request; attempt = attempt; version = version; last = last.Pinned }

pub begin-requires : goal.begin-requires
begin-requires c =
    index_fits c.args.sessions.now.entries c.args.number (pin_change c.args.request c.args.attempt c.args.version) c.args.index.now c.is_idle-was_idle.result c.requires (λ s. refl) c.is_idle-was_idle.ensures

pub returns-clause-numbers : goal.returns-clause-numbers
returns-clause-numbers c = ap keys_of c.set_pin.ensures ∙ keys_changed c.args.sessions.now.entries c.args.number (pin_change c.args.request c.args.attempt c.args.version)

pub returns-clause-index : goal.returns-clause-index
returns-clause-index c =
    index_begun c.args.sessions.now.entries c.args.number (pin_change c.args.request c.args.attempt c.args.version) (λ s. refl) (λ s idle. cc) c.args.index.now c.begin.new.self c.set_pin.new.sessions.entries c.is_idle-was_idle.result c.requires
    (λ s. refl) (λ s. refl) c.set_pin.ensures c.is_idle-was_idle.ensures c.begin.ensures
