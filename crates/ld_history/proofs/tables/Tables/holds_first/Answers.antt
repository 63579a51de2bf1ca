use Rattle.std.proofs.Common.{sym, ap, ◌∙◌, ◌&&◌}
use Rattle.std.specs.List.{list_any}
use Rattle.ld_history.specs.Seen.{seen}
use Rattle.ld_history.specs.Words.{is_stored}
use Rattle.ld_history.specs.Rules.{is_least_holder}
use Rattle.ld_history.proofs.IndexFirst.{first_of, none_of}
use Rattle.ld_history.proofs.tables.Tables.holds_first.Goals as goal

pub returns-in-Some : goal.returns-in-Some
returns-in-Some c =
    let store = seen c.args.self.now in
    c.is_first_of.ensures ∙ ap (list_any (λ iri. is_stored store iri && is_least_holder store c.args.session iri)) c.as_slice.ensures
    ∙ first_of store c.args.self.now.indexed.sorted c.args.session c.in-Some.s.now (sym c.in-Some.ensures)

pub returns-in-None : goal.returns-in-None
returns-in-None c = none_of (seen c.args.self.now) c.args.self.now.indexed.sorted c.args.session (sym c.in-None.ensures)
