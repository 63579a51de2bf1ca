use Rattle.std.proofs.Common.{sym, ap, ◌∙◌, Some}
use Rattle.std.specs.Prelude.{option_map, option_copied}
use Rattle.ld_tree.specs.Names.{Sorted}
use Rattle.ld_tree.specs.Maps.{find}
use Rattle.ld_rec.specs.declared.doc.Doc.{Doc}
use Rattle.ld_ctx.specs.Shares.{value_in}
use Rattle.ld_ctx.proofs.Sharing.{find_shared}
use Rattle.ld_ctx.proofs.stock.Stock.get.Goals as goal

pub returns-in-Some : goal.returns-in-Some
returns-in-Some c =
    let there = ap (λ (s : Sorted Doc). find s c.args.iri.now) (sym c.self.view_is) ∙ find_shared c.self.inside.docs c.args.iri.now ∙ ap (option_map value_in) (sym c.get.ensures ∙ ap option_copied c.in-Some.is) in
    ap Some c.deref.ensures ∙ sym there

pub returns-in-None : goal.returns-in-None
returns-in-None c =
    sym (ap (λ (s : Sorted Doc). find s c.args.iri.now) (sym c.self.view_is) ∙ find_shared c.self.inside.docs c.args.iri.now ∙ ap (option_map value_in) (sym c.get.ensures ∙ ap option_copied c.in-None.is))
