use Rattle.std.proofs.Common.{◌-◌, ◌*◌, ap, ◌∙◌, sym}
use Rattle.std.specs.Prelude.{slice_get, option_copied}
use Rattle.ld_blocks.proofs.Joining.{get_full, get_last}
use Rattle.ld_blocks.proofs.blocks.Blocks.get.Goals as goal

pub returns-in-Some : goal.returns-in-Some
returns-in-Some g c =
    c.item_of-in-Some.ensures
    ∙ sym (get_full _ _ _ c.self.invariant c.args.place c.in-Some.block.now (sym c.item_of.ensures ∙ ap option_copied c.in-Some.is))
    ∙ ap (λ l. slice_get l.items c.args.place) c.self.view_is

pub returns-in-None : goal.returns-in-None
returns-in-None g c =
    c.item_of-in-None.ensures
    ∙ ap (λ n. slice_get c.self.inside.last.items (c.args.place - 4096 * n)) c.len.ensures
    ∙ sym (get_last _ _ _ c.self.invariant c.args.place (sym c.item_of.ensures ∙ ap option_copied c.in-None.is))
    ∙ ap (λ l. slice_get l.items c.args.place) c.self.view_is
