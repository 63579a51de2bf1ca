use Rattle.std.proofs.Common.{◌∙◌, sym}
use Rattle.ld_tree.proofs.Same.{same_Decides}
use Rattle.ld_tree.proofs.tree.Tree.is_same.Goals as goal

pub returns : goal.returns
returns c =
    let decides = same_Decides c.args.self.now c.args.other.now in
    (λ h. decides.0 (sym c.eq.ensures ∙ h), λ e. c.eq.ensures ∙ decides.1 e)
