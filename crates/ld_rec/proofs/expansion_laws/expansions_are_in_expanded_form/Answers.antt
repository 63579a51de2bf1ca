use Rattle.std.proofs.Common.{◌≡◌, true, Ok, Err}
use Rattle.std.specs.Prelude.{Result, IfOk}
use Rattle.ld_tree.specs.declared.tree.Tree.{Tree}
use Rattle.ld_rec.specs.declared.stop.Stop.{Stop}
use Rattle.ld_rec.specs.Expansion.{expanded}
use Rattle.ld_rec.specs.Form.{in_expanded_form}
use Rattle.ld_rec.proofs.FormedHolding.{HoldsOf}
use Rattle.ld_rec.proofs.FormedElements.{good_expansion}
use Rattle.ld_rec.proofs.expansion_laws.expansions_are_in_expanded_form.Goals as goal

if_ok : (P : Tree → Type 0) (r : Result Tree Stop) → HoldsOf P r → IfOk r P
if_ok P (Ok tree) h = h
if_ok P (Err e) h = tt

pub returns : goal.returns
returns c = λ stock base document. if_ok (λ tree. in_expanded_form tree ≡ true) (expanded stock base document).result (good_expansion base document stock)
