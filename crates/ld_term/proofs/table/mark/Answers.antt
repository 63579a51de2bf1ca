use Rattle.std.proofs.Common.{◌≡◌, refl, sym, ap, subst, Some, None, Ok, Err, OnOk, OnErr, Result, Bool, ℕ, List}
use Rattle.ld_tree.specs.Names.{Sorted}
use Rattle.ld_tree.specs.Maps.{find, put}
use Rattle.ld_term.specs.Sizes.{Grows}
use Rattle.ld_term.proofs.Shrinking.{grows_put}
use Rattle.ld_term.proofs.table.mark.Goals as goal

grows : {X E : Type 0} (r : Result X E) (old new : Sorted Bool) (name : List ℕ) (value : Bool) → OnOk r (new ≡ put old name value) → OnErr r (new ≡ old) → Grows old new
grows (Ok x) old new name value ok err = subst (Grows old) (sym ok) (grows_put old name value)
grows (Err e) old new name value ok err = λ q h. subst (λ t. find t q ≡ None) err h

pub returns-clause-table : goal.returns-clause-table
returns-clause-table c = grows c.put.result c.args.defined.now c.put.new.self c.args.name c.args.value c.put.ensures.map c.put.ensures.unchanged
