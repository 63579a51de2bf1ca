-- How much of a local context's terms is left to do.
use Rattle.std.specs.Prelude.{◌≡◌, ℕ, ◌+◌, Bool, List, [], ◌∷◌, Option, Some, None, is_none, cond}
use Rattle.ld_tree.specs.Names.{Sorted}
use Rattle.ld_tree.specs.Maps.{find, put}
use Rattle.ld_tree.specs.declared.tree.Tree.{Tree}
use Rattle.ld_term.specs.declared.half.Aim.{Aim}
use Rattle.ld_term.specs.declared.half.Aim.TheVariants.{Typed, Backward, Named, Means}
use Rattle.ld_term.specs.declared.half.Wait.{Wait}
use Rattle.ld_term.specs.declared.half.Wait.TheVariants.{Value, Prefix, Own}
use Rattle.ld_term.specs.declared.half.Half.{Half}
use Rattle.ld_term.specs.declared.half.Ready.{Ready}
use Rattle.ld_term.specs.declared.half.Step.{Step}
use Rattle.ld_term.specs.declared.half.Step.TheVariants.{Done, Need, Check as ToCheck}

-- how many names of the local context aren't in the table
abbrev pub names_left : List (List ℕ × Tree) → Sorted Bool → ℕ
names_left [] table = 0
names_left (e ∷ es) table = cond (is_none (find table e.0)) 1 0 + names_left es table

abbrev pub aim_weight : Aim → ℕ
aim_weight (Means iri) = 2
aim_weight Backward = 2
aim_weight Named = 6
aim_weight Typed = 10

abbrev pub wait_weight : Wait → ℕ
wait_weight (Value aim value) = aim_weight aim + 2
wait_weight (Prefix aim value) = aim_weight aim
wait_weight Own = 2

abbrev pub weight : Step → ℕ
weight Done = 0
weight (Need half name) = 1 + wait_weight half.wait
weight (ToCheck ready) = 1

abbrev pub weights : List Half → ℕ
weights [] = 0
weights (half ∷ halves) = wait_weight half.wait + weights halves

abbrev pub halves_of : Step → ℕ
halves_of Done = 0
halves_of (Need half name) = 1
halves_of (ToCheck ready) = 1

-- no name goes out of the table
abbrev pub Grows : Sorted Bool → Sorted Bool → Type 0
Grows old new = (name : List ℕ) → find new name ≡ None → find old name ≡ None

-- the name comes into the table
abbrev pub Enters : Sorted Bool → List ℕ → Sorted Bool → Type 0
Enters old term new = (b : Bool) × Grows (put old term b) new
