-- What is open, and what would complete it.
use Rattle.std.specs.Prelude.{◌≡◌, ℕ, suc, ◌-◌, List, [], ◌∷◌, ◌++◌, length, map, reverse, Option, Some, None}
use Rattle.ld_tree.specs.Names.{Sorted}
use Rattle.ld_tree.specs.Reading.{IsValue, IsMoreItems, IsMoreMembers, IsString, past_space, put_all}
use Rattle.ld_tree.specs.declared.tree.Tree as t
use Rattle.ld_tree.specs.declared.tree.Tree.{Tree}
use Rattle.ld_tree_read.specs.State.{Level, in_list, in_map, Here, value, done}
use Rattle.ld_tree_read.specs.declared.frame.Frame.{Frame}
use Rattle.ld_tree_read.specs.declared.frame.Frame.TheVariants as f

-- x has been read, with d levels left, within the frames, the innermost first: with the rest it makes the whole
unfoldable pub Completes : ℕ → List Frame → Tree → List ℕ → Tree → Type 0
Completes d [] x rest whole = (past_space rest ≡ []) × (x ≡ whole)
Completes d (f.List read ∷ fs) x rest whole = (ts : List Tree) × (r : List ℕ) × IsMoreItems d rest ts r × Completes (suc d) fs (t.List (read ++ x ∷ ts)) r whole
Completes d (f.Map read name ∷ fs) x rest whole = (ms : List (List ℕ × Tree)) × (es : Sorted Tree) × (r : List ℕ) × IsMoreMembers d rest ms r
    × (es.0 ≡ put_all [] (read ++ (name, x) ∷ ms)) × Completes (suc d) fs (t.Map es) r whole

-- the same, where a value is due, or has been read
unfoldable pub MeansAt : ℕ → List Frame → Option Tree → List ℕ → Tree → Type 0
MeansAt d fs None rest whole = (x : Tree) × (r : List ℕ) × IsValue d rest x r × Completes d fs x r whole
MeansAt d fs (Some x) rest whole = Completes d fs x rest whole

-- this stack, what has been read last and the bytes that are left stand for the whole
abbrev pub Means : List Frame → Option Tree → List ℕ → Tree → Type 0
Means stack read rest whole = MeansAt (128 - length stack) (reverse stack) read rest whole

-- what the second state stands for, the first stands for too
pub record Becomes (fs : List Frame) (x : Option Tree) (b : List ℕ) (gs : List Frame) (y : Option Tree) (c : List ℕ) : Type 0 where
  pub back : (whole : Tree) → Means gs y c whole → Means fs x b whole

-- a name (section 4), its colon and the white space round it
pub data IsName : List ℕ → List ℕ → List ℕ → Type 0 where
  named : {b c e name : List ℕ} → IsString b name c → past_space c ≡ 58 ∷ e → IsName (34 ∷ b) name (past_space e)

abbrev pub level_of : Frame → Level
level_of (f.List read) = in_list
level_of (f.Map read name) = in_map

-- what is open, the innermost first
abbrev pub levels : List Frame → List Level
levels stack = map level_of (reverse stack)

-- a value is due, or has been read
abbrev pub due_here : Option Tree → Here
due_here None = value
due_here (Some x) = done
