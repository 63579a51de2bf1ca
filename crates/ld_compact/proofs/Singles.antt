-- The single values within a value, level by level.
use Rattle.std.proofs.Common.{◌≡◌, ◌∙◌, refl, ap, ℕ, Bool, List, [], ◌∷◌, ◌++◌, map}
use Rattle.ld_tree.specs.Names.{Sorted, same_sorted}
use Rattle.ld_tree.specs.formers.entries.Entries.{on_value}
use Rattle.ld_tree.specs.declared.tree.Num.{Num}
use Rattle.ld_tree.specs.declared.tree.Tree.{Tree, out-Tree}
use Rattle.ld_tree.specs.declared.tree.Tree.TheVariants as V
use Rattle.ld_tree.specs.declared.tree.Tree.TheOpen.{Tree-F}
use Rattle.ld_tree.specs.declared.tree.Tree.TheFolds.{map-Tree}
use Rattle.ld_tree.specs.declared.tree.Tree.TheViews as W
use Rattle.ld_tree.proofs.Recursion.{para-out}
use Rattle.ld_rec.specs.Kinds.{map_of}
use Rattle.ld_compact.specs.Adding.{singles, singles_step, joined, all_singles}

-- what is paired with each value is left out again
pub values_same : {A : Type 0} (f : Tree → Tree × A) → ((t : Tree) → (f t).0 ≡ t) → (es : List (List ℕ × Tree)) → map (on_value (λ p. p.0)) (map (on_value f) es) ≡ es
values_same f same [] = refl
values_same f same (e ∷ es) = λ i. (e.0, same e.1 i) ∷ values_same f same es i

abbrev beside : Tree → Tree × List Tree
beside t = (t, singles t)

abbrev at_level : Tree-F Tree → List Tree
at_level y = singles_step (map-Tree Tree (Tree × List Tree) beside y)

singles_level : (t : Tree) → singles t ≡ at_level (out-Tree t)
unfolding singles
singles_level t = para-out (List Tree) singles_step t

joined_all : (ts : List Tree) → joined (map beside ts) ≡ all_singles ts
joined_all [] = refl
joined_all (t ∷ ts) = ap (λ (l : List Tree). singles t ++ l) (joined_all ts)

abbrev alone : Tree → List Tree
alone t = t ∷ []

pub singles_list : (ts : List Tree) → singles (V.List ts) ≡ all_singles ts
singles_list ts = singles_level (V.List ts) ∙ ap at_level (W.outs-List ts) ∙ joined_all ts

pub singles_map : (es : Sorted Tree) → singles (V.Map es) ≡ V.Map es ∷ []
singles_map es =
    singles_level (V.Map es) ∙ ap at_level (W.outs-Map es)
    ∙ ap (λ (s : Sorted Tree). alone (map_of s)) (same_sorted _ es (values_same beside (λ t. refl) es.0)) ∙ ap alone (V.rolls-Map es)

pub singles_null : singles V.Null ≡ V.Null ∷ []
singles_null = singles_level V.Null ∙ ap at_level W.outs-Null ∙ ap alone V.rolls-Null

pub singles_text : (text : List ℕ) → singles (V.Text text) ≡ V.Text text ∷ []
singles_text text = singles_level (V.Text text) ∙ ap at_level (W.outs-Text text) ∙ ap alone (V.rolls-Text text)

pub singles_bool : (b : Bool) → singles (V.Bool b) ≡ V.Bool b ∷ []
singles_bool b = singles_level (V.Bool b) ∙ ap at_level (W.outs-Bool b) ∙ ap alone (V.rolls-Bool b)

pub singles_num : (n : Num) → singles (V.Num n) ≡ V.Num n ∷ []
singles_num n = singles_level (V.Num n) ∙ ap at_level (W.outs-Num n) ∙ ap alone (V.rolls-Num n)

pub ruleset singles_levels = (singles_list, singles_map, singles_null, singles_text, singles_bool, singles_num)
