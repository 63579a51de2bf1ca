-- What holds of every tree that bytes read as.
use Rattle.std.specs.Prelude.{ℕ, ◌^◌, ℤ, pos, negsuc, Bool, true, ◌&&◌, nat_lt, List, [], ◌∷◌}
use Rattle.std.specs.Str.{is_utf8}
use Rattle.std.specs.Map.{keys_of, values_of}
use Rattle.ld_tree.specs.declared.tree.Num.TheVariants as n
use Rattle.ld_tree.specs.declared.tree.Tree.{Tree}
use Rattle.ld_tree.specs.declared.tree.Tree.TheOpen.{Tree-F}
use Rattle.ld_tree.specs.declared.tree.Tree.TheFolds.{fold-Tree}

abbrev pub all_true : List Bool → Bool
all_true [] = true
all_true (b ∷ bs) = b && all_true bs

-- a whole number of 64 bits
abbrev pub in_64_bits : ℤ → Bool
in_64_bits (pos v) = nat_lt v (2 ^ 63)
in_64_bits (negsuc v) = nat_lt v (2 ^ 63)

abbrev pub fits_step : Tree-F Bool → Bool
fits_step (Tree-F.Num (n.Whole v)) = in_64_bits v
fits_step (Tree-F.List bs) = all_true bs
fits_step (Tree-F.Map es) = all_true (values_of es.0)
fits_step _ = true

-- each whole number in the tree has 64 bits
abbrev pub fits : Tree → Bool
fits = fold-Tree Bool fits_step

abbrev pub all_utf8 : List (List ℕ) → Bool
all_utf8 [] = true
all_utf8 (x ∷ xs) = is_utf8 x && all_utf8 xs

abbrev pub spelled_step : Tree-F Bool → Bool
spelled_step (Tree-F.Text x) = is_utf8 x
spelled_step (Tree-F.List bs) = all_true bs
spelled_step (Tree-F.Map es) = all_utf8 (keys_of es.0) && all_true (values_of es.0)
spelled_step _ = true

-- each text and each name in the tree is UTF-8
abbrev pub spelled : Tree → Bool
spelled = fold-Tree Bool spelled_step
