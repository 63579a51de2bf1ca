-- What is left to print of a list.
use Rattle.std.proofs.Common.{ℕ, Bool, true, false, List}
use Rattle.ld_tree.specs.CompactText.{with_commas, after_commas}

-- it begins with a comma, unless nothing of the list is printed yet
abbrev pub rest_of : Bool → List (List ℕ) → List ℕ
rest_of true texts = with_commas texts
rest_of false texts = after_commas texts
