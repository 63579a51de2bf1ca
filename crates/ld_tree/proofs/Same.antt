-- `==` of trees says whether they are the same value.
use Rattle.std.proofs.Common.{◌≡◌, ◌∙◌, refl, sym, ap, ap₂, subst, Bool, true, true≢false, ◌&&◌, ℕ, List, [], ◌∷◌, map, rules, nat_eq}
use Rattle.std.specs.Bool.{Decides}
use Rattle.std.specs.Cmp.{first_so, second_so, booleans_Decides, signed_Decides}
use Rattle.std.specs.Bool.{beq}
use Rattle.ld_tree.specs.declared.tree.Num.TheVariants as n
use Rattle.std.specs.Cmp.Lexicographic.{pointwise, same_text}
use Rattle.ld_tree.specs.declared.tree.Num.{Num}
use Rattle.ld_tree.specs.declared.tree.Tree.{Tree, out-Tree}
use Rattle.ld_tree.specs.declared.tree.Tree.TheOpen.{Tree-F}
use Rattle.ld_tree.specs.declared.tree.Tree.TheViews.{roll-Tree, the_lemmas}
use Rattle.ld_tree.specs.declared.tree.Tree.TheFolds.{ind-Tree, map-Tree}
use Rattle.ld_tree.specs.contracts.tree.NumPartialEq.TheImpl as num
use Rattle.ld_tree.specs.contracts.tree.TreePartialEq.TheImpl as impl
use Rattle.ld_tree.specs.contracts.tree.TreePartialEq.TheImpl.Laws as laws
use Rattle.ld_tree.specs.contracts.tree.TreeEq.TheImpl.Laws as eqs
use Rattle.ld_tree.specs.declared.tree.Tree.TheBlock as block
use Rattle.ld_tree.specs.Names.{Sorted, same_sorted}
use denote.Hole.Compared.{compared, compared_is}

abbrev same : Tree → Tree → Bool
same = impl.ghosts.eq

one_step : (a b : Tree) → same a b ≡ impl.the_step (compared block.the_members block.the_family block.the_depth Bool true impl.the_step) block.member-Tree a b
one_step a b = compared_is block.the_members block.the_family block.the_depth Bool true impl.the_step laws.local block.member-Tree a b

abbrev P : Tree → Type 0
P a = (b : Tree) → same a b ≡ true → a ≡ b

abbrev S : Type 0
S = (a : Tree) × P a

lists : (ys : List S) (zs : List Tree) → pointwise same (map (λ e. e.0) ys) zs ≡ true → map (λ e. e.0) ys ≡ zs
lists [] [] h = refl
lists [] (z ∷ zs) h = absurd (true≢false (sym h))
lists (y ∷ ys) [] h = absurd (true≢false (sym h))
lists (y ∷ ys) (z ∷ zs) h = ap₂ (λ u v. u ∷ v) (y.1 z (first_so _ _ h)) (lists ys zs (second_so _ _ h))

abbrev entry_same : List ℕ × Tree → List ℕ × Tree → Bool
entry_same p q = pointwise nat_eq p.0 q.0 && same p.1 q.1

entries : (ys : List (List ℕ × S)) (zs : List (List ℕ × Tree)) → pointwise entry_same (map (λ e. (e.0, e.1.0)) ys) zs ≡ true → map (λ e. (e.0, e.1.0)) ys ≡ zs
entries [] [] h = refl
entries [] (z ∷ zs) h = absurd (true≢false (sym h))
entries (y ∷ ys) [] h = absurd (true≢false (sym h))
entries (y ∷ ys) (z ∷ zs) h =
    let both = first_so _ _ h in
    ap₂ (λ u v. u ∷ v) (ap₂ (λ u v. (u, v)) (same_text y.0 z.0 (sym (first_so _ _ both))) (y.1.1 z.1 (second_so _ _ both))) (entries ys zs (second_so _ _ h))

step_list : (xs zs : List Tree) → same (roll-Tree (Tree-F.List xs)) (roll-Tree (Tree-F.List zs)) ≡ pointwise same xs zs
step_list xs zs = one_step _ _ ∙ search (rules, the_lemmas)

step_map : (xs zs : Sorted Tree) → same (roll-Tree (Tree-F.Map xs)) (roll-Tree (Tree-F.Map zs)) ≡ pointwise entry_same xs.0 zs.0
step_map xs zs = one_step _ _ ∙ search (rules, the_lemmas)

step_text : (xs zs : List ℕ) → same (roll-Tree (Tree-F.Text xs)) (roll-Tree (Tree-F.Text zs)) ≡ pointwise nat_eq xs zs
step_text xs zs = one_step _ _ ∙ search (rules, the_lemmas)

step_bool : (x z : Bool) → same (roll-Tree (Tree-F.Bool x)) (roll-Tree (Tree-F.Bool z)) ≡ beq x z
step_bool x z = one_step _ _ ∙ search (rules, the_lemmas)

step_num : (x z : Num) → same (roll-Tree (Tree-F.Num x)) (roll-Tree (Tree-F.Num z)) ≡ num.ghosts.eq x z
step_num x z = one_step _ _ ∙ search (rules, the_lemmas)

nums : (x z : Num) → num.ghosts.eq x z ≡ true → x ≡ z
nums (n.Whole a) (n.Whole b) h = ap n.Whole ((signed_Decides a b).0 h)
nums (n.Whole a) n.OneOne h = absurd (true≢false (sym h))
nums n.OneOne (n.Whole b) h = absurd (true≢false (sym h))
nums n.OneOne n.OneOne h = refl

go : (y : Tree-F S) (z : Tree-F Tree) → same (roll-Tree (map-Tree S Tree (λ e. e.0) y)) (roll-Tree z) ≡ true → roll-Tree (map-Tree S Tree (λ e. e.0) y) ≡ roll-Tree z
go Tree-F.Null Tree-F.Null h = refl
go (Tree-F.Bool x) (Tree-F.Bool z) h = ap (λ t. roll-Tree (Tree-F.Bool t)) ((booleans_Decides x z).0 (sym (step_bool x z) ∙ h))
go (Tree-F.Num x) (Tree-F.Num z) h = ap (λ t. roll-Tree (Tree-F.Num t)) (nums x z (sym (step_num x z) ∙ h))
go (Tree-F.Text x) (Tree-F.Text z) h = ap (λ t. roll-Tree (Tree-F.Text t)) (same_text x z (sym (sym (step_text x z) ∙ h)))
go (Tree-F.List ys) (Tree-F.List zs) h = ap (λ t. roll-Tree (Tree-F.List t)) (lists ys zs (sym (step_list _ _) ∙ h))
go (Tree-F.Map ys) (Tree-F.Map zs) h = ap (λ t. roll-Tree (Tree-F.Map t)) (same_sorted _ _ (entries ys.0 zs.0 (sym (step_map _ _) ∙ h)))
go y z h = absurd (true≢false (sym h ∙ one_step _ _ ∙ search (rules, the_lemmas)))

pub same_tree : (a : Tree) → P a
same_tree = ind-Tree P (λ x y is b h.
    let opened : b ≡ roll-Tree (out-Tree b) = search (rules, the_lemmas) in
    let rolled : same (roll-Tree (map-Tree S Tree (λ e. e.0) y)) (roll-Tree (out-Tree b)) ≡ true = subst (λ v. same (roll-Tree v) (roll-Tree (out-Tree b)) ≡ true) (sym is) (subst (λ v. same (roll-Tree x) v ≡ true) opened h) in
    ap roll-Tree (sym is) ∙ go y (out-Tree b) rolled ∙ sym opened)

pub same_Decides : (a b : Tree) → Decides (same a b) (a ≡ b)
same_Decides a b = (same_tree a b, λ e. subst (λ v. same a v ≡ true) e (eqs.laws-law.refl a))
