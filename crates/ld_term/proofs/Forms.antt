-- Trees by their kinds.
use Rattle.std.proofs.Common.{◌≡◌, refl, sym, ap, ◌∙◌, ℕ, List, Bool, Some, rules}
use Rattle.ld_codes.specs.declared.code.Code.TheVariants.{InvalidIriMapping, InvalidTypeMapping}
use Rattle.ld_tree.specs.Names.{Sorted}
use Rattle.ld_tree.specs.declared.tree.Tree.{Tree, out-Tree}
use Rattle.ld_tree.specs.declared.tree.Tree.TheVariants as V
use Rattle.ld_tree.specs.declared.tree.Tree.TheOpen.{Tree-F}
use Rattle.ld_tree.specs.declared.tree.Tree.TheViews.{roll-Tree, the_lemmas}
use Rattle.ld_rec.specs.Outcome.{fails}
use Rattle.ld_rec.specs.Terms.{Define, Draft, by_id_value, type_in}

back : (t : Tree) → roll-Tree (out-Tree t) ≡ t
back t = search (rules, the_lemmas)

forth : (x : Tree-F Tree) → out-Tree (roll-Tree x) ≡ x
forth x = search (rules, the_lemmas)

pub null_out : (t : Tree) → t ≡ V.Null → out-Tree t ≡ Tree-F.Null
null_out t e = ap out-Tree (e ∙ sym V.rolls-Null) ∙ forth Tree-F.Null

pub text_out : (t : Tree) (x : List ℕ) → t ≡ V.Text x → out-Tree t ≡ Tree-F.Text x
text_out t x e = ap out-Tree (e ∙ sym (V.rolls-Text x)) ∙ forth (Tree-F.Text x)

pub no_null : (t : Tree) → (t ≡ V.Null → ⊥) → out-Tree t ≡ Tree-F.Null → ⊥
no_null t other e = other (sym (back t) ∙ ap roll-Tree e ∙ V.rolls-Null)

pub no_text : (t : Tree) → ((x : List ℕ) → t ≡ V.Text x → ⊥) → (x : List ℕ) → out-Tree t ≡ Tree-F.Text x → ⊥
no_text t other x e = other x (sym (back t) ∙ ap roll-Tree e ∙ V.rolls-Text x)

module _ (define : Define) (local : Sorted Tree) (term : List ℕ) (simple : Bool) (draft : Draft) where
  pub other_id : (v : Tree-F Tree) → (v ≡ Tree-F.Null → ⊥) → ((x : List ℕ) → v ≡ Tree-F.Text x → ⊥) → by_id_value define local term simple v draft ≡ fails InvalidIriMapping
  other_id Tree-F.Null null text = absurd (null refl)
  other_id (Tree-F.Bool b) null text = refl
  other_id (Tree-F.Num n) null text = refl
  other_id (Tree-F.Text x) null text = absurd (text x refl)
  other_id (Tree-F.List xs) null text = refl
  other_id (Tree-F.Map es) null text = refl

module _ (define : Define) (local : Sorted Tree) (draft : Draft) where
  pub other_type : (v : Tree-F Tree) → ((x : List ℕ) → v ≡ Tree-F.Text x → ⊥) → type_in define local (Some v) draft ≡ fails InvalidTypeMapping
  other_type Tree-F.Null text = refl
  other_type (Tree-F.Bool b) text = refl
  other_type (Tree-F.Num n) text = refl
  other_type (Tree-F.Text x) text = absurd (text x refl)
  other_type (Tree-F.List xs) text = refl
  other_type (Tree-F.Map es) text = refl
