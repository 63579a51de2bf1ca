-- The words of a command line.
use Rattle.std.proofs.Common.{◌≡◌, ◌∙◌, ℕ, ◌<◌, ◌≤◌, Bool, IsTrue, List, [], ◌∷◌, length, get_or, nat_eq, sym, ap, arith}
use Rattle.std.specs.Cmp.Lexicographic.{pointwise, same_text, nat_list_eq_equiv}

-- a list of one item
pub only_item : {A : Type 0} (xs : List A) (x : A) → 1 ≤ length xs → length xs < 2 → x ≡ get_or xs 0 x → xs ≡ x ∷ []
only_item [] x some one is = absurd (omega arith)
only_item (y ∷ []) x some one is = ap (λ z. z ∷ []) (sym is)
only_item (y ∷ z ∷ zs) x some one is = absurd (omega arith)

-- one word is another exactly where the test of their bytes says so
pub same_one : (test : Bool) (seen word expected : List ℕ) → test ≡ pointwise nat_eq seen expected → seen ≡ word
    → (IsTrue test → word ∷ [] ≡ expected ∷ []) × (word ∷ [] ≡ expected ∷ [] → IsTrue test)
same_one test seen word expected is same = (
  λ h. ap (λ w. w ∷ []) (sym same ∙ same_text seen expected (sym (sym is ∙ h))),
  λ e. let here : word ≡ expected = cc in is ∙ ap (λ w. pointwise nat_eq w expected) (same ∙ here) ∙ nat_list_eq_equiv.refl expected,
)
