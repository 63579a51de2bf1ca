use Rattle.std.proofs.Common.{◌≡◌, ◌∙◌, ℕ, ◌<◌, ◌≤◌, List, [], ◌∷◌, Option, Some, None, length, get_or, map, string_bytes, refl, sym, ap, ap₂, nat_eq, arith}
use Rattle.std.specs.Cmp.Lexicographic.{pointwise, same_text}
use Rattle.std.specs.Prelude.{codes, decimal, MatchOption}
use Rattle.ld_once.specs.Runs.{IsSoak, IsSoakOf, soak_limit}
use Rattle.ld_once.proofs.soak.soak_count.Goals as goal

two_items : {A : Type 0} (xs : List A) (x y : A) → 2 ≤ length xs → length xs < 3 → x ≡ get_or xs 0 x → y ≡ get_or xs 1 y → xs ≡ x ∷ y ∷ []
two_items [] x y some few first second = absurd (omega (arith, some))
two_items (a ∷ []) x y some few first second = absurd (omega (arith, some))
two_items (a ∷ b ∷ []) x y some few first second = ap₂ (λ v w. v ∷ w ∷ []) (sym first) (sym second)
two_items (a ∷ b ∷ c ∷ cs) x y some few first second = absurd (omega (arith, few))

number_of : (a b x y : List ℕ) → a ∷ b ∷ [] ≡ x ∷ y ∷ [] → b ≡ y
number_of a b x y e = cc

counted : (words : List (List ℕ)) (word number seen : List ℕ) (found : Option ℕ) → words ≡ word ∷ number ∷ [] → word ≡ codes "soak" → seen ≡ number
    → MatchOption found ((n : ℕ) → 1 ≤ n → n ≤ soak_limit → seen ≡ decimal n → ⊥) (λ n. (1 ≤ n) × (n ≤ soak_limit) × (seen ≡ decimal n))
    → MatchOption found (IsSoak words → ⊥) (IsSoakOf words)
counted words word number seen None two is same h = λ soak. h soak.0 soak.1.0 soak.1.1 (same ∙ number_of word number (codes "soak") (decimal soak.0) (sym two ∙ soak.1.2))
counted words word number seen (Some n) two is same h = (h.0, h.1, two ∙ ap₂ (λ v w. v ∷ w ∷ []) is (sym same ∙ h.2))

pub returns-in-len2 : goal.returns-in-len2
returns-in-len2 c =
    counted (map (string_bytes) c.args.words.now) (string_bytes c.word-item.result) (string_bytes c.number-item.result) c.as_str-in-len2.result.now c.count_of.result
    (ap (map (string_bytes)) (two_items c.args.words.now c.word-item.result c.number-item.result c.in-len2.len_at_least c.in-len2.len_below c.word-item.is c.number-item.is))
    (sym c.as_str.ensures.value ∙ same_text c.as_str.result.now (codes "soak") (sym (sym c.eq.ensures ∙ c.if-eq.true))) c.as_str-in-len2.ensures.value c.count_of.ensures
