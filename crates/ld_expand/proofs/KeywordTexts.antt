-- Keywords by their texts.
use Rattle.std.proofs.Common.{◌≡◌, ◌∙◌, refl, sym, ap, subst, ℕ, List, [], ◌∷◌, Bool, true, false, cond, Option, Some, None}
use Rattle.std.specs.Prelude.{◌↔◌, find as first_with}
use Rattle.std.specs.Str.{bytes_eq}
use Rattle.std.specs.Cmp.Lexicographic.{same_text}
use Rattle.ld_codes.specs.declared.keyword.Keyword.{Keyword}
use Rattle.ld_codes.specs.declared.keyword.Keyword.TheVariants as k
use Rattle.ld_codes.specs.Keywords.{keyword_text, keywords}
use Rattle.ld_rec.specs.Expansion.{keyword_of}

-- the keyword of a keyword's text is itself
of_text : (keyword : Keyword) → keyword_of (keyword_text keyword) ≡ Some keyword
unfolding keyword_of
of_text k.Base = refl
of_text k.Container = refl
of_text k.Context = refl
of_text k.Direction = refl
of_text k.Graph = refl
of_text k.Id = refl
of_text k.Import = refl
of_text k.Included = refl
of_text k.Index = refl
of_text k.Json = refl
of_text k.Language = refl
of_text k.List = refl
of_text k.Nest = refl
of_text k.None = refl
of_text k.Prefix = refl
of_text k.Propagate = refl
of_text k.Protected = refl
of_text k.Reverse = refl
of_text k.Set = refl
of_text k.Typed = refl
of_text k.Value = refl
of_text k.Version = refl
of_text k.Vocab = refl

first_none : (text : List ℕ) (ks : List Keyword) → ((keyword : Keyword) → bytes_eq text (keyword_text keyword) ≡ true → ⊥) → first_with (λ keyword. bytes_eq text (keyword_text keyword)) ks ≡ None
first_none text [] h = refl
first_none text (keyword ∷ ks) h =
    elim (bytes_eq text (keyword_text keyword)) as (λ b. (b ≡ true → ⊥) → cond b (Some keyword) (first_with (λ other. bytes_eq text (keyword_text other)) ks) ≡ None) [
      | true ↦ λ never. absurd (never refl)
      | false ↦ λ _. first_none text ks h
    ] (h keyword)

-- what tells each keyword by its text gives the keyword of the text
pub keyword_is : (found : Option Keyword) (text : List ℕ) → ((keyword : Keyword) → (found ≡ Some keyword) ↔ (keyword_text keyword ≡ text)) → found ≡ keyword_of text
unfolding keyword_of
keyword_is (Some keyword) text h = sym (ap keyword_of (sym ((h keyword).0 refl)) ∙ of_text keyword)
keyword_is None text h = sym (first_none text keywords (λ keyword e. none_some keyword ((h keyword).1 (sym (same_text text (keyword_text keyword) (sym e))))))
  where
    none_some : (keyword : Keyword) → None ≡ Some keyword → ⊥
    none_some keyword e = cc
