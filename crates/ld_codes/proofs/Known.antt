-- The list of keywords has each of them.
use Rattle.std.proofs.Common.{◌≡◌, ◌↔◌, ◌∙◌, refl, sym, ap, ℕ, true, false, ◌||◌, List, [], ◌∷◌, Option, None, Some, is_some}
use Rattle.std.specs.Prelude.{bytes_eq}
use Rattle.std.specs.List.{list_any}
use Rattle.std.proofs.lemmas.Slice.Eq.{bytes_eq-Decides}
use Rattle.ld_codes.specs.declared.keyword.Keyword.{Keyword}
use Rattle.ld_codes.specs.declared.keyword.Keyword.TheVariants as k
use Rattle.ld_codes.specs.Keywords.{keyword_text, keywords, is_keyword}

listed : (word : Keyword) → is_keyword (keyword_text word) ≡ true
unfolding is_keyword
listed k.Base = refl
listed k.Container = refl
listed k.Context = refl
listed k.Direction = refl
listed k.Graph = refl
listed k.Id = refl
listed k.Import = refl
listed k.Included = refl
listed k.Index = refl
listed k.Json = refl
listed k.Language = refl
listed k.List = refl
listed k.Nest = refl
listed k.None = refl
listed k.Prefix = refl
listed k.Propagate = refl
listed k.Protected = refl
listed k.Reverse = refl
listed k.Set = refl
listed k.Typed = refl
listed k.Value = refl
listed k.Version = refl
listed k.Vocab = refl

-- a text that no keyword has is found nowhere in the list
unlisted : (text : List ℕ) (words : List Keyword) → ((word : Keyword) → keyword_text word ≡ text → ⊥) → list_any (λ word. bytes_eq text (keyword_text word)) words ≡ false
unlisted text [] none = refl
unlisted text (word ∷ words) none = elim (bytes_eq text (keyword_text word)) as (λ b. bytes_eq text (keyword_text word) ≡ b → list_any (λ word. bytes_eq text (keyword_text word)) (word ∷ words) ≡ false) [
  | true ↦ λ e. absurd (none word (sym ((bytes_eq-Decides text (keyword_text word)).0 e)))
  | false ↦ λ e. ap (λ b. b || list_any (λ word. bytes_eq text (keyword_text word)) words) e ∙ unlisted text words none
] refl

none_some : (word : Keyword) → ◌≡◌ {A = Option Keyword} None (Some word) → ⊥
none_some word e = cc

-- what finds each keyword by its text finds one exactly where the text is a keyword
pub found_is_keyword : (found : Option Keyword) (text : List ℕ) → ((word : Keyword) → (found ≡ Some word) ↔ (keyword_text word ≡ text)) → is_some found ≡ is_keyword text
unfolding is_keyword
found_is_keyword None text finds = sym (unlisted text keywords (λ word e. none_some word ((finds word).1 e)))
found_is_keyword (Some word) text finds = sym (ap is_keyword (sym ((finds word).0 refl)) ∙ listed word)
