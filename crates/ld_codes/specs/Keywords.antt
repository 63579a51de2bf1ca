-- The keywords: JSON-LD 1.1, "Syntax Tokens and Keywords".
use Rattle.std.specs.Prelude.{ℕ, Bool, List, [], ◌∷◌, codes, bytes_eq}
use Rattle.std.specs.List.{list_any}
use Rattle.ld_codes.specs.declared.keyword.Keyword.{Keyword}
use Rattle.ld_codes.specs.declared.keyword.Keyword.TheVariants as k

abbrev pub keyword_text : Keyword → List ℕ
keyword_text k.Base = codes "@base"
keyword_text k.Container = codes "@container"
keyword_text k.Context = codes "@context"
keyword_text k.Direction = codes "@direction"
keyword_text k.Graph = codes "@graph"
keyword_text k.Id = codes "@id"
keyword_text k.Import = codes "@import"
keyword_text k.Included = codes "@included"
keyword_text k.Index = codes "@index"
keyword_text k.Json = codes "@json"
keyword_text k.Language = codes "@language"
keyword_text k.List = codes "@list"
keyword_text k.Nest = codes "@nest"
keyword_text k.None = codes "@none"
keyword_text k.Prefix = codes "@prefix"
keyword_text k.Propagate = codes "@propagate"
keyword_text k.Protected = codes "@protected"
keyword_text k.Reverse = codes "@reverse"
keyword_text k.Set = codes "@set"
keyword_text k.Typed = codes "@type"
keyword_text k.Value = codes "@value"
keyword_text k.Version = codes "@version"
keyword_text k.Vocab = codes "@vocab"

-- each of them, once
abbrev pub keywords : List Keyword
keywords = k.Base ∷ k.Container ∷ k.Context ∷ k.Direction ∷ k.Graph ∷ k.Id ∷ k.Import ∷ k.Included
    ∷ k.Index ∷ k.Json ∷ k.Language ∷ k.List ∷ k.Nest ∷ k.None ∷ k.Prefix ∷ k.Propagate
    ∷ k.Protected ∷ k.Reverse ∷ k.Set ∷ k.Typed ∷ k.Value ∷ k.Version ∷ k.Vocab ∷ []

-- the text is that of a keyword
unfoldable pub is_keyword : List ℕ → Bool
is_keyword text = list_any (λ keyword. bytes_eq text (keyword_text keyword)) keywords
