-- What is preferred, by whether the wish is `@reverse`.
use Rattle.std.proofs.Common.{◌≡◌, ℕ, List, [], ◌∷◌, ◌++◌, Option, Bool, ap, ◌∙◌, sym}
use Rattle.std.specs.Prelude.{codes, if◌then◌else◌}
use Rattle.std.specs.Str.{bytes_eq}
use Rattle.ld_rec.specs.Records.{Context}
use Rattle.ld_rec.specs.Selection.{chosen}
use Rattle.ld_rec.specs.Wishes.{Question, by_wish}
use Rattle.ld_rec.specs.Compacting.{term_for}

pub term_by_wish : (context : Context) (iri : List ℕ) (q : Question) (refers : Option Bool) (b : Bool) → bytes_eq q.wish (codes "@reverse") ≡ b
    → chosen context iri q.containers q.kind ((if b then codes "@reverse" ∷ [] else []) ++ by_wish q.wish refers ++ codes "@any" ∷ []) ≡ term_for context iri q refers
term_by_wish context iri q refers b e =
    ap (λ b. chosen context iri q.containers q.kind ((if b then codes "@reverse" ∷ [] else []) ++ by_wish q.wish refers ++ codes "@any" ∷ [])) (sym e)
