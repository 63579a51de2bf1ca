-- An IRI with vocab and no value, from the question and the term.
use Rattle.std.proofs.Common.{◌≡◌, ℕ, List, Option, Some, None, Ok, false, true, Bor, refl, ap, sym, subst, ◌∙◌}
use Rattle.std.specs.Option.{option_copied}
use Rattle.ld_rec.specs.Records.{Context}
use Rattle.ld_rec.specs.Wishes.{Question, asked}
use Rattle.ld_rec.specs.Compacting.{Outcome, by_form, given_or, name_for, term_for}

-- the term of the question that is asked
pub name_by : (context : Context) (iri : List ℕ) (q : Question) (default : Option (List ℕ)) (term : Option (List ℕ)) → q ≡ asked false default None
    → term ≡ term_for context iri q None → given_or term (by_form context iri false true) ≡ name_for context iri
name_by context iri q default term e f =
    ap (λ t. given_or t (by_form context iri false true)) (f ∙ ap (λ q. term_for context iri q None) e)
