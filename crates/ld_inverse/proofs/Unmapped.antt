-- No term is chosen without vocab, or for an IRI that no term maps to.
use Rattle.std.proofs.Common.{◌≡◌, ℕ, List, Option, None, Ok, Bool, true, false, ◌&&◌, refl, ap, sym, ◌∙◌}
use Rattle.ld_tree.specs.declared.tree.Tree.{Tree}
use Rattle.ld_rec.specs.Records.{Context}
use Rattle.ld_rec.specs.Slots.{slots}
use Rattle.ld_rec.specs.Wishes.{asked, is_reference_wish, preferred, Question}
use Rattle.ld_rec.specs.Compacting.{◌>>=◌, id_of, is_mapped, refers_by, selected, term_chosen, term_for}
use Rattle.ld_inverse.proofs.Under.{none_chosen}

none_for : (context : Context) (iri : List ℕ) (q : Question) (value : Option Tree) → is_mapped context iri ≡ false → term_chosen context iri q value ≡ Ok None
none_for context iri q value e =
    ap (λ b. refers_by context (b && is_reference_wish q.wish) (id_of value) >>= (λ refers. Ok (term_for context iri q refers))) e
    ∙ ap Ok (none_chosen iri (slots context) e q.containers q.kind (preferred q.wish None))

pub not_without_vocab : (context : Context) (iri : List ℕ) (value : Option Tree) (vocab reverse : Bool) → vocab ≡ false → selected context iri value vocab reverse ≡ Ok None
not_without_vocab context iri value true reverse h = cc
not_without_vocab context iri value false reverse h = refl

pub not_selected : (context : Context) (iri : List ℕ) (value : Option Tree) (vocab reverse maps : Bool) → maps ≡ is_mapped context iri → maps ≡ false → selected context iri value vocab reverse ≡ Ok None
not_selected context iri value true reverse maps e h = none_for context iri (asked reverse context.own.language value) value (sym e ∙ h)
not_selected context iri value false reverse maps e h = refl
