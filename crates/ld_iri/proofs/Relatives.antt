-- The cases of a relative reference.
use Rattle.std.proofs.Common.{◌≡◌, refl, ℕ, true, false, List, codes}
use Rattle.std.specs.Str.{bytes_eq}
use Rattle.ld_iri.specs.Components.{parts, marked}
use Rattle.ld_iri.specs.Resolution.{resolved}
use Rattle.ld_iri.specs.Relative.{relative, has_same_place, is_fragment_of, path_reference}

module _ (base iri : List ℕ) where
  pub relative_elsewhere : has_same_place (parts base) (parts iri) ≡ false → relative base iri ≡ iri
  unfolding relative
  relative_elsewhere e = rw e refl

  pub relative_fragment : has_same_place (parts base) (parts iri) ≡ true → is_fragment_of (parts base) (parts iri) ≡ true → relative base iri ≡ marked (codes "#") (parts iri).fragment
  unfolding relative
  relative_fragment e f = rw (e, f) refl

  pub relative_back : has_same_place (parts base) (parts iri) ≡ true → is_fragment_of (parts base) (parts iri) ≡ false
      → bytes_eq (resolved base (path_reference (parts base) (parts iri))) iri ≡ true → relative base iri ≡ path_reference (parts base) (parts iri)
  unfolding relative
  relative_back e f g = rw (e, f, g) refl

  pub relative_no_way : has_same_place (parts base) (parts iri) ≡ true → is_fragment_of (parts base) (parts iri) ≡ false
      → bytes_eq (resolved base (path_reference (parts base) (parts iri))) iri ≡ false → relative base iri ≡ iri
  unfolding relative
  relative_no_way e f g = rw (e, f, g) refl
