-- The cases of transforming a reference (RFC 3986, section 5.2.2).
use Rattle.std.proofs.Common.{◌≡◌, ◌∙◌, refl, sym, ap, ℕ, Bool, true, false, List, [], ◌∷◌, Option, Some, None, is_some, option_copied, Bor, eqb, length, get_or, arith}
use Rattle.std.specs.Bool.{Decides}
use Rattle.std.specs.Option.{option_or}
use Rattle.std.proofs.lemmas.Bool.Decides.{same_from_decides, Decides-eqb}
use Rattle.ld_iri.proofs.Cuts.{eqb-other}
use Rattle.ld_iri.specs.Components.{Components}
use Rattle.ld_iri.specs.Resolution.{target, remove_dot_segments, is_empty, begins_with_slash, without_dots, merged, segments}

pub is_some-option_copied : (o : Option (Bor (List ℕ))) → is_some (option_copied o) ≡ is_some o
is_some-option_copied None = refl
is_some-option_copied (Some x) = refl

pub copied_is : (o : Option (Bor (List ℕ))) (b : Bool) → b ≡ is_some o → is_some (option_copied o) ≡ b
copied_is o b e = is_some-option_copied o ∙ sym e

pub option_copied-option_or : (a b : Option (Bor (List ℕ))) → option_copied (option_or a b) ≡ option_or (option_copied a) (option_copied b)
option_copied-option_or None b = refl
option_copied-option_or (Some x) b = refl

pub is_empty-length : (xs : List ℕ) → is_empty xs ≡ eqb (length xs) 0
is_empty-length [] = refl
is_empty-length (x ∷ xs) = sym (eqb-other (length (x ∷ xs)) 0 (λ e. absurd (omega arith)))

begins_with_slash-first : (xs : List ℕ) → begins_with_slash xs ≡ eqb (get_or xs 0 0) 47
begins_with_slash-first [] = refl
begins_with_slash-first (x ∷ xs) = refl

pub begins_with_slash-from : (xs : List ℕ) (r : Bool) → Decides r (get_or xs 0 0 ≡ 47) → begins_with_slash xs ≡ r
begins_with_slash-from xs r h = begins_with_slash-first xs ∙ sym (same_from_decides r _ h (Decides-eqb (get_or xs 0 0) 47))

pub same_components : (a b : Components) → a.scheme ≡ b.scheme → a.authority ≡ b.authority → a.path ≡ b.path → a.query ≡ b.query → a.fragment ≡ b.fragment → a ≡ b
same_components a b s u p q f =
    ap (λ (x : Option (List ℕ)). record a { scheme = x }) s
    ∙ ap (λ (x : Option (List ℕ)). record a { scheme = b.scheme; authority = x }) u
    ∙ ap (λ (x : List ℕ). record a { scheme = b.scheme; authority = b.authority; path = x }) p
    ∙ ap (λ (x : Option (List ℕ)). record b { query = x; fragment = a.fragment }) q
    ∙ ap (λ (x : Option (List ℕ)). record b { fragment = x }) f

module _ (base r : Components) where
  pub target_of_scheme : is_some r.scheme ≡ true → target base r ≡ record r { path = remove_dot_segments r.path }
  unfolding target
  target_of_scheme s = rw s refl

  pub target_of_authority : is_some r.scheme ≡ false → is_some r.authority ≡ true → target base r ≡ record r { scheme = base.scheme; path = remove_dot_segments r.path }
  unfolding target
  target_of_authority s a = rw (s, a) refl

  pub target_of_empty : is_some r.scheme ≡ false → is_some r.authority ≡ false → is_empty r.path ≡ true → target base r ≡ record base { query = option_or r.query base.query; fragment = r.fragment }
  unfolding target
  target_of_empty s a p = rw (s, a, p) refl

  pub target_of_slash : is_some r.scheme ≡ false → is_some r.authority ≡ false → is_empty r.path ≡ false → begins_with_slash r.path ≡ true
      → target base r ≡ record base { path = remove_dot_segments r.path; query = r.query; fragment = r.fragment }
  unfolding target
  target_of_slash s a p b = rw (s, a, p, b) refl

  pub target_of_path : is_some r.scheme ≡ false → is_some r.authority ≡ false → is_empty r.path ≡ false → begins_with_slash r.path ≡ false
      → target base r ≡ record base { path = without_dots (merged base (segments r.path)); query = r.query; fragment = r.fragment }
  unfolding target
  target_of_path s a p b = rw (s, a, p, b) refl

  -- the target with any path, where the reference has a path
  pub target_with_path : (path : List ℕ) → is_some r.scheme ≡ false → is_some r.authority ≡ false → is_empty r.path ≡ false
      → record (target base r) { path = path } ≡ record base { path = path; query = r.query; fragment = r.fragment }
  unfolding target
  target_with_path path s a p = rw (s, a, p) refl
