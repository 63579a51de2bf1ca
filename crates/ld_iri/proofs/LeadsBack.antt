-- Where a relative reference leads back to its IRI.
use Rattle.std.proofs.Common.{◌≡◌, ◌∙◌, ◌↔◌, refl, sym, ap, ℕ, true, false, List, [], ◌∷◌, Option, Some, None, is_some, codes}
use Rattle.std.specs.Str.{bytes_eq}
use Rattle.std.specs.Option.{option_eq}
use Rattle.std.specs.Cmp.{first_so, second_so}
use Rattle.std.proofs.lemmas.List.{append_cancel_left, append_cancel_right}
use Rattle.std.proofs.lemmas.Slice.Eq.{bytes_eq-Decides}
use Rattle.ld_iri.specs.Components.{parts, recomposed, marked}
use Rattle.ld_iri.specs.Resolution.{resolved, target, remove_dot_segments}
use Rattle.ld_iri.specs.Relative.{relative, has_same_place, is_fragment_of, path_reference}
use Rattle.ld_iri.proofs.Joined.{recomposed-parts}
use Rattle.ld_iri.proofs.Targets.{target_of_scheme, target_of_empty, same_components}
use Rattle.ld_iri.proofs.Relatives.{relative_elsewhere, relative_fragment, relative_back, relative_no_way}

-- the components of a reference of a fragment alone
fragment_alone : (f : List ℕ) → parts (35 ∷ f) ≡ record { scheme = None; authority = None; path = []; query = None; fragment = Some f }
unfolding parts
fragment_alone f = refl

same_option : (a b : Option (List ℕ)) → option_eq bytes_eq a b ≡ true → a ≡ b
same_option None None e = refl
same_option (Some x) (Some y) e = ap Some ((bytes_eq-Decides x y).0 e)
same_option None (Some y) e = cc
same_option (Some x) None e = cc

module _ (base iri : List ℕ) (has : is_some (parts iri).scheme ≡ true) where
  resolved_self : resolved base iri ≡ recomposed (record (parts iri) { path = remove_dot_segments (parts iri).path })
  unfolding resolved
  resolved_self = ap recomposed (target_of_scheme (parts base) (parts iri) has)

  self_from_path : remove_dot_segments (parts iri).path ≡ (parts iri).path → resolved base iri ≡ iri
  self_from_path e = resolved_self ∙ ap (λ (p : List ℕ). recomposed (record (parts iri) { path = p })) e ∙ recomposed-parts iri

  path_from_self : resolved base iri ≡ iri → remove_dot_segments (parts iri).path ≡ (parts iri).path
  path_from_self e =
      let joined = sym resolved_self ∙ e ∙ sym (recomposed-parts iri) in
      append_cancel_left _ _ _ (append_cancel_right _ _ _ (append_cancel_right _ _ _ joined))

  -- where the reference is the IRI itself
  itself : relative base iri ≡ iri → (resolved base (relative base iri) ≡ iri) ↔ (relative base iri ≡ iri → remove_dot_segments (parts iri).path ≡ (parts iri).path)
  itself e = (λ back _. path_from_self (sym (ap (resolved base) e) ∙ back), λ path. ap (resolved base) e ∙ self_from_path (path e))

  -- where it leads back in any case
  leads : resolved base (relative base iri) ≡ iri → (resolved base (relative base iri) ≡ iri) ↔ (relative base iri ≡ iri → remove_dot_segments (parts iri).path ≡ (parts iri).path)
  leads back = (λ _ e. path_from_self (sym (ap (resolved base) e) ∙ back), λ _. back)

  fragment_back : has_same_place (parts base) (parts iri) ≡ true → is_fragment_of (parts base) (parts iri) ≡ true → resolved base (marked (codes "#") (parts iri).fragment) ≡ iri
  unfolding resolved
  fragment_back place fragment =
      let some : is_some (parts iri).fragment ≡ true = second_so _ _ fragment in
      let path = (bytes_eq-Decides (parts base).path (parts iri).path).0 (first_so _ _ (first_so _ _ fragment)) in
      let query = same_option (parts base).query (parts iri).query (second_so _ _ (first_so _ _ fragment)) in
      let scheme = same_option (parts base).scheme (parts iri).scheme (first_so _ _ place) in
      let authority = same_option (parts base).authority (parts iri).authority (second_so _ _ place) in
      elim (parts iri).fragment as (λ f. is_some f ≡ true → f ≡ (parts iri).fragment → recomposed (target (parts base) (parts (marked (codes "#") f))) ≡ iri) [
        | None ↦ λ no is. absurd (none_some no)
        | Some f ↦ λ _ is. ap (λ c. recomposed (target (parts base) c)) (fragment_alone f)
            ∙ ap recomposed (target_of_empty (parts base) (record { scheme = None; authority = None; path = []; query = None; fragment = Some f }) refl refl refl
            ∙ same_components (record (parts base) { fragment = Some f }) (parts iri) scheme authority path query is)
            ∙ recomposed-parts iri
      ] some refl
    where
      none_some : false ≡ true → ⊥
      none_some e = cc

  pub leads_back : (resolved base (relative base iri) ≡ iri) ↔ (relative base iri ≡ iri → remove_dot_segments (parts iri).path ≡ (parts iri).path)
  leads_back = elim (has_same_place (parts base) (parts iri)) as (λ b. has_same_place (parts base) (parts iri) ≡ b → (resolved base (relative base iri) ≡ iri) ↔ (relative base iri ≡ iri → remove_dot_segments (parts iri).path ≡ (parts iri).path)) [
    | false ↦ λ e. itself (relative_elsewhere base iri e)
    | true ↦ λ e. elim (is_fragment_of (parts base) (parts iri)) as (λ b. is_fragment_of (parts base) (parts iri) ≡ b → (resolved base (relative base iri) ≡ iri) ↔ (relative base iri ≡ iri → remove_dot_segments (parts iri).path ≡ (parts iri).path)) [
      | true ↦ λ f. leads (ap (resolved base) (relative_fragment base iri e f) ∙ fragment_back e f)
      | false ↦ λ f. elim (bytes_eq (resolved base (path_reference (parts base) (parts iri))) iri) as (λ b. bytes_eq (resolved base (path_reference (parts base) (parts iri))) iri ≡ b → (resolved base (relative base iri) ≡ iri) ↔ (relative base iri ≡ iri → remove_dot_segments (parts iri).path ≡ (parts iri).path)) [
        | true ↦ λ g. leads (ap (resolved base) (relative_back base iri e f g) ∙ (bytes_eq-Decides _ iri).0 g)
        | false ↦ λ g. itself (relative_no_way base iri e f g)
      ] refl
    ] refl
  ] refl
