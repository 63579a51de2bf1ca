-- The parts of a text, joined again.
use Rattle.std.proofs.Common.{◌≡◌, ◌∙◌, refl, sym, ap, ℕ, true, false, cond, List, ◌++◌, drop, Option, Some, None, codes, nat_eq, append_assoc}
use Rattle.std.specs.List.{starts_with}
use Rattle.std.proofs.lemmas.Bool.Decides.{Decides-eqb}
use Rattle.std.proofs.lemmas.Slice.Eq.{starts_is}
use Rattle.ld_iri.specs.Components.{parts, recomposed, marked, ended, cut, is_scheme, scheme_from, scheme_and_rest, authority_and_path}
use Rattle.ld_iri.proofs.Cuts.{cut-joined}

scheme_from-joined : (text name : List ℕ) (rest : Option (List ℕ)) → name ++ marked (codes ":") rest ≡ text → ended (scheme_from text name rest).0 (codes ":") ++ (scheme_from text name rest).1 ≡ text
scheme_from-joined text name None e = refl
scheme_from-joined text name (Some rest) e =
    elim (is_scheme name) as (λ b. (p : Option (List ℕ) × List ℕ) → p ≡ cond b (Some name, rest) (None, text) → ended p.0 (codes ":") ++ p.1 ≡ text) [
      | true ↦ λ p is. ap (λ (q : Option (List ℕ) × List ℕ). ended q.0 (codes ":") ++ q.1) is ∙ append_assoc name (codes ":") rest ∙ e
      | false ↦ λ p is. ap (λ (q : Option (List ℕ) × List ℕ). ended q.0 (codes ":") ++ q.1) is
    ] (scheme_from text name (Some rest)) refl

pub scheme-joined : (text : List ℕ) → ended (scheme_and_rest text).0 (codes ":") ++ (scheme_and_rest text).1 ≡ text
scheme-joined text = scheme_from-joined text (cut 58 text).0 (cut 58 text).1 (cut-joined 58 text)

pub authority-joined : (text : List ℕ) → marked (codes "//") (authority_and_path text).0 ++ (authority_and_path text).1 ≡ text
authority-joined text =
    let begins = starts_is Decides-eqb text (codes "//") (starts_with nat_eq text (codes "//")) refl in
    elim (starts_with nat_eq text (codes "//")) as (λ b. (b ≡ true → text ≡ codes "//" ++ drop 2 text) → (p : Option (List ℕ) × List ℕ)
    → p ≡ cond b (Some (cut 47 (drop 2 text)).0, marked (codes "/") (cut 47 (drop 2 text)).1) (None, text) → marked (codes "//") p.0 ++ p.1 ≡ text) [
      | true ↦ λ same p is. ap (λ (q : Option (List ℕ) × List ℕ). marked (codes "//") q.0 ++ q.1) is
          ∙ append_assoc (codes "//") (cut 47 (drop 2 text)).0 (marked (codes "/") (cut 47 (drop 2 text)).1)
          ∙ ap (λ t. codes "//" ++ t) (cut-joined 47 (drop 2 text)) ∙ sym (same refl)
      | false ↦ λ same p is. ap (λ (q : Option (List ℕ) × List ℕ). marked (codes "//") q.0 ++ q.1) is
    ] begins.0 (authority_and_path text) refl

pub recomposed-parts : (text : List ℕ) → recomposed (parts text) ≡ text
unfolding parts
recomposed-parts text =
    let whole = cut 35 text in
    let front = cut 63 whole.0 in
    let s = scheme_and_rest front.0 in
    let a = authority_and_path s.1 in
    ap (λ x. x ++ marked (codes "?") front.1 ++ marked (codes "#") whole.1)
    (append_assoc (ended s.0 (codes ":")) (marked (codes "//") a.0) a.1 ∙ ap (λ x. ended s.0 (codes ":") ++ x) (authority-joined s.1) ∙ scheme-joined front.0)
    ∙ ap (λ x. x ++ marked (codes "#") whole.1) (cut-joined 63 whole.0)
    ∙ cut-joined 35 text
