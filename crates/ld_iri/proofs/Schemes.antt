-- A resolved reference has the scheme of the reference or of the base.
use Rattle.std.proofs.Common.{◌≡◌, ◌∙◌, refl, sym, ap, subst, ℕ, Bool, true, false, cond, ◌&&◌, ◌||◌, ◌⊎◌, ◌==◌, ap₂, List, [], ◌∷◌, ◌++◌, Option, Some, None, is_some, codes, arith, inl, inr, append_assoc}
use Rattle.std.specs.Char.{is_ascii_digit}
use Rattle.std.specs.Str.{IsUtf8}
use Rattle.std.specs.List.{list_all}
use Rattle.std.specs.Cmp.{first_so, second_so}
use Rattle.ld_iri.specs.Components.{Components, parts, recomposed, marked, cut, is_scheme, is_scheme_byte, scheme_from, scheme_and_rest}
use Rattle.ld_iri.specs.Words.{is_iri, allows}
use Rattle.ld_iri.specs.Resolution.{target, resolved, is_empty, begins_with_slash}
use Rattle.ld_iri.proofs.Cuts.{Lacks, cut_past, cut_at}
use Rattle.ld_iri.proofs.Targets.{target_of_scheme, target_of_authority, target_of_empty, target_of_slash, target_of_path}
use Rattle.ld_iri.proofs.Clean.{parts_clean, recomposed_clean}
use Rattle.ld_iri.proofs.CleanPaths.{target_clean, Lacks-cons}

pub record HasScheme (c : Components) : Type 0 where
  pub name : List ℕ
  pub is : c.scheme ≡ Some name
  pub formed : is_scheme name ≡ true

scheme_from_formed : (text name : List ℕ) (rest : Option (List ℕ)) (s : List ℕ) → (scheme_from text name rest).0 ≡ Some s → is_scheme s ≡ true
scheme_from_formed text name None s = λ e. cc
scheme_from_formed text name (Some rest) s = elim (is_scheme name) as (λ b. is_scheme name ≡ b → (cond {A = Option (List ℕ) × List ℕ} b (Some name, rest) (None, text)).0 ≡ Some s → is_scheme s ≡ true) [
  | true ↦ λ formed e. let same : name ≡ s = cc in subst (λ t. is_scheme t ≡ true) same formed
  | false ↦ λ _ e. cc
] refl

parts_formed : (text s : List ℕ) → (parts text).scheme ≡ Some s → is_scheme s ≡ true
unfolding parts
parts_formed text s e = let t = (cut 63 (cut 35 text).0).0 in scheme_from_formed t (cut 58 t).0 (cut 58 t).1 s e

true_false : true ≡ false → ⊥
true_false e = cc

HasScheme-parts : (text : List ℕ) → is_some (parts text).scheme ≡ true → HasScheme (parts text)
HasScheme-parts text has = elim (parts text).scheme as (λ o. is_some o ≡ true → (parts text).scheme ≡ o → HasScheme (parts text)) [
  | None ↦ λ no is. absurd (true_false (sym no))
  | Some s ↦ λ _ is. record { name = s; is = is; formed = parts_formed text s is }
] has refl

Lacks-from_all : (p : ℕ → Bool) (c : ℕ) → p c ≡ false → (xs : List ℕ) → list_all p xs ≡ true → Lacks c xs
Lacks-from_all p c fails [] all = λ i lt. absurd (omega arith)
Lacks-from_all p c fails (x ∷ xs) all =
    Lacks-cons c x xs (λ e. true_false (sym (first_so _ _ all) ∙ ap p e ∙ fails)) (Lacks-from_all p c fails xs (second_so _ _ all))

-- what is no byte of a scheme stands in no scheme
Lacks-scheme : (c : ℕ) → is_scheme_byte c ≡ false → (s : List ℕ) → is_scheme s ≡ true → Lacks c s
Lacks-scheme c fails [] formed = absurd (true_false (sym formed))
Lacks-scheme c fails (b ∷ bs) formed =
    let letter : is_scheme_byte b ≡ true = ap (λ v. v || is_ascii_digit b || b == 43 || b == 45 || b == 46) (first_so _ _ formed) in
    Lacks-cons c b bs (λ e. true_false (sym letter ∙ ap is_scheme_byte e ∙ fails)) (Lacks-from_all is_scheme_byte c fails bs (second_so _ _ formed))

scheme_found : (s rest : List ℕ) → is_scheme s ≡ true → (parts (s ++ 58 ∷ rest)).scheme ≡ Some s
unfolding parts
scheme_found s rest formed =
    let whole = ap (λ (p : List ℕ × Option (List ℕ)). p.0) (cut_past 35 s (58 ∷ rest) (Lacks-scheme 35 refl s formed)) in
    let front = ap (λ (p : List ℕ × Option (List ℕ)). p.0) (cut_past 63 s (58 ∷ (cut 35 rest).0) (Lacks-scheme 63 refl s formed)) in
    let left = (cut 63 (cut 35 rest).0).0 in
    let chosen : (scheme_from (s ++ 58 ∷ left) s (Some left)).0 ≡ Some s = rw formed refl in
    ap (λ t. (scheme_and_rest (cut 63 t).0).0) whole
    ∙ ap (λ t. (scheme_and_rest t).0) front
    ∙ ap (λ (p : List ℕ × Option (List ℕ)). (scheme_from (s ++ 58 ∷ left) p.0 p.1).0) (cut_at 58 s left (Lacks-scheme 58 refl s formed))
    ∙ chosen

regroup : (s a b c d : List ℕ) → s ++ codes ":" ++ a ++ b ++ c ++ d ≡ s ++ 58 ∷ (a ++ b ++ c ++ d)
regroup s a b c d = simp append_assoc

scheme_recomposed : (c : Components) → HasScheme c → is_some (parts (recomposed c)).scheme ≡ true
scheme_recomposed c h =
    let whole : recomposed c ≡ h.name ++ 58 ∷ (marked (codes "//") c.authority ++ c.path ++ marked (codes "?") c.query ++ marked (codes "#") c.fragment) =
    ap (λ o. recomposed (record c { scheme = o })) h.is ∙ regroup h.name (marked (codes "//") c.authority) c.path (marked (codes "?") c.query) (marked (codes "#") c.fragment) in
    ap (λ t. is_some (parts t).scheme) whole ∙ ap is_some (scheme_found h.name _ h.formed)

bool_cases : (b : Bool) → (b ≡ true) ⊎ (b ≡ false)
bool_cases true = inl refl
bool_cases false = inr refl

module _ (base r : Components) where
  target-scheme : is_some r.scheme ≡ false → (target base r).scheme ≡ base.scheme
  target-scheme e = elim (bool_cases (is_some r.authority)) [
    | inl a ↦ ap (λ (t : Components). t.scheme) (target_of_authority base r e a)
    | inr a ↦ elim (bool_cases (is_empty r.path)) [
      | inl p ↦ ap (λ (t : Components). t.scheme) (target_of_empty base r e a p)
      | inr p ↦ elim (bool_cases (begins_with_slash r.path)) [
        | inl s ↦ ap (λ (t : Components). t.scheme) (target_of_slash base r e a p s)
        | inr s ↦ ap (λ (t : Components). t.scheme) (target_of_path base r e a p s)
      ]
    ]
  ]

  HasScheme-target : HasScheme base → (is_some r.scheme ≡ true → HasScheme r) → HasScheme (target base r)
  HasScheme-target h k = elim (bool_cases (is_some r.scheme)) [
    | inl e ↦ let own = k e in record { name = own.name; is = ap (λ (t : Components). t.scheme) (target_of_scheme base r e) ∙ own.is; formed = own.formed }
    | inr e ↦ record { name = h.name; is = target-scheme e ∙ h.is; formed = h.formed }
  ]

pub resolved_form : (base reference : List ℕ) → IsUtf8 base → IsUtf8 reference → is_iri base ≡ true → allows reference ≡ true → is_iri (resolved base reference) ≡ true
unfolding resolved
resolved_form base reference u v iri ok =
    let clean = target_clean (parts base) (parts reference) (parts_clean base (record { utf8 = u; allowed = second_so _ _ iri })) (parts_clean reference (record { utf8 = v; allowed = ok })) in
    let scheme = HasScheme-target (parts base) (parts reference) (HasScheme-parts base (first_so _ _ iri)) (HasScheme-parts reference) in
    ap₂ (λ a b. a && b) (scheme_recomposed (target (parts base) (parts reference)) scheme) (recomposed_clean (target (parts base) (parts reference)) clean).allowed
