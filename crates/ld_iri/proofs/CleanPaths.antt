-- Paths with none but allowed characters.
use Rattle.std.proofs.Common.{◌≡◌, ◌≢◌, ◌∙◌, refl, sym, ap, subst, ℕ, zero, suc, ◌-◌, ◌<◌, true, false, cond, ◌&&◌, ◌⊎◌, List, [], ◌∷◌, ◌++◌, length, get_or, Option, Some, None, is_some, codes, fold, arith, lit<, inl, inr}
use Rattle.std.specs.Option.{option_or}
use Rattle.std.specs.List.{join_with_byte}
use Rattle.std.proofs.lemmas.Bool.Decides.{eqb_tells}
use Rattle.std.proofs.lemmas.List.{take_at, get_or_at, get_or-append_right, length-append}
use Rattle.std.proofs.lemmas.List.Splits.{join_with_byte-slice_split}
use Rattle.ld_iri.specs.Components.{Components}
use Rattle.ld_iri.specs.Resolution.{segments, all_but_last, folders, merged, target, is_dot, is_two_dots, is_dots, is_empty, begins_with_slash, without_last, next_output, last_slash, moved, without_dots, remove_dot_segments}
use Rattle.ld_iri.proofs.Cuts.{Lacks}
use Rattle.ld_iri.proofs.Segments.{without_last_at, without_last_none}
use Rattle.ld_iri.proofs.Clean.{IsClean, IsClean-nil, IsClean-append, IsClean-mark, IsClean-split, IsCleanIfSome, AreClean}

pub Lacks-cons : (c b : ℕ) (bs : List ℕ) → b ≢ c → Lacks c bs → Lacks c (b ∷ bs)
Lacks-cons c b bs ne l zero lt = ne
Lacks-cons c b bs ne l (suc i) lt = l i (omega arith)

-- the last slash of a text, where it has one
last_slash_of : (bs : List ℕ) → Lacks 47 bs ⊎ ((a : List ℕ) × (b : List ℕ) × (bs ≡ a ++ 47 ∷ b) × Lacks 47 b)
last_slash_of [] = inl (λ i lt. absurd (omega arith))
last_slash_of (x ∷ xs) = elim (last_slash_of xs) [
  | inr h ↦ inr (x ∷ h.0, h.1, ap (λ t. x ∷ t) h.2, h.3)
  | inl l ↦ elim (eqb_tells x 47) [
    | inl h ↦ inr ([], xs, ap (λ y. y ∷ xs) h.1, l)
    | inr h ↦ inl (Lacks-cons 47 x xs h.1 l)
  ]
]

past_slash : (a b : List ℕ) → Lacks 47 b → (i : ℕ) → length a < i → i < length (a ++ 47 ∷ b) → get_or (a ++ 47 ∷ b) i 0 ≢ 47
past_slash a b l i past within =
    let step : i - length a ≡ suc (i - length a - 1) = omega arith in
    let place : get_or (a ++ 47 ∷ b) i 0 ≡ get_or b (i - length a - 1) 0 = get_or-append_right a (47 ∷ b) (length a) i 0 refl (omega arith) ∙ ap (λ k. get_or (47 ∷ b) k 0) step in
    subst (λ x. x ≢ 47) (sym place) (l (i - length a - 1) (omega (arith, length-append a (47 ∷ b))))

without_last-joined : (a b : List ℕ) → Lacks 47 b → without_last (a ++ 47 ∷ b) ≡ a
without_last-joined a b l = without_last_at (a ++ 47 ∷ b) (length a) (omega (arith, length-append a (47 ∷ b))) (get_or_at a 47 b 0 (length a) refl) (past_slash a b l) ∙ take_at a (47 ∷ b) (length a) refl

without_last_clean : (out : List ℕ) → IsClean out → IsClean (without_last out)
without_last_clean out h = elim (last_slash_of out) [
  | inl l ↦ subst IsClean (sym (without_last_none out l)) IsClean-nil
  | inr p ↦ subst IsClean (sym (ap without_last p.2 ∙ without_last-joined p.0 p.1 p.3)) (IsClean-split 47 (lit< tt) p.0 p.1 (subst IsClean p.2 h)).0
]

slash_clean : IsClean (47 ∷ [])
slash_clean = IsClean-mark 47 (lit< tt) refl

next_output_clean : (out s : List ℕ) → IsClean out → IsClean s → IsClean (next_output out s)
next_output_clean out s h k = elim (is_dot s) as (λ b. IsClean (cond b out (cond (is_two_dots s) (without_last out) (out ++ 47 ∷ s)))) [
  | true ↦ h
  | false ↦ elim (is_two_dots s) as (λ b. IsClean (cond b (without_last out) (out ++ 47 ∷ s))) [
    | true ↦ without_last_clean out h
    | false ↦ IsClean-append out (47 ∷ s) h (IsClean-append (47 ∷ []) s slash_clean k)
  ]
]

abbrev pub AllClean : List (List ℕ) → Type 0
AllClean [] = Unit {0}
AllClean (s ∷ rest) = IsClean s × AllClean rest

fold_clean : (rest : List (List ℕ)) (out : List ℕ) → IsClean out → AllClean rest → IsClean (fold next_output out rest)
fold_clean [] out h k = h
fold_clean (s ∷ rest) out h k = fold_clean rest (next_output out s) (next_output_clean out s h k.0) k.1

last_slash_clean : (rest : List (List ℕ)) → IsClean (last_slash rest)
last_slash_clean [] = IsClean-nil
last_slash_clean (s ∷ []) = elim (is_dots s) as (λ b. IsClean (cond b (codes "/") [])) [ true ↦ slash_clean | false ↦ IsClean-nil ]
last_slash_clean (s ∷ t ∷ rest) = last_slash_clean (t ∷ rest)

without_dots_clean : (path : List (List ℕ)) → AllClean path → IsClean (without_dots path)
without_dots_clean [] h = IsClean-nil
without_dots_clean (s ∷ rest) h = elim (is_dots s) as (λ b. IsClean (cond b (without_dots rest) (moved s rest))) [
  | true ↦ without_dots_clean rest h.1
  | false ↦ IsClean-append _ _ (fold_clean rest s h.0 h.1) (last_slash_clean rest)
]

joined_clean : (path : List (List ℕ)) → IsClean (join_with_byte 47 path) → AllClean path
joined_clean [] h = tt
joined_clean (s ∷ []) h = (h, tt)
joined_clean (s ∷ t ∷ rest) h = let both = IsClean-split 47 (lit< tt) s (join_with_byte 47 (t ∷ rest)) h in (both.0, joined_clean (t ∷ rest) both.1)

segments_clean : (path : List ℕ) → IsClean path → AllClean (segments path)
segments_clean path h = joined_clean (segments path) (subst IsClean (sym (join_with_byte-slice_split 47 path)) h)

all_but_last_clean : (path : List (List ℕ)) → AllClean path → AllClean (all_but_last path)
all_but_last_clean [] h = tt
all_but_last_clean (s ∷ []) h = tt
all_but_last_clean (s ∷ t ∷ rest) h = (h.0, all_but_last_clean (t ∷ rest) h.1)

append_clean : (a b : List (List ℕ)) → AllClean a → AllClean b → AllClean (a ++ b)
append_clean [] b h k = k
append_clean (s ∷ rest) b h k = (h.0, append_clean rest b h.1 k)

merged_clean : (base : Components) (path : List (List ℕ)) → AreClean base → AllClean path → AllClean (merged base path)
merged_clean base path h k = elim (is_some base.authority && is_empty base.path) as (λ b. AllClean (cond b ([] ∷ path) (folders base.path ++ path))) [
  | true ↦ (IsClean-nil, k)
  | false ↦ append_clean (folders base.path) path (all_but_last_clean (segments base.path) (segments_clean base.path h.path)) k
]

either_clean : (a b : Option (List ℕ)) → IsCleanIfSome a → IsCleanIfSome b → IsCleanIfSome (option_or a b)
either_clean None b h k = k
either_clean (Some x) b h k = h

pub target_clean : (base r : Components) → AreClean base → AreClean r → AreClean (target base r)
unfolding target
target_clean base r h k =
    let path = without_dots_clean (segments r.path) (segments_clean r.path k.path) in
    elim (is_some r.scheme) as (λ v. AreClean (cond v (record r { path = remove_dot_segments r.path })
    (cond (is_some r.authority) (record r { scheme = base.scheme; path = remove_dot_segments r.path })
    (cond (is_empty r.path) (record base { query = option_or r.query base.query; fragment = r.fragment })
    (record base { path = cond (begins_with_slash r.path) (remove_dot_segments r.path) (without_dots (merged base (segments r.path))); query = r.query; fragment = r.fragment }))))) [
      | true ↦ record { scheme = k.scheme; authority = k.authority; path = path; query = k.query; fragment = k.fragment }
      | false ↦ elim (is_some r.authority) as (λ v. AreClean (cond v (record r { scheme = base.scheme; path = remove_dot_segments r.path })
          (cond (is_empty r.path) (record base { query = option_or r.query base.query; fragment = r.fragment })
          (record base { path = cond (begins_with_slash r.path) (remove_dot_segments r.path) (without_dots (merged base (segments r.path))); query = r.query; fragment = r.fragment })))) [
            | true ↦ record { scheme = h.scheme; authority = k.authority; path = path; query = k.query; fragment = k.fragment }
            | false ↦ elim (is_empty r.path) as (λ v. AreClean (cond v (record base { query = option_or r.query base.query; fragment = r.fragment })
                (record base { path = cond (begins_with_slash r.path) (remove_dot_segments r.path) (without_dots (merged base (segments r.path))); query = r.query; fragment = r.fragment }))) [
                  | true ↦ record { scheme = h.scheme; authority = h.authority; path = h.path; query = either_clean r.query base.query k.query h.query; fragment = k.fragment }
                  | false ↦ record {
                    scheme = h.scheme;
                    authority = h.authority;
                    path = elim (begins_with_slash r.path) as (λ v. IsClean (cond v (remove_dot_segments r.path) (without_dots (merged base (segments r.path))))) [
                      | true ↦ path
                      | false ↦ without_dots_clean (merged base (segments r.path)) (merged_clean base (segments r.path) h (segments_clean r.path k.path))
                    ];
                    query = k.query;
                    fragment = k.fragment;
                  }
                ]
          ]
    ]
