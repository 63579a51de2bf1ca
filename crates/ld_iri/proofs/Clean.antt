-- Texts with none but allowed characters, cut at ASCII bytes and joined.
use Rattle.std.proofs.Common.{◌≡◌, ◌∙◌, refl, sym, ap, ap₂, subst, ℕ, zero, suc, ◌<◌, Bool, true, false, cond, ◌&&◌, List, [], ◌∷◌, ◌++◌, length, get_or, drop, Option, Some, None, nat_eq, codes, arith, lit<, append-nil}
use Rattle.std.specs.List.{starts_with, list_all}
use Rattle.std.specs.Cmp.{first_so, second_so}
use Rattle.std.specs.Str.{chars, IsUtf8, IsCharBoundary}
use Rattle.std.proofs.Math.Utf8.{encode}
use Rattle.std.proofs.lemmas.Bool.Decides.{Decides-eqb}
use Rattle.std.proofs.lemmas.List.{take_at, drop_at, get_or_at, length-append}
use Rattle.std.proofs.lemmas.List.Folds.{list_all-append}
use Rattle.std.proofs.lemmas.Slice.Eq.{starts_is}
use Rattle.std.proofs.lemmas.Str.{IsUtf8-append, IsUtf8-nil, IsUtf8-take, IsUtf8-drop, IsUtf8-past_char, IsUtf8-from_ascii, IsCharBoundary-before_ascii, chars-append, chars-nil, chars-IsAscii, chars_past_char, encode_ascii}
use Rattle.ld_iri.specs.Components.{Components, parts, recomposed, marked, ended, cut, is_scheme, scheme_from, scheme_and_rest, authority_and_path}
use Rattle.ld_iri.specs.Words.{allows, is_allowed}
use Rattle.ld_iri.proofs.Cuts.{cut-joined}

pub record IsClean (text : List ℕ) : Type 0 where
  pub utf8 : IsUtf8 text
  pub allowed : allows text ≡ true

and_true : (x y : Bool) → x ≡ true → y ≡ true → (x && y) ≡ true
and_true x y p q = ap₂ (λ a b. a && b) p q

pub IsClean-nil : IsClean []
IsClean-nil = record { utf8 = IsUtf8-nil; allowed = ap (list_all is_allowed) chars-nil }

pub IsClean-append : (a b : List ℕ) → IsClean a → IsClean b → IsClean (a ++ b)
IsClean-append a b p q = record {
  utf8 = IsUtf8-append a b p.utf8 q.utf8;
  allowed = ap (list_all is_allowed) (chars-append a b p.utf8) ∙ list_all-append is_allowed (chars a) (chars b) ∙ and_true _ _ p.allowed q.allowed;
}

one_ascii : (c : ℕ) → c < 128 → (i : ℕ) → get_or (c ∷ []) i 0 < 128
one_ascii c small zero = small
one_ascii c small (suc i) = lit< tt

pub IsClean-mark : (c : ℕ) → c < 128 → is_allowed c ≡ true → IsClean (c ∷ [])
IsClean-mark c small ok = record {
  utf8 = IsUtf8-from_ascii (c ∷ []) (one_ascii c small);
  allowed = ap (list_all is_allowed) (chars-IsAscii (c ∷ []) (one_ascii c small)) ∙ and_true _ _ ok refl;
}

pub IsClean-split : (c : ℕ) → c < 128 → (a b : List ℕ) → IsClean (a ++ c ∷ b) → IsClean a × IsClean b
IsClean-split c small a b h =
    let here : get_or (a ++ c ∷ b) (length a) 0 ≡ c = get_or_at a c b 0 (length a) refl in
    let within : length a < length (a ++ c ∷ b) = omega (arith, length-append a (c ∷ b)) in
    let cuts : IsCharBoundary (a ++ c ∷ b) (length a) = IsCharBoundary-before_ascii (a ++ c ∷ b) (length a) within (omega (arith, here)) in
    let front : IsUtf8 a = subst IsUtf8 (take_at a (c ∷ b) (length a) refl) (IsUtf8-take (a ++ c ∷ b) (length a) h.utf8 cuts) in
    let rest : IsUtf8 (c ∷ b) = subst IsUtf8 (drop_at a (c ∷ b) (length a) refl) (IsUtf8-drop (a ++ c ∷ b) (length a) h.utf8 cuts) in
    let start : c ∷ b ≡ encode c ++ b = sym (ap (λ x. x ++ b) (encode_ascii c small)) in
    let spelt : chars (a ++ c ∷ b) ≡ chars a ++ c ∷ chars b = chars-append a (c ∷ b) front ∙ ap (λ x. chars a ++ x) (chars_past_char (c ∷ b) b c rest start) in
    let all : (list_all is_allowed (chars a) && list_all is_allowed (c ∷ chars b)) ≡ true = sym (list_all-append is_allowed (chars a) (c ∷ chars b)) ∙ sym (ap (list_all is_allowed) spelt) ∙ h.allowed in
    (record { utf8 = front; allowed = first_so _ _ all }, record { utf8 = IsUtf8-past_char (c ∷ b) b c rest start; allowed = second_so _ _ (second_so _ _ all) })

abbrev pub IsCleanIfSome : Option (List ℕ) → Type 0
IsCleanIfSome None = Unit {0}
IsCleanIfSome (Some text) = IsClean text

pub marked_clean : (mark : List ℕ) → IsClean mark → (o : Option (List ℕ)) → IsCleanIfSome o → IsClean (marked mark o)
marked_clean mark m None h = IsClean-nil
marked_clean mark m (Some text) h = IsClean-append mark text m h

ended_clean : (mark : List ℕ) → IsClean mark → (o : Option (List ℕ)) → IsCleanIfSome o → IsClean (ended o mark)
ended_clean mark m None h = IsClean-nil
ended_clean mark m (Some text) h = IsClean-append text mark h m

cut_clean_from : (c : ℕ) → c < 128 → (text front : List ℕ) (rest : Option (List ℕ)) → front ++ marked (c ∷ []) rest ≡ text → IsClean text → IsClean front × IsCleanIfSome rest
cut_clean_from c small text front None e h = (subst IsClean (sym (sym (append-nil front) ∙ e)) h, tt)
cut_clean_from c small text front (Some rest) e h = IsClean-split c small front rest (subst IsClean (sym e) h)

cut_clean : (c : ℕ) → c < 128 → (text : List ℕ) → IsClean text → IsClean (cut c text).0 × IsCleanIfSome (cut c text).1
cut_clean c small text h = cut_clean_from c small text (cut c text).0 (cut c text).1 (cut-joined c text) h

pub record AreClean (c : Components) : Type 0 where
  pub scheme : IsCleanIfSome c.scheme
  pub authority : IsCleanIfSome c.authority
  pub path : IsClean c.path
  pub query : IsCleanIfSome c.query
  pub fragment : IsCleanIfSome c.fragment

scheme_clean : (text name : List ℕ) (rest : Option (List ℕ)) → IsClean text → IsClean name → IsCleanIfSome rest → IsCleanIfSome (scheme_from text name rest).0 × IsClean (scheme_from text name rest).1
scheme_clean text name None h n r = (tt, h)
scheme_clean text name (Some rest) h n r = elim (is_scheme name) as (λ b. (p : Option (List ℕ) × List ℕ) → p ≡ cond b (Some name, rest) (None, text) → IsCleanIfSome p.0 × IsClean p.1) [
  | true ↦ λ p is. subst (λ (q : Option (List ℕ) × List ℕ). IsCleanIfSome q.0 × IsClean q.1) (sym is) (n, r)
  | false ↦ λ p is. subst (λ (q : Option (List ℕ) × List ℕ). IsCleanIfSome q.0 × IsClean q.1) (sym is) (tt, h)
] (scheme_from text name (Some rest)) refl

authority_clean : (text : List ℕ) → IsClean text → IsCleanIfSome (authority_and_path text).0 × IsClean (authority_and_path text).1
authority_clean text h =
    let begins = starts_is Decides-eqb text (codes "//") (starts_with nat_eq text (codes "//")) refl in
    elim (starts_with nat_eq text (codes "//")) as (λ b. (b ≡ true → text ≡ codes "//" ++ drop 2 text) → (p : Option (List ℕ) × List ℕ)
    → p ≡ cond b (Some (cut 47 (drop 2 text)).0, marked (codes "/") (cut 47 (drop 2 text)).1) (None, text) → IsCleanIfSome p.0 × IsClean p.1) [
      | true ↦ λ same p is.
          let behind = (IsClean-split 47 (lit< tt) [] (drop 2 text) (IsClean-split 47 (lit< tt) [] (47 ∷ drop 2 text) (subst IsClean (same refl) h)).1).1 in
          let both = cut_clean 47 (lit< tt) (drop 2 text) behind in
          subst (λ (q : Option (List ℕ) × List ℕ). IsCleanIfSome q.0 × IsClean q.1) (sym is) (both.0, marked_clean (codes "/") (IsClean-mark 47 (lit< tt) refl) (cut 47 (drop 2 text)).1 both.1)
      | false ↦ λ same p is. subst (λ (q : Option (List ℕ) × List ℕ). IsCleanIfSome q.0 × IsClean q.1) (sym is) (tt, h)
    ] begins.0 (authority_and_path text) refl

pub parts_clean : (text : List ℕ) → IsClean text → AreClean (parts text)
unfolding parts
parts_clean text h =
    let whole = cut_clean 35 (lit< tt) text h in
    let front = cut_clean 63 (lit< tt) (cut 35 text).0 whole.0 in
    let t = (cut 63 (cut 35 text).0).0 in
    let name = cut_clean 58 (lit< tt) t front.0 in
    let s = scheme_clean t (cut 58 t).0 (cut 58 t).1 front.0 name.0 name.1 in
    let a = authority_clean (scheme_and_rest t).1 s.1 in
    record { scheme = s.0; authority = a.0; path = a.1; query = front.1; fragment = whole.1 }

pub recomposed_clean : (c : Components) → AreClean c → IsClean (recomposed c)
recomposed_clean c h =
    IsClean-append _ _ (IsClean-append _ _ (IsClean-append _ _ (IsClean-append _ _
    (ended_clean (codes ":") (IsClean-mark 58 (lit< tt) refl) c.scheme h.scheme)
    (marked_clean (codes "//") (IsClean-append (47 ∷ []) (47 ∷ []) (IsClean-mark 47 (lit< tt) refl) (IsClean-mark 47 (lit< tt) refl)) c.authority h.authority))
    h.path)
    (marked_clean (codes "?") (IsClean-mark 63 (lit< tt) refl) c.query h.query))
    (marked_clean (codes "#") (IsClean-mark 35 (lit< tt) refl) c.fragment h.fragment)
