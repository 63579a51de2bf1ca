-- Bytes read in at most one way.
use Rattle.std.proofs.Common.{◌≡◌, ◌∙◌, refl, sym, ap, ap₂, subst, Bool, true, false, not, true≢false, ◌&&◌, ◌||◌, ℕ, suc, List, [], ◌∷◌, ◌++◌, Some, None, eq-eqb, eqb-true, nat_eq}
use Rattle.std.specs.Prelude.{Option, Result, Ok}
use Rattle.std.specs.Char.{encode_utf8}
use Rattle.ld_tree.specs.Names.{Sorted, same_sorted}
use Rattle.ld_tree.specs.Reading.{IsChar, unescaped, letter, unit, pair, IsChars, closing, char, IsString, is_unescaped, escaped, hex4, is_high_half, is_low_half, of_pair, IsNumber, past_space, put_all, IsValue, a_null, a_true, a_false, a_number, a_text, a_list, a_map, IsItems, no_items, items, IsMoreItems, end_items, more_items, IsMember, member, IsMembers, no_members, members, IsMoreMembers, end_members, more_members, reads}
use Rattle.ld_tree.specs.Numbers.{Token, is_digit, digits_at, number_at, exact, num_of}
use Rattle.ld_tree.specs.declared.tree.Num.{Num}
use Rattle.ld_tree.specs.declared.tree.Tree as t
use Rattle.ld_tree.specs.declared.tree.Tree.{Tree}

pub both : (a b : Bool) → a && b ≡ true → (a ≡ true) × (b ≡ true)
both true true h = (refl, refl)
both true false h = cc
both false b h = cc

pub all_so : (a b : Bool) → a ≡ true → b ≡ true → a && b ≡ true
all_so a b h w = rw (h, w) refl

pub neither : (a b : Bool) → a || b ≡ false → (a ≡ false) × (b ≡ false)
neither true b h = cc
neither false b h = (refl, h)

pub not_false : (b : Bool) → not b ≡ true → b ≡ false
not_false false h = refl
not_false true h = cc

pub head_is : (x y : ℕ) (xs ys : List ℕ) → x ∷ xs ≡ y ∷ ys → x ≡ y
head_is x y xs ys e = cc

pub tail_is : (x y : ℕ) (xs ys : List ℕ) → x ∷ xs ≡ y ∷ ys → xs ≡ ys
tail_is x y xs ys e = cc

-- lists whose first bytes differ
pub apart : (x y : ℕ) (xs ys : List ℕ) → x ∷ xs ≡ y ∷ ys → nat_eq x y ≡ false → ⊥
apart x y xs ys e ne = true≢false (sym (eq-eqb x y (head_is x y xs ys e)) ∙ ne)

-- characters
same_some : (a b : ℕ) → Some a ≡ Some b → a ≡ b
same_some a b e = cc

-- the first half of a pair is no character by itself
pub not_high : (u v : ℕ) → u ≡ v → is_high_half u || is_low_half u ≡ false → is_high_half v ≡ true → ⊥
not_high u v e h w = true≢false (sym w ∙ ap is_high_half (sym e) ∙ (neither (is_high_half u) (is_low_half u) h).0)

char_letter : {b m r : List ℕ} (e c : ℕ) → escaped e ≡ Some c → IsChar (92 ∷ e ∷ b) m r → (m ≡ c ∷ []) × (b ≡ r)
char_letter e c h (unescaped _ w) = absurd (true≢false (sym w))
char_letter e c h (letter _ k w) = (ap (λ k. k ∷ []) (same_some k c (sym w ∙ h)), refl)
char_letter e c h (unit _ _ _ _ _ _ _) = absurd (let w : None ≡ Some c = h in cc)
char_letter e c h (pair _ _ _ _ _ _ _ _ _ _ _ _ _) = absurd (let w : None ≡ Some c = h in cc)

char_plain : {b m r : List ℕ} (x : ℕ) → is_unescaped x ≡ true → IsChar (x ∷ b) m r → (m ≡ x ∷ []) × (b ≡ r)
char_plain x h (unescaped _ w) = (refl, refl)
char_plain x h (letter _ _ _) = absurd (true≢false (sym h))
char_plain x h (unit _ _ _ _ _ _ _) = absurd (true≢false (sym h))
char_plain x h (pair _ _ _ _ _ _ _ _ _ _ _ _ _) = absurd (true≢false (sym h))

char_unit : {s m r : List ℕ} (a b c d u : ℕ) → hex4 a b c d ≡ Some u → is_high_half u || is_low_half u ≡ false → IsChar (92 ∷ 117 ∷ a ∷ b ∷ c ∷ d ∷ s) m r → (m ≡ encode_utf8 u) × (s ≡ r)
char_unit a b c d u h out (unescaped _ w) = absurd (true≢false (sym w))
char_unit a b c d u h out (letter _ k w) = absurd (let q : None ≡ Some k = w in cc)
char_unit a b c d u h out (unit _ _ _ _ v w _) = (ap encode_utf8 (same_some v u (sym w ∙ h)), refl)
char_unit a b c d u h out (pair _ _ _ _ _ _ _ _ v _ w _ p) = absurd (not_high u v (same_some u v (sym h ∙ w)) out (both _ _ p).0)

char_pair : {s m r : List ℕ} (a b c d e f g i u v : ℕ) → hex4 a b c d ≡ Some u → hex4 e f g i ≡ Some v → is_high_half u && is_low_half v ≡ true
    → IsChar (92 ∷ 117 ∷ a ∷ b ∷ c ∷ d ∷ 92 ∷ 117 ∷ e ∷ f ∷ g ∷ i ∷ s) m r → (m ≡ encode_utf8 (of_pair u v)) × (s ≡ r)
char_pair a b c d e f g i u v h k p (unescaped _ w) = absurd (true≢false (sym w))
char_pair a b c d e f g i u v h k p (letter _ x w) = absurd (let q : None ≡ Some x = w in cc)
char_pair a b c d e f g i u v h k p (unit _ _ _ _ x w out) = absurd (not_high x u (same_some x u (sym w ∙ h)) out (both _ _ p).0)
char_pair a b c d e f g i u v h k p (pair _ _ _ _ _ _ _ _ x y w z _) = (ap₂ (λ x y. encode_utf8 (of_pair x y)) (same_some x u (sym w ∙ h)) (same_some y v (sym z ∙ k)), refl)

pub char_once : {b m r : List ℕ} → IsChar b m r → (k s : List ℕ) → IsChar b k s → (m ≡ k) × (r ≡ s)
char_once (unescaped x h) k s w = let one = char_plain x h w in (sym one.0, one.1)
char_once (letter e c h) k s w = let one = char_letter e c h w in (sym one.0, one.1)
char_once (unit a b c d u h out) k s w = let one = char_unit a b c d u h out w in (sym one.0, one.1)
char_once (pair a b c d e f g i u v h h' p) k s w = let one = char_pair a b c d e f g i u v h h' p w in (sym one.0, one.1)

-- no character begins with a quotation mark
pub char_34 : {b m r : List ℕ} → IsChar (34 ∷ b) m r → ⊥
char_34 (unescaped _ h) = true≢false (sym h)

pub chars_once : {b x r : List ℕ} → IsChars b x r → (y s : List ℕ) → IsChars b y s → (x ≡ y) × (r ≡ s)
chars_once closing y s closing = (refl, refl)
chars_once closing y s (char w ws) = absurd (char_34 w)
chars_once (char h hs) y s closing = absurd (char_34 h)
chars_once {r = r} (char {m = m} {text = x} h hs) y s (char {c = c} {m = k} {text = y'} w ws) =
    let one = char_once h k c w in
    let rest = chars_once hs y' s (subst (λ c. IsChars c y' s) (sym one.1) ws) in
    (ap₂ (λ u v. u ++ v) one.0 rest.0, rest.1)

pub string_once : {b x r : List ℕ} → IsString b x r → (y s : List ℕ) → IsString b y s → (x ≡ y) × (r ≡ s)
string_once (h, _) y s (w, _) = chars_once h y s w

-- numbers
some_is : {A : Type 0} (x y : A) → ◌≡◌ {A = Option A} (Some x) (Some y) → x ≡ y
some_is x y e = cc

ok_is : {A E : Type 0} (x y : A) → ◌≡◌ {A = Result A E} (Ok x) (Ok y) → x ≡ y
ok_is x y e = cc

no_digits : (x : ℕ) (b : List ℕ) → is_digit x ≡ false → digits_at (x ∷ b) ≡ None
no_digits x b e = rw e refl

no_zero : (x : ℕ) → is_digit x ≡ false → nat_eq x 48 ≡ false
no_zero x e = go (nat_eq x 48) refl
  where
    go : (v : Bool) → nat_eq x 48 ≡ v → nat_eq x 48 ≡ false
    go false is = is
    go true is = absurd (true≢false (sym (ap is_digit (eqb-true x 48 is)) ∙ e))

-- a number begins with a digit or a minus sign
no_number : (x : ℕ) (b : List ℕ) → is_digit x || nat_eq x 45 ≡ false → number_at (x ∷ b) ≡ None
unfolding number_at
no_number x b other =
    let parts = neither (is_digit x) (nat_eq x 45) other in
    rw (parts.1, no_zero x parts.0, no_digits x b parts.0) refl

pub number_head : {b r : List ℕ} {v : Num} (x : ℕ) → IsNumber (x ∷ b) v r → is_digit x || nat_eq x 45 ≡ false → ⊥
number_head {b} {r} x h other = none_is (h.token, r) (sym (no_number x b other) ∙ h.front)
  where
    none_is : (y : Token × List ℕ) → ◌≡◌ {A = Option (Token × List ℕ)} None (Some y) → ⊥
    none_is y e = cc

pub number_once : {b r : List ℕ} {v : Num} → IsNumber b v r → (w : Num) (s : List ℕ) → IsNumber b w s → (v ≡ w) × (r ≡ s)
number_once {r = r} {v = v} h w s k =
    let same : ◌≡◌ {A = Token × List ℕ} (h.token, r) (k.token, s) = some_is (h.token, r) (k.token, s) (sym h.front ∙ k.front) in
    (ok_is v w (sym h.value ∙ ap (λ (p : Token × List ℕ). num_of (exact p.0)) same ∙ k.value), ap (λ (p : Token × List ℕ). p.1) same)

-- The first byte says what kind of value it is.
pub at_null : {d : ℕ} {b r : List ℕ} {x : Tree} → IsValue d (110 ∷ 117 ∷ 108 ∷ 108 ∷ b) x r → (x ≡ t.Null) × (b ≡ r)
at_null (a_number h) = absurd (number_head 110 h refl)
at_null a_null = (refl, refl)

pub at_true : {d : ℕ} {b r : List ℕ} {x : Tree} → IsValue d (116 ∷ 114 ∷ 117 ∷ 101 ∷ b) x r → (x ≡ t.Bool true) × (b ≡ r)
at_true (a_number h) = absurd (number_head 116 h refl)
at_true a_true = (refl, refl)

pub at_false : {d : ℕ} {b r : List ℕ} {x : Tree} → IsValue d (102 ∷ 97 ∷ 108 ∷ 115 ∷ 101 ∷ b) x r → (x ≡ t.Bool false) × (b ≡ r)
at_false (a_number h) = absurd (number_head 102 h refl)
at_false a_false = (refl, refl)

pub at_text : {d : ℕ} {b r : List ℕ} {x : Tree} → IsValue d (34 ∷ b) x r → (text : List ℕ) × (x ≡ t.Text text) × IsString b text r
at_text (a_number h) = absurd (number_head 34 h refl)
at_text (a_text h) = (_, refl, h)

pub at_list : {d : ℕ} {b r : List ℕ} {x : Tree} → IsValue (suc d) (91 ∷ b) x r → (ts : List Tree) × (x ≡ t.List ts) × IsItems d b ts r
at_list (a_number h) = absurd (number_head 91 h refl)
at_list (a_list h) = (_, refl, h)

pub at_map : {d : ℕ} {b r : List ℕ} {x : Tree} → IsValue (suc d) (123 ∷ b) x r → (ms : List (List ℕ × Tree)) × (es : Sorted Tree) × (x ≡ t.Map es) × IsMembers d b ms r × (es.0 ≡ put_all [] ms)
at_map (a_number h) = absurd (number_head 123 h refl)
at_map (a_map ms es h is) = (ms, es, refl, h, is)

pub at_number : {d : ℕ} {b q : List ℕ} {x : Tree} → IsValue d b x q → (v : Num) (r : List ℕ) → IsNumber b v r → (w : Num) × (x ≡ t.Num w) × IsNumber b w q
at_number a_null v r h = absurd (number_head 110 h refl)
at_number a_true v r h = absurd (number_head 116 h refl)
at_number a_false v r h = absurd (number_head 102 h refl)
at_number (a_number k) v r h = (_, refl, k)
at_number (a_text k) v r h = absurd (number_head 34 h refl)
at_number (a_list k) v r h = absurd (number_head 91 h refl)
at_number (a_map ms es k is) v r h = absurd (number_head 123 h refl)

-- no list or map at depth 0
pub no_list : {b r : List ℕ} {x : Tree} → IsValue 0 (91 ∷ b) x r → ⊥
no_list (a_number h) = number_head 91 h refl

pub no_map : {b r : List ℕ} {x : Tree} → IsValue 0 (123 ∷ b) x r → ⊥
no_map (a_number h) = number_head 123 h refl

no_value : {d : ℕ} {a b r : List ℕ} {x : Tree} → a ≡ 93 ∷ b → IsValue d a x r → ⊥
no_value {d} {r = r} {x = x} e h = go (subst (λ a. IsValue d a x r) e h)
  where
    go : {d : ℕ} {b r : List ℕ} {x : Tree} → IsValue d (93 ∷ b) x r → ⊥
    go (a_number h) = number_head 93 h refl

pub no_member : {d : ℕ} {a b r : List ℕ} {m : List ℕ × Tree} → a ≡ 125 ∷ b → IsMember d a m r → ⊥
no_member e (member s col v) = apart 34 125 _ _ e refl

pub no_comma : (x : ℕ) {a b c : List ℕ} → a ≡ x ∷ b → a ≡ 44 ∷ c → nat_eq x 44 ≡ false → ⊥
no_comma x {b = b} {c = c} e e' ne = apart x 44 b c (sym e ∙ e') ne

mutual
  pub value_once : {d : ℕ} {b r : List ℕ} {x : Tree} → IsValue d b x r → (y : Tree) (q : List ℕ) → IsValue d b y q → (x ≡ y) × (r ≡ q)
  value_once a_null y q w = let one = at_null w in (sym one.0, one.1)
  value_once a_true y q w = let one = at_true w in (sym one.0, one.1)
  value_once a_false y q w = let one = at_false w in (sym one.0, one.1)
  value_once (a_number {r = r} {v = v} h) y q w =
      let (x, is, at) = at_number w v r h in
      let one = number_once h x q at in
      (ap (λ v. t.Num v) one.0 ∙ sym is, one.1)
  value_once (a_text h) y q w =
      let (x, is, at) = at_text w in
      let one = string_once h x q at in
      (ap (λ x. t.Text x) one.0 ∙ sym is, one.1)
  value_once (a_list h) y q w =
      let (x, is, at) = at_list w in
      let one = items_once h x q at in
      (ap (λ x. t.List x) one.0 ∙ sym is, one.1)
  value_once (a_map ms es h m) y q w =
      let (ms', es', is, at, m') = at_map w in
      let one = members_once h ms' q at in
      (ap (λ es. t.Map es) (same_sorted es es' (m ∙ ap (put_all []) one.0 ∙ sym m')) ∙ sym is, one.1)

  items_once : {d : ℕ} {b r : List ℕ} {ts : List Tree} → IsItems d b ts r → (us : List Tree) (q : List ℕ) → IsItems d b us q → (ts ≡ us) × (r ≡ q)
  items_once (no_items e) us q (no_items e') = (refl, tail_is 93 93 _ _ (sym e ∙ e'))
  items_once (no_items e) us q (items v h) = absurd (no_value e v)
  items_once (items v h) us q (no_items e') = absurd (no_value e' v)
  items_once {d} (items v h) us q (items {c = c} {x = y} {ts = ts} w k) =
      let one = value_once v y c w in
      let rest = more_once h ts q (subst (λ c. IsMoreItems d c ts q) (sym one.1) k) in
      (ap₂ (λ x xs. x ∷ xs) one.0 rest.0, rest.1)

  more_once : {d : ℕ} {b r : List ℕ} {ts : List Tree} → IsMoreItems d b ts r → (us : List Tree) (q : List ℕ) → IsMoreItems d b us q → (ts ≡ us) × (r ≡ q)
  more_once (end_items e) us q (end_items e') = (refl, tail_is 93 93 _ _ (sym e ∙ e'))
  more_once (end_items e) us q (more_items e' w k) = absurd (no_comma 93 e e' refl)
  more_once (more_items e v h) us q (end_items e') = absurd (no_comma 93 e' e refl)
  more_once {d} (more_items e v h) us q (more_items {e = f} {x = y} {ts = ts} e' w k) =
      let one = value_once v y f (subst (λ c. IsValue d (past_space c) y f) (tail_is 44 44 _ _ (sym e' ∙ e)) w) in
      let rest = more_once h ts q (subst (λ c. IsMoreItems d c ts q) (sym one.1) k) in
      (ap₂ (λ x xs. x ∷ xs) one.0 rest.0, rest.1)

  member_once : {d : ℕ} {b r : List ℕ} {m : List ℕ × Tree} → IsMember d b m r → (o : List ℕ × Tree) (q : List ℕ) → IsMember d b o q → (m ≡ o) × (r ≡ q)
  member_once {d} (member s col v) o q (member {c = c} {e = e} {name = name} {x = y} s' col' w) =
      let one = string_once s name c s' in
      let two = value_once v y q (subst (λ e. IsValue d (past_space e) y q) (tail_is 58 58 _ _ (sym col' ∙ sym (ap past_space one.1) ∙ col)) w) in
      (ap₂ (λ x y. (x, y)) one.0 two.0, two.1)

  members_once : {d : ℕ} {b r : List ℕ} {ms : List (List ℕ × Tree)} → IsMembers d b ms r → (us : List (List ℕ × Tree)) (q : List ℕ) → IsMembers d b us q → (ms ≡ us) × (r ≡ q)
  members_once (no_members e) us q (no_members e') = (refl, tail_is 125 125 _ _ (sym e ∙ e'))
  members_once (no_members e) us q (members v h) = absurd (no_member e v)
  members_once (members v h) us q (no_members e') = absurd (no_member e' v)
  members_once {d} (members v h) us q (members {c = c} {m = m} {ms = ms} w k) =
      let one = member_once v m c w in
      let rest = mores_once h ms q (subst (λ c. IsMoreMembers d c ms q) (sym one.1) k) in
      (ap₂ (λ x xs. x ∷ xs) one.0 rest.0, rest.1)

  mores_once : {d : ℕ} {b r : List ℕ} {ms : List (List ℕ × Tree)} → IsMoreMembers d b ms r → (us : List (List ℕ × Tree)) (q : List ℕ) → IsMoreMembers d b us q → (ms ≡ us) × (r ≡ q)
  mores_once (end_members e) us q (end_members e') = (refl, tail_is 125 125 _ _ (sym e ∙ e'))
  mores_once (end_members e) us q (more_members e' w k) = absurd (no_comma 125 e e' refl)
  mores_once (more_members e v h) us q (end_members e') = absurd (no_comma 125 e' e refl)
  mores_once {d} (more_members e v h) us q (more_members {e = f} {m = m} {ms = ms} e' w k) =
      let one = member_once v m f (subst (λ c. IsMember d (past_space c) m f) (tail_is 44 44 _ _ (sym e' ∙ e)) w) in
      let rest = mores_once h ms q (subst (λ c. IsMoreMembers d c ms q) (sym one.1) k) in
      (ap₂ (λ x xs. x ∷ xs) one.0 rest.0, rest.1)

pub read_once : (bytes : List ℕ) (s t : Tree) → reads bytes s → reads bytes t → s ≡ t
read_once bytes s t (r, h, _) (q, w, _) = (value_once h t q w).0
