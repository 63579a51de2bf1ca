-- Each text of the grammar is one by the places that its bytes lead to.
use Rattle.std.proofs.Common.{◌≡◌, ◌∙◌, refl, sym, ap, subst, ℕ, Bool, true, false, ◌&&◌, true≢false, cond, nat_eq, List, [], ◌∷◌, Some, None}
use Rattle.ld_tree.specs.Numbers.{ends_number}
use Rattle.ld_tree.specs.Reading.{is_white, past_space}
use Rattle.ld_tree_read.specs.Begun.{after, lead_on, ends}
use Rattle.ld_tree_read.specs.Grammar.{IsInt, zero_int, one_int, int, IsFrac, IsExp, IsNumber, natural, negative, IsChars, IsValue, a_null, a_true, a_false, a_number, a_text, a_list, a_map, IsItems, no_items, items, IsMoreItems, end_items, more_items, IsMember, member, IsMembers, no_members, members, IsMoreMembers, end_members, more_members, IsText, text, marked}
use Rattle.ld_tree_read.specs.State.{Level, in_list, in_map, Here, start, value, item_or_end, name_or_end, name, colon, string, plain, minus, done, step, string_from, string_end, behind, is_behind, is_outermost}
use Rattle.ld_tree_read.specs.Steps.{Spaced}
use Rattle.ld_tree_read.proofs.Between.{spaced_value, spaced_item, spaced_first, spaced_name, spaced_colon, spaced_done, list_next, list_end, map_next, map_end, first_end, item_end, name_begins, colon_next}
use Rattle.ld_tree_read.proofs.Inner.{in_step, quote_ends}
use Rattle.ld_tree_read.proofs.Inward.{chars_from}
use Rattle.ld_tree_read.proofs.Parts.{int_from}
use Rattle.ld_tree_read.proofs.Scaled.{same_nat}
use Rattle.ld_tree_read.proofs.Tokens.{bad_step}
use Rattle.ld_tree_read.proofs.Values.{value_digit, value_minus}

-- from this place on the bytes end a text
abbrev pub Acc : List Level → Here → List ℕ → Type 0
Acc fs here bs = ends (after fs here bs) ≡ true

pub go : (fs gs : List Level) (here there : Here) (b : ℕ) (bs : List ℕ) → step fs here b ≡ Some (gs, there) → Acc gs there bs → Acc fs here (b ∷ bs)
unfolding after
go fs gs here there b bs s h = ap (λ s. ends (lead_on s (λ p. after p.0 p.1 bs))) s ∙ h

same_step : (fs : List Level) (here there : Here) (b : ℕ) (bs : List ℕ) → step fs here b ≡ step fs there b → Acc fs there (b ∷ bs) → Acc fs here (b ∷ bs)
unfolding after
same_step fs here there b bs s h = ap (λ s. ends (lead_on s (λ p. after p.0 p.1 bs))) s ∙ h

-- white space
pub space : (fs : List Level) (here : Here) → Spaced here → (bs : List ℕ) → Acc fs here (past_space bs) → Acc fs here bs
space fs here sp [] h = h
space fs here sp (b ∷ bs) h = at (is_white b) refl (space fs here sp bs) h
  where
    at : (w : Bool) → is_white b ≡ w → (Acc fs here (past_space bs) → Acc fs here bs) → Acc fs here (cond w (past_space bs) (b ∷ bs)) → Acc fs here (b ∷ bs)
    at true e ih h = go fs fs here here b bs (sp fs b e) (ih h)
    at false e ih h = h

-- a byte behind a number that belongs to none leads nowhere
no_dead : (fs : List Level) (b : ℕ) (bs : List ℕ) → Acc fs done (b ∷ bs) → behind fs b ≡ None → ⊥
unfolding after step
no_dead fs b bs h none = true≢false (sym h ∙ ap (λ s. ends (lead_on s (λ p. after p.0 p.1 bs))) none)

number_over : (fs : List Level) (bs : List ℕ) → Acc fs done bs → ends_number bs ≡ true
number_over fs [] h = refl
number_over fs (b ∷ bs) h = at (ends_number (b ∷ bs)) refl
  where
    at : (x : Bool) → ends_number (b ∷ bs) ≡ x → ends_number (b ∷ bs) ≡ true
    at true e = e
    at false e = absurd (no_dead fs b bs h (bad_step fs b bs e))

over : (fs : List Level) (here : Here) (bs : List ℕ) → is_behind here ≡ true → ((b : ℕ) (r : List ℕ) → bs ≡ b ∷ r → step fs here b ≡ step fs done b) → Acc fs done bs → Acc fs here bs
unfolding after
over fs here [] e s h = ap (λ b. b && is_outermost fs) e ∙ h
over fs here (b ∷ bs) e s h = same_step fs here done b bs (s b bs refl) h

minus_from : (fs : List Level) {b c d r : List ℕ} → IsInt b c → IsFrac c d → IsExp d r → Acc fs done r → Acc fs minus b
minus_from fs {r = r} i f e h = int_from fs (Acc fs) (λ here there b bs v s k. go fs fs here there b bs s k) (λ here bs v w t s k. over fs here bs w s k) (number_over fs r h) i f e h

value_int : (fs : List Level) {b c : List ℕ} → IsInt b c → Acc fs minus b → Acc fs value b
value_int fs (zero_int {r = r}) h = same_step fs value minus 48 r (value_digit fs 48 refl) h
value_int fs (one_int d {r = r} is n) h = same_step fs value minus d r (value_digit fs d is) h
value_int fs (int d {c = c} is n ds) h = same_step fs value minus d c (value_digit fs d is) h

number_from : (fs : List Level) {b r : List ℕ} → IsNumber b r → Acc fs done r → Acc fs value b
number_from fs (natural i f e) h = value_int fs i (minus_from fs i f e h)
number_from fs (negative {b = b} i f e) h = go fs fs value minus 45 b (value_minus fs) (minus_from fs i f e h)

-- strings
string_chars : (fs : List Level) (n : Bool) {b r : List ℕ} → IsChars b r → Acc fs (string_end n) r → Acc fs (string n plain) b
string_chars fs n {r = r} w h =
    chars_from (λ i bs. Acc fs (string n i) bs) (λ i j b bs p s k. go fs fs (string n i) (string n j) b bs (in_step fs n i b p ∙ ap (string_from fs n) s) k)
    w (go fs fs (string n plain) (string_end n) 34 r (quote_ends fs n) h)

-- literals and brackets
begins : (fs : List Level) (r : List ℕ) → (Acc fs done r → Acc fs value (110 ∷ 117 ∷ 108 ∷ 108 ∷ r)) × (Acc fs done r → Acc fs value (116 ∷ 114 ∷ 117 ∷ 101 ∷ r)) × (Acc fs done r → Acc fs value (102 ∷ 97 ∷ 108 ∷ 115 ∷ 101 ∷ r))
    × (Acc fs (string false plain) r → Acc fs value (34 ∷ r)) × (Acc (in_list ∷ fs) item_or_end r → Acc fs value (91 ∷ r)) × (Acc (in_map ∷ fs) name_or_end r → Acc fs value (123 ∷ r))
unfolding after step
begins fs r = (λ h. h, λ h. h, λ h. h, λ h. h, λ h. h, λ h. h)

-- at a byte that is white, or that begins no value
white_value : (fs : List Level) (b : ℕ) (bs : List ℕ) → is_white b ≡ true → Acc fs value (b ∷ bs) → Acc fs value bs
unfolding after step
white_value fs b bs e h = sym (ap (λ s. ends (lead_on s (λ p. after p.0 p.1 bs))) (spaced_value fs b e)) ∙ h

white_name : (fs : List Level) (b : ℕ) (bs : List ℕ) → is_white b ≡ true → Acc fs name (b ∷ bs) → Acc fs name bs
unfolding after step
white_name fs b bs e h = sym (ap (λ s. ends (lead_on s (λ p. after p.0 p.1 bs))) (spaced_name fs b e)) ∙ h

no_value_at : (fs : List Level) (bs : List ℕ) → Acc fs value (93 ∷ bs) → ⊥
unfolding after step
no_value_at fs bs h = true≢false (sym h)

no_name_at : (fs : List Level) (bs : List ℕ) → Acc fs name (125 ∷ bs) → ⊥
unfolding after step
no_name_at fs bs h = true≢false (sym h)

item_step : (fs : List Level) (b : ℕ) → is_white b ≡ false → nat_eq b 93 ≡ false → step fs item_or_end b ≡ step fs value b
unfolding step
item_step fs b e f = rw (e, f) refl

first_step : (fs : List Level) (b : ℕ) → is_white b ≡ false → nat_eq b 125 ≡ false → step fs name_or_end b ≡ step fs name b
unfolding step
first_step fs b e f = rw (e, f) refl

nothing : (fs : List Level) → (Acc fs value [] → ⊥) × (Acc fs name [] → ⊥)
unfolding after
nothing fs = (λ h. true≢false (sym h), λ h. true≢false (sym h))

-- a value may begin where the list may also end, and a name where the map may
item_of : (fs : List Level) (bs : List ℕ) → Acc fs value bs → Acc fs item_or_end bs
item_of fs [] h = absurd ((nothing fs).0 h)
item_of fs (b ∷ bs) h = at (is_white b) (nat_eq b 93) refl refl (item_of fs bs) h
  where
    at : (w x : Bool) → is_white b ≡ w → nat_eq b 93 ≡ x → (Acc fs value bs → Acc fs item_or_end bs) → Acc fs value (b ∷ bs) → Acc fs item_or_end (b ∷ bs)
    at true x e f ih h = go fs fs item_or_end item_or_end b bs (spaced_item fs b e) (ih (white_value fs b bs e h))
    at false true e f ih h = absurd (no_value_at fs bs (subst (λ b. Acc fs value (b ∷ bs)) (same_nat b 93 f) h))
    at false false e f ih h = same_step fs item_or_end value b bs (item_step fs b e f) h

first_of : (fs : List Level) (bs : List ℕ) → Acc fs name bs → Acc fs name_or_end bs
first_of fs [] h = absurd ((nothing fs).1 h)
first_of fs (b ∷ bs) h = at (is_white b) (nat_eq b 125) refl refl (first_of fs bs) h
  where
    at : (w x : Bool) → is_white b ≡ w → nat_eq b 125 ≡ x → (Acc fs name bs → Acc fs name_or_end bs) → Acc fs name (b ∷ bs) → Acc fs name_or_end (b ∷ bs)
    at true x e f ih h = go fs fs name_or_end name_or_end b bs (spaced_first fs b e) (ih (white_name fs b bs e h))
    at false true e f ih h = absurd (no_name_at fs bs (subst (λ b. Acc fs name (b ∷ bs)) (same_nat b 125 f) h))
    at false false e f ih h = same_step fs name_or_end name b bs (first_step fs b e f) h

-- a byte behind white space
byte_after : (fs gs : List Level) (here there : Here) (b : ℕ) (bs r : List ℕ) → Spaced here → step fs here b ≡ Some (gs, there) → past_space bs ≡ b ∷ r → Acc gs there r → Acc fs here bs
byte_after fs gs here there b bs r sp s e h = space fs here sp bs (subst (Acc fs here) (sym e) (go fs gs here there b r s h))

mutual
  value_from : {b r : List ℕ} → IsValue b r → (fs : List Level) → Acc fs done r → Acc fs value b
  value_from (a_null {r = r}) fs h = (begins fs r).0 h
  value_from (a_true {r = r}) fs h = (begins fs r).1 h
  value_from (a_false {r = r}) fs h = (begins fs r).2 h
  value_from (a_number w) fs h = number_from fs w h
  value_from (a_text {b = b} w) fs h = (begins fs b).3 (string_chars fs false w h)
  value_from (a_list {b = b} w) fs h = (begins fs b).4 (items_from w fs h)
  value_from (a_map {b = b} w) fs h = (begins fs b).5 (members_from w fs h)

  items_from : {b r : List ℕ} → IsItems b r → (fs : List Level) → Acc fs done r → Acc (in_list ∷ fs) item_or_end b
  items_from (no_items {b = b} {r = r} e) fs h = byte_after (in_list ∷ fs) fs item_or_end done 93 b r spaced_item (item_end fs) e h
  items_from (items {b = b} v w) fs h = space (in_list ∷ fs) item_or_end spaced_item b (item_of (in_list ∷ fs) (past_space b) (value_from v (in_list ∷ fs) (more_items_from w fs h)))

  more_items_from : {b r : List ℕ} → IsMoreItems b r → (fs : List Level) → Acc fs done r → Acc (in_list ∷ fs) done b
  more_items_from (end_items {b = b} {r = r} e) fs h = byte_after (in_list ∷ fs) fs done done 93 b r spaced_done (list_end fs) e h
  more_items_from (more_items {b = b} {c = c} e v w) fs h =
      byte_after (in_list ∷ fs) (in_list ∷ fs) done value 44 b c spaced_done (list_next fs) e (space (in_list ∷ fs) value spaced_value c (value_from v (in_list ∷ fs) (more_items_from w fs h)))

  member_from : {b r : List ℕ} → IsMember b r → (fs : List Level) → Acc fs done r → Acc fs name b
  member_from (member {b = b} {c = c} {e = e} w is v) fs h =
      go fs fs name (string true plain) 34 b (name_begins fs) (string_chars fs true w (byte_after fs fs colon value 58 c e spaced_colon (colon_next fs) is (space fs value spaced_value e (value_from v fs h))))

  members_from : {b r : List ℕ} → IsMembers b r → (fs : List Level) → Acc fs done r → Acc (in_map ∷ fs) name_or_end b
  members_from (no_members {b = b} {r = r} e) fs h = byte_after (in_map ∷ fs) fs name_or_end done 125 b r spaced_first (first_end fs) e h
  members_from (members {b = b} v w) fs h = space (in_map ∷ fs) name_or_end spaced_first b (first_of (in_map ∷ fs) (past_space b) (member_from v (in_map ∷ fs) (more_members_from w fs h)))

  more_members_from : {b r : List ℕ} → IsMoreMembers b r → (fs : List Level) → Acc fs done r → Acc (in_map ∷ fs) done b
  more_members_from (end_members {b = b} {r = r} e) fs h = byte_after (in_map ∷ fs) fs done done 125 b r spaced_done (map_end fs) e h
  more_members_from (more_members {b = b} {c = c} e v w) fs h =
      byte_after (in_map ∷ fs) (in_map ∷ fs) done name 44 b c spaced_done (map_next fs) e (space (in_map ∷ fs) name spaced_name c (member_from v (in_map ∷ fs) (more_members_from w fs h)))

-- the whole
done_at_end : (r : List ℕ) → past_space r ≡ [] → Acc [] done r
unfolding after
done_at_end r e = space [] done spaced_done r (subst (Acc [] done) (sym e) refl)

no_mark_value : (bs : List ℕ) → Acc [] value (239 ∷ bs) → ⊥
unfolding after step
no_mark_value bs h = true≢false (sym h)

start_step : (b : ℕ) → nat_eq b 239 ≡ false → step [] start b ≡ step [] value b
unfolding step
start_step b e = rw e refl

start_of : (bs : List ℕ) → Acc [] value bs → Acc [] start bs
start_of [] h = absurd ((nothing []).0 h)
start_of (b ∷ bs) h = at (nat_eq b 239) refl h
  where
    at : (x : Bool) → nat_eq b 239 ≡ x → Acc [] value (b ∷ bs) → Acc [] start (b ∷ bs)
    at true e h = absurd (no_mark_value bs (subst (λ b. Acc [] value (b ∷ bs)) (same_nat b 239 e) h))
    at false e h = same_step [] start value b bs (start_step b e) h

pub text_from : {bytes : List ℕ} → IsText bytes → Acc [] start bytes
unfolding after step
text_from (text {bytes = bytes} {r = r} v e) = start_of bytes (space [] value spaced_value bytes (value_from v [] (done_at_end r e)))
text_from (marked {bytes = bytes} {r = r} v e) = space [] value spaced_value bytes (value_from v [] (done_at_end r e))
