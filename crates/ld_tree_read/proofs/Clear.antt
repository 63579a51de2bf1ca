-- Bytes that read as a tree have no refusal.
use Rattle.std.proofs.Common.{◌≡◌, ◌∙◌, refl, sym, ap, subst, inl, inr, ◌⊎◌, ℕ, zero, suc, ◌+◌, ◌<◌, ◌≤◌, Bool, true, false, true≢false, ◌&&◌, ◌||◌, cond, nat_eq, List, [], ◌∷◌, ◌++◌, length, Some, None, Result, Ok, Err, arith, lt-ltb, eq-eqb}
use Rattle.std.proofs.lemmas.Bool.{cases_lt}
use Rattle.std.specs.Option.{is_some}
use Rattle.std.specs.Str.{IsUtf8}
use Rattle.std.specs.Char.{IsScalar, encode_utf8}
use Rattle.std.proofs.lemmas.Str.{IsUtf8-past_char, encode_ascii}
use lib.Utf8.{encode, encodes, scalar, scalars}
use Rattle.ld_tree.specs.Numbers.{number_at, is_digit}
use Rattle.ld_tree.specs.Reading.{is_white, past_space, past_mark, escaped, of_pair, IsString, IsNumber, IsValue, a_null, a_true, a_false, a_number, a_text, a_list, a_map, IsItems, no_items, items, IsMoreItems, end_items, more_items, IsMember, member, IsMembers, no_members, members, IsMoreMembers, end_members, more_members, reads}
use Rattle.ld_tree.specs.Reading as reading
use Rattle.ld_tree.specs.declared.tree.Num.{Num}
use Rattle.ld_tree.specs.declared.tree.Tree.{Tree}
use Rattle.ld_tree.proofs.Once.{number_head, no_member, read_once}
use Rattle.std.specs.Prelude.{codes}
use Rattle.std.specs.Result.{IfOk, IfErr, IsErrAnd}
use Rattle.std.proofs.lemmas.Result.{err_from_is_err_and}
use Rattle.ld_tree_read.proofs.Exits.{more}
use Rattle.ld_tree.proofs.ReadUtf8.{escaped_low, hex4_low, unit_scalar, pair_scalar}
use Rattle.ld_tree_read.specs.Grammar.{IsRest}
use Rattle.ld_tree_read.specs.Refusals.{refusal, value_refusal, takes_value, tail_of, number_refusal, fault_refusal, is_char_byte, first_refusal}
use Rattle.ld_tree_read.specs.State.{Level, in_list, in_map, Here, start, mark, value, item_or_end, name_or_end, name, colon, string, word, minus, done, Inside, plain, first, begun, Tail, tail, lead, rest_left, inside, is_plain, is_next, string_from, string_end, step, is_behind, is_outermost}
use Rattle.ld_tree_read.specs.Steps.{Spaced, NoWhite, Known, word_here}
use Rattle.ld_tree_read.specs.Strings.{IsTail}
use Rattle.ld_tree_read.specs.declared.refusal.ReadRefusal.{ReadRefusal}
use Rattle.ld_tree_read.specs.declared.refusal.ReadRefusal.TheVariants as r
use Rattle.ld_tree_read.proofs.Between.{white_none, none_at, none_begins, spaced_value, spaced_item, spaced_first, spaced_name, spaced_colon, spaced_done, item_alike, first_alike, list_next, list_end, map_next, map_end, first_end, item_end, name_begins, colon_next, word_goes, text_ends}
use Rattle.ld_tree_read.proofs.Characters.{encode_long, next_bounds, rest_zero, rest_suc, is_next_from}
use Rattle.ld_tree_read.proofs.Follows.{goes, no_value, same_step, not_opening, alike, run_ends}
use Rattle.ld_tree_read.proofs.Glides.{plain_is}
use Rattle.ld_tree_read.proofs.Inner.{in_step, plain_ascii, plain_lead, tail_step, slash_letter, slash_u, quote_ends}
use Rattle.ld_tree_read.proofs.Inward.{unit_from, pair_from, slashed, four}
use Rattle.ld_tree_read.proofs.Marks.{no_mark_begins, mark_begins_at, second_mark, third_mark}
use Rattle.ld_tree_read.proofs.Parts.{Found, unsigned_rule, int_from}
use Rattle.ld_tree_read.proofs.Scaled.{same_nat}
use Rattle.ld_tree_read.proofs.Values.{value_minus, value_digit, no_bracket, number_plain, number_minus as number_minus_at}
use Rattle.ld_tree_read.proofs.Words.{past_run}

-- ---- strings

-- what is due of the text where a character has begun
abbrev Due : Inside → List ℕ → Type 0
Due plain text = IsUtf8 text
Due (begun (tail low up n)) text = (128 ≤ low) × (up ≤ 191) × (after : List ℕ) × IsTail low up n text after × IsUtf8 after
Due _ text = ⊥

rest_due : (n : ℕ) (text after : List ℕ) → IsRest n text after → IsUtf8 after → Due (rest_left n) text
rest_due zero text after w u = subst IsUtf8 (sym (rest_zero w)) u
rest_due (suc n) text after w u = let (b, c, is, le, up, more) = rest_suc w in (omega arith, omega arith, after, (b, c, is, is_next_from 128 191 0 b le up, more), u)

ascii_after : (x : ℕ) (text : List ℕ) → x < 128 → IsUtf8 (x ∷ text) → IsUtf8 text
ascii_after x text lt u = IsUtf8-past_char (x ∷ text) text x u (ap (λ l. l ++ text) (sym (encode_ascii x lt)))

-- a character of several bytes begins
long_due : (x : ℕ) (text : List ℕ) → 128 ≤ x → IsUtf8 (x ∷ text) → (t : Tail) × (lead x ≡ Some t) × Due (begun t) text
long_due x text le ([], (ok, is)) = absurd (let w : [] ≡ x ∷ text = is in cc)
long_due x text le (c ∷ cs, (ok, is)) = go (scalar c) (scalars cs) refl refl ok
  where
    go : (p q : Bool) → scalar c ≡ p → scalars cs ≡ q → p && q ≡ true → (t : Tail) × (lead x ≡ Some t) × Due (begun t) text
    go true true h k e = elim (cases_lt c 128) [
      | inl low ↦ absurd (
          let w : c ∷ encodes cs ≡ x ∷ text = ap (λ l. l ++ encodes cs) (sym (encode_ascii c low)) ∙ is in
          let same : c ≡ x = cc in
          omega (arith, same, low, le))
      | inr high ↦
          let w = encode_long c (encodes cs) h high in
          let both : w.byte ∷ w.bytes ≡ x ∷ text = sym w.is ∙ is in
          let one : w.byte ≡ x = cc in
          let two : w.bytes ≡ text = cc in
          (tail w.low w.up w.more, subst (λ b. lead b ≡ Some (tail w.low w.up w.more)) one w.leads, (w.from, w.to, encodes cs, subst (λ bs. IsTail w.low w.up w.more bs (encodes cs)) two w.within, (cs, (k, refl))))
    ]
    go true false h k e = cc
    go false q h k e = cc

-- no character goes on another
no_tail : (u low up n : ℕ) (text after : List ℕ) → IsScalar u → 128 ≤ low → up ≤ 191 → IsTail low up n (encode u ++ text) after → ⊥
no_tail u low up n text after ok from to (y, d, e, is, w) =
    let k = next_bounds low up 0 y is in
    elim (cases_lt u 128) [
      | inl small ↦
          let same : u ∷ text ≡ y ∷ d = ap (λ l. l ++ text) (sym (encode_ascii u small)) ∙ e in
          let one : u ≡ y = cc in
          omega (arith, one, small, from, k.0)
      | inr high ↦
          let l = encode_long u text ok high in
          let same : l.byte ∷ l.bytes ≡ y ∷ d = sym l.is ∙ e in
          let one : l.byte ≡ y = cc in
          omega (arith, one, l.high, to, k.1)
    ]

module _ (In : Inside → List ℕ → Type 0) (inner : (i j : Inside) (b : ℕ) (bs : List ℕ) → is_plain i && nat_eq b 34 ≡ false → inside i b ≡ Some j → In j bs → In i (b ∷ bs)) where
  pub text_from : {b text r : List ℕ} → reading.IsChars b text r → (i : Inside) → Due i text → In plain (34 ∷ r) → In i b
  text_from reading.closing plain d h = h
  text_from reading.closing (begun (tail low up n)) (from, to, after, (y, c, e, is, w), u) h = absurd (let k : [] ≡ y ∷ c = e in cc)
  text_from reading.closing _ d h = absurd d
  text_from (reading.char {c = c} {text = text} (reading.unescaped x s) hs) plain d h =
      let p = plain_is x s in
      let above = p.above in
      elim (cases_lt x 128) [
        | inl low ↦ inner plain plain x c p.quote (plain_ascii x p.slash (omega (arith, above)) low) (text_from hs plain (ascii_after x text low d) h)
        | inr high ↦
            let (t, leads, due) = long_due x text high d in
            inner plain (begun t) x c p.quote (plain_lead x p.slash t high leads) (text_from hs (begun t) due h)
      ]
  text_from (reading.char {c = c} {text = text} (reading.unescaped x s) hs) (begun (tail low up n)) (from, to, after, (y, bs, e, is, w), u) h =
      let one : y ≡ x = let k : x ∷ text ≡ y ∷ bs = e in cc in
      let two : bs ≡ text = let k : x ∷ text ≡ y ∷ bs = e in cc in
      inner (begun (tail low up n)) (rest_left n) x c refl (tail_step (tail low up n) x (subst (λ y. is_next (tail low up n) y ≡ true) one is))
      (text_from hs (rest_left n) (rest_due n text after (subst (λ bs. IsRest n bs after) two w) u) h)
  text_from (reading.char (reading.unescaped x s) hs) _ d h = absurd d
  text_from (reading.char {c = c} {text = text} (reading.letter e k s) hs) plain d h =
      slashed In inner plain e c (slash_letter e (ap is_some s)) (text_from hs plain (ascii_after k text (escaped_low e k s).1 d) h)
  text_from (reading.char {text = text} (reading.letter e k s) hs) (begun (tail low up n)) (from, to, after, (y, bs, q, is, w), u) h =
      absurd (
      let one : y ≡ k = let same : k ∷ text ≡ y ∷ bs = q in cc in
      let b = next_bounds low up 0 y is in
      omega (arith, one, (escaped_low e k s).1, from, b.0))
  text_from (reading.char (reading.letter e k s) hs) _ d h = absurd d
  text_from (reading.char {c = z} {text = text} (reading.unit a b c d u is out) hs) plain due h =
      slashed In inner first 117 (a ∷ b ∷ c ∷ d ∷ z) slash_u
      (unit_from In inner z (four a b c d u is) out (text_from hs plain (IsUtf8-past_char (encode_utf8 u ++ text) text u due refl) h))
  text_from (reading.char {text = text} (reading.unit a b c d u is out) hs) (begun (tail low up n)) (from, to, after, w, v) h =
      absurd (no_tail u low up n text after (unit_scalar u (hex4_low a b c d u is).4 out) from to w)
  text_from (reading.char (reading.unit a b c d u is out) hs) _ due h = absurd due
  text_from (reading.char {c = z} {text = text} (reading.pair a b c d e g i j u v is is' halves) hs) plain due h =
      slashed In inner first 117 (a ∷ b ∷ c ∷ d ∷ 92 ∷ 117 ∷ e ∷ g ∷ i ∷ j ∷ z) slash_u
      (pair_from In inner z (four a b c d u is) (four e g i j v is') halves (text_from hs plain (IsUtf8-past_char (encode_utf8 (of_pair u v) ++ text) text (of_pair u v) due refl) h))
  text_from (reading.char {text = text} (reading.pair a b c d e g i j u v is is' halves) hs) (begun (tail low up n)) (from, to, after, w, x) h =
      absurd (no_tail (of_pair u v) low up n text after (pair_scalar u v halves) from to w)
  text_from (reading.char (reading.pair a b c d e g i j u v is is' halves) hs) _ due h = absurd due

-- ---- the whole

-- from this place on nothing is refused
abbrev pub Clear : List Level → Here → List ℕ → Type 0
Clear fs here bs = (at : ℕ) → refusal at fs here bs ≡ None

module _ (fs gs : List Level) (here there : Here) (b : ℕ) (bs : List ℕ) where
  move : ((at : ℕ) → value_refusal at fs here b bs ≡ None) → step fs here b ≡ Some (gs, there) → Clear gs there bs → Clear fs here (b ∷ bs)
  move v s h = λ at. goes at fs here b bs (v at) s ∙ h (at + 1)

  pass : takes_value here ≡ false → step fs here b ≡ Some (gs, there) → Clear gs there bs → Clear fs here (b ∷ bs)
  pass t s h = move (λ at. no_value at fs here b bs t) s h

space : (fs : List Level) (here : Here) → Spaced here → (bs : List ℕ) → Clear fs here (past_space bs) → Clear fs here bs
space fs here sp [] h = h
space fs here sp (b ∷ bs) h = at (is_white b) refl (space fs here sp bs) h
  where
    at : (w : Bool) → is_white b ≡ w → (Clear fs here (past_space bs) → Clear fs here bs) → Clear fs here (cond w (past_space bs) (b ∷ bs)) → Clear fs here (b ∷ bs)
    at true e ih h = move fs fs here here b bs (λ at. white_none at fs here b bs e) (sp fs b e) (ih h)
    at false e ih h = h

no_space : (bs : List ℕ) → NoWhite (past_space bs)
no_space bs b r e = run_ends is_white bs b r (past_run bs ∙ e)

byte_after : (fs gs : List Level) (here there : Here) (b : ℕ) (bs r : List ℕ) → Spaced here → takes_value here ≡ false → step fs here b ≡ Some (gs, there) → past_space bs ≡ b ∷ r → Clear gs there r → Clear fs here bs
byte_after fs gs here there b bs r sp v s e h = space fs here sp bs (subst (Clear fs here) (sym e) (pass fs gs here there b r v s h))

string_clear : (fs : List Level) (n : Bool) {b text r : List ℕ} → IsString b text r → Clear fs (string_end n) r → Clear fs (string n plain) b
string_clear fs n {r = r} (w, u) h =
    text_from (λ i bs. Clear fs (string n i) bs) (λ i j b bs p s k. pass fs fs (string n i) (string n j) b bs refl (in_step fs n i b p ∙ ap (string_from fs n) s) k)
    w plain u (pass fs fs (string n plain) (string_end n) 34 r refl (quote_ends fs n) h)

-- numbers
over : (fs : List Level) (here : Here) (bs : List ℕ) → takes_value here ≡ false → is_behind here ≡ true → tail_of here ≡ None → ((b : ℕ) (r : List ℕ) → bs ≡ b ∷ r → step fs here b ≡ step fs done b) → Clear fs done bs → Clear fs here bs
over fs here bs v e t s h = λ at.
    alike fs here done at bs v (ap (λ b. b && is_outermost fs) e) (ap (λ t. cond (is_some t) (r.NotUtf8 at) (r.Syntax at)) t)
    (λ b q is. (s b q is, ap (λ t. cond (is_char_byte t b) (r.Syntax at) (r.NotUtf8 at)) t)) ∙ h at

number_minus : (fs : List Level) (b q : List ℕ) → Found b q → Clear fs done q → Clear fs minus b
number_minus fs b q f h =
    int_from fs (Clear fs) (λ here there b bs v s k. pass fs fs here there b bs v s k) (λ here bs v e t s k. over fs here bs v e t s k) f.ends f.at_int f.at_frac f.at_exp h

number_clear : (fs : List Level) {b q : List ℕ} {v : Num} → IsNumber b v q → Clear fs done q → Clear fs value b
unfolding number_at
number_clear fs {b = []} {q = q} n h = absurd (let w : None ≡ Some (n.token, q) = n.front in cc)
number_clear fs {b = x ∷ b} {q = q} {v = v} n h = at (is_digit x || nat_eq x 45) refl
  where
    read : is_digit x || nat_eq x 45 ≡ true → (at : ℕ) → value_refusal at fs value x b ≡ None
    read begins at = not_opening at fs value x b refl (no_bracket x begins) ∙ ap (number_refusal at) n.front ∙ ap (fault_refusal at) n.value

    digit : (d m : Bool) → d || m ≡ true → m ≡ false → d ≡ true
    digit true m h e = refl
    digit false m h e = absurd (true≢false (sym h ∙ e))

    go : (m : Bool) → nat_eq x 45 ≡ m → is_digit x || nat_eq x 45 ≡ true → Clear fs value (x ∷ b)
    go true is begins =
        let same = same_nat x 45 is in
        let found = unsigned_rule true b q n.token (sym (number_minus_at (x ∷ b) b (ap (λ x. x ∷ b) same)) ∙ n.front) in
        move fs fs value minus x b (read begins) (subst (λ x. step fs value x ≡ Some (fs, minus)) (sym same) (value_minus fs)) (number_minus fs b q found h)
    go false is begins =
        let found = unsigned_rule false (x ∷ b) q n.token (sym (number_plain (x ∷ b) (x, b, refl, begins) (λ r e. let one : x ≡ 45 = let w : x ∷ b ≡ 45 ∷ r = e in cc in true≢false (sym (eq-eqb x 45 one) ∙ is))) ∙ n.front) in
        let after = number_minus fs (x ∷ b) q found h in
        λ at. same_step at fs value minus x b (read begins at) (no_value at fs minus x b refl) (value_digit fs x (digit (is_digit x) (nat_eq x 45) begins is)) refl ∙ after at

    at : (v : Bool) → is_digit x || nat_eq x 45 ≡ v → Clear fs value (x ∷ b)
    at true e = go (nat_eq x 45) refl e
    at false e = absurd (number_head x n e)

-- literals
word_clear : (fs : List Level) (c : ℕ) (cs bs : List ℕ) → Clear fs (word_here cs) bs → Clear fs (word_here (c ∷ cs)) (c ∷ bs)
word_clear fs c cs bs h = λ at. word_goes at fs c cs bs ∙ h (at + 1)

word_clears : (fs : List Level) (cs bs : List ℕ) → Clear fs done bs → Clear fs (word_here cs) (cs ++ bs)
word_clears fs [] bs h = h
word_clears fs (c ∷ cs) bs h = word_clear fs c cs (cs ++ bs) (word_clears fs cs bs h)

literals : (fs : List Level) (bs : List ℕ) → Clear fs done bs → Clear fs value (110 ∷ 117 ∷ 108 ∷ 108 ∷ bs) × Clear fs value (116 ∷ 114 ∷ 117 ∷ 101 ∷ bs) × Clear fs value (102 ∷ 97 ∷ 108 ∷ 115 ∷ 101 ∷ bs)
unfolding step
literals fs bs h = (
  move fs fs value (word (codes "ull")) 110 _ (λ at. (none_begins at fs _).1) refl (word_clears fs (codes "ull") bs h),
  move fs fs value (word (codes "rue")) 116 _ (λ at. (none_begins at fs _).2) refl (word_clears fs (codes "rue") bs h),
  move fs fs value (word (codes "alse")) 102 _ (λ at. (none_begins at fs _).3) refl (word_clears fs (codes "alse") bs h),
)

quote_opens : (fs : List Level) (bs : List ℕ) → Clear fs (string false plain) bs → Clear fs value (34 ∷ bs)
unfolding step
quote_opens fs bs h = move fs fs value (string false plain) 34 bs (λ at. (none_begins at fs bs).0) refl h

-- lists and maps
bracket_opens : (fs : List Level) (bs : List ℕ) → length fs < 128 → Clear (in_list ∷ fs) item_or_end bs → Clear fs value (91 ∷ bs)
unfolding step value_refusal
bracket_opens fs bs lt h = move fs (in_list ∷ fs) value item_or_end 91 bs (λ at. ap (λ b. cond b None (Some (r.TooDeep at))) (lt-ltb (length fs) 128 lt)) refl h

brace_opens : (fs : List Level) (bs : List ℕ) → length fs < 128 → Clear (in_map ∷ fs) name_or_end bs → Clear fs value (123 ∷ bs)
unfolding step value_refusal
brace_opens fs bs lt h = move fs (in_map ∷ fs) value name_or_end 123 bs (λ at. ap (λ b. cond b None (Some (r.TooDeep at))) (lt-ltb (length fs) 128 lt)) refl h

list_ends : (fs : List Level) (bs : List ℕ) → Clear fs done bs → Clear (in_list ∷ fs) item_or_end (93 ∷ bs)
unfolding number_at
list_ends fs bs h = move (in_list ∷ fs) fs item_or_end done 93 bs (λ at. none_at at (in_list ∷ fs) item_or_end 93 bs refl refl refl) (item_end fs) h

-- a value doesn't begin with a closing bracket, nor a text with the byte of a mark
no_bracket_first : {d : ℕ} {bs q : List ℕ} {x : Tree} → IsValue d bs x q → (k : ℕ) → (k ≡ 93) ⊎ (k ≡ 239) → (r : List ℕ) → bs ≡ k ∷ r → ⊥
no_bracket_first {bs = bs} v k which r e = elim which [
  | inl is ↦ no_93 v (e ∙ ap (λ k. k ∷ r) is)
  | inr is ↦ no_239 v (e ∙ ap (λ k. k ∷ r) is)
]
  where
    no_93 : {d : ℕ} {bs q r : List ℕ} {x : Tree} → IsValue d bs x q → bs ≡ 93 ∷ r → ⊥
    no_93 {d} {q = q} {r = r} {x = x} v e = go (subst (λ bs. IsValue d bs x q) e v)
      where
        go : {d : ℕ} {q r : List ℕ} {x : Tree} → IsValue d (93 ∷ r) x q → ⊥
        go (a_number h) = number_head 93 h refl

    no_239 : {d : ℕ} {bs q r : List ℕ} {x : Tree} → IsValue d bs x q → bs ≡ 239 ∷ r → ⊥
    no_239 {d} {q = q} {r = r} {x = x} v e = go (subst (λ bs. IsValue d bs x q) e v)
      where
        go : {d : ℕ} {q r : List ℕ} {x : Tree} → IsValue d (239 ∷ r) x q → ⊥
        go (a_number h) = number_head 239 h refl

no_brace_first : {d : ℕ} {bs q : List ℕ} {m : List ℕ × Tree} → IsMember d bs m q → (r : List ℕ) → bs ≡ 125 ∷ r → ⊥
no_brace_first m r e = no_member e m

mutual
  value_clear : {d : ℕ} {b q : List ℕ} {x : Tree} → IsValue d b x q → (fs : List Level) → length fs + d ≡ 128 → Clear fs done q → Clear fs value b
  value_clear (a_null {r = q}) fs e h = (literals fs q h).0
  value_clear (a_true {r = q}) fs e h = (literals fs q h).1
  value_clear (a_false {r = q}) fs e h = (literals fs q h).2
  value_clear (a_number n) fs e h = number_clear fs n h
  value_clear (a_text {b = b} w) fs e h = quote_opens fs b (string_clear fs false w h)
  value_clear (a_list {b = b} w) fs e h = bracket_opens fs b (omega (arith, e)) (items_clear w fs e h)
  value_clear (a_map {b = b} ms es w is) fs e h = brace_opens fs b (omega (arith, e)) (members_clear w fs e h)

  items_clear : {d : ℕ} {b q : List ℕ} {ts : List Tree} → IsItems d b ts q → (fs : List Level) → length fs + suc d ≡ 128 → Clear fs done q → Clear (in_list ∷ fs) item_or_end b
  items_clear (no_items {b = b} {r = q} is) fs e h = space (in_list ∷ fs) item_or_end spaced_item b (subst (Clear (in_list ∷ fs) item_or_end) (sym is) (list_ends fs q h))
  items_clear {d = d} (items {b = b} v w) fs e h =
      let first = value_clear v (in_list ∷ fs) (omega (arith, e)) (more_items_clear w fs e h) in
      space (in_list ∷ fs) item_or_end spaced_item b (λ at. item_alike at (in_list ∷ fs) (past_space b) (no_space b) (no_bracket_first v 93 (inl refl)) ∙ first at)

  more_items_clear : {d : ℕ} {b q : List ℕ} {ts : List Tree} → IsMoreItems d b ts q → (fs : List Level) → length fs + suc d ≡ 128 → Clear fs done q → Clear (in_list ∷ fs) done b
  more_items_clear (end_items {b = b} {r = q} is) fs e h = byte_after (in_list ∷ fs) fs done done 93 b q spaced_done refl (list_end fs) is h
  more_items_clear (more_items {b = b} {c = c} is v w) fs e h =
      byte_after (in_list ∷ fs) (in_list ∷ fs) done value 44 b c spaced_done refl (list_next fs) is
      (space (in_list ∷ fs) value spaced_value c (value_clear v (in_list ∷ fs) (omega (arith, e)) (more_items_clear w fs e h)))

  member_clear : {d : ℕ} {b q : List ℕ} {m : List ℕ × Tree} → IsMember d b m q → (fs : List Level) → length fs + d ≡ 128 → Clear fs done q → Clear fs name b
  member_clear (member {b = b} {c = c} {e = k} w is v) fs e h =
      pass fs fs name (string true plain) 34 b refl (name_begins fs)
      (string_clear fs true w (byte_after fs fs colon value 58 c k spaced_colon refl (colon_next fs) is (space fs value spaced_value k (value_clear v fs e h))))

  members_clear : {d : ℕ} {b q : List ℕ} {ms : List (List ℕ × Tree)} → IsMembers d b ms q → (fs : List Level) → length fs + suc d ≡ 128 → Clear fs done q → Clear (in_map ∷ fs) name_or_end b
  members_clear (no_members {b = b} {r = q} is) fs e h = byte_after (in_map ∷ fs) fs name_or_end done 125 b q spaced_first refl (first_end fs) is h
  members_clear (members {b = b} m w) fs e h =
      let first = member_clear m (in_map ∷ fs) (omega (arith, e)) (more_members_clear w fs e h) in
      space (in_map ∷ fs) name_or_end spaced_first b (λ at. first_alike at (in_map ∷ fs) (past_space b) (no_space b) (no_brace_first m) ∙ first at)

  more_members_clear : {d : ℕ} {b q : List ℕ} {ms : List (List ℕ × Tree)} → IsMoreMembers d b ms q → (fs : List Level) → length fs + suc d ≡ 128 → Clear fs done q → Clear (in_map ∷ fs) done b
  more_members_clear (end_members {b = b} {r = q} is) fs e h = byte_after (in_map ∷ fs) fs done done 125 b q spaced_done refl (map_end fs) is h
  more_members_clear (more_members {b = b} {c = c} is m w) fs e h =
      byte_after (in_map ∷ fs) (in_map ∷ fs) done name 44 b c spaced_done refl (map_next fs) is
      (space (in_map ∷ fs) name spaced_name c (member_clear m (in_map ∷ fs) (omega (arith, e)) (more_members_clear w fs e h)))

-- the whole text, after a byte order mark if there is one
past : (bs q : List ℕ) (x : Tree) → IsValue 128 (past_space bs) x q → past_space q ≡ [] → Clear [] value bs
past bs q x v e = space [] value spaced_value bs (value_clear v [] refl (space [] done spaced_done q (subst (Clear [] done) (sym e) (λ at. text_ends at [] refl))))

marked : (bs : List ℕ) → Clear [] value bs → Clear [] start (239 ∷ 187 ∷ 191 ∷ bs)
marked bs h = λ at.
    mark_begins_at at [] (187 ∷ 191 ∷ bs)
    ∙ pass [] [] (mark (187 ∷ 191 ∷ [])) (mark (191 ∷ [])) 187 (191 ∷ bs) refl (second_mark []) (pass [] [] (mark (191 ∷ [])) value 191 bs refl (third_mark []) h) (at + 1)

-- bytes begin with a mark, or none is passed
is_marked : (bs : List ℕ) → ((r : List ℕ) × (bs ≡ 239 ∷ 187 ∷ 191 ∷ r) × (past_mark bs ≡ r)) ⊎ (past_mark bs ≡ bs)
is_marked [] = inr refl
is_marked (a ∷ []) = inr refl
is_marked (a ∷ b ∷ []) = inr refl
is_marked (a ∷ b ∷ c ∷ bs) = go (nat_eq a 239) (nat_eq b 187) (nat_eq c 191) refl refl refl
  where
    go : (p q s : Bool) → nat_eq a 239 ≡ p → nat_eq b 187 ≡ q → nat_eq c 191 ≡ s → ((r : List ℕ) × (a ∷ b ∷ c ∷ bs ≡ 239 ∷ 187 ∷ 191 ∷ r) × (past_mark (a ∷ b ∷ c ∷ bs) ≡ r)) ⊎ (past_mark (a ∷ b ∷ c ∷ bs) ≡ a ∷ b ∷ c ∷ bs)
    go true true true e f g = inl (bs, (ap (λ x. x ∷ b ∷ c ∷ bs) (same_nat a 239 e) ∙ ap (λ x. 239 ∷ x ∷ c ∷ bs) (same_nat b 187 f) ∙ ap (λ x. 239 ∷ 187 ∷ x ∷ bs) (same_nat c 191 g)), rw (e, f, g) refl)
    go true true false e f g = inr (rw (e, f, g) refl)
    go true false s e f g = inr (rw (e, f) refl)
    go false q s e f g = inr (rw e refl)

pub reads_clear : (bytes : List ℕ) (x : Tree) → reads bytes x → first_refusal bytes ≡ None
reads_clear bytes x (q, v, e) = elim (is_marked bytes) [
  | inl (r, is, gone) ↦ subst (λ bs. Clear [] start bs) (sym is) (marked r (past r q x (subst (λ bs. IsValue 128 (past_space bs) x q) gone v) e)) 0
  | inr same ↦
      let w = subst (λ bs. IsValue 128 (past_space bs) x q) same v in
      no_mark_begins 0 [] bytes (λ r is. no_bracket_first w 239 (inr refl) r (ap past_space is)) ∙ past bytes q x w e 0
]

-- what is refused reads as no tree
pub not_read : (bytes : List ℕ) (e : ReadRefusal) → Known e (first_refusal bytes ≡ Some e) → Known e ((x : Tree) → reads bytes x → ⊥)
not_read bytes e k = more e (λ h x w. let none : None ≡ Some e = sym (reads_clear bytes x w) ∙ h in cc) k

pub answered : (bytes : List ℕ) (o : Result Tree ReadRefusal) → IfOk o (λ x. reads bytes x) → IfErr o (λ e. Known e (first_refusal bytes ≡ Some e)) → (x : Tree) → reads bytes x → (o ≡ Ok x) ⊎ (o ≡ Err r.NoMemory)
answered bytes (Ok y) ok err x h = inl (ap Ok (read_once bytes y x ok h))
answered bytes (Err e) ok err x h = go e (not_read bytes e err)
  where
    go : (e : ReadRefusal) → Known e ((x : Tree) → reads bytes x → ⊥) → (◌≡◌ {A = Result Tree ReadRefusal} (Err e) (Ok x)) ⊎ (◌≡◌ {A = Result Tree ReadRefusal} (Err e) (Err r.NoMemory))
    go r.NoMemory k = inr refl
    go (r.Syntax at) k = absurd (k x h)
    go (r.NotUtf8 at) k = absurd (k x h)
    go (r.Fraction at) k = absurd (k x h)
    go (r.TooLarge at) k = absurd (k x h)
    go (r.TooDeep at) k = absurd (k x h)

pub answered_err : (bytes : List ℕ) (o : Result Tree ReadRefusal) (e : ReadRefusal) → IsErrAnd o (λ x. x ≡ e) → Known e (first_refusal bytes ≡ Some e) → (x : Tree) → reads bytes x → (o ≡ Ok x) ⊎ (o ≡ Err r.NoMemory)
answered_err bytes o e is k x h =
    let (y, eq, same) = err_from_is_err_and o is in
    subst (λ o. (o ≡ Ok x) ⊎ (o ≡ Err r.NoMemory)) (sym eq) (answered bytes (Err y) tt (subst (λ e. Known e (first_refusal bytes ≡ Some e)) (sym same) k) x h)
