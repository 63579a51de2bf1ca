-- Bytes whose places end a text are a text by the rules of the grammar.
use Rattle.std.proofs.Common.{◌≡◌, ◌∙◌, refl, sym, ap, ap₂, subst, ◌⊎◌, inl, inr, ℕ, Bool, true, false, ◌&&◌, ◌||◌, cond, nat_eq, List, [], ◌∷◌, ◌++◌, Option, Some, None, true≢false}
use Rattle.std.specs.Prelude.{codes}
use Rattle.ld_tree.specs.Numbers.{is_digit}
use Rattle.ld_tree.specs.Reading.{is_white, past_space}
use Rattle.ld_tree_read.specs.Begun.{after, lead_on, ends}
use Rattle.ld_tree_read.specs.Grammar.{IsDigits, last_digit, digit, IsInt, zero_int, one_int, int, IsFrac, no_frac, frac, IsExp, no_exp, exp, signed_exp, natural, negative, IsChars, closing, IsValue, a_null, a_true, a_false, a_number, a_text, a_list, a_map, IsItems, no_items, items, IsMoreItems, end_items, more_items, IsMember, member, IsMembers, no_members, members, IsMoreMembers, end_members, more_members, IsText, text, marked}
use Rattle.ld_tree_read.specs.State.{Level, in_list, in_map, Here, start, mark, value, item_or_end, name_or_end, name, colon, string, word, minus, zero_digit, whole, point, fraction, exponent, sign, power, done, Inside, plain, slash, first, second, digits, high, low_slash, low_u, low_first, low_second, begun, Place, step, inside, is_plain, string_from, string_end, word_from, mark_from, value_from, name_from, after_value, outer, behind, scale_from, fraction_from, is_behind, is_outermost}
use Rattle.ld_tree_read.proofs.Outward.{split, none_leads, Rest, rest_step}
use Rattle.ld_tree_read.proofs.Powers.{both}
use Rattle.ld_tree_read.proofs.Scaled.{chosen, passed, same_nat}

-- the bytes close what is open, the innermost first
abbrev Closes : List Level → List ℕ → Type 0
Closes [] r = past_space r ≡ []
Closes (in_list ∷ fs) r = (c : List ℕ) × IsMoreItems r c × Closes fs c
Closes (in_map ∷ fs) r = (c : List ℕ) × IsMoreMembers r c × Closes fs c

abbrev ValueAt : List Level → List ℕ → Type 0
ValueAt fs bs = (r : List ℕ) × IsValue bs r × Closes fs r

abbrev MemberAt : List Level → List ℕ → Type 0
MemberAt fs bs = (r : List ℕ) × IsMember bs r × Closes fs r

abbrev ColonAt : List Level → List ℕ → Type 0
ColonAt fs bs = (e r : List ℕ) × (past_space bs ≡ 58 ∷ e) × IsValue (past_space e) r × Closes fs r

-- none or more digits
abbrev Run : List ℕ → List ℕ → Type 0
Run bs c = (bs ≡ c) ⊎ IsDigits bs c

-- what is left of a number's parts
abbrev ExpAt : List Level → List ℕ → Type 0
ExpAt fs bs = (r : List ℕ) × IsExp bs r × Closes fs r

abbrev FracAt : List Level → List ℕ → Type 0
FracAt fs bs = (c : List ℕ) × IsFrac bs c × ExpAt fs c

abbrev IntAt : List Level → List ℕ → Type 0
IntAt fs bs = (c : List ℕ) × IsInt bs c × FracAt fs c

abbrev ScaleAt : List Level → List ℕ → Type 0
ScaleAt fs bs = (e : ℕ) → nat_eq e 69 || nat_eq e 101 ≡ true → ExpAt fs (e ∷ bs)

abbrev SignedAt : List Level → List ℕ → Type 0
SignedAt fs bs = (c : List ℕ) × IsDigits bs c × Closes fs c

-- what is left of a text at a place in it. Where a list's or a map's end may stand, it is the innermost that ends.
abbrev Left : List Level → Here → List ℕ → Type 0
Left fs start bs = Unit {0}
Left fs (mark cs) bs = (r : List ℕ) × (bs ≡ cs ++ r) × ValueAt fs (past_space r)
Left fs value bs = ValueAt fs (past_space bs)
Left [] item_or_end bs = Unit {0}
Left (in_map ∷ fs) item_or_end bs = Unit {0}
Left (in_list ∷ fs) item_or_end bs = (r : List ℕ) × IsItems bs r × Closes fs r
Left [] name_or_end bs = Unit {0}
Left (in_list ∷ fs) name_or_end bs = Unit {0}
Left (in_map ∷ fs) name_or_end bs = (r : List ℕ) × IsMembers bs r × Closes fs r
Left fs name bs = MemberAt fs (past_space bs)
Left fs colon bs = ColonAt fs bs
Left fs (string true i) bs = (c : List ℕ) × Rest i bs c × ColonAt fs c
Left fs (string false i) bs = (c : List ℕ) × Rest i bs c × Closes fs c
Left fs (word cs) bs = (r : List ℕ) × (bs ≡ cs ++ r) × Closes fs r
Left fs minus bs = IntAt fs bs
Left fs zero_digit bs = FracAt fs bs
Left fs whole bs = (c : List ℕ) × Run bs c × FracAt fs c
Left fs point bs = (c : List ℕ) × IsDigits bs c × ExpAt fs c
Left fs fraction bs = (c : List ℕ) × Run bs c × ExpAt fs c
Left fs exponent bs = ScaleAt fs bs
Left fs sign bs = SignedAt fs bs
Left fs power bs = (c : List ℕ) × Run bs c × Closes fs c
Left fs done bs = Closes fs bs

abbrev LeftAt : Place → List ℕ → Type 0
LeftAt p bs = Left p.0 p.1 bs

-- a run with one more digit
run_digits : (b : ℕ) {bs c : List ℕ} → is_digit b ≡ true → Run bs c → IsDigits (b ∷ bs) c
run_digits b {bs} {c} d (inl none) = subst (λ c. IsDigits (b ∷ bs) c) none (last_digit b d)
run_digits b d (inr more) = digit b d more

run_int : (b : ℕ) {bs c : List ℕ} → is_digit b ≡ true → nat_eq b 48 ≡ false → Run bs c → IsInt (b ∷ bs) c
run_int b {bs} {c} d n (inl none) = subst (λ c. IsInt (b ∷ bs) c) none (one_int b d n)
run_int b d n (inr more) = int b d n more

-- white space before
white : (b : ℕ) (bs : List ℕ) → is_white b ≡ true → past_space bs ≡ past_space (b ∷ bs)
white b bs e = sym (chosen (is_white b) (past_space bs) (b ∷ bs) e)

no_white : (b : ℕ) (bs : List ℕ) → is_white b ≡ false → b ∷ bs ≡ past_space (b ∷ bs)
no_white b bs e = sym (passed (is_white b) (past_space bs) (b ∷ bs) e)

items_after : {bs cs : List ℕ} {r : List ℕ} → past_space bs ≡ past_space cs → IsMoreItems bs r → IsMoreItems cs r
items_after e (end_items is) = end_items (sym e ∙ is)
items_after e (more_items is v w) = more_items (sym e ∙ is) v w

members_after : {bs cs : List ℕ} {r : List ℕ} → past_space bs ≡ past_space cs → IsMoreMembers bs r → IsMoreMembers cs r
members_after e (end_members is) = end_members (sym e ∙ is)
members_after e (more_members is v w) = more_members (sym e ∙ is) v w

first_items : {bs cs : List ℕ} {r : List ℕ} → past_space bs ≡ past_space cs → IsItems bs r → IsItems cs r
first_items e (no_items is) = no_items (sym e ∙ is)
first_items {r = r} e (items {c = c} v w) = items (subst (λ b. IsValue b c) e v) w

first_members : {bs cs : List ℕ} {r : List ℕ} → past_space bs ≡ past_space cs → IsMembers bs r → IsMembers cs r
first_members e (no_members is) = no_members (sym e ∙ is)
first_members {r = r} e (members {c = c} v w) = members (subst (λ b. IsMember b c) e v) w

closes_after : (fs : List Level) (bs cs : List ℕ) → past_space bs ≡ past_space cs → Closes fs bs → Closes fs cs
closes_after [] bs cs e h = sym e ∙ h
closes_after (in_list ∷ fs) bs cs e h = (h.0, items_after e h.1, h.2)
closes_after (in_map ∷ fs) bs cs e h = (h.0, members_after e h.1, h.2)

module _ (p : Place) (bs : List ℕ) (h : LeftAt p bs) where
  there : (q : Place) → Some q ≡ Some p → LeftAt q bs
  there q e = let is : q ≡ p = cc in subst (λ q. LeftAt q bs) (sym is) h

  -- behind a value
  after_back : (fs : List Level) (b : ℕ) → after_value fs b ≡ Some p → Closes fs (b ∷ bs)
  after_back [] b e = none_leads e
  after_back (in_list ∷ fs) b e =
      split (nat_eq b 44) e
      (λ is e. let w = there (in_list ∷ fs, value) e in (w.2.0, subst (λ b. IsMoreItems (b ∷ bs) w.2.0) (sym (same_nat b 44 is)) (more_items refl w.1 w.2.1), w.2.2))
      (λ _ e. split (nat_eq b 93) e
      (λ is e. (bs, subst (λ b. IsMoreItems (b ∷ bs) bs) (sym (same_nat b 93 is)) (end_items refl), there (fs, done) e))
      (λ _ e. none_leads e))
  after_back (in_map ∷ fs) b e =
      split (nat_eq b 44) e
      (λ is e. let w = there (in_map ∷ fs, name) e in (w.2.0, subst (λ b. IsMoreMembers (b ∷ bs) w.2.0) (sym (same_nat b 44 is)) (more_members refl w.1 w.2.1), w.2.2))
      (λ _ e. split (nat_eq b 125) e
      (λ is e. (bs, subst (λ b. IsMoreMembers (b ∷ bs) bs) (sym (same_nat b 125 is)) (end_members refl), there (fs, done) e))
      (λ _ e. none_leads e))

  behind_back : (fs : List Level) (b : ℕ) → behind fs b ≡ Some p → Closes fs (b ∷ bs)
  behind_back fs b e =
      split (is_white b) e
      (λ is e. closes_after fs bs (b ∷ bs) (white b bs is) (there (fs, done) e))
      (λ _ e. after_back fs b e)

  scale_back : (fs : List Level) (b : ℕ) → scale_from fs b ≡ Some p → ExpAt fs (b ∷ bs)
  scale_back fs b e =
      split (nat_eq b 69 || nat_eq b 101) e
      (λ is e. there (fs, exponent) e b is)
      (λ _ e. (b ∷ bs, no_exp, behind_back fs b e))

  fraction_back : (fs : List Level) (b : ℕ) → fraction_from fs b ≡ Some p → FracAt fs (b ∷ bs)
  fraction_back fs b e =
      split (nat_eq b 46) e
      (λ is e. let w = there (fs, point) e in (w.0, subst (λ b. IsFrac (b ∷ bs) w.0) (sym (same_nat b 46 is)) (frac w.1), w.2))
      (λ _ e. (b ∷ bs, no_frac, scale_back fs b e))

  minus_back : (fs : List Level) (b : ℕ) → cond (nat_eq b 48) (Some (fs, zero_digit)) (cond (is_digit b) (Some (fs, whole)) None) ≡ Some p → IntAt fs (b ∷ bs)
  minus_back fs b e =
      split (nat_eq b 48) e
      (λ is e. (bs, subst (λ b. IsInt (b ∷ bs) bs) (sym (same_nat b 48 is)) zero_int, there (fs, zero_digit) e))
      (λ n e. split (is_digit b) e
      (λ d e. let w = there (fs, whole) e in (w.0, run_int b d n w.1, w.2))
      (λ _ e. none_leads e))

  -- a literal
  word_back : (fs : List Level) (b k : ℕ) (cs : List ℕ) → ((r : List ℕ) → IsValue (k ∷ cs ++ r) r) → nat_eq b k ≡ true → Left fs (word cs) bs → ValueAt fs (b ∷ bs)
  word_back fs b k cs is same w = (w.0, subst (λ bs. IsValue bs w.0) (sym (ap₂ (λ b bs. b ∷ bs) (same_nat b k same) w.1)) (is w.0), w.2)

  number_at : (fs : List Level) (b : ℕ) → IntAt fs (b ∷ bs) → ValueAt fs (b ∷ bs)
  number_at fs b w = (w.2.2.0, a_number (natural w.1 w.2.1 w.2.2.1), w.2.2.2)

  value_back : (fs : List Level) (b : ℕ) → value_from fs b ≡ Some p → ValueAt fs (b ∷ bs)
  value_back fs b e =
      split (nat_eq b 34) e (λ is e. let w = there (fs, string false plain) e in (w.0, subst (λ b. IsValue (b ∷ bs) w.0) (sym (same_nat b 34 is)) (a_text w.1), w.2)) (λ _ e.
      split (nat_eq b 91) e (λ is e. let w = there (in_list ∷ fs, item_or_end) e in (w.0, subst (λ b. IsValue (b ∷ bs) w.0) (sym (same_nat b 91 is)) (a_list w.1), w.2)) (λ _ e.
      split (nat_eq b 123) e (λ is e. let w = there (in_map ∷ fs, name_or_end) e in (w.0, subst (λ b. IsValue (b ∷ bs) w.0) (sym (same_nat b 123 is)) (a_map w.1), w.2)) (λ _ e.
      split (nat_eq b 110) e (λ is e. word_back fs b 110 (codes "ull") (λ r. a_null) is (there (fs, word (codes "ull")) e)) (λ _ e.
      split (nat_eq b 116) e (λ is e. word_back fs b 116 (codes "rue") (λ r. a_true) is (there (fs, word (codes "rue")) e)) (λ _ e.
      split (nat_eq b 102) e (λ is e. word_back fs b 102 (codes "alse") (λ r. a_false) is (there (fs, word (codes "alse")) e)) (λ _ e.
      split (nat_eq b 45) e
      (λ is e. let w = there (fs, minus) e in (w.2.2.0, subst (λ b. IsValue (b ∷ bs) w.2.2.0) (sym (same_nat b 45 is)) (a_number (negative w.1 w.2.1 w.2.2.1)), w.2.2.2))
      (λ _ e. number_at fs b (minus_back fs b e))))))))

  -- behind white space, or at a byte that is none
  value_spaced : (fs : List Level) (b : ℕ) → cond (is_white b) (Some (fs, value)) (value_from fs b) ≡ Some p → ValueAt fs (past_space (b ∷ bs))
  value_spaced fs b e =
      split (is_white b) e
      (λ is e. subst (ValueAt fs) (white b bs is) (there (fs, value) e))
      (λ n e. subst (ValueAt fs) (no_white b bs n) (value_back fs b e))

  name_back : (fs : List Level) (b : ℕ) → name_from fs b ≡ Some p → MemberAt fs (b ∷ bs)
  name_back fs b e =
      split (nat_eq b 34) e
      (λ is e. let w = there (fs, string true plain) e in let v = w.2 in (v.1, subst (λ b. IsMember (b ∷ bs) v.1) (sym (same_nat b 34 is)) (member w.1 v.2 v.3), v.4))
      (λ _ e. none_leads e)

  item_back : (fs : List Level) (b : ℕ) → cond (is_white b) (Some (fs, item_or_end)) (cond (nat_eq b 93) (Some (outer fs, done)) (value_from fs b)) ≡ Some p → Left fs item_or_end (b ∷ bs)
  item_back [] b e = tt
  item_back (in_map ∷ fs) b e = tt
  item_back (in_list ∷ fs) b e =
      split (is_white b) e
      (λ is e. let w = there (in_list ∷ fs, item_or_end) e in (w.0, first_items (white b bs is) w.1, w.2))
      (λ n e. split (nat_eq b 93) e
      (λ is e. (bs, subst (λ b. IsItems (b ∷ bs) bs) (sym (same_nat b 93 is)) (no_items refl), there (fs, done) e))
      (λ _ e. let w = value_back (in_list ∷ fs) b e in (w.2.0, items (subst (λ bs. IsValue bs w.0) (no_white b bs n) w.1) w.2.1, w.2.2)))

  first_back : (fs : List Level) (b : ℕ) → cond (is_white b) (Some (fs, name_or_end)) (cond (nat_eq b 125) (Some (outer fs, done)) (name_from fs b)) ≡ Some p → Left fs name_or_end (b ∷ bs)
  first_back [] b e = tt
  first_back (in_list ∷ fs) b e = tt
  first_back (in_map ∷ fs) b e =
      split (is_white b) e
      (λ is e. let w = there (in_map ∷ fs, name_or_end) e in (w.0, first_members (white b bs is) w.1, w.2))
      (λ n e. split (nat_eq b 125) e
      (λ is e. (bs, subst (λ b. IsMembers (b ∷ bs) bs) (sym (same_nat b 125 is)) (no_members refl), there (fs, done) e))
      (λ _ e. let w = name_back (in_map ∷ fs) b e in (w.2.0, members (subst (λ bs. IsMember bs w.0) (no_white b bs n) w.1) w.2.1, w.2.2)))

  colon_back : (fs : List Level) (b : ℕ) → cond (is_white b) (Some (fs, colon)) (cond (nat_eq b 58) (Some (fs, value)) None) ≡ Some p → ColonAt fs (b ∷ bs)
  colon_back fs b e =
      split (is_white b) e
      (λ is e. let w = there (fs, colon) e in (w.0, w.1, sym (white b bs is) ∙ w.2, w.3, w.4))
      (λ _ e. split (nat_eq b 58) e
      (λ is e. let w = there (fs, value) e in (bs, w.0, ap (λ b. past_space (b ∷ bs)) (same_nat b 58 is), w.1, w.2))
      (λ _ e. none_leads e))

  string_back : (fs : List Level) (n : Bool) (i : Inside) (b : ℕ) → cond (is_plain i && nat_eq b 34) (Some (fs, string_end n)) (string_from fs n (inside i b)) ≡ Some p → Left fs (string n i) (b ∷ bs)
  string_back fs n i b e = split (is_plain i && nat_eq b 34) e (λ is e. ended n i is e) (λ q e. go (inside i b) refl q e)
    where
      plain_is : (i : Inside) (n : Bool) → is_plain i ≡ true → nat_eq b 34 ≡ true → Left fs (string_end n) bs → Left fs (string n i) (b ∷ bs)
      plain_is plain true _ is h = (bs, subst (λ b. IsChars (b ∷ bs) bs) (sym (same_nat b 34 is)) closing, h)
      plain_is plain false _ is h = (bs, subst (λ b. IsChars (b ∷ bs) bs) (sym (same_nat b 34 is)) closing, h)
      plain_is slash n e _ _ = absurd (true≢false (sym e))
      plain_is first n e _ _ = absurd (true≢false (sym e))
      plain_is second n e _ _ = absurd (true≢false (sym e))
      plain_is (digits k) n e _ _ = absurd (true≢false (sym e))
      plain_is (high k) n e _ _ = absurd (true≢false (sym e))
      plain_is low_slash n e _ _ = absurd (true≢false (sym e))
      plain_is low_u n e _ _ = absurd (true≢false (sym e))
      plain_is low_first n e _ _ = absurd (true≢false (sym e))
      plain_is low_second n e _ _ = absurd (true≢false (sym e))
      plain_is (begun t) n e _ _ = absurd (true≢false (sym e))

      ended : (n : Bool) (i : Inside) → is_plain i && nat_eq b 34 ≡ true → Some (fs, string_end n) ≡ Some p → Left fs (string n i) (b ∷ bs)
      ended n i is e = let w = both (is_plain i) (nat_eq b 34) is in plain_is i n w.0 w.1 (there (fs, string_end n) e)

      on : (n : Bool) (j : Inside) → is_plain i && nat_eq b 34 ≡ false → inside i b ≡ Some j → Left fs (string n j) bs → Left fs (string n i) (b ∷ bs)
      on true j q is h = (h.0, rest_step j bs h.0 h.1 i b q is, h.2)
      on false j q is h = (h.0, rest_step j bs h.0 h.1 i b q is, h.2)

      go : (o : Option Inside) → inside i b ≡ o → is_plain i && nat_eq b 34 ≡ false → string_from fs n o ≡ Some p → Left fs (string n i) (b ∷ bs)
      go None is q e = none_leads e
      go (Some j) is q e = on n j q is (there (fs, string n j) e)

  rest_back : (fs : List Level) (b : ℕ) (cs : List ℕ) → word_from fs cs ≡ Some p → (r : List ℕ) × (b ∷ bs ≡ b ∷ cs ++ r) × Closes fs r
  rest_back fs b [] e = (bs, refl, there (fs, done) e)
  rest_back fs b (c ∷ cs) e = let w = there (fs, word (c ∷ cs)) e in (w.0, ap (λ bs. b ∷ bs) w.1, w.2)

  mark_back : (fs : List Level) (b : ℕ) (cs : List ℕ) → mark_from fs cs ≡ Some p → (r : List ℕ) × (b ∷ bs ≡ b ∷ cs ++ r) × ValueAt fs (past_space r)
  mark_back fs b [] e = (bs, refl, there (fs, value) e)
  mark_back fs b (c ∷ cs) e = let w = there (fs, mark (c ∷ cs)) e in (w.0, ap (λ bs. b ∷ bs) w.1, w.2)

  left_step : (fs : List Level) (here : Here) (b : ℕ) → step fs here b ≡ Some p → Left fs here (b ∷ bs)
  unfolding step
  left_step fs start b e = tt
  left_step fs (mark []) b e = none_leads e
  left_step fs (mark (c ∷ cs)) b e = split (nat_eq b c) e (λ is e. let w = mark_back fs b cs e in (w.0, w.1 ∙ ap (λ b. b ∷ cs ++ w.0) (same_nat b c is), w.2)) (λ _ e. none_leads e)
  left_step fs value b e = value_spaced fs b e
  left_step fs item_or_end b e = item_back fs b e
  left_step fs name_or_end b e = first_back fs b e
  left_step fs name b e = split (is_white b) e (λ is e. subst (MemberAt fs) (white b bs is) (there (fs, name) e)) (λ n e. subst (MemberAt fs) (no_white b bs n) (name_back fs b e))
  left_step fs colon b e = colon_back fs b e
  left_step fs (string n i) b e = string_back fs n i b e
  left_step fs (word []) b e = none_leads e
  left_step fs (word (c ∷ cs)) b e = split (nat_eq b c) e (λ is e. let w = rest_back fs b cs e in (w.0, w.1 ∙ ap (λ b. b ∷ cs ++ w.0) (same_nat b c is), w.2)) (λ _ e. none_leads e)
  left_step fs minus b e = minus_back fs b e
  left_step fs zero_digit b e = fraction_back fs b e
  left_step fs whole b e =
      split (is_digit b) e
      (λ d e. let w = there (fs, whole) e in (w.0, inr (run_digits b d w.1), w.2))
      (λ _ e. (b ∷ bs, inl refl, fraction_back fs b e))
  left_step fs point b e = split (is_digit b) e (λ d e. let w = there (fs, fraction) e in (w.0, run_digits b d w.1, w.2)) (λ _ e. none_leads e)
  left_step fs fraction b e =
      split (is_digit b) e
      (λ d e. let w = there (fs, fraction) e in (w.0, inr (run_digits b d w.1), w.2))
      (λ _ e. (b ∷ bs, inl refl, scale_back fs b e))
  left_step fs exponent b e =
      split (nat_eq b 43 || nat_eq b 45) e
      (λ s e. let w = there (fs, sign) e in λ x is. (w.0, signed_exp x b is s w.1, w.2))
      (λ _ e. split (is_digit b) e (λ d e. let w = there (fs, power) e in λ x is. (w.0, exp x is (run_digits b d w.1), w.2)) (λ _ e. none_leads e))
  left_step fs sign b e = split (is_digit b) e (λ d e. let w = there (fs, power) e in (w.0, run_digits b d w.1, w.2)) (λ _ e. none_leads e)
  left_step fs power b e =
      split (is_digit b) e
      (λ d e. let w = there (fs, power) e in (w.0, inr (run_digits b d w.1), w.2))
      (λ _ e. (b ∷ bs, inl refl, behind_back fs b e))
  left_step fs done b e = behind_back fs b e

-- at the end
left_end : (fs : List Level) (here : Here) → is_behind here ≡ true → is_outermost fs ≡ true → Left fs here []
left_end [] done _ _ = refl
left_end [] zero_digit _ _ = ([], no_frac, ([], no_exp, refl))
left_end [] whole _ _ = ([], inl refl, ([], no_frac, ([], no_exp, refl)))
left_end [] fraction _ _ = ([], inl refl, ([], no_exp, refl))
left_end [] power _ _ = ([], inl refl, refl)
left_end [] start e _ = tt
left_end [] (mark cs) e _ = absurd (true≢false (sym e))
left_end [] value e _ = absurd (true≢false (sym e))
left_end [] item_or_end e _ = tt
left_end [] name_or_end e _ = tt
left_end [] name e _ = absurd (true≢false (sym e))
left_end [] colon e _ = absurd (true≢false (sym e))
left_end [] (string n i) e _ = absurd (true≢false (sym e))
left_end [] (word cs) e _ = absurd (true≢false (sym e))
left_end [] minus e _ = absurd (true≢false (sym e))
left_end [] point e _ = absurd (true≢false (sym e))
left_end [] exponent e _ = absurd (true≢false (sym e))
left_end [] sign e _ = absurd (true≢false (sym e))
left_end (f ∷ fs) here e o = absurd (true≢false (sym o))

left : (fs : List Level) (here : Here) (bs : List ℕ) → ends (after fs here bs) ≡ true → Left fs here bs
unfolding after
left fs here [] h = let w = both (is_behind here) (is_outermost fs) h in left_end fs here w.0 w.1
left fs here (b ∷ bs) h = go (step fs here b) refl (λ gs there h. left gs there bs h) h
  where
    go : (s : Option Place) → step fs here b ≡ s → ((gs : List Level) (there : Here) → ends (after gs there bs) ≡ true → Left gs there bs) → ends (lead_on s (λ p. after p.0 p.1 bs)) ≡ true → Left fs here (b ∷ bs)
    go None e ih h = absurd (true≢false (sym h))
    go (Some p) e ih h = left_step p bs (ih p.0 p.1 h) fs here b e

-- a text's first byte
pub ruled : (bytes : List ℕ) → ends (after [] start bytes) ≡ true → IsText bytes
unfolding after step
ruled [] h = absurd (true≢false (sym h))
ruled (b ∷ bs) h = at (nat_eq b 239) refl h
  where
    text_at : ValueAt [] (past_space (b ∷ bs)) → IsText (b ∷ bs)
    text_at w = text w.1 w.2

    mark_at : nat_eq b 239 ≡ true → Left [] (mark (187 ∷ 191 ∷ [])) bs → IsText (b ∷ bs)
    mark_at is w = subst IsText (sym (ap₂ (λ b bs. b ∷ bs) (same_nat b 239 is) w.1)) (marked w.2.1 w.2.2)

    at : (x : Bool) → nat_eq b 239 ≡ x → ends (lead_on (cond x (Some ([], mark (187 ∷ 191 ∷ []))) (cond (is_white b) (Some ([], value)) (value_from [] b))) (λ p. after p.0 p.1 bs)) ≡ true → IsText (b ∷ bs)
    at true is h = mark_at is (left [] (mark (187 ∷ 191 ∷ [])) bs h)
    at false is h = go (cond (is_white b) (Some ([], value)) (value_from [] b)) refl h
      where
        go : (s : Option Place) → cond (is_white b) (Some ([], value)) (value_from [] b) ≡ s → ends (lead_on s (λ p. after p.0 p.1 bs)) ≡ true → IsText (b ∷ bs)
        go None e h = absurd (true≢false (sym h))
        go (Some p) e h = text_at (value_spaced p bs (left p.0 p.1 bs h) [] b e)
