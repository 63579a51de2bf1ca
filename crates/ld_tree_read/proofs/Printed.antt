-- The text of a tree reads as the tree.
use Rattle.std.proofs.Common.{◌≡◌, ◌∙◌, refl, sym, ap, ap₂, subst, ◌⊎◌, inl, inr, ℕ, zero, suc, ◌+◌, ◌-◌, ◌*◌, ◌/◌, ◌%◌, ◌^◌, ◌<◌, ◌≤◌, ℤ, pos, negsuc, Bool, true, false, ◌&&◌, ◌||◌, cond, nat_eq, nat_lt, nat_le, List, [], ◌∷◌, ◌++◌, length, take, drop, map, Option, Some, None, Ok, Err, arith, lt-ltb, le-ltb, append_assoc, append-nil, true≢false}
use Rattle.std.specs.Prelude.{codes}
use Rattle.std.specs.List.{prefix_len, AllByRecursion}
use Rattle.std.specs.Fmt.{decimal, signed_decimal}
use Rattle.std.specs.Str.{is_utf8}
use Rattle.std.specs.Map.{keys_of, values_of}
use Rattle.std.proofs.lemmas.Fmt.{decimal_by_steps}
use Rattle.std.proofs.lemmas.Bool.{cases_lt, ltb-true, eqb-true, le-leb}
use Rattle.std.proofs.lemmas.Str.{encode_ascii, IsUtf8-from_is_utf8}
use Rattle.std.proofs.Math.Seq.{take-append_seam, drop-append_seam}
use Rattle.ld_tree.specs.Bounds.{fits, fits_step, in_64_bits, spelled, spelled_step, all_true, all_utf8}
use Rattle.ld_tree.specs.CompactText.{text, text_step, number, quoted, escaped, escape, needs_escape, hex_digit, with_commas, after_commas, member_text, member_texts}
use Rattle.ld_tree.specs.Names.{Sorted}
use Rattle.ld_tree.specs.Numbers.{Token, is_digit, value_after, value_of, whole_num, digits_at, int_at, frac_at, exp_at, ends_number, unsigned_at, number_at, ◌>>=◌}
use Rattle.ld_tree.specs.Reading.{is_white, past_space, is_unescaped, hex, hex4, more_hex, is_high_half, is_low_half, IsChars, closing, char, unescaped, letter, unit, IsString, IsNumber, IsValue, a_null, a_true, a_false, a_number, a_text, a_list, a_map, IsItems, no_items, items, IsMoreItems, end_items, more_items, IsMember, member, IsMembers, no_members, members, IsMoreMembers, end_members, more_members, put_all, past_mark, reads}
use Rattle.ld_tree.specs.Reading as reading
use Rattle.ld_tree.specs.Trees.{depth_of, depth_step, greatest}
use Rattle.ld_tree.specs.declared.number.NumFault.TheVariants.{TooLarge}
use Rattle.ld_tree.specs.declared.tree.Num.{Num}
use Rattle.ld_tree.specs.declared.tree.Num.TheVariants as n
use Rattle.ld_tree.specs.declared.tree.Tree as t
use Rattle.ld_tree.specs.declared.tree.Tree.{Tree}
use Rattle.ld_tree.specs.declared.tree.Tree.TheOpen.{Tree-F}
use Rattle.ld_tree.specs.declared.tree.Tree.TheViews.{roll-Tree}
use Rattle.ld_tree.specs.declared.tree.Tree.TheFolds.{ind-Tree, map-Tree, fold-roll-Tree}
use Rattle.ld_tree.proofs.Once.{both, number_head}
use Rattle.ld_tree.proofs.Rolled.{rolled_null, rolled_bool, rolled_num, rolled_text, rolled_list, rolled_map}
use Rattle.ld_tree_read.proofs.Numbers.{plain_is}
use Rattle.ld_tree_read.proofs.Outward.{below_halves}
use Rattle.ld_tree_read.proofs.Parts.{over_is}
use Rattle.ld_tree_read.proofs.Scaled.{chosen, passed}
use Rattle.ld_tree_read.proofs.Stable.{put_in_order}
use Rattle.ld_tree_read.proofs.Tokens.{not_byte}
use Rattle.ld_tree_read.proofs.Words.{run_more}

-- ---- strings

-- what a hexadecimal digit is read as
hex_is : (d : ℕ) → d < 16 → hex (hex_digit d) ≡ Some d
hex_is d lt = elim (cases_lt d 10) [
  | inl low ↦ rw (lt-ltb d 10 low) (rw (lt-ltb 47 (48 + d) (omega arith), lt-ltb (48 + d) 58 (omega arith)) (ap Some (let e : 48 + d - 48 ≡ d = omega arith in e)))
  | inr high ↦ rw (le-ltb d 10 high)
      (rw (lt-ltb 47 (87 + d) (omega arith), le-ltb (87 + d) 58 (omega arith), lt-ltb 64 (87 + d) (omega arith), le-ltb (87 + d) 71 (omega arith), lt-ltb 96 (87 + d) (omega arith), lt-ltb (87 + d) 103 (omega arith))
      (ap Some (let e : 87 + d - 87 ≡ d = omega arith in e)))
]

-- the escape of a byte stands for it
char_of : (b : ℕ) (r : List ℕ) → needs_escape b ≡ true → reading.IsChar (escape b ++ r) (b ∷ []) r
char_of b r need = go (nat_eq b 34) (nat_eq b 92) (nat_eq b 8) (nat_eq b 9) (nat_eq b 10) (nat_eq b 12) (nat_eq b 13) refl refl refl refl refl refl refl
  where
    is : (k e : ℕ) → nat_eq b k ≡ true → reading.IsChar (92 ∷ e ∷ r) (k ∷ []) r → reading.IsChar (92 ∷ e ∷ r) (b ∷ []) r
    is k e h w = subst (λ k. reading.IsChar (92 ∷ e ∷ r) (k ∷ []) r) (sym (eqb-true b k h)) w

    low : nat_eq b 34 ≡ false → nat_eq b 92 ≡ false → b < 32
    low q s = elim (cases_lt b 32) [ inl lt ↦ lt | inr le ↦ absurd (let w : true ≡ false = sym need ∙ rw (le-ltb b 32 le, q, s) refl in cc) ]

    coded : b < 32 → reading.IsChar (92 ∷ 117 ∷ 48 ∷ 48 ∷ hex_digit (b / 16) ∷ hex_digit (b % 16) ∷ r) (b ∷ []) r
    coded lt =
        let four : hex4 48 48 (hex_digit (b / 16)) (hex_digit (b % 16)) ≡ Some b =
        ap₂ (λ p q. more_hex (more_hex (Some 0) p) q) (hex_is (b / 16) (omega arith)) (hex_is (b % 16) (omega arith)) ∙ ap Some (let e : 16 * (16 * 0 + b / 16) + b % 16 ≡ b = omega arith in e) in
        subst (λ m. reading.IsChar (92 ∷ 117 ∷ 48 ∷ 48 ∷ hex_digit (b / 16) ∷ hex_digit (b % 16) ∷ r) m r) (encode_ascii b (omega arith)) (unit 48 48 (hex_digit (b / 16)) (hex_digit (b % 16)) b four (below_halves b (omega (arith, lt))))

    go : (p q s u v w x : Bool) → nat_eq b 34 ≡ p → nat_eq b 92 ≡ q → nat_eq b 8 ≡ s → nat_eq b 9 ≡ u → nat_eq b 10 ≡ v → nat_eq b 12 ≡ w → nat_eq b 13 ≡ x
        → reading.IsChar (cond p (codes "\\\"") (cond q (codes "\\\\") (cond s (codes "\\b") (cond u (codes "\\t") (cond v (codes "\\n") (cond w (codes "\\f") (cond x (codes "\\r") (codes "\\u00" ++ hex_digit (b / 16) ∷ hex_digit (b % 16) ∷ []))))))) ++ r) (b ∷ []) r
    go true q s u v w x e1 e2 e3 e4 e5 e6 e7 = is 34 34 e1 (letter 34 34 refl)
    go false true s u v w x e1 e2 e3 e4 e5 e6 e7 = is 92 92 e2 (letter 92 92 refl)
    go false false true u v w x e1 e2 e3 e4 e5 e6 e7 = is 8 98 e3 (letter 98 8 refl)
    go false false false true v w x e1 e2 e3 e4 e5 e6 e7 = is 9 116 e4 (letter 116 9 refl)
    go false false false false true w x e1 e2 e3 e4 e5 e6 e7 = is 10 110 e5 (letter 110 10 refl)
    go false false false false false true x e1 e2 e3 e4 e5 e6 e7 = is 12 102 e6 (letter 102 12 refl)
    go false false false false false false true e1 e2 e3 e4 e5 e6 e7 = is 13 114 e7 (letter 114 13 refl)
    go false false false false false false false e1 e2 e3 e4 e5 e6 e7 = coded (low e1 e2)

-- a byte that needs no escape stands for itself
stands : (b : ℕ) → needs_escape b ≡ false → is_unescaped b ≡ true
stands b h = go (nat_lt b 32) (nat_eq b 34) (nat_eq b 92) refl refl refl h
  where
    go : (p q s : Bool) → nat_lt b 32 ≡ p → nat_eq b 34 ≡ q → nat_eq b 92 ≡ s → cond p true (cond q true s) ≡ false → is_unescaped b ≡ true
    go true q s e f g h = cc
    go false true s e f g h = cc
    go false false true e f g h = cc
    go false false false e f g h = rw (above, f, g) refl
      where
        above : nat_lt 31 b ≡ true
        above = elim (cases_lt b 32) [ inl lt ↦ absurd (true≢false (sym (lt-ltb b 32 lt) ∙ e)) | inr le ↦ lt-ltb 31 b (omega (arith, le)) ]

chars : (x r : List ℕ) → IsChars (escaped x ++ 34 ∷ r) x r
chars [] r = closing
chars (b ∷ bs) r = go (needs_escape b) refl (chars bs r)
  where
    go : (v : Bool) → needs_escape b ≡ v → IsChars (escaped bs ++ 34 ∷ r) bs r → IsChars ((cond v (escape b) (b ∷ []) ++ escaped bs) ++ 34 ∷ r) (b ∷ bs) r
    go true e more = subst (λ l. IsChars l (b ∷ bs) r) (sym (append_assoc (escape b) (escaped bs) (34 ∷ r))) (char (char_of b (escaped bs ++ 34 ∷ r) e) more)
    go false e more = char (unescaped b (stands b e)) more

string_reads : (x r : List ℕ) → is_utf8 x ≡ true → IsString (escaped x ++ 34 ∷ r) x r
string_reads x r u = (chars x r, IsUtf8-from_is_utf8 x u)

-- ---- numbers

value_push : (v : ℕ) (ds : List ℕ) (x : ℕ) → value_after v (ds ++ x ∷ []) ≡ 10 * value_after v ds + (x - 48)
value_push v [] x = refl
value_push v (b ∷ ds) x = value_push (10 * v + (b - 48)) ds x

abbrev Each : List ℕ → Type 0
Each ds = AllByRecursion (λ b. is_digit b ≡ true) ds

-- digits that stand for n, and don't begin with 0 unless it is all
record Plain (n : ℕ) (ds : List ℕ) : Type 0 where
  pub each : Each ds
  pub value : value_of ds ≡ n
  pub first : ℕ
  pub more : List ℕ
  pub is : ds ≡ first ∷ more
  pub begins : ((n ≡ 0) × (more ≡ []) × (first ≡ 48)) ⊎ (nat_eq first 48 ≡ false)

digit_is : (d : ℕ) → d < 10 → is_digit (48 + d) ≡ true
digit_is d lt = rw (lt-ltb 47 (48 + d) (omega arith), lt-ltb (48 + d) 58 (omega arith)) refl

each_push : (ds : List ℕ) (x : ℕ) → Each ds → is_digit x ≡ true → Each (ds ++ x ∷ [])
each_push [] x h e = (e, tt)
each_push (b ∷ ds) x h e = (h.0, each_push ds x h.1 e)

decimal_plain : (n : ℕ) → n < 2 ^ 64 → Plain n (decimal n)
decimal_plain n lt = decimal_by_steps Plain one more n lt
  where
    one : (n : ℕ) → n < 10 → Plain n ((48 + n) ∷ [])
    one n lt = record {
      each = (digit_is n lt, tt);
      value = let e : 10 * 0 + (48 + n - 48) ≡ n = omega arith in e;
      first = 48 + n;
      more = [];
      is = refl;
      begins = elim (cases_lt 0 n) [ inl some ↦ inr (not_byte (48 + n) 48 (λ e. omega (arith, e, some))) | inr none ↦ inl (omega arith, refl, omega arith) ];
    }

    more : (n : ℕ) (ds : List ℕ) → 10 ≤ n → Plain (n / 10) ds → Plain n (ds ++ (48 + n % 10) ∷ [])
    more n ds ge h = record {
      each = each_push ds (48 + n % 10) h.each (digit_is (n % 10) (omega arith));
      value = value_push 0 ds (48 + n % 10) ∙ (let v = h.value in let e : 10 * value_of ds + (48 + n % 10 - 48) ≡ n = omega (arith, v) in e);
      first = h.first;
      more = h.more ++ (48 + n % 10) ∷ [];
      is = ap (λ ds. ds ++ (48 + n % 10) ∷ []) h.is;
      begins = elim h.begins [ inl none ↦ absurd (let z = none.0 in omega (arith, z, ge)) | inr other ↦ inr other ];
    }

-- at the end of the digits
run_all : (ds r : List ℕ) → Each ds → ends_number r ≡ true → prefix_len is_digit (ds ++ r) ≡ length ds
run_all [] [] h e = refl
run_all [] (b ∷ r) h e = ap (λ t. cond t (1 + prefix_len is_digit r) 0) (over_is b r e).no_digit
run_all (b ∷ ds) r h e = run_more is_digit b (ds ++ r) h.0 ∙ ap suc (run_all ds r h.1 e)

digits_at_all : (b : ℕ) (ds r : List ℕ) → Each (b ∷ ds) → ends_number r ≡ true → digits_at (b ∷ ds ++ r) ≡ Some (b ∷ ds, r)
digits_at_all b ds r h e =
    ap (λ n. cond {A = Option (List ℕ × List ℕ)} (nat_eq n 0) None (Some (take n (b ∷ ds ++ r), drop n (b ∷ ds ++ r)))) (run_all (b ∷ ds) r h e)
    ∙ passed (nat_eq (suc (length ds)) 0) None (Some (take (suc (length ds)) (b ∷ ds ++ r), drop (suc (length ds)) (b ∷ ds ++ r))) (not_byte (suc (length ds)) 0 (λ e. omega (arith, e)))
    ∙ ap₂ (λ (x y : List ℕ). let p : Option (List ℕ × List ℕ) = Some (x, y) in p) (take-append_seam (b ∷ ds) r) (drop-append_seam (b ∷ ds) r)

int_all : (n : ℕ) (ds r : List ℕ) → Plain n ds → ends_number r ≡ true → int_at (ds ++ r) ≡ Some (ds, r)
int_all n ds r p e = subst (λ ds. int_at (ds ++ r) ≡ Some (ds, r)) (sym p.is) (elim p.begins [
  | inl none ↦ zero_at none.1 none.2
  | inr other ↦ passed (nat_eq p.first 48) (Some (48 ∷ [], p.more ++ r)) (digits_at (p.first ∷ p.more ++ r)) other ∙ digits_at_all p.first p.more r (subst Each p.is p.each) e
])
  where
    zero_at : {b : ℕ} {bs : List ℕ} → bs ≡ [] → b ≡ 48 → int_at (b ∷ bs ++ r) ≡ Some (b ∷ bs, r)
    zero_at {b} {bs} none is = subst (λ bs. int_at (b ∷ bs ++ r) ≡ Some (b ∷ bs, r)) (sym none) (subst (λ b. int_at (b ∷ r) ≡ Some (b ∷ [], r)) (sym is) refl)

no_frac_at : (r : List ℕ) → ends_number r ≡ true → frac_at r ≡ Some ([], r)
no_frac_at [] e = refl
no_frac_at (b ∷ r) e = passed (nat_eq b 46) (digits_at r) (Some ([], b ∷ r)) (over_is b r e).no_point

no_exp_at : (r : List ℕ) → ends_number r ≡ true → exp_at r ≡ Some ((false, []), r)
no_exp_at [] e = refl
no_exp_at (b ∷ r) e = let w = over_is b r e in rw (w.no_large, w.no_small) refl

bind_some : {A B : Type 0} (o : Option A) (x : A) (f : A → Option B) → o ≡ Some x → ◌>>=◌ o f ≡ f x
bind_some o x f e = ap (λ o. ◌>>=◌ o f) e

abbrev plain_token : Bool → List ℕ → Token
plain_token negative ds = record { negative = negative; whole = ds; fraction = []; lowers = false; exponent = [] }

unsigned_all : (negative : Bool) (n : ℕ) (ds r : List ℕ) → Plain n ds → ends_number r ≡ true → unsigned_at negative (ds ++ r) ≡ Some (plain_token negative ds, r)
unsigned_all negative n ds r p e =
    bind_some (int_at (ds ++ r)) (ds, r) _ (int_all n ds r p e) ∙ bind_some (frac_at r) ([], r) _ (no_frac_at r e) ∙ bind_some (exp_at r) ((false, []), r) _ (no_exp_at r e)
    ∙ chosen (ends_number r) (Some (plain_token negative ds, r)) None e

whole_reads : (v : ℤ) (r : List ℕ) → in_64_bits v ≡ true → ends_number r ≡ true → IsNumber (signed_decimal v ++ r) (n.Whole v) r
unfolding number_at
whole_reads (pos k) r h e =
    let lt = ltb-true k (2 ^ 63) h in
    let p = decimal_plain k (omega (arith, lt)) in
    let digit = (subst Each p.is p.each).0 in
    record {
      token = plain_token false (decimal k);
      front = subst (λ ds. number_at (ds ++ r) ≡ unsigned_at false (ds ++ r)) (sym p.is)
          (passed (nat_eq p.first 45) (unsigned_at true (p.more ++ r)) (unsigned_at false (p.first ∷ p.more ++ r)) (not_byte p.first 45 (λ is. let w : true ≡ false = sym digit ∙ ap is_digit is in cc)))
          ∙ unsigned_all false k (decimal k) r p e;
      value = plain_is (plain_token false (decimal k)) refl refl ∙ ap (whole_num false) p.value ∙ chosen (nat_lt k (2 ^ 63)) (Ok (n.Whole (pos k))) (Err TooLarge) h;
    }
whole_reads (negsuc k) r h e =
    let lt = ltb-true k (2 ^ 63) h in
    let p = decimal_plain (suc k) (omega (arith, lt)) in
    record {
      token = plain_token true (decimal (suc k));
      front = unsigned_all true (suc k) (decimal (suc k)) r p e;
      value = plain_is (plain_token true (decimal (suc k))) refl refl ∙ ap (whole_num true) p.value ∙ chosen (nat_le (suc k) (2 ^ 63)) (Ok (n.Whole (negsuc k))) (Err TooLarge) (le-leb (suc k) (2 ^ 63) (omega (arith, lt)));
    }

number_reads : (v : Num) (r : List ℕ) → fits_step (Tree-F.Num v) ≡ true → ends_number r ≡ true → IsNumber (number v ++ r) v r
unfolding number_at
number_reads (n.Whole v) r h e = whole_reads v r h e
number_reads n.OneOne r h e = record {
  token = record { negative = false; whole = 49 ∷ []; fraction = 49 ∷ []; lowers = false; exponent = [] };
  front = bind_some (frac_at (46 ∷ 49 ∷ r)) (49 ∷ [], r) _ (digits_at_all 49 [] r (refl, tt) e) ∙ bind_some (exp_at r) ((false, []), r) _ (no_exp_at r e)
      ∙ chosen (ends_number r) (Some (record { negative = false; whole = 49 ∷ []; fraction = 49 ∷ []; lowers = false; exponent = [] }, r)) None e;
  value = refl;
}

-- ---- values

white_digit : (x : ℕ) → is_white x ≡ true → is_digit x || nat_eq x 45 ≡ false
white_digit x h = go (nat_eq x 32) (nat_eq x 9) (nat_eq x 10) (nat_eq x 13) refl refl refl refl h
  where
    is : (k : ℕ) → nat_eq x k ≡ true → is_digit k || nat_eq k 45 ≡ false → is_digit x || nat_eq x 45 ≡ false
    is k e w = subst (λ x. is_digit x || nat_eq x 45 ≡ false) (sym (eqb-true x k e)) w

    go : (a b c d : Bool) → nat_eq x 32 ≡ a → nat_eq x 9 ≡ b → nat_eq x 10 ≡ c → nat_eq x 13 ≡ d → a || b || c || d ≡ true → is_digit x || nat_eq x 45 ≡ false
    go true b c d e1 e2 e3 e4 h = is 32 e1 refl
    go false true c d e1 e2 e3 e4 h = is 9 e2 refl
    go false false true d e1 e2 e3 e4 h = is 10 e3 refl
    go false false false true e1 e2 e3 e4 h = is 13 e4 refl
    go false false false false e1 e2 e3 e4 h = cc

-- no white space begins a value
number_starts : (b : List ℕ) {v : Num} {r : List ℕ} → IsNumber b v r → past_space b ≡ b
number_starts [] w = refl
number_starts (x ∷ b) w = go (is_white x) refl
  where
    go : (q : Bool) → is_white x ≡ q → cond q (past_space b) (x ∷ b) ≡ x ∷ b
    go false e = refl
    go true e = absurd (number_head x w (white_digit x e))

starts : {d : ℕ} {b r : List ℕ} {x : Tree} → IsValue d b x r → past_space b ≡ b
starts a_null = refl
starts a_true = refl
starts a_false = refl
starts (a_number {b = b} w) = number_starts b w
starts (a_text w) = refl
starts (a_list w) = refl
starts (a_map ms es w is) = refl

-- the tree's text reads as it, before bytes that end a number
abbrev Reads : Tree → Type 0
Reads x = (d : ℕ) (r : List ℕ) → depth_of x ≤ d → fits x ≡ true → spelled x ≡ true → ends_number r ≡ true → IsValue d (text x ++ r) x r

text_of : (y : Tree-F Tree) → text (roll-Tree y) ≡ text_step (map-Tree Tree (List ℕ) text y)
text_of y = fold-roll-Tree (List ℕ) text_step y

of_text_is : (d : ℕ) (x : Tree) (bytes r : List ℕ) → text x ≡ bytes → IsValue d (bytes ++ r) x r → IsValue d (text x ++ r) x r
of_text_is d x bytes r e h = subst (λ bs. IsValue d (bs ++ r) x r) (sym e) h

null_reads : Reads t.Null
null_reads d r _ _ _ e = of_text_is d t.Null (codes "null") r (ap text rolled_null ∙ text_of Tree-F.Null) a_null

bool_reads : (b : Bool) → Reads (t.Bool b)
bool_reads true d r _ _ _ e = of_text_is d (t.Bool true) (codes "true") r (ap text (rolled_bool true) ∙ text_of (Tree-F.Bool true)) a_true
bool_reads false d r _ _ _ e = of_text_is d (t.Bool false) (codes "false") r (ap text (rolled_bool false) ∙ text_of (Tree-F.Bool false)) a_false

num_reads : (v : Num) → Reads (t.Num v)
num_reads v d r _ f _ e =
    of_text_is d (t.Num v) (number v) r (ap text (rolled_num v) ∙ text_of (Tree-F.Num v))
    (a_number (number_reads v r (sym (ap fits (rolled_num v) ∙ fold-roll-Tree Bool fits_step (Tree-F.Num v)) ∙ f) e))

text_reads : (x : List ℕ) → Reads (t.Text x)
text_reads x d r _ _ s e =
    of_text_is d (t.Text x) (quoted x) r (ap text (rolled_text x) ∙ text_of (Tree-F.Text x))
    (a_text (subst (λ bs. IsString bs x r) (sym (append_assoc (escaped x) (34 ∷ []) r)) (string_reads x r (sym (ap spelled (rolled_text x) ∙ fold-roll-Tree Bool spelled_step (Tree-F.Text x)) ∙ s))))

-- lists
after_ends : (texts : List (List ℕ)) (b : ℕ) (r : List ℕ) → ends_number (b ∷ r) ≡ true → ends_number (after_commas texts ++ b ∷ r) ≡ true
after_ends [] b r e = e
after_ends (text ∷ texts) b r e = refl

module _ (d : ℕ) where
  item_read : (x : Tree) (r : List ℕ) → Reads x → depth_of x ≤ d → fits x ≡ true → spelled x ≡ true → ends_number r ≡ true → IsValue d (past_space (text x ++ r)) x r
  item_read x r h a b c e = let w = h d r a b c e in subst (λ b. IsValue d b x r) (sym (starts w)) w

  more_read : (ts : List Tree) (r : List ℕ) → AllByRecursion Reads ts → greatest (map depth_of ts) ≤ d → all_true (map fits ts) ≡ true → all_true (map spelled ts) ≡ true → IsMoreItems d (after_commas (map text ts) ++ 93 ∷ r) ts r
  more_read [] r h a b c = end_items refl
  more_read (x ∷ ts) r h a b c =
      let f = both (fits x) (all_true (map fits ts)) b in
      let s = both (spelled x) (all_true (map spelled ts)) c in
      subst (λ bs. IsMoreItems d (44 ∷ bs) (x ∷ ts) r) (sym (append_assoc (text x) (after_commas (map text ts)) (93 ∷ r)))
      (more_items refl (item_read x (after_commas (map text ts) ++ 93 ∷ r) h.0 (omega (arith, a)) f.0 s.0 (after_ends (map text ts) 93 r refl)) (more_read ts r h.1 (omega (arith, a)) f.1 s.1))

  items_read : (ts : List Tree) (r : List ℕ) → AllByRecursion Reads ts → greatest (map depth_of ts) ≤ d → all_true (map fits ts) ≡ true → all_true (map spelled ts) ≡ true → IsItems d (with_commas (map text ts) ++ 93 ∷ r) ts r
  items_read [] r h a b c = no_items refl
  items_read (x ∷ ts) r h a b c =
      let f = both (fits x) (all_true (map fits ts)) b in
      let s = both (spelled x) (all_true (map spelled ts)) c in
      subst (λ bs. IsItems d bs (x ∷ ts) r) (sym (append_assoc (text x) (after_commas (map text ts)) (93 ∷ r)))
      (items (item_read x (after_commas (map text ts) ++ 93 ∷ r) h.0 (omega (arith, a)) f.0 s.0 (after_ends (map text ts) 93 r refl)) (more_read ts r h.1 (omega (arith, a)) f.1 s.1))

within : (d n depth : ℕ) → depth ≡ n + 1 → depth ≤ d → (k : ℕ) × (d ≡ suc k) × (n ≤ k)
within zero n depth e le = absurd (omega (arith, e, le))
within (suc k) n depth e le = (k, refl, omega (arith, e, le))

list_reads : (ts : List Tree) → AllByRecursion Reads ts → Reads (t.List ts)
list_reads ts h d r a b c e =
    let (k, is, le) = within d (greatest (map depth_of ts)) (depth_of (t.List ts)) (ap depth_of (rolled_list ts) ∙ fold-roll-Tree ℕ depth_step (Tree-F.List ts)) a in
    let f : all_true (map fits ts) ≡ true = sym (ap fits (rolled_list ts) ∙ fold-roll-Tree Bool fits_step (Tree-F.List ts)) ∙ b in
    let s : all_true (map spelled ts) ≡ true = sym (ap spelled (rolled_list ts) ∙ fold-roll-Tree Bool spelled_step (Tree-F.List ts)) ∙ c in
    of_text_is d (t.List ts) (91 ∷ with_commas (map text ts) ++ 93 ∷ []) r (ap text (rolled_list ts) ∙ text_of (Tree-F.List ts))
    (subst (λ d. IsValue d (91 ∷ (with_commas (map text ts) ++ 93 ∷ []) ++ r) (t.List ts) r) (sym is)
    (subst (λ bs. IsValue (suc k) (91 ∷ bs) (t.List ts) r) (sym (append_assoc (with_commas (map text ts)) (93 ∷ []) r)) (a_list (items_read k ts r h le f s))))

-- maps
abbrev Entry : Type 0
Entry = List ℕ × Tree

abbrev each : {X : Type 0} → (Tree → X) → List Entry → List (List ℕ × X)
each f es = map (λ e. (e.0, f e.1)) es

abbrev texts_of : List Entry → List (List ℕ)
texts_of es = member_texts (each text es)

abbrev AllRead : List Entry → Type 0
AllRead es = AllByRecursion (λ e. Reads e.1) es

member_bytes : (name x r : List ℕ) → member_text (name, x) ++ r ≡ 34 ∷ (escaped name ++ 34 ∷ 58 ∷ (x ++ r))
member_bytes name x r = ap (λ bs. 34 ∷ bs) (append_assoc (escaped name ++ 34 ∷ []) (58 ∷ x) r ∙ append_assoc (escaped name) (34 ∷ []) (58 ∷ (x ++ r)))

module _ (d : ℕ) where
  member_read : (e : Entry) (r : List ℕ) → Reads e.1 → depth_of e.1 ≤ d → fits e.1 ≡ true → is_utf8 e.0 ≡ true → spelled e.1 ≡ true → ends_number r ≡ true → IsMember d (member_text (e.0, text e.1) ++ r) e r
  member_read e r h a b u c end =
      subst (λ bs. IsMember d bs e r) (sym (member_bytes e.0 (text e.1) r)) (member (string_reads e.0 (58 ∷ (text e.1 ++ r)) u) refl (item_read d e.1 r h a b c end))

  member_starts : (name x r : List ℕ) → member_text (name, x) ++ r ≡ past_space (member_text (name, x) ++ r)
  member_starts name x r = refl

  more_members_read : (es : List Entry) (r : List ℕ) → AllRead es → greatest (values_of (each depth_of es)) ≤ d → all_true (values_of (each fits es)) ≡ true → all_utf8 (keys_of (each spelled es)) ≡ true → all_true (values_of (each spelled es)) ≡ true
      → IsMoreMembers d (after_commas (texts_of es) ++ 125 ∷ r) es r
  more_members_read [] r h a b u c = end_members refl
  more_members_read (e ∷ es) r h a b u c =
      let f = both (fits e.1) (all_true (values_of (each fits es))) b in
      let n = both (is_utf8 e.0) (all_utf8 (keys_of (each spelled es))) u in
      let s = both (spelled e.1) (all_true (values_of (each spelled es))) c in
      subst (λ bs. IsMoreMembers d (44 ∷ bs) (e ∷ es) r) (sym (append_assoc (member_text (e.0, text e.1)) (after_commas (texts_of es)) (125 ∷ r)))
      (more_members refl (member_read e (after_commas (texts_of es) ++ 125 ∷ r) h.0 (omega (arith, a)) f.0 n.0 s.0 (after_ends (texts_of es) 125 r refl)) (more_members_read es r h.1 (omega (arith, a)) f.1 n.1 s.1))

  members_read : (es : List Entry) (r : List ℕ) → AllRead es → greatest (values_of (each depth_of es)) ≤ d → all_true (values_of (each fits es)) ≡ true → all_utf8 (keys_of (each spelled es)) ≡ true → all_true (values_of (each spelled es)) ≡ true
      → IsMembers d (with_commas (texts_of es) ++ 125 ∷ r) es r
  members_read [] r h a b u c = no_members refl
  members_read (e ∷ es) r h a b u c =
      let f = both (fits e.1) (all_true (values_of (each fits es))) b in
      let n = both (is_utf8 e.0) (all_utf8 (keys_of (each spelled es))) u in
      let s = both (spelled e.1) (all_true (values_of (each spelled es))) c in
      subst (λ bs. IsMembers d bs (e ∷ es) r) (sym (append_assoc (member_text (e.0, text e.1)) (after_commas (texts_of es)) (125 ∷ r)))
      (members (member_read e (after_commas (texts_of es) ++ 125 ∷ r) h.0 (omega (arith, a)) f.0 n.0 s.0 (after_ends (texts_of es) 125 r refl)) (more_members_read es r h.1 (omega (arith, a)) f.1 n.1 s.1))

map_reads : (es : Sorted Tree) → AllRead es.0 → Reads (t.Map es)
map_reads es h d r a b c e =
    let (k, is, le) = within d (greatest (values_of (each depth_of es.0))) (depth_of (t.Map es)) (ap depth_of (rolled_map es) ∙ fold-roll-Tree ℕ depth_step (Tree-F.Map es)) a in
    let f : all_true (values_of (each fits es.0)) ≡ true = sym (ap fits (rolled_map es) ∙ fold-roll-Tree Bool fits_step (Tree-F.Map es)) ∙ b in
    let s = both (all_utf8 (keys_of (each spelled es.0))) (all_true (values_of (each spelled es.0))) (sym (ap spelled (rolled_map es) ∙ fold-roll-Tree Bool spelled_step (Tree-F.Map es)) ∙ c) in
    of_text_is d (t.Map es) (123 ∷ with_commas (texts_of es.0) ++ 125 ∷ []) r (ap text (rolled_map es) ∙ text_of (Tree-F.Map es))
    (subst (λ d. IsValue d (123 ∷ (with_commas (texts_of es.0) ++ 125 ∷ []) ++ r) (t.Map es) r) (sym is)
    (subst (λ bs. IsValue (suc k) (123 ∷ bs) (t.Map es) r) (sym (append_assoc (with_commas (texts_of es.0)) (125 ∷ []) r)) (a_map es.0 es (members_read k es.0 r h le f s.0 s.1) (sym (put_in_order es.0 es.1)))))

-- the whole
abbrev Known : Type 0
Known = (x : Tree) × Reads x

each_item : (xs : List Known) → AllByRecursion Reads (map (λ e. e.0) xs)
each_item [] = tt
each_item (x ∷ xs) = (x.1, each_item xs)

each_entry : (es : List (List ℕ × Known)) → AllRead (map (λ e. (e.0, e.1.0)) es)
each_entry [] = tt
each_entry (e ∷ es) = (e.1.1, each_entry es)

level_reads : (y : Tree-F Known) → Reads (roll-Tree (map-Tree Known Tree (λ e. e.0) y))
level_reads Tree-F.Null = subst Reads rolled_null null_reads
level_reads (Tree-F.Bool b) = subst Reads (rolled_bool b) (bool_reads b)
level_reads (Tree-F.Num v) = subst Reads (rolled_num v) (num_reads v)
level_reads (Tree-F.Text x) = subst Reads (rolled_text x) (text_reads x)
level_reads (Tree-F.List xs) = subst Reads (rolled_list _) (list_reads (map (λ e. e.0) xs) (each_item xs))
level_reads (Tree-F.Map es) = subst Reads (rolled_map _) (map_reads _ (each_entry es.0))

tree_reads : (x : Tree) → Reads x
tree_reads = ind-Tree Reads (λ x y is. subst (λ (v : Tree-F Tree). Reads (roll-Tree v)) is (level_reads y))

no_mark : {d : ℕ} {bs : List ℕ} {x : Tree} {r : List ℕ} → IsValue d (239 ∷ bs) x r → ⊥
no_mark (a_number w) = number_head 239 w refl

past_mark_text : {d : ℕ} (bytes : List ℕ) {x : Tree} {r : List ℕ} → IsValue d bytes x r → past_mark bytes ≡ bytes
past_mark_text [] w = refl
past_mark_text (a ∷ []) w = refl
past_mark_text (a ∷ b ∷ []) w = refl
past_mark_text {d} (a ∷ b ∷ c ∷ bs) {x} {r} w = passed (nat_eq a 239 && nat_eq b 187 && nat_eq c 191) bs (a ∷ b ∷ c ∷ bs) (at (nat_eq a 239) refl)
  where
    at : (v : Bool) → nat_eq a 239 ≡ v → v && nat_eq b 187 && nat_eq c 191 ≡ false
    at false e = refl
    at true e = absurd (no_mark (subst (λ a. IsValue d (a ∷ b ∷ c ∷ bs) x r) (eqb-true a 239 e) w))

pub printed_reads : (x : Tree) → depth_of x ≤ 128 → fits x ≡ true → spelled x ≡ true → reads (text x) x
printed_reads x a b c =
    let w : IsValue 128 (text x) x [] = subst (λ bs. IsValue 128 bs x []) (append-nil (text x)) (tree_reads x 128 [] a b c refl) in
    ([], subst (λ bs. IsValue 128 bs x []) (sym (ap past_space (past_mark_text (text x) w) ∙ starts w)) w, refl)
