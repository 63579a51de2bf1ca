-- Over characters of a string that stand for themselves.
use Rattle.std.proofs.Common.{◌≡◌, ◌∙◌, refl, sym, ap, subst, inl, inr, ℕ, ◌+◌, ◌<◌, Bool, true, false, ◌&&◌, not, ◌||◌, nat_eq, nat_lt, List, [], ◌∷◌, ◌++◌, take, drop, Some, None, length, arith, append_assoc}
use Rattle.std.proofs.lemmas.Bool.{cases_lt, ltb-true}
use Rattle.std.specs.List.{prefix_len, AllByRecursion}
use Rattle.std.specs.Str.{IsUtf8}
use Rattle.std.proofs.lemmas.Str.{encode_ascii}
use Rattle.std.proofs.lemmas.List.{take-append-drop}
use lib.Utf8.{encode, encodes, scalar, scalars}
use Rattle.ld_tree.specs.Reading.{is_unescaped}
use Rattle.ld_tree.proofs.Once.{neither, not_false}
use Rattle.ld_tree_read.specs.Cursor.{left}
use Rattle.ld_tree_read.specs.Grammar.{IsRest, no_rest, rest}
use Rattle.ld_tree_read.specs.Refusals.{refusal}
use Rattle.ld_tree_read.specs.State.{Level, Inside, plain, begun, string, tail, inside, is_plain, rest_left, string_from}
use Rattle.ld_tree_read.specs.Strings.{IsTail, LeadsIn}
use Rattle.ld_tree_read.specs.declared.cursor.Cursor.{Cursor}
use Rattle.ld_tree_read.proofs.Characters.{IsLong, encode_long, low_unescaped}
use Rattle.ld_tree_read.proofs.Follows.{goes, no_value}
use Rattle.ld_tree_read.proofs.Inner.{in_step, plain_low, plain_ascii, plain_lead, tail_step}
use Rattle.ld_tree_read.proofs.Powers.{both}
use Rattle.ld_tree_read.proofs.Tokens.{not_byte}
use Rattle.ld_tree_read.proofs.Words.{run_more, run_stops}

-- from one place to another within a string no refusal is passed
pub record Glides (i : Inside) (bs : List ℕ) (j : Inside) (r : List ℕ) : Type 0 where
  pub count : ℕ
  pub long : length bs ≡ count + length r
  pub same : (n : Bool) (fs : List Level) (at : ℕ) → refusal at fs (string n i) bs ≡ refusal (at + count) fs (string n j) r

pub stay : (i : Inside) (bs : List ℕ) → Glides i bs i bs
stay i bs = record { count = 0; long = omega arith; same = λ n fs at. ap (λ k. refusal k fs (string n i) bs) (let e : at ≡ at + 0 = omega arith in e) }

pub one_byte : (i j : Inside) (b : ℕ) (r : List ℕ) → is_plain i && nat_eq b 34 ≡ false → inside i b ≡ Some j → Glides i (b ∷ r) j r
one_byte i j b r p s = record {
  count = 1;
  long = omega arith;
  same = λ n fs at. goes at fs (string n i) b r (no_value at fs (string n i) b r refl) (in_step fs n i b p ∙ ap (string_from fs n) s);
}

pub and_on : {i j k : Inside} {bs cs r : List ℕ} → Glides i bs j cs → Glides j cs k r → Glides i bs k r
and_on {i} {j} {k} {bs} {cs} {r} g h = record {
  count = g.count + h.count;
  long = omega (arith, g.long, h.long);
  same = λ n fs at. g.same n fs at ∙ h.same n fs (at + g.count) ∙ ap (λ m. refusal m fs (string n k) r) (let e : at + g.count + h.count ≡ at + (g.count + h.count) = omega arith in e);
}

pub over_rest : {n : ℕ} {c r : List ℕ} → IsRest n c r → Glides (rest_left n) c plain r
over_rest {r = r} no_rest = stay plain r
over_rest (rest {n = k} b {c = c} is w) = and_on (one_byte (begun (tail 128 191 k)) (rest_left k) b c refl (tail_step (tail 128 191 k) b is)) (over_rest w)

pub over_tail : (low up more : ℕ) (bytes r : List ℕ) → IsTail low up more bytes r → Glides (begun (tail low up more)) bytes plain r
over_tail low up more bytes r (y, c, e, is, w) =
    subst (λ bytes. Glides (begun (tail low up more)) bytes plain r) (sym e) (and_on (one_byte (begun (tail low up more)) (rest_left more) y c refl (tail_step (tail low up more) y is)) (over_rest w))

-- over one character
pub over_long : (bs r : List ℕ) → IsLong bs r → Glides plain bs plain r
over_long bs r w =
    let high = w.high in
    subst (λ bs. Glides plain bs plain r) (sym w.is)
    (and_on
    (one_byte plain (begun (tail w.low w.up w.more)) w.byte w.bytes (not_byte w.byte 34 (λ e. omega (arith, e, high))) (plain_lead w.byte (λ e. omega (arith, e, high)) (tail w.low w.up w.more) (omega (arith, high)) w.leads))
    (over_tail w.low w.up w.more w.bytes r w.within))

-- what it is to stand for oneself
pub record Plain (b : ℕ) : Type 0 where
  pub above : 31 < b
  pub quote : nat_eq b 34 ≡ false
  pub slash : b ≡ 92 → ⊥

pub plain_is : (b : ℕ) → is_unescaped b ≡ true → Plain b
plain_is b h =
    let w = both (nat_lt 31 b) (not (nat_eq b 34 || nat_eq b 92)) h in
    let k = neither (nat_eq b 34) (nat_eq b 92) (not_false (nat_eq b 34 || nat_eq b 92) w.1) in
    record { above = ltb-true 31 b w.0; quote = k.0; slash = λ e. let w : true ≡ false = sym (ap (λ b. nat_eq b 92) e) ∙ k.1 in cc }

pub over_ascii : (b : ℕ) (r : List ℕ) → is_unescaped b ≡ true → b < 128 → Glides plain (b ∷ r) plain r
over_ascii b r h lt = let w = plain_is b h in let above = w.above in one_byte plain plain b r w.quote (plain_ascii b w.slash (omega (arith, above)) lt)

-- over a run of them
abbrev pub Each : List ℕ → Type 0
Each bs = AllByRecursion (λ b. is_unescaped b ≡ true) bs

each_right : (xs ys : List ℕ) → Each (xs ++ ys) → Each ys
each_right [] ys h = h
each_right (x ∷ xs) ys h = each_right xs ys h.1

over_chars : (cs : List ℕ) (r : List ℕ) → scalars cs ≡ true → Each (encodes cs) → Glides plain (encodes cs ++ r) plain r
over_chars [] r ok h = stay plain r
over_chars (c ∷ cs) r ok h =
    let w = both (scalar c) (scalars cs) ok in
    let more = over_chars cs r w.1 (each_right (encode c) (encodes cs) h) in
    subst (λ bs. Glides plain bs plain r) (sym (append_assoc (encode c) (encodes cs) r))
    (elim (cases_lt c 128) [
      | inl low ↦
          subst (λ x. Glides plain (x ++ (encodes cs ++ r)) plain r) (sym (encode_ascii c low))
          (and_on (over_ascii c (encodes cs ++ r) (subst (λ x. Each (x ++ encodes cs)) (encode_ascii c low) h).0 low) more)
      | inr high ↦ and_on (over_long (encode c ++ (encodes cs ++ r)) (encodes cs ++ r) (encode_long c (encodes cs ++ r) w.0 high)) more
    ])

pub over_text : (xs r : List ℕ) → IsUtf8 xs → Each xs → Glides plain (xs ++ r) plain r
over_text xs r (cs, (ok, is)) h = subst (λ xs. Glides plain (xs ++ r) plain r) is (over_chars cs r ok (subst Each (sym is) h))

-- the run at the front
abbrev run : List ℕ → ℕ
run bs = prefix_len is_unescaped bs

pub run_each : (bs : List ℕ) → Each (take (run bs) bs)
run_each [] = tt
run_each (b ∷ bs) = go (is_unescaped b) refl (run_each bs)
  where
    go : (u : Bool) → is_unescaped b ≡ u → Each (take (run bs) bs) → Each (take (run (b ∷ bs)) (b ∷ bs))
    go true e ih = subst (λ n. Each (take n (b ∷ bs))) (sym (run_more is_unescaped b bs e)) (e, ih)
    go false e ih = subst (λ n. Each (take n (b ∷ bs))) (sym (run_stops is_unescaped b bs e)) tt

pub over_run : (bs : List ℕ) → IsUtf8 (take (run bs) bs) → Glides plain bs plain (drop (run bs) bs)
over_run bs h =
    subst (λ xs. Glides plain xs plain (drop (run bs) bs)) (take-append-drop (run bs) bs) (over_text (take (run bs) bs) (drop (run bs) bs) h (run_each bs))

-- from a cursor to a later one
pub glides_to : (c d : Cursor) (count : ℕ) {i j : Inside} → length (left c) ≡ count + length (left d) → d.at ≡ c.at + count → Glides i (left c) j (left d) → LeadsIn c i d j
glides_to c d count {i} {j} long at g = λ n fs.
    let same : g.count ≡ count = omega (arith, g.long, long) in
    g.same n fs c.at ∙ ap (λ k. refusal k fs (string n j) (left d)) (ap (λ k. c.at + k) same ∙ sym at)

-- a run with bytes before it
pub run_append : (xs ys : List ℕ) → Each xs → take (run (xs ++ ys)) (xs ++ ys) ≡ xs ++ take (run ys) ys
run_append [] ys h = refl
run_append (x ∷ xs) ys h =
    ap (λ n. take n (x ∷ (xs ++ ys))) (run_more is_unescaped x (xs ++ ys) h.0) ∙ ap (λ l. x ∷ l) (run_append xs ys h.1)

-- what doesn't stand for itself, and is no quotation mark and no backslash, is a control character
pub at_control : (b : ℕ) → is_unescaped b ≡ false → (b ≡ 34 → ⊥) → (b ≡ 92 → ⊥) → (is_plain plain && nat_eq b 34 ≡ false) × (inside plain b ≡ None)
at_control b h quote slash = (
  not_byte b 34 quote,
  elim (cases_lt b 32) [
    | inl low ↦ plain_low b slash low
    | inr high ↦ absurd (let w : true ≡ false = sym (low_unescaped b high quote slash) ∙ h in cc)
  ],
)
