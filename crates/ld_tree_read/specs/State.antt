-- What may stand next in a JSON text (RFC 8259), after some of its bytes.
use Rattle.std.specs.Prelude.{ℕ, zero, suc, ◌==◌, nat_lt, Bool, true, false, not, ◌&&◌, ◌||◌, cond, List, [], ◌∷◌, Option, Some, None, codes}
use Rattle.ld_tree.specs.Numbers.{is_digit}
use Rattle.ld_tree.specs.Reading.{is_white, hex, escaped}
use Rattle.std.specs.Option.{is_some}

-- what is open: a list or a map
pub data Level : Type 0 where
  in_list in_map : Level

-- the letters that may follow a backslash by themselves (section 7)
abbrev pub is_letter : ℕ → Bool
is_letter b = is_some (escaped b)

-- What is left of a character in UTF-8 (RFC 3629, section 4): a byte from low to high, and then more bytes from 128 to 191.
pub data Tail : Type 0 where
  tail : (low high more : ℕ) → Tail

-- what a byte from 128 on begins
abbrev pub lead : ℕ → Option Tail
lead b =
    cond (nat_lt b 194) None (cond (nat_lt b 224) (Some (tail 128 191 0))
    (cond (b == 224) (Some (tail 160 191 1)) (cond (b == 237) (Some (tail 128 159 1)) (cond (nat_lt b 240) (Some (tail 128 191 1))
    (cond (b == 240) (Some (tail 144 191 2)) (cond (nat_lt b 244) (Some (tail 128 191 2)) (cond (b == 244) (Some (tail 128 143 2)) None)))))))

abbrev pub is_next : Tail → ℕ → Bool
is_next (tail low high more) b = not (nat_lt b low) && not (nat_lt high b)

-- Inside a string (section 7): a character or the end is due; what follows a backslash; so many hexadecimal digits, the first of
-- four, or the second after a D; so many digits of the first half of a pair, and what follows it up to the second half's digits;
-- the rest of a character.
pub data Inside : Type 0 where
  plain slash first second : Inside
  digits high : ℕ → Inside
  low_slash low_u low_first low_second : Inside
  begun : Tail → Inside

-- so many digits more, and then what follows them
abbrev pub digits_left : ℕ → Inside
digits_left zero = plain
digits_left (suc n) = digits n

abbrev pub high_left : ℕ → Inside
high_left zero = low_slash
high_left (suc n) = high n

abbrev pub rest_left : ℕ → Inside
rest_left zero = plain
rest_left (suc n) = begun (tail 128 191 n)

abbrev pub tail_left : Tail → Inside
tail_left (tail low up more) = rest_left more

abbrev pub if_hex : Option ℕ → (ℕ → Option Inside) → Option Inside
if_hex (Some v) f = f v
if_hex None f = None

abbrev pub from_lead : Option Tail → Option Inside
from_lead (Some t) = Some (begun t)
from_lead None = None

-- what follows one more byte that doesn't end the string
unfoldable pub inside : Inside → ℕ → Option Inside
inside plain b = cond (nat_lt b 32) None (cond (b == 92) (Some slash) (cond (nat_lt b 128) (Some plain) (from_lead (lead b))))
inside slash b = cond (is_letter b) (Some plain) (cond (b == 117) (Some first) None)
inside first b = if_hex (hex b) (λ v. Some (cond (v == 13) second (digits 2)))
inside second b = if_hex (hex b) (λ v. cond (nat_lt v 8) (Some (digits 1)) (cond (nat_lt v 12) (Some (high 1)) None))
inside (digits n) b = if_hex (hex b) (λ v. Some (digits_left n))
inside (high n) b = if_hex (hex b) (λ v. Some (high_left n))
inside low_slash b = cond (b == 92) (Some low_u) None
inside low_u b = cond (b == 117) (Some low_first) None
inside low_first b = if_hex (hex b) (λ v. cond (v == 13) (Some low_second) None)
inside low_second b = if_hex (hex b) (λ v. cond (nat_lt 11 v) (Some (digits 1)) None)
inside (begun t) b = cond (is_next t b) (Some (tail_left t)) None

-- Where a text has come to: its start; a byte order mark's rest; where a value is due, or a list's or a map's end too; where a
-- name is due, and its colon; a string that is a name or a value; a literal's rest; the parts of a number, each after what its
-- name says (section 6); behind a value.
pub data Here : Type 0 where
  start : Here
  mark : List ℕ → Here
  value item_or_end name_or_end name colon : Here
  string : Bool → Inside → Here
  word : List ℕ → Here
  minus zero_digit whole point fraction exponent sign power : Here
  done : Here

-- a place, within the lists and maps that are open there, the innermost first
abbrev pub Place : Type 0
Place = List Level × Here

-- a value's first byte (section 3)
abbrev pub value_from : List Level → ℕ → Option Place
value_from fs b =
    cond (b == 34) (Some (fs, string false plain)) (cond (b == 91) (Some (in_list ∷ fs, item_or_end)) (cond (b == 123) (Some (in_map ∷ fs, name_or_end))
    (cond (b == 110) (Some (fs, word (codes "ull"))) (cond (b == 116) (Some (fs, word (codes "rue"))) (cond (b == 102) (Some (fs, word (codes "alse")))
    (cond (b == 45) (Some (fs, minus)) (cond (b == 48) (Some (fs, zero_digit)) (cond (is_digit b) (Some (fs, whole)) None))))))))

abbrev pub name_from : List Level → ℕ → Option Place
name_from fs b = cond (b == 34) (Some (fs, string true plain)) None

-- behind a value: a comma, or the end of what it lies in (sections 4 and 5)
abbrev pub after_value : List Level → ℕ → Option Place
after_value [] b = None
after_value (in_list ∷ fs) b = cond (b == 44) (Some (in_list ∷ fs, value)) (cond (b == 93) (Some (fs, done)) None)
after_value (in_map ∷ fs) b = cond (b == 44) (Some (in_map ∷ fs, name)) (cond (b == 125) (Some (fs, done)) None)

abbrev pub outer : List Level → List Level
outer [] = []
outer (f ∷ fs) = fs

-- white space changes nothing
abbrev pub spaced : List Level → Here → ℕ → Option Place → Option Place
spaced fs here b next = cond (is_white b) (Some (fs, here)) next

abbrev pub behind : List Level → ℕ → Option Place
behind fs b = spaced fs done b (after_value fs b)

-- behind a number's digits (section 6)
abbrev pub scale_from : List Level → ℕ → Option Place
scale_from fs b = cond (b == 69 || b == 101) (Some (fs, exponent)) (behind fs b)

abbrev pub fraction_from : List Level → ℕ → Option Place
fraction_from fs b = cond (b == 46) (Some (fs, point)) (scale_from fs b)

abbrev pub string_from : List Level → Bool → Option Inside → Option Place
string_from fs is_name (Some i) = Some (fs, string is_name i)
string_from fs is_name None = None

-- behind a string: a name's colon, or a value
abbrev pub string_end : Bool → Here
string_end true = colon
string_end false = done

abbrev pub is_plain : Inside → Bool
is_plain plain = true
is_plain _ = false

abbrev pub word_from : List Level → List ℕ → Option Place
word_from fs [] = Some (fs, done)
word_from fs (c ∷ cs) = Some (fs, word (c ∷ cs))

abbrev pub mark_from : List Level → List ℕ → Option Place
mark_from fs [] = Some (fs, value)
mark_from fs (c ∷ cs) = Some (fs, mark (c ∷ cs))

-- where one more byte leads; nowhere, where no text goes on with it
unfoldable pub step : List Level → Here → ℕ → Option Place
step fs start b = cond (b == 239) (Some (fs, mark (187 ∷ 191 ∷ []))) (spaced fs value b (value_from fs b))
step fs (mark []) b = None
step fs (mark (c ∷ cs)) b = cond (b == c) (mark_from fs cs) None
step fs value b = spaced fs value b (value_from fs b)
step fs item_or_end b = spaced fs item_or_end b (cond (b == 93) (Some (outer fs, done)) (value_from fs b))
step fs name_or_end b = spaced fs name_or_end b (cond (b == 125) (Some (outer fs, done)) (name_from fs b))
step fs name b = spaced fs name b (name_from fs b)
step fs colon b = spaced fs colon b (cond (b == 58) (Some (fs, value)) None)
step fs (string is_name i) b = cond (is_plain i && b == 34) (Some (fs, string_end is_name)) (string_from fs is_name (inside i b))
step fs (word []) b = None
step fs (word (c ∷ cs)) b = cond (b == c) (word_from fs cs) None
step fs minus b = cond (b == 48) (Some (fs, zero_digit)) (cond (is_digit b) (Some (fs, whole)) None)
step fs zero_digit b = fraction_from fs b
step fs whole b = cond (is_digit b) (Some (fs, whole)) (fraction_from fs b)
step fs point b = cond (is_digit b) (Some (fs, fraction)) None
step fs fraction b = cond (is_digit b) (Some (fs, fraction)) (scale_from fs b)
step fs exponent b = cond (b == 43 || b == 45) (Some (fs, sign)) (cond (is_digit b) (Some (fs, power)) None)
step fs sign b = cond (is_digit b) (Some (fs, power)) None
step fs power b = cond (is_digit b) (Some (fs, power)) (behind fs b)
step fs done b = behind fs b

abbrev pub is_outermost : List Level → Bool
is_outermost [] = true
is_outermost (f ∷ fs) = false

-- behind a value
abbrev pub is_behind : Here → Bool
is_behind done = true
is_behind zero_digit = true
is_behind whole = true
is_behind fraction = true
is_behind power = true
is_behind _ = false

-- a text may end behind a value that lies in none
abbrev pub is_end : List Level → Here → Bool
is_end fs here = is_behind here && is_outermost fs
