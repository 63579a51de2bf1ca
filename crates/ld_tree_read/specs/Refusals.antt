-- Why bytes read as no tree, and where: the first that a pass over them meets.
use Rattle.std.specs.Prelude.{ℕ, ◌+◌, ◌==◌, nat_lt, Bool, true, false, ◌||◌, cond, List, [], ◌∷◌, length, Option, Some, None, Result, Ok, Err}
use Rattle.std.specs.Option.{is_some}
use Rattle.ld_tree.specs.Numbers.{Token, exact, num_of, number_at}
use Rattle.ld_tree_read.specs.State.{Here, start, mark, value, item_or_end, string, begun, Place, Tail, tail, lead, is_next, step, is_end}
use Rattle.ld_tree_read.specs.State.{Level}
use Rattle.ld_tree.specs.declared.tree.Num.{Num}
use Rattle.ld_tree.specs.declared.number.NumFault.{NumFault}
use Rattle.ld_tree.specs.declared.number.NumFault.TheVariants as f
use Rattle.ld_tree_read.specs.declared.refusal.ReadRefusal.{ReadRefusal}
use Rattle.ld_tree_read.specs.declared.refusal.ReadRefusal.TheVariants as r

abbrev pub fault_refusal : ℕ → Result Num NumFault → Option ReadRefusal
fault_refusal at (Ok n) = None
fault_refusal at (Err f.Fraction) = Some (r.Fraction at)
fault_refusal at (Err f.TooLarge) = Some (r.TooLarge at)

-- why a number isn't read
abbrev pub number_refusal : ℕ → Option (Token × List ℕ) → Option ReadRefusal
number_refusal at None = None
number_refusal at (Some t) = fault_refusal at (num_of (exact t.0))

-- where a value may begin
abbrev pub takes_value : Here → Bool
takes_value start = true
takes_value value = true
takes_value item_or_end = true
takes_value _ = false

-- why a value isn't read whose first byte is this: it is a list or a map in 128 others, or a number that isn't read
unfoldable pub value_refusal : ℕ → List Level → Here → ℕ → List ℕ → Option ReadRefusal
value_refusal at fs here b bs =
    cond (takes_value here)
    (cond (b == 91 || b == 123) (cond (nat_lt (length fs) 128) None (Some (r.TooDeep at))) (number_refusal at (number_at (b ∷ bs))))
    None

-- what is due of a character that has begun
abbrev pub tail_of : Here → Option Tail
tail_of (string n (begun t)) = Some t
tail_of (mark cs) = Some (tail 128 191 0)
tail_of _ = None

-- a byte goes on a character, or begins one (RFC 3629, section 4)
abbrev pub is_char_byte : Option Tail → ℕ → Bool
is_char_byte (Some t) b = is_next t b
is_char_byte None b = nat_lt b 128 || is_some (lead b)

-- where no text goes on: no UTF-8 does, or else no JSON text
abbrev pub end_refusal : ℕ → Here → ReadRefusal
end_refusal at here = cond (is_some (tail_of here)) (r.NotUtf8 at) (r.Syntax at)

abbrev pub byte_refusal : ℕ → Here → ℕ → ReadRefusal
byte_refusal at here b = cond (is_char_byte (tail_of here) b) (r.Syntax at) (r.NotUtf8 at)

-- the same, between characters
abbrev pub plain_refusal : ℕ → List ℕ → ReadRefusal
plain_refusal at [] = r.Syntax at
plain_refusal at (b ∷ bs) = cond (is_char_byte None b) (r.Syntax at) (r.NotUtf8 at)

-- the same, within a byte order mark
abbrev pub mark_refusal : ℕ → List ℕ → ReadRefusal
mark_refusal at [] = r.NotUtf8 at
mark_refusal at (b ∷ bs) = cond (is_char_byte (Some (tail 128 191 0)) b) (r.Syntax at) (r.NotUtf8 at)

abbrev pub first_of : Option ReadRefusal → Option ReadRefusal → Option ReadRefusal
first_of (Some e) other = Some e
first_of None other = other

abbrev pub follow : ReadRefusal → Option Place → (Place → Option ReadRefusal) → Option ReadRefusal
follow e None next = Some e
follow e (Some p) next = next p

-- The first refusal from this place on; none, where the bytes end a text whose every number and depth is within bounds.
unfoldable pub refusal : ℕ → List Level → Here → List ℕ → Option ReadRefusal
refusal at fs here [] = cond (is_end fs here) None (Some (end_refusal at here))
refusal at fs here (b ∷ bs) = first_of (value_refusal at fs here b bs) (follow (byte_refusal at here b) (step fs here b) (λ p. refusal (at + 1) p.0 p.1 bs))

abbrev pub first_refusal : List ℕ → Option ReadRefusal
first_refusal bytes = refusal 0 [] start bytes
