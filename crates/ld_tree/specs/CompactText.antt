-- The compact text of a tree: JSON (RFC 8259) with no white space, the names of a map in the order of code points.
use Rattle.std.specs.Prelude.{ℕ, ◌+◌, ◌/◌, ◌%◌, ◌==◌, nat_lt, Bool, true, false, if◌then◌else◌, List, [], ◌∷◌, ◌++◌, codes}
use Rattle.std.specs.Fmt.{signed_decimal}
use Rattle.ld_tree.specs.declared.tree.Num.{Num}
use Rattle.ld_tree.specs.declared.tree.Num.TheVariants.{Whole, OneOne}
use Rattle.ld_tree.specs.declared.tree.Tree.{Tree}
use Rattle.ld_tree.specs.declared.tree.Tree.TheOpen.{Tree-F}
use Rattle.ld_tree.specs.declared.tree.Tree.TheFolds.{fold-Tree}

-- a hexadecimal digit, in lower case
abbrev pub hex_digit : ℕ → ℕ
hex_digit n = if nat_lt n 10 then 48 + n else 87 + n

-- RFC 8259, section 7: what must be escaped is the quotation mark, the backslash and U+0000 to U+001F
abbrev pub needs_escape : ℕ → Bool
needs_escape b = if nat_lt b 32 then true else (if b == 34 then true else b == 92)

-- the escape of a byte that needs one: two characters where the standard has them, else six
abbrev pub escape : ℕ → List ℕ
escape b =
    if b == 34 then codes "\\\""
    else (if b == 92 then codes "\\\\"
    else (if b == 8 then codes "\\b"
    else (if b == 9 then codes "\\t"
    else (if b == 10 then codes "\\n"
    else (if b == 12 then codes "\\f"
    else (if b == 13 then codes "\\r"
    else codes "\\u00" ++ hex_digit (b / 16) ∷ hex_digit (b % 16) ∷ []))))))

-- a text with its escapes; nothing else is escaped
abbrev pub escaped : List ℕ → List ℕ
escaped [] = []
escaped (b ∷ bs) = (if needs_escape b then escape b else b ∷ []) ++ escaped bs

-- section 7: a string
abbrev pub quoted : List ℕ → List ℕ
quoted text = 34 ∷ escaped text ++ 34 ∷ []

-- section 6: a number, with no exponent
abbrev pub number : Num → List ℕ
number (Whole n) = signed_decimal n
number OneOne = codes "1.1"

-- each with a comma before it
abbrev pub after_commas : List (List ℕ) → List ℕ
after_commas [] = []
after_commas (text ∷ texts) = 44 ∷ text ++ after_commas texts

-- with commas between them
abbrev pub with_commas : List (List ℕ) → List ℕ
with_commas [] = []
with_commas (text ∷ texts) = text ++ after_commas texts

-- section 4: a member is a name, a colon and a value, here the value's text
abbrev pub member_text : List ℕ × List ℕ → List ℕ
member_text e = quoted e.0 ++ 58 ∷ e.1

abbrev pub member_texts : List (List ℕ × List ℕ) → List (List ℕ)
member_texts [] = []
member_texts (e ∷ es) = member_text e ∷ member_texts es

-- one level of a tree, with the texts of what lies within (section 3: literals; 4: objects; 5: arrays)
abbrev pub text_step : Tree-F (List ℕ) → List ℕ
text_step Tree-F.Null = codes "null"
text_step (Tree-F.Bool true) = codes "true"
text_step (Tree-F.Bool false) = codes "false"
text_step (Tree-F.Num n) = number n
text_step (Tree-F.Text bytes) = quoted bytes
text_step (Tree-F.List texts) = 91 ∷ with_commas texts ++ 93 ∷ []
text_step (Tree-F.Map members) = 123 ∷ with_commas (member_texts members.0) ++ 125 ∷ []

-- the compact text of a tree
abbrev pub text : Tree → List ℕ
text = fold-Tree (List ℕ) text_step
