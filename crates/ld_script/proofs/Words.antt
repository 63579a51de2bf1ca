-- Words, numbers among them, and the texts that they are split out of.
use Rattle.std.proofs.Common.{◌≡◌, refl, Bool, true, false, ◌&&◌, not, ℕ, ◌+◌, ◌^◌, ◌<◌, ◌%◌, nat_le, List, [], ◌∷◌, ◌++◌, arith}
use Rattle.std.specs.Bool.{◌==◌}
use Rattle.std.specs.Prelude.{decimal}
use Rattle.std.specs.List.{list_all}
use Rattle.std.specs.Str.{IsAscii, IsUtf8}
use Rattle.std.proofs.lemmas.Bool.Decides.{nat_tests}
use Rattle.std.proofs.lemmas.Str.{IsUtf8-from_ascii}
use Rattle.std.proofs.lemmas.Str.Ascii.{IsAscii-nil, IsAscii-cons}
use Rattle.std.proofs.lemmas.Fmt.{decimal_by_steps}
use Rattle.ld_script.specs.Lines.{is_graphic, is_word}
use Rattle.ld_script.specs.Reading.{lacks}

pub left : (a b : Bool) → a && b ≡ true → a ≡ true
left true b h = refl
left false b h = cc

pub right : (a b : Bool) → a && b ≡ true → b ≡ true
right true b h = h
right false b h = cc

both : (a b : Bool) → a ≡ true → b ≡ true → a && b ≡ true
both true b h k = k
both false b h k = cc

-- ---- words are ASCII, without spaces and line feeds

graphic_small : (b : ℕ) → is_graphic b ≡ true → b < 128
graphic_small b h = small b (right (nat_le 0x21 b) (nat_le b 0x7E) h)
  where
    small : (b : ℕ) → nat_le b 0x7E ≡ true → b < 128
    small b h = grind (arith, nat_tests)

graphic_other : (byte b : ℕ) → byte < 33 → is_graphic b ≡ true → not (b == byte) ≡ true
graphic_other byte b small h = other byte b small (left (nat_le 0x21 b) (nat_le b 0x7E) h)
  where
    other : (byte b : ℕ) → byte < 33 → nat_le 0x21 b ≡ true → not (b == byte) ≡ true
    other byte b small h = grind (arith, nat_tests)

graphic_ascii : (bytes : List ℕ) → list_all is_graphic bytes ≡ true → IsAscii bytes
graphic_ascii [] h = IsAscii-nil
graphic_ascii (b ∷ bytes) h = IsAscii-cons b bytes (graphic_small b (left _ _ h)) (graphic_ascii bytes (right _ _ h))

graphic_lacks : (byte : ℕ) (bytes : List ℕ) → byte < 33 → list_all is_graphic bytes ≡ true → lacks byte bytes ≡ true
graphic_lacks byte [] small h = refl
graphic_lacks byte (b ∷ bytes) small h = both _ _ (graphic_other byte b small (left _ _ h)) (graphic_lacks byte bytes small (right _ _ h))

pub word_utf8 : (word : List ℕ) → is_word word ≡ true → IsUtf8 word
word_utf8 word h = IsUtf8-from_ascii word (graphic_ascii word (right _ _ h))

pub word_lacks : (byte : ℕ) (word : List ℕ) → byte < 33 → is_word word ≡ true → lacks byte word ≡ true
word_lacks byte word small h = graphic_lacks byte word small (right _ _ h)

-- ---- digits

digit_other : (byte n : ℕ) → byte < 48 → not ((48 + n) == byte) ≡ true
digit_other byte n small = grind (arith, nat_tests)

pub lacks_append : (byte : ℕ) (xs ys : List ℕ) → lacks byte xs ≡ true → lacks byte ys ≡ true → lacks byte (xs ++ ys) ≡ true
lacks_append byte [] ys h k = k
lacks_append byte (x ∷ xs) ys h k = both _ _ (left _ _ h) (lacks_append byte xs ys (right _ _ h) k)

pub decimal_lacks : (byte n : ℕ) → byte < 48 → n < 2 ^ 64 → lacks byte (decimal n) ≡ true
decimal_lacks byte n small fits =
    decimal_by_steps (λ n ds. lacks byte ds ≡ true)
    (λ n h. both _ _ (digit_other byte n small) refl)
    (λ n ds h ih. lacks_append byte ds ((48 + n % 10) ∷ []) ih (both _ _ (digit_other byte (n % 10) small) refl))
    n fits

-- ---- a text is split at the first such byte in one way

same_here : (b : ℕ) → (b == b) ≡ true
same_here b = grind (arith, nat_tests)

not_here : (byte : ℕ) (x : ℕ) → x ≡ byte → not (x == byte) ≡ true → ⊥
not_here byte x e h = grind (arith, nat_tests)

pub no_split : (byte : ℕ) (text front back : List ℕ) → lacks byte text ≡ true → text ≡ front ++ byte ∷ back → ⊥
no_split byte [] [] back h e = cc
no_split byte [] (y ∷ front) back h e = cc
no_split byte (x ∷ text) [] back h e = let here : x ≡ byte = cc in not_here byte x here (left _ _ h)
no_split byte (x ∷ text) (y ∷ front) back h e = let rest : text ≡ front ++ byte ∷ back = cc in no_split byte text front back (right _ _ h) rest

pub split_front : (byte : ℕ) (a b c d : List ℕ) → lacks byte a ≡ true → lacks byte c ≡ true → a ++ byte ∷ b ≡ c ++ byte ∷ d → a ≡ c
split_front byte [] b [] d h k e = refl
split_front byte [] b (y ∷ c) d h k e = let here : y ≡ byte = cc in absurd (not_here byte y here (left _ _ k))
split_front byte (x ∷ a) b [] d h k e = let here : x ≡ byte = cc in absurd (not_here byte x here (left _ _ h))
split_front byte (x ∷ a) b (y ∷ c) d h k e =
    let first : x ≡ y = cc in
    let rest : a ++ byte ∷ b ≡ c ++ byte ∷ d = cc in
    let ih : a ≡ c = split_front byte a b c d (right (not (x == byte)) (lacks byte a) h) (right (not (y == byte)) (lacks byte c) k) rest in
    cc

pub split_back : (byte : ℕ) (a b c d : List ℕ) → lacks byte a ≡ true → lacks byte c ≡ true → a ++ byte ∷ b ≡ c ++ byte ∷ d → b ≡ d
split_back byte [] b [] d h k e = cc
split_back byte [] b (y ∷ c) d h k e = let here : y ≡ byte = cc in absurd (not_here byte y here (left _ _ k))
split_back byte (x ∷ a) b [] d h k e = let here : x ≡ byte = cc in absurd (not_here byte x here (left _ _ h))
split_back byte (x ∷ a) b (y ∷ c) d h k e =
    let rest : a ++ byte ∷ b ≡ c ++ byte ∷ d = cc in
    split_back byte a b c d (right _ _ h) (right _ _ k) rest
