-- Each text is a script or has a first bad line: what reading does, done over lists.
use Rattle.std.specs.Bool.{◌==◌}
use Rattle.std.proofs.Common.{◌≡◌, ◌∙◌, refl, sym, ap, Bool, true, false, ◌⊎◌, inl, inr, ℕ, zero, suc, ◌+◌, ◌-◌, ◌^◌, ◌<◌, ◌≤◌, Option, Some, None, List, [], ◌∷◌, ◌++◌, length, not, eqb-true, eq-eqb, arith}
use Rattle.std.specs.Prelude.{codes, decimal}
use Rattle.std.proofs.lemmas.Bool.{cases_Bool, and_from}
use Rattle.std.proofs.lemmas.List.{append_assoc, append-nil, length-append}
use Rattle.std.proofs.Math.Nat.{eq-or-lt_of_le}
use Rattle.ld_history.specs.declared.limits.Limits.{Limits}
use Rattle.ld_history.specs.Legal.{AreWithin}
use Rattle.ld_script.specs.declared.line.Line.{Line}
use Rattle.ld_script.specs.declared.line.Line.TheVariants as line
use Rattle.ld_script.specs.declared.verb.Verb.{Verb}
use Rattle.ld_script.specs.declared.verb.Verb.TheVariants as verb
use Rattle.ld_script.specs.Lines.{spelled, spelled_limits, is_word, IsGood, IsNumber}
use Rattle.ld_script.specs.Scripts.{text_of, AreGood, server, BeginsWithLine, BeginsWithLimits, IsScript, IsBadAt}
use Rattle.ld_script.specs.Reading.{lacks, name, verb_of, arguments, limits_words, IsSplit, IsSplitTwice, IsVerb, IsSessionIri, IsGiven, AreArguments, IsLine, IsStuckAt}
use Rattle.ld_script.proofs.Arguments.{unsplit, same_front, same_back, no_second, no_session, no_iri, no_pair, no_given, no_given_flight, no_given_length, no_given_mark, no_fail, no_fail_flight, no_fail_before, no_fail_after, NoLimits, no_limits_alone, no_limits_few, no_contexts, no_held, no_events, no_bytes}
use Rattle.ld_script.proofs.Lines.{no_spaces, no_verb, of_verb}
use Rattle.ld_script.proofs.Apart.{limits_line_split, limits_line_words}
use Rattle.ld_script.proofs.Scripts.{no_limits, no_line, no_feed, no_line_left, headed_script, stuck_headed, stuck_plain}

-- ---- lists and numbers
same_or_not : (xs ys : List ℕ) → (xs ≡ ys) ⊎ (xs ≡ ys → ⊥)
same_or_not [] [] = inl refl
same_or_not [] (y ∷ ys) = inr (λ e. cc)
same_or_not (x ∷ xs) [] = inr (λ e. cc)
same_or_not (x ∷ xs) (y ∷ ys) = elim (cases_Bool (x == y)) [
  | inl here ↦ elim (same_or_not xs ys) [
    | inl rest ↦ inl (let head : x ≡ y = eqb-true x y here in cc)
    | inr apart ↦ inr (λ e. apart (let rest : xs ≡ ys = cc in rest))
  ]
  | inr other ↦ inr (λ e. let head : x ≡ y = cc in let same : (x == y) ≡ true = ap (λ z. x == z) (sym head) ∙ itself x in cc)
]
  where
    itself : (n : ℕ) → (n == n) ≡ true
    itself n = eq-eqb n n refl

-- the number at most this that the word spells, if there is one
abbrev Number : List ℕ → ℕ → Type 0
Number word most = ((n : ℕ) × IsNumber word most n) ⊎ ((n : ℕ) → IsNumber word most n → ⊥)

number_more : (word : List ℕ) (most : ℕ) → Number word most → (word ≡ decimal (suc most) → ⊥) → Number word (suc most)
number_more word most (inl (n, is)) other = inl (n, record { bounded = omega (arith, is.bounded); spelled = is.spelled })
number_more word most (inr none) other = inr (λ n is. elim (eq-or-lt_of_le is.bounded) [
  | inl same ↦ other (is.spelled ∙ ap decimal same)
  | inr less ↦ none n (record { bounded = omega (arith, less); spelled = is.spelled })
])

number : (word : List ℕ) (most : ℕ) → Number word most
number word zero = elim (same_or_not word (decimal 0)) [
  | inl same ↦ inl (0, record { bounded = omega arith; spelled = same })
  | inr other ↦ inr (λ n is. other (is.spelled ∙ ap decimal (let none : n ≡ 0 = omega (arith, is.bounded) in none)))
]
number word (suc most) = elim (same_or_not word (decimal (suc most))) [
  | inl same ↦ inl (suc most, record { bounded = omega arith; spelled = same })
  | inr other ↦ number_more word most (number word most) other
]

-- the same below a bound
abbrev Below : List ℕ → ℕ → Type 0
Below word bound = ((n : ℕ) × (n < bound) × (word ≡ decimal n)) ⊎ ((n : ℕ) → n < bound → word ≡ decimal n → ⊥)

below : (word : List ℕ) (bound : ℕ) → 0 < bound → Below word bound
below word bound some = by_number (number word (bound - 1))
  where
    by_number : Number word (bound - 1) → Below word bound
    by_number (inl (n, is)) = inl (n, omega (arith, is.bounded, some), is.spelled)
    by_number (inr none) = inr (λ n lt e. none n (record { bounded = omega (arith, lt); spelled = e }))

-- ---- parts of a text
abbrev Split : ℕ → List ℕ → Type 0
Split byte text = ((front : List ℕ) × (back : List ℕ) × IsSplit byte text front back) ⊎ (lacks byte text ≡ true)

split_more : (byte b : ℕ) (text : List ℕ) → (b == byte) ≡ false → Split byte text → Split byte (b ∷ text)
split_more byte b text other (inl (front, back, s)) = inl (b ∷ front, back, record { parts = ap (λ t. b ∷ t) s.parts; first = and_from _ _ (ap not other) s.first })
split_more byte b text other (inr none) = inr (and_from _ _ (ap not other) none)

split : (byte : ℕ) (text : List ℕ) → Split byte text
split byte [] = inr refl
split byte (b ∷ text) = elim (cases_Bool (b == byte)) [
  | inl here ↦ inl ([], text, record { parts = ap (λ x. x ∷ text) (eqb-true b byte here); first = refl })
  | inr other ↦ split_more byte b text other (split byte text)
]

abbrev SplitTwice : List ℕ → Type 0
SplitTwice text = ((a : List ℕ) × (b : List ℕ) × (c : List ℕ) × IsSplitTwice text a b c) ⊎ ((a b c : List ℕ) → IsSplitTwice text a b c → ⊥)

split_again : {text first rest : List ℕ} → IsSplit 32 text first rest → Split 32 rest → SplitTwice text
split_again {text} {first} {rest} s (inl (second, third, t)) = inl (first, second, third, record { parts = s.parts ∙ ap (λ r. first ++ 32 ∷ r) t.parts; one = s.first; two = t.first })
split_again s (inr none) = inr (no_second s none)

split_twice : (text : List ℕ) → SplitTwice text
split_twice text = elim (split 32 text) [
  | inl (first, rest, s) ↦ split_again s (split 32 rest)
  | inr none ↦ inr (λ a b c t. unsplit none (record { parts = t.parts; first = t.one }))
]

-- ---- the words of each line
abbrev SessionIri : List ℕ → Type 0
SessionIri rest = ((n : ℕ) × (i : List ℕ) × IsSessionIri rest n i) ⊎ ((n : ℕ) (i : List ℕ) → IsSessionIri rest n i → ⊥)

iri_word : {rest word iri : List ℕ} → IsSplit 32 rest word iri → (n : ℕ) → n < 2 ^ 32 → word ≡ decimal n → SessionIri rest
iri_word {rest} {word} {iri} s n lt e = elim (cases_Bool (is_word iri)) [
  | inl is ↦ inl (n, iri, record { spelled = s.parts ∙ ap (λ w. w ++ 32 ∷ iri) e; fits = lt; word = is })
  | inr isnt ↦ inr (no_iri s isnt)
]

iri_number : {rest word iri : List ℕ} → IsSplit 32 rest word iri → Below word (2 ^ 32) → SessionIri rest
iri_number s (inl (n, lt, e)) = iri_word s n lt e
iri_number s (inr none) = inr (no_session s none)

session_iri : (rest : List ℕ) → SessionIri rest
session_iri rest = elim (split 32 rest) [
  | inl (word, iri, s) ↦ iri_number s (below word (2 ^ 32) (omega arith))
  | inr none ↦ inr (no_pair none)
]

abbrev GivenWords : List ℕ → Type 0
GivenWords rest = ((f : ℕ) × (l : ℕ) × (m : List ℕ) × IsGiven rest f l m) ⊎ ((f l : ℕ) (m : List ℕ) → IsGiven rest f l m → ⊥)

given_mark : {rest a b c : List ℕ} → IsSplitTwice rest a b c → (f l : ℕ) → f < 2 ^ 32 → a ≡ decimal f → IsNumber b 1048577 l → GivenWords rest
given_mark {rest} {a} {b} {c} t f l lt first second = elim (cases_Bool (is_word c)) [
  | inl is ↦ inl (f, l, c, record { spelled = t.parts ∙ ap (λ w. w ++ 32 ∷ (b ++ 32 ∷ c)) first ∙ ap (λ w. decimal f ++ 32 ∷ (w ++ 32 ∷ c)) second.spelled; fits = lt; short = second.bounded; word = is })
  | inr isnt ↦ inr (no_given_mark t isnt)
]

given_length : {rest a b c : List ℕ} → IsSplitTwice rest a b c → (f : ℕ) → f < 2 ^ 32 → a ≡ decimal f → Number b 1048577 → GivenWords rest
given_length t f lt first (inl (l, second)) = given_mark t f l lt first second
given_length t f lt first (inr none) = inr (no_given_length t none)

given_flight : {rest a b c : List ℕ} → IsSplitTwice rest a b c → Below a (2 ^ 32) → GivenWords rest
given_flight {rest} {a} {b} {c} t (inl (f, lt, first)) = given_length t f lt first (number b 1048577)
given_flight t (inr none) = inr (no_given_flight t none)

given : (rest : List ℕ) → GivenWords rest
given rest = elim (split_twice rest) [
  | inl (a, b, c, t) ↦ given_flight t (below a (2 ^ 32) (omega arith))
  | inr none ↦ inr (no_given none)
]

-- what a reader answers
abbrev Arguments : Verb → List ℕ → Type 0
Arguments v rest = (read : Option Line) × AreArguments v rest read

fail_after : {rest a b c : List ℕ} → IsSplitTwice rest a b c → (f n : ℕ) → f < 2 ^ 32 → a ≡ decimal f → n < 2 ^ 63 → b ≡ decimal n → Below c (2 ^ 63) → Arguments verb.Fail rest
fail_after {rest} {a} {b} {c} t f n fits first low second (inl (m, high, third)) = (
  Some (line.Fail f n m),
  ((fits, low, high), refl, t.parts ∙ ap (λ w. w ++ 32 ∷ (b ++ 32 ∷ c)) first ∙ ap (λ w. decimal f ++ 32 ∷ (w ++ 32 ∷ c)) second ∙ ap (λ w. decimal f ++ 32 ∷ (decimal n ++ 32 ∷ w)) third),
)
fail_after t f n fits first low second (inr none) = (None, no_fail_after t none)

fail_before : {rest a b c : List ℕ} → IsSplitTwice rest a b c → (f : ℕ) → f < 2 ^ 32 → a ≡ decimal f → Below b (2 ^ 63) → Arguments verb.Fail rest
fail_before {rest} {a} {b} {c} t f fits first (inl (n, low, second)) = fail_after t f n fits first low second (below c (2 ^ 63) (omega arith))
fail_before t f fits first (inr none) = (None, no_fail_before t none)

fail_flight : {rest a b c : List ℕ} → IsSplitTwice rest a b c → Below a (2 ^ 32) → Arguments verb.Fail rest
fail_flight {rest} {a} {b} {c} t (inl (f, fits, first)) = fail_before t f fits first (below b (2 ^ 63) (omega arith))
fail_flight t (inr none) = (None, no_fail_flight t none)

fail_words : (rest : List ℕ) → Arguments verb.Fail rest
fail_words rest = elim (split_twice rest) [
  | inl (a, b, c, t) ↦ fail_flight t (below a (2 ^ 32) (omega arith))
  | inr none ↦ (None, no_fail none)
]

-- a line of one number
no_open : {rest : List ℕ} → ((n : ℕ) → n < 2 ^ 32 → rest ≡ decimal n → ⊥) → AreArguments verb.Open rest None
no_open none (line.Open n) good v e = none n good e
no_open none _ good v e = cc

no_pin : {rest : List ℕ} → ((n : ℕ) → n < 2 ^ 32 → rest ≡ decimal n → ⊥) → AreArguments verb.Pin rest None
no_pin none (line.Pin n) good v e = none n good e
no_pin none _ good v e = cc

no_lapse : {rest : List ℕ} → ((n : ℕ) → n < 2 ^ 32 → rest ≡ decimal n → ⊥) → AreArguments verb.Lapse rest None
no_lapse none (line.Lapse n) good v e = none n good e
no_lapse none _ good v e = cc

no_answer : {rest : List ℕ} → ((n : ℕ) → n < 2 ^ 32 → rest ≡ decimal n → ⊥) → AreArguments verb.Answer rest None
no_answer none (line.Answer n) good v e = none n good e
no_answer none _ good v e = cc

no_close : {rest : List ℕ} → ((n : ℕ) → n < 2 ^ 32 → rest ≡ decimal n → ⊥) → AreArguments verb.Close rest None
no_close none (line.Close n) good v e = none n good e
no_close none _ good v e = cc

-- and of a session and an IRI
no_lack : {rest : List ℕ} → ((n : ℕ) (i : List ℕ) → IsSessionIri rest n i → ⊥) → AreArguments verb.Lack rest None
no_lack none (line.Lack n i) good v e = none n i (record { spelled = e; fits = good.0; word = good.1 })
no_lack none _ good v e = cc

no_evict : {rest : List ℕ} → ((n : ℕ) (i : List ℕ) → IsSessionIri rest n i → ⊥) → AreArguments verb.Evict rest None
no_evict none (line.Evict n i) good v e = none n i (record { spelled = e; fits = good.0; word = good.1 })
no_evict none _ good v e = cc

no_revise : {rest : List ℕ} → ((n : ℕ) (i : List ℕ) → IsSessionIri rest n i → ⊥) → AreArguments verb.Revise rest None
no_revise none (line.Revise n i) good v e = none n i (record { spelled = e; fits = good.0; word = good.1 })
no_revise none _ good v e = cc

no_give : {rest : List ℕ} → ((f l : ℕ) (m : List ℕ) → IsGiven rest f l m → ⊥) → AreArguments verb.Give rest None
no_give none (line.Give f l m) good v e = none f l m (record { spelled = e; fits = good.0; short = good.1; word = good.2 })
no_give none _ good v e = cc

read_arguments : (v : Verb) (rest : List ℕ) → Arguments v rest
read_arguments verb.Open rest = elim (below rest (2 ^ 32) (omega arith)) [ inl (n, lt, e) ↦ (Some (line.Open n), (lt, refl, e)) | inr none ↦ (None, no_open none) ]
read_arguments verb.Pin rest = elim (below rest (2 ^ 32) (omega arith)) [ inl (n, lt, e) ↦ (Some (line.Pin n), (lt, refl, e)) | inr none ↦ (None, no_pin none) ]
read_arguments verb.Lack rest = elim (session_iri rest) [ inl (n, i, is) ↦ (Some (line.Lack n i), ((is.fits, is.word), refl, is.spelled)) | inr none ↦ (None, no_lack none) ]
read_arguments verb.Give rest = elim (given rest) [ inl (f, l, m, is) ↦ (Some (line.Give f l m), ((is.fits, is.short, is.word), refl, is.spelled)) | inr none ↦ (None, no_give none) ]
read_arguments verb.Fail rest = fail_words rest
read_arguments verb.Lapse rest = elim (below rest (2 ^ 32) (omega arith)) [ inl (n, lt, e) ↦ (Some (line.Lapse n), (lt, refl, e)) | inr none ↦ (None, no_lapse none) ]
read_arguments verb.Evict rest = elim (session_iri rest) [ inl (n, i, is) ↦ (Some (line.Evict n i), ((is.fits, is.word), refl, is.spelled)) | inr none ↦ (None, no_evict none) ]
read_arguments verb.Revise rest = elim (session_iri rest) [ inl (n, i, is) ↦ (Some (line.Revise n i), ((is.fits, is.word), refl, is.spelled)) | inr none ↦ (None, no_revise none) ]
read_arguments verb.Answer rest = elim (below rest (2 ^ 32) (omega arith)) [ inl (n, lt, e) ↦ (Some (line.Answer n), (lt, refl, e)) | inr none ↦ (None, no_answer none) ]
read_arguments verb.Close rest = elim (below rest (2 ^ 32) (omega arith)) [ inl (n, lt, e) ↦ (Some (line.Close n), (lt, refl, e)) | inr none ↦ (None, no_close none) ]

-- ---- lines
abbrev Named : List ℕ → Type 0
Named word = (v : Option Verb) × IsVerb word v

named : (word : List ℕ) → Named word
named word =
    elim (same_or_not word (name verb.Open)) [
      | inl e ↦ (Some verb.Open, e)
      | inr a ↦
          elim (same_or_not word (name verb.Pin)) [
            | inl e ↦ (Some verb.Pin, e)
            | inr b ↦
                elim (same_or_not word (name verb.Lack)) [
                  | inl e ↦ (Some verb.Lack, e)
                  | inr c ↦
                      elim (same_or_not word (name verb.Give)) [
                        | inl e ↦ (Some verb.Give, e)
                        | inr d ↦
                            elim (same_or_not word (name verb.Fail)) [
                              | inl e ↦ (Some verb.Fail, e)
                              | inr f ↦
                                  elim (same_or_not word (name verb.Lapse)) [
                                    | inl e ↦ (Some verb.Lapse, e)
                                    | inr g ↦
                                        elim (same_or_not word (name verb.Evict)) [
                                          | inl e ↦ (Some verb.Evict, e)
                                          | inr h ↦
                                              elim (same_or_not word (name verb.Revise)) [
                                                | inl e ↦ (Some verb.Revise, e)
                                                | inr i ↦
                                                    elim (same_or_not word (name verb.Answer)) [
                                                      | inl e ↦ (Some verb.Answer, e)
                                                      | inr j ↦
                                                          elim (same_or_not word (name verb.Close)) [ inl e ↦ (Some verb.Close, e) | inr k ↦ (None, unnamed word a b c d f g h i j k) ]
                                                    ]
                                              ]
                                        ]
                                  ]
                            ]
                      ]
                ]
          ]
    ]
  where
    unnamed : (w : List ℕ) → (w ≡ name verb.Open → ⊥) → (w ≡ name verb.Pin → ⊥) → (w ≡ name verb.Lack → ⊥) → (w ≡ name verb.Give → ⊥) → (w ≡ name verb.Fail → ⊥)
        → (w ≡ name verb.Lapse → ⊥) → (w ≡ name verb.Evict → ⊥) → (w ≡ name verb.Revise → ⊥) → (w ≡ name verb.Answer → ⊥) → (w ≡ name verb.Close → ⊥) → (v : Verb) → w ≡ name v → ⊥
    unnamed w a b c d f g h i j k verb.Open e = a e
    unnamed w a b c d f g h i j k verb.Pin e = b e
    unnamed w a b c d f g h i j k verb.Lack e = c e
    unnamed w a b c d f g h i j k verb.Give e = d e
    unnamed w a b c d f g h i j k verb.Fail e = f e
    unnamed w a b c d f g h i j k verb.Lapse e = g e
    unnamed w a b c d f g h i j k verb.Evict e = h e
    unnamed w a b c d f g h i j k verb.Revise e = i e
    unnamed w a b c d f g h i j k verb.Answer e = j e
    unnamed w a b c d f g h i j k verb.Close e = k e

abbrev ReadLine : List ℕ → Type 0
ReadLine text = (read : Option Line) × IsLine text read

line_named : {text word rest : List ℕ} → IsSplit 32 text word rest → Named word → ReadLine text
line_named {text} {word} {rest} s (None, none) = (None, no_verb s none)
line_named {text} {word} {rest} s (Some v, is) = let read = read_arguments v rest in (read.0, of_verb v s is read.0 read.1)

read_line : (text : List ℕ) → ReadLine text
read_line text = elim (split 32 text) [
  | inl (word, rest, s) ↦ line_named s (named word)
  | inr none ↦ (None, no_spaces none)
]

abbrev Begins : List ℕ → Type 0
Begins text = BeginsWithLine text ⊎ (BeginsWithLine text → ⊥)

begins_by : {text front back : List ℕ} → IsSplit 10 text front back → ReadLine front → Begins text
begins_by {text} {front} {back} s (None, none) = inr (no_line s none)
begins_by {text} {front} {back} s (Some l, is) = inl (l, back, is.0, s.parts ∙ ap (λ t. t ++ 10 ∷ back) is.1)

begins : (text : List ℕ) → Begins text
begins text = elim (split 10 text) [
  | inl (front, back, s) ↦ begins_by s (read_line front)
  | inr none ↦ inr (no_feed none)
]

-- ---- the line that sets limits
abbrev LimitsWords : List ℕ → Type 0
LimitsWords rest = ((l : Limits) × AreWithin l × (rest ≡ limits_words l)) ⊎ NoLimits rest

limits_bytes : {rest v more a b c : List ℕ} → IsSplit 32 rest v more → IsSplitTwice more a b c → (w x y : ℕ) → IsNumber v 256 w → IsNumber a 64 x → IsNumber b 16777216 y → Number c 134217728 → LimitsWords rest
limits_bytes {rest} {v} {more} {a} {b} {c} s t w x y one two three (inl (z, four)) = inl (
  record { contexts = w; held = x; events = y; bytes = z },
  record { contexts = one.bounded; held = two.bounded; events = three.bounded; bytes = four.bounded },
  s.parts ∙ ap (λ m. v ++ 32 ∷ m) t.parts ∙ ap (λ u. u ++ 32 ∷ (a ++ 32 ∷ (b ++ 32 ∷ c))) one.spelled ∙ ap (λ u. decimal w ++ 32 ∷ (u ++ 32 ∷ (b ++ 32 ∷ c))) two.spelled
      ∙ ap (λ u. decimal w ++ 32 ∷ (decimal x ++ 32 ∷ (u ++ 32 ∷ c))) three.spelled ∙ ap (λ u. decimal w ++ 32 ∷ (decimal x ++ 32 ∷ (decimal y ++ 32 ∷ u))) four.spelled,
)
limits_bytes s t w x y one two three (inr none) = inr (no_bytes s t refl none)

limits_events : {rest v more a b c : List ℕ} → IsSplit 32 rest v more → IsSplitTwice more a b c → (w x : ℕ) → IsNumber v 256 w → IsNumber a 64 x → Number b 16777216 → LimitsWords rest
limits_events {rest} {v} {more} {a} {b} {c} s t w x one two (inl (y, three)) = limits_bytes s t w x y one two three (number c 134217728)
limits_events s t w x one two (inr none) = inr (no_events s t refl none)

limits_held : {rest v more a b c : List ℕ} → IsSplit 32 rest v more → IsSplitTwice more a b c → (w : ℕ) → IsNumber v 256 w → Number a 64 → LimitsWords rest
limits_held {rest} {v} {more} {a} {b} {c} s t w one (inl (x, two)) = limits_events s t w x one two (number b 16777216)
limits_held s t w one (inr none) = inr (no_held s t refl none)

limits_contexts : {rest v more a b c : List ℕ} → IsSplit 32 rest v more → IsSplitTwice more a b c → Number v 256 → LimitsWords rest
limits_contexts {rest} {v} {more} {a} {b} {c} s t (inl (w, one)) = limits_held s t w one (number a 64)
limits_contexts s t (inr none) = inr (no_contexts s t refl none)

limits_rest : {rest v more : List ℕ} → IsSplit 32 rest v more → SplitTwice more → LimitsWords rest
limits_rest {rest} {v} {more} s (inl (a, b, c, t)) = limits_contexts s t (number v 256)
limits_rest s (inr none) = inr (no_limits_few s none)

read_limits_words : (rest : List ℕ) → LimitsWords rest
read_limits_words rest = elim (split 32 rest) [
  | inl (v, more, s) ↦ limits_rest s (split_twice more)
  | inr none ↦ inr (no_limits_alone none)
]

abbrev LimitsLine : List ℕ → Type 0
LimitsLine front = ((l : Limits) × AreWithin l × (front ≡ spelled_limits l)) ⊎ ((l : Limits) → AreWithin l → front ≡ spelled_limits l → ⊥)

limits_named : {front word rest : List ℕ} → IsSplit 32 front word rest → word ≡ codes "limits" → LimitsWords rest → LimitsLine front
limits_named {front} {word} {rest} s e (inl (l, w, is)) = inl (l, w, s.parts ∙ ap (λ u. u ++ 32 ∷ rest) e ∙ ap (λ u. codes "limits" ++ 32 ∷ u) is)
limits_named s e (inr none) = inr (λ l w is. none l w (same_back s (limits_line_words l is)))

limits_word : {front word rest : List ℕ} → IsSplit 32 front word rest → LimitsLine front
limits_word {front} {word} {rest} s = elim (same_or_not word (codes "limits")) [
  | inl e ↦ limits_named s e (read_limits_words rest)
  | inr other ↦ inr (λ l w is. other (same_front s (limits_line_words l is)))
]

limits_line : (front : List ℕ) → LimitsLine front
limits_line front = elim (split 32 front) [
  | inl (word, rest, s) ↦ limits_word s
  | inr none ↦ inr (λ l w is. unsplit none (limits_line_words l is))
]

abbrev Heads : List ℕ → Type 0
Heads text = BeginsWithLimits text ⊎ (BeginsWithLimits text → ⊥)

heads_by : {text front back : List ℕ} → IsSplit 10 text front back → LimitsLine front → Heads text
heads_by {text} {front} {back} s (inl (l, w, is)) = inl (l, back, w, s.parts ∙ ap (λ t. t ++ 10 ∷ back) is)
heads_by s (inr none) = inr (no_limits s none)

heads : (text : List ℕ) → Heads text
heads text = elim (split 10 text) [
  | inl (front, back, s) ↦ heads_by s (limits_line front)
  | inr none ↦ inr (λ (l, rest, w, e). unsplit none (limits_line_split l w e))
]

-- ---- whole texts
-- the good lines at the front, and what is left, which begins with none
pub record Read (text : List ℕ) : Type 0 where
  pub lines : List Line
  pub good : AreGood lines
  pub rest : List ℕ
  pub parts : text ≡ text_of lines ++ rest
  pub over : BeginsWithLine rest → ⊥

nothing_read : (text : List ℕ) → (BeginsWithLine text → ⊥) → Read text
nothing_read text none = record { lines = []; good = tt; rest = text; parts = refl; over = none }

shorter : (l : Line) (text back : List ℕ) (n : ℕ) → text ≡ spelled l ++ 10 ∷ back → length text ≤ suc n → length back ≤ n
shorter l text back n e le = omega (arith, ap length e, length-append (spelled l) (10 ∷ back), le)

line_read : (l : Line) (text back : List ℕ) → IsGood l → text ≡ spelled l ++ 10 ∷ back → Read back → Read text
line_read l text back good e r = record {
  lines = l ∷ r.lines;
  good = (good, r.good);
  rest = r.rest;
  parts = e ∙ ap (λ t. spelled l ++ 10 ∷ t) r.parts ∙ sym (append_assoc (spelled l) (10 ∷ text_of r.lines) r.rest);
  over = r.over;
}

empty_text : (text : List ℕ) → length text ≤ 0 → BeginsWithLine text → ⊥
empty_text [] le = no_line_left
empty_text (x ∷ text) le = absurd (omega arith)

read_within : (n : ℕ) (text : List ℕ) → length text ≤ n → Read text
read_within zero text le = nothing_read text (empty_text text le)
read_within (suc n) text le = elim (begins text) [
  | inl (l, back, good, e) ↦ line_read l text back good e (read_within n back (shorter l text back n e le))
  | inr none ↦ nothing_read text none
]

read_lines : (text : List ℕ) → Read text
read_lines text = read_within (length text) text (omega arith)

-- a script of some lines, or bad at some line
abbrev pub Verdict : List ℕ → Type 0
Verdict text = ((limits : Limits) × (lines : List Line) × IsScript text limits lines) ⊎ ((line : ℕ) × IsBadAt text line)

some : (x : ℕ) (xs : List ℕ) → x ∷ xs ≡ [] → ⊥
some x xs e = cc

headed_by : (text back : List ℕ) (l : Limits) → AreWithin l → text ≡ spelled_limits l ++ 10 ∷ back → (lines : List Line) → AreGood lines → (rest : List ℕ) → back ≡ text_of lines ++ rest → (BeginsWithLine rest → ⊥) → Verdict text
headed_by text back l w e lines good [] parts over = inl (l, lines, headed_script l w e good (parts ∙ append-nil (text_of lines)))
headed_by text back l w e lines good (x ∷ xs) parts over = inr (
  2 + length lines,
  stuck_headed l w e (record { lines = lines; good = good; rest = x ∷ xs; split = parts; counted = refl; some_left = some x xs; no_line = over }),
)

plain_by : (text : List ℕ) → (BeginsWithLimits text → ⊥) → (lines : List Line) → AreGood lines → (rest : List ℕ) → text ≡ text_of lines ++ rest → (BeginsWithLine rest → ⊥) → Verdict text
plain_by text none lines good [] parts over = inl (server, lines, record { first = None; within = tt; under = refl; good = good; spelled = parts ∙ append-nil (text_of lines) })
plain_by text none lines good (x ∷ xs) parts over = inr (
  1 + length lines,
  stuck_plain none (record { lines = lines; good = good; rest = x ∷ xs; split = parts; counted = refl; some_left = some x xs; no_line = over }),
)

pub each_is_one : (text : List ℕ) → Verdict text
each_is_one text = elim (heads text) [
  | inl (l, back, w, e) ↦ let r = read_lines back in headed_by text back l w e r.lines r.good r.rest r.parts r.over
  | inr none ↦ let r = read_lines text in plain_by text none r.lines r.good r.rest r.parts r.over
]
