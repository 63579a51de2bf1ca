-- What a text is as a script: its lines in turn, up to its end or to a line that is bad.
use Rattle.std.specs.Bool.{◌==◌}
use Rattle.std.proofs.Common.{◌≡◌, ◌∙◌, refl, sym, ap, Bool, true, false, true≢false, ℕ, suc, ◌+◌, Option, Some, None, List, [], ◌∷◌, ◌++◌, length, arith}
use Rattle.std.proofs.lemmas.List.{append_assoc, append-nil, length-append}
use Rattle.ld_history.specs.declared.limits.Limits.{Limits}
use Rattle.ld_history.specs.Legal.{AreWithin}
use Rattle.ld_script.specs.declared.line.Line.{Line}
use Rattle.ld_script.specs.Lines.{spelled, spelled_limits, IsGood}
use Rattle.ld_script.specs.Scripts.{text_of, AreGood, heading, heading_lines, limits_of, MaySet, BeginsWithLine, BeginsWithLimits, IsScript, IsBadAt}
use Rattle.ld_script.specs.Printed.{printed, IsOutput}
use Rattle.ld_script.specs.Reading.{lacks, IsLine, IsSplit, IsStuckAt}
use Rattle.ld_script.proofs.Arguments.{same_front, same_back, unsplit}
use Rattle.ld_script.proofs.Apart.{line_split, limits_line_split, same_line, same_limits, not_both}

-- ---- what a text that is split at its first line feed begins with

pub no_limits : {text front rest : List ℕ} → IsSplit 10 text front rest → ((l : Limits) → AreWithin l → front ≡ spelled_limits l → ⊥) → BeginsWithLimits text → ⊥
no_limits s none (l, rest, w, e) = none l w (same_front s (limits_line_split l w e))

pub no_line : {text front rest : List ℕ} → IsSplit 10 text front rest → IsLine front None → BeginsWithLine text → ⊥
no_line s none (l, rest, g, e) = none l g (same_front s (line_split l g e))

pub no_feed : {text : List ℕ} → lacks 10 text ≡ true → BeginsWithLine text → ⊥
no_feed h (l, rest, g, e) = unsplit h (line_split l g e)

-- ---- lines one after another

pub one_more : (lines : List Line) (l : Line) (rest : List ℕ) → text_of (lines ++ l ∷ []) ++ rest ≡ text_of lines ++ (spelled l ++ 10 ∷ rest)
one_more [] l rest = append_assoc (spelled l) (10 ∷ []) rest
one_more (first ∷ lines) l rest =
    append_assoc (spelled first) (10 ∷ text_of (lines ++ l ∷ [])) rest
    ∙ ap (λ t. spelled first ++ 10 ∷ t) (one_more lines l rest)
    ∙ sym (append_assoc (spelled first) (10 ∷ text_of lines) (spelled l ++ 10 ∷ rest))

pub good_more : (lines : List Line) (l : Line) → AreGood lines → IsGood l → AreGood (lines ++ l ∷ [])
good_more [] l gs g = (g, tt)
good_more (first ∷ lines) l gs g = (gs.0, good_more lines l gs.1 g)

nothing : (xs ys : List ℕ) (x : ℕ) → [] ≡ xs ++ x ∷ ys → ⊥
nothing [] ys x e = cc
nothing (y ∷ xs) ys x e = cc

pub no_line_left : BeginsWithLine [] → ⊥
no_line_left (l, rest, g, e) = nothing (spelled l) rest 10 e

pub no_limits_left : BeginsWithLimits [] → ⊥
no_limits_left (l, rest, w, e) = nothing (spelled_limits l) rest 10 e

-- ---- a text has its lines in one way

pub record AreTheSame (a b : List Line) (r s : List ℕ) : Type 0 where
  pub lines : a ≡ b
  pub rest : r ≡ s

same_lines : (a b : List Line) (r s : List ℕ) → AreGood a → AreGood b → (BeginsWithLine r → ⊥) → (BeginsWithLine s → ⊥) → text_of a ++ r ≡ text_of b ++ s → AreTheSame a b r s
same_lines [] [] r s g h nr ns e = record { lines = refl; rest = e }
same_lines [] (m ∷ b) r s g h nr ns e = absurd (nr (m, text_of b ++ s, h.0, e ∙ append_assoc (spelled m) (10 ∷ text_of b) s))
same_lines (l ∷ a) [] r s g h nr ns e = absurd (ns (l, text_of a ++ r, g.0, sym e ∙ append_assoc (spelled l) (10 ∷ text_of a) r))
same_lines (l ∷ a) (m ∷ b) r s g h nr ns e =
    let here = line_split {text = text_of (l ∷ a) ++ r} {rest = text_of a ++ r} l g.0 (append_assoc (spelled l) (10 ∷ text_of a) r) in
    let there = line_split {text = text_of (l ∷ a) ++ r} {rest = text_of b ++ s} m h.0 (e ∙ append_assoc (spelled m) (10 ∷ text_of b) s) in
    let first : l ≡ m = same_line l m g.0 h.0 (same_front here there) in
    let others = same_lines a b r s g.1 h.1 nr ns (same_back here there) in
    let lines : a ≡ b = others.lines in
    record { lines = cc; rest = others.rest }

-- the text's first line, where it sets limits, the good lines after it, and what is left
pub record HasLines (text : List ℕ) (first : Option Limits) (lines : List Line) (rest : List ℕ) : Type 0 where
  pub within : MaySet first
  pub good : AreGood lines
  pub split : text ≡ heading first ++ (text_of lines ++ rest)
  pub no_line : BeginsWithLine rest → ⊥
  pub no_limits : first ≡ None → lines ≡ [] → BeginsWithLimits rest → ⊥

pub record AreOne (f g : Option Limits) (a b : List Line) (r s : List ℕ) : Type 0 where
  pub first : f ≡ g
  pub lines : a ≡ b
  pub rest : r ≡ s

headed : {text : List ℕ} (l : Limits) (more : List ℕ) → AreWithin l → text ≡ heading (Some l) ++ more → IsSplit 10 text (spelled_limits l) more
headed l more w e = limits_line_split l w (e ∙ append_assoc (spelled_limits l) (10 ∷ []) more)

not_headed : {text : List ℕ} (m : Limits) (more : List ℕ) (lines : List Line) (rest : List ℕ) → AreWithin m → AreGood lines
    → ((lines ≡ []) → BeginsWithLimits rest → ⊥) → IsSplit 10 text (spelled_limits m) more → text ≡ text_of lines ++ rest → ⊥
not_headed m more [] rest w g none s e = none refl (m, more, w, sym e ∙ s.parts)
not_headed m more (l ∷ lines) rest w g none s e =
    not_both l m (same_front (line_split l g.0 (e ∙ append_assoc (spelled l) (10 ∷ text_of lines) rest)) s)

pub are_one : {text : List ℕ} (f g : Option Limits) (a b : List Line) (r s : List ℕ) → HasLines text f a r → HasLines text g b s → AreOne f g a b r s
are_one None None a b r s h k =
    let same = same_lines a b r s h.good k.good h.no_line k.no_line (sym h.split ∙ k.split) in
    record { first = refl; lines = same.lines; rest = same.rest }
are_one None (Some m) a b r s h k =
    absurd (not_headed m (text_of b ++ s) a r k.within h.good (h.no_limits refl) (headed m (text_of b ++ s) k.within k.split) h.split)
are_one (Some l) None a b r s h k =
    absurd (not_headed l (text_of a ++ r) b s h.within k.good (k.no_limits refl) (headed l (text_of a ++ r) h.within h.split) k.split)
are_one (Some l) (Some m) a b r s h k =
    let here = headed l (text_of a ++ r) h.within h.split in
    let there = headed m (text_of b ++ s) k.within k.split in
    let same = same_lines a b r s h.good k.good h.no_line k.no_line (same_back here there) in
    record { first = ap Some (same_limits l m h.within k.within (same_front here there)); lines = same.lines; rest = same.rest }

-- ---- scripts, and texts with a bad line

pub of_script : {text : List ℕ} {limits : Limits} {lines : List Line} (s : IsScript text limits lines) → HasLines text s.first lines []
of_script {text} {limits} {lines} s = record {
  within = s.within;
  good = s.good;
  split = s.spelled ∙ ap (λ t. heading s.first ++ t) (sym (append-nil (text_of lines)));
  no_line = no_line_left;
  no_limits = λ _ _. no_limits_left;
}

first_of_all : (first : Option Limits) (lines : List Line) (number : ℕ) → number ≡ heading_lines first + length lines + 1 → first ≡ None → lines ≡ [] → number ≡ 1
first_of_all None [] number e f l = e
first_of_all None (line ∷ lines) number e f l = cc
first_of_all (Some limits) lines number e f l = cc

pub of_bad : {text : List ℕ} {number : ℕ} (b : IsBadAt text number) → HasLines text b.first b.lines b.rest
of_bad {text} {number} b = record {
  within = b.within;
  good = b.good;
  split = b.split;
  no_line = b.no_line;
  no_limits = λ f l. b.no_limits (first_of_all b.first b.lines number b.counted f l);
}

pub limits_are_one : {text : List ℕ} {l m : Limits} {a b : List Line} → IsScript text l a → IsScript text m b → l ≡ m
limits_are_one {text} {l} {m} {a} {b} s t = s.under ∙ ap limits_of (are_one s.first t.first a b [] [] (of_script s) (of_script t)).first ∙ sym t.under

pub lines_are_one : {text : List ℕ} {l m : Limits} {a b : List Line} → IsScript text l a → IsScript text m b → a ≡ b
lines_are_one {text} {l} {m} {a} {b} s t = (are_one s.first t.first a b [] [] (of_script s) (of_script t)).lines

pub output_is_one : {text a b : List ℕ} → IsOutput text a → IsOutput text b → a ≡ b
output_is_one s t =
    s.is
    ∙ ap (λ limits. printed limits s.lines) (limits_are_one s.script t.script)
    ∙ ap (λ lines. printed t.limits lines) (lines_are_one s.script t.script)
    ∙ sym t.is

pub bad_is_one : {text : List ℕ} {m n : ℕ} → IsBadAt text m → IsBadAt text n → m ≡ n
bad_is_one s t =
    let same = are_one s.first t.first s.lines t.lines s.rest t.rest (of_bad s) (of_bad t) in
    s.counted ∙ ap (λ f. heading_lines f + length s.lines + 1) same.first ∙ ap (λ lines. heading_lines t.first + length lines + 1) same.lines ∙ sym t.counted

pub not_bad : {text : List ℕ} {limits : Limits} {lines : List Line} {n : ℕ} → IsScript text limits lines → IsBadAt text n → ⊥
not_bad {text} {limits} {lines} s b = b.some_left (sym (are_one s.first b.first lines b.lines [] b.rest (of_script s) (of_bad b)).rest)

-- ---- a text without a line that sets limits, and with one

pub stuck_headed : {text rest : List ℕ} {number : ℕ} (l : Limits) → AreWithin l → text ≡ spelled_limits l ++ 10 ∷ rest → IsStuckAt rest 2 number → IsBadAt text number
stuck_headed {text} {rest} {number} l w e s = record {
  first = Some l;
  within = w;
  lines = s.lines;
  good = s.good;
  rest = s.rest;
  split = e ∙ ap (λ t. spelled_limits l ++ 10 ∷ t) s.split ∙ sym (append_assoc (spelled_limits l) (10 ∷ []) (text_of s.lines ++ s.rest));
  counted = s.counted ∙ two (length s.lines);
  some_left = s.some_left;
  no_line = s.no_line;
  no_limits = λ one. absurd (later number (length s.lines) s.counted one);
}
  where
    two : (n : ℕ) → 2 + n ≡ 1 + n + 1
    two n = omega arith

    later : (number n : ℕ) → number ≡ 2 + n → number ≡ 1 → ⊥
    later number n e one = omega arith

at_front : (lines : List Line) (text rest : List ℕ) (number : ℕ) → text ≡ text_of lines ++ rest → number ≡ 1 + length lines → number ≡ 1 → text ≡ rest
at_front [] text rest number e n one = e
at_front (l ∷ lines) text rest number e n one = absurd (more number (length lines) n one)
  where
    more : (number n : ℕ) → number ≡ 1 + suc n → number ≡ 1 → ⊥
    more number n e one = omega arith

pub stuck_plain : {text : List ℕ} {number : ℕ} → (BeginsWithLimits text → ⊥) → IsStuckAt text 1 number → IsBadAt text number
stuck_plain {text} {number} none s = record {
  first = None;
  within = tt;
  lines = s.lines;
  good = s.good;
  rest = s.rest;
  split = s.split;
  counted = s.counted ∙ one (length s.lines);
  some_left = s.some_left;
  no_line = s.no_line;
  no_limits = λ first (limits, rest, w, e). none (limits, rest, w, at_front s.lines text s.rest number s.split s.counted first ∙ e);
}
  where
    one : (n : ℕ) → 1 + n ≡ 0 + n + 1
    one n = omega arith

-- ---- what a loop over the lines finds

pub some_left : (rest : List ℕ) (empty : Bool) → empty ≡ (length rest == 0) → empty ≡ false → rest ≡ [] → ⊥
some_left rest empty is not e = true≢false (sym (ap (λ t. length t == 0) e) ∙ sym is ∙ not)

pub stops : {text rest : List ℕ} {first number line : ℕ} (lines : List Line) → AreGood lines → text ≡ text_of lines ++ rest → number ≡ first + length lines → number ≡ line
    → (rest ≡ [] → ⊥) → (BeginsWithLine rest → ⊥) → IsStuckAt text first line
stops {text} {rest} {first} {number} {line} lines good split counted is left none = record {
  lines = lines;
  good = good;
  rest = rest;
  split = split;
  counted = sym is ∙ counted;
  some_left = left;
  no_line = none;
}

pub goes_on : {text rest front : List ℕ} (after : List ℕ) (lines : List Line) (l : Line) → text ≡ text_of lines ++ rest → rest ≡ front ++ 10 ∷ after → front ≡ spelled l
    → text ≡ text_of (lines ++ l ∷ []) ++ after
goes_on {text} {rest} {front} after lines l split parts is =
    split ∙ ap (λ t. text_of lines ++ t) (parts ∙ ap (λ t. t ++ 10 ∷ after) is) ∙ sym (one_more lines l after)

pub one_longer : (lines : List Line) (l : Line) (first number : ℕ) → number ≡ first + length lines → number + 1 ≡ first + length (lines ++ l ∷ [])
one_longer lines l first number e = omega (arith, length-append lines (l ∷ []))

pub headed_script : {text rest : List ℕ} {lines : List Line} (l : Limits) → AreWithin l → text ≡ spelled_limits l ++ 10 ∷ rest → AreGood lines → rest ≡ text_of lines → IsScript text l lines
headed_script {text} {rest} {lines} l w e good is = record {
  first = Some l;
  within = w;
  under = refl;
  good = good;
  spelled = e ∙ ap (λ t. spelled_limits l ++ 10 ∷ t) is ∙ sym (append_assoc (spelled_limits l) (10 ∷ []) (text_of lines));
}
