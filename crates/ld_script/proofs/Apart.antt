-- Lines stand apart: what a text begins with is one line at most, whether of a step or of limits.
use Rattle.std.proofs.Common.{◌≡◌, ◌∙◌, refl, sym, ap, true, false, true≢false, Bool, ℕ, ◌^◌, ◌<◌, ◌≤◌, List, ◌∷◌, ◌++◌, arith}
use Rattle.std.specs.Bool.{◌==◌}
use Rattle.std.specs.Prelude.{codes, decimal}
use Rattle.std.proofs.lemmas.Fmt.{decimal_injective}
use Rattle.ld_history.specs.declared.limits.Limits.{Limits}
use Rattle.ld_history.specs.Legal.{AreWithin}
use Rattle.ld_script.specs.declared.line.Line.{Line}
use Rattle.ld_script.specs.declared.line.Line.TheVariants as line
use Rattle.ld_script.specs.declared.verb.Verb.{Verb}
use Rattle.ld_script.specs.declared.verb.Verb.TheVariants as verb
use Rattle.ld_script.specs.Lines.{spelled, spelled_limits, is_word, IsGood}
use Rattle.ld_script.specs.Reading.{lacks, limits_words, name, verb_of, arguments, IsGiven, IsSessionIri, IsSplit}
use Rattle.ld_script.proofs.Words.{lacks_append, decimal_lacks, word_lacks}
use Rattle.ld_script.proofs.Arguments.{same_front, same_back, same_parts, same_four, session_split, given_split, fail_split, limits_split, IsFail}
use Rattle.ld_script.proofs.Lines.{key, name_injective, spelled_parts, spelled_split}

-- ---- no line has a line feed

name_lacks : (v : Verb) → lacks 10 (name v) ≡ true
name_lacks verb.Open = refl
name_lacks verb.Pin = refl
name_lacks verb.Lack = refl
name_lacks verb.Give = refl
name_lacks verb.Fail = refl
name_lacks verb.Lapse = refl
name_lacks verb.Evict = refl
name_lacks verb.Revise = refl
name_lacks verb.Answer = refl
name_lacks verb.Close = refl

number_lacks : (n : ℕ) → n < 2 ^ 64 → lacks 10 (decimal n) ≡ true
number_lacks n fits = decimal_lacks 10 n (omega arith) fits

session_lacks : (n : ℕ) → n < 2 ^ 32 → lacks 10 (decimal n) ≡ true
session_lacks n fits = number_lacks n (omega arith)

count_lacks : (n : ℕ) → n < 2 ^ 63 → lacks 10 (decimal n) ≡ true
count_lacks n fits = number_lacks n (omega arith)

length_lacks : (n : ℕ) → n ≤ 1048577 → lacks 10 (decimal n) ≡ true
length_lacks n fits = number_lacks n (omega arith)

then : (xs ys : List ℕ) → lacks 10 xs ≡ true → lacks 10 ys ≡ true → lacks 10 (xs ++ 32 ∷ ys) ≡ true
then xs ys h k = lacks_append 10 xs (32 ∷ ys) h k

text_lacks : (w : List ℕ) → is_word w ≡ true → lacks 10 w ≡ true
text_lacks w h = word_lacks 10 w (omega arith) h

arguments_lack : (l : Line) → IsGood l → lacks 10 (arguments l) ≡ true
arguments_lack (line.Open seat) g = session_lacks seat g
arguments_lack (line.Pin session) g = session_lacks session g
arguments_lack (line.Lack session iri) g = then (decimal session) iri (session_lacks session g.0) (text_lacks iri g.1)
arguments_lack (line.Give flight length mark) g =
    then (decimal flight) (decimal length ++ 32 ∷ mark) (session_lacks flight g.0) (then (decimal length) mark (length_lacks length g.1) (text_lacks mark g.2))
arguments_lack (line.Fail flight before after) g =
    then (decimal flight) (decimal before ++ 32 ∷ decimal after) (session_lacks flight g.0) (then (decimal before) (decimal after) (count_lacks before g.1) (count_lacks after g.2))
arguments_lack (line.Lapse flight) g = session_lacks flight g
arguments_lack (line.Evict session iri) g = then (decimal session) iri (session_lacks session g.0) (text_lacks iri g.1)
arguments_lack (line.Revise session iri) g = then (decimal session) iri (session_lacks session g.0) (text_lacks iri g.1)
arguments_lack (line.Answer session) g = session_lacks session g
arguments_lack (line.Close session) g = session_lacks session g

spelled_lacks : (l : Line) → IsGood l → lacks 10 (spelled l) ≡ true
spelled_lacks l g = ap (lacks 10) (spelled_parts l) ∙ then (name (verb_of l)) (arguments l) (name_lacks (verb_of l)) (arguments_lack l g)

limits_lack : (l : Limits) → AreWithin l → lacks 10 (spelled_limits l) ≡ true
limits_lack l w =
    then (codes "limits") (limits_words l) refl
    (then (decimal l.contexts) (decimal l.held ++ 32 ∷ (decimal l.events ++ 32 ∷ decimal l.bytes)) (number_lacks l.contexts (omega (arith, w.contexts)))
    (then (decimal l.held) (decimal l.events ++ 32 ∷ decimal l.bytes) (number_lacks l.held (omega (arith, w.held)))
    (then (decimal l.events) (decimal l.bytes) (number_lacks l.events (omega (arith, w.events))) (number_lacks l.bytes (omega (arith, w.bytes))))))

-- ---- so a text begins with one line at most

pub line_split : {text rest : List ℕ} (l : Line) → IsGood l → text ≡ spelled l ++ 10 ∷ rest → IsSplit 10 text (spelled l) rest
line_split l g e = record { parts = e; first = spelled_lacks l g }

pub limits_line_split : {text rest : List ℕ} (l : Limits) → AreWithin l → text ≡ spelled_limits l ++ 10 ∷ rest → IsSplit 10 text (spelled_limits l) rest
limits_line_split l w e = record { parts = e; first = limits_lack l w }

-- ---- two good lines that are spelled alike are one

same_session : (m n : ℕ) → m < 2 ^ 32 → n < 2 ^ 32 → decimal m ≡ decimal n → m ≡ n
same_session m n h k e = decimal_injective m n (omega arith) (omega arith) e

same_count : (m n : ℕ) → m < 2 ^ 63 → n < 2 ^ 63 → decimal m ≡ decimal n → m ≡ n
same_count m n h k e = decimal_injective m n (omega arith) (omega arith) e

same_length : (m n : ℕ) → m ≤ 1048577 → n ≤ 1048577 → decimal m ≡ decimal n → m ≡ n
same_length m n h k e = decimal_injective m n (omega arith) (omega arith) e

pair : (m n : ℕ) (i j : List ℕ) → (m < 2 ^ 32) × (is_word i ≡ true) → (n < 2 ^ 32) × (is_word j ≡ true) → decimal m ++ 32 ∷ i ≡ decimal n ++ 32 ∷ j → (m ≡ n) × (i ≡ j)
pair m n i j g h e =
    let s : IsSessionIri (decimal m ++ 32 ∷ i) m i = record { spelled = refl; fits = g.0; word = g.1 } in
    let t : IsSessionIri (decimal m ++ 32 ∷ i) n j = record { spelled = e; fits = h.0; word = h.1 } in
    (same_session m n g.0 h.0 (same_front (session_split s) (session_split t)), same_back (session_split s) (session_split t))

alike : (l m : Line) → IsGood l → IsGood m → verb_of l ≡ verb_of m → arguments l ≡ arguments m → l ≡ m
alike (line.Open s) (line.Open t) g h v e = ap line.Open (same_session s t g h e)
alike (line.Pin s) (line.Pin t) g h v e = ap line.Pin (same_session s t g h e)
alike (line.Lack s i) (line.Lack t j) g h v e = let p = pair s t i j g h e in let p0 : s ≡ t = p.0 in let p1 : i ≡ j = p.1 in cc
alike (line.Give f l m) (line.Give f' l' m') g h v e =
    let s : IsGiven (decimal f ++ 32 ∷ (decimal l ++ 32 ∷ m)) f l m = record { spelled = refl; fits = g.0; short = g.1; word = g.2 } in
    let t : IsGiven (decimal f ++ 32 ∷ (decimal l ++ 32 ∷ m)) f' l' m' = record { spelled = e; fits = h.0; short = h.1; word = h.2 } in
    let same = same_parts (given_split s) (given_split t) in
    let one : f ≡ f' = same_session f f' g.0 h.0 same.one in
    let two : l ≡ l' = same_length l l' g.1 h.1 same.two in
    let three : m ≡ m' = same.three in
    cc
alike (line.Fail f b a) (line.Fail f' b' a') g h v e =
    let s : IsFail (decimal f ++ 32 ∷ (decimal b ++ 32 ∷ decimal a)) f b a = record { spelled = refl; fits = g.0; low = g.1; high = g.2 } in
    let t : IsFail (decimal f ++ 32 ∷ (decimal b ++ 32 ∷ decimal a)) f' b' a' = record { spelled = e; fits = h.0; low = h.1; high = h.2 } in
    let same = same_parts (fail_split s) (fail_split t) in
    let one : f ≡ f' = same_session f f' g.0 h.0 same.one in
    let two : b ≡ b' = same_count b b' g.1 h.1 same.two in
    let three : a ≡ a' = same_count a a' g.2 h.2 same.three in
    cc
alike (line.Lapse s) (line.Lapse t) g h v e = ap line.Lapse (same_session s t g h e)
alike (line.Evict s i) (line.Evict t j) g h v e = let p = pair s t i j g h e in let p0 : s ≡ t = p.0 in let p1 : i ≡ j = p.1 in cc
alike (line.Revise s i) (line.Revise t j) g h v e = let p = pair s t i j g h e in let p0 : s ≡ t = p.0 in let p1 : i ≡ j = p.1 in cc
alike (line.Answer s) (line.Answer t) g h v e = ap line.Answer (same_session s t g h e)
alike (line.Close s) (line.Close t) g h v e = ap line.Close (same_session s t g h e)
alike _ _ g h v e = cc

pub same_line : (l m : Line) → IsGood l → IsGood m → spelled l ≡ spelled m → l ≡ m
same_line l m g h e =
    alike l m g h
    (name_injective (verb_of l) (verb_of m) (same_front (spelled_split l refl) (spelled_split m e)))
    (same_back (spelled_split l refl) (spelled_split m e))

-- ---- the same of limits

pub limits_line_words : {text : List ℕ} (l : Limits) → text ≡ spelled_limits l → IsSplit 32 text (codes "limits") (limits_words l)
limits_line_words l e = record { parts = e; first = refl }

limits_alike : (l m : Limits) → l.contexts ≡ m.contexts → l.held ≡ m.held → l.events ≡ m.events → l.bytes ≡ m.bytes → l ≡ m
limits_alike l m a b c d =
    ap (λ n. let r : Limits = record { contexts = n; held = l.held; events = l.events; bytes = l.bytes } in r) a
    ∙ ap (λ n. let r : Limits = record { contexts = m.contexts; held = n; events = l.events; bytes = l.bytes } in r) b
    ∙ ap (λ n. let r : Limits = record { contexts = m.contexts; held = m.held; events = n; bytes = l.bytes } in r) c
    ∙ ap (λ n. let r : Limits = record { contexts = m.contexts; held = m.held; events = m.events; bytes = n } in r) d

same_limit : (k m n : ℕ) → k < 2 ^ 64 → m ≤ k → n ≤ k → decimal m ≡ decimal n → m ≡ n
same_limit k m n big h l e = decimal_injective m n (omega arith) (omega arith) e

pub same_limits : (l m : Limits) → AreWithin l → AreWithin m → spelled_limits l ≡ spelled_limits m → l ≡ m
same_limits l m v w e =
    let words : limits_words l ≡ limits_words m = same_back (limits_line_words l refl) (limits_line_words m e) in
    let s = limits_split l v refl in
    let same = same_four s.first s.others (limits_split m w words) in
    limits_alike l m
    (same_limit 256 l.contexts m.contexts (omega arith) v.contexts w.contexts same.zeroth)
    (same_limit 64 l.held m.held (omega arith) v.held w.held same.rest.one)
    (same_limit 16777216 l.events m.events (omega arith) v.events w.events same.rest.two)
    (same_limit 134217728 l.bytes m.bytes (omega arith) v.bytes w.bytes same.rest.three)

-- ---- no line is both

is_limits : ℕ → Bool
is_limits k = k == key (codes "limits")

no_name_is_limits : (v : Verb) → is_limits (key (name v)) ≡ false
unfolding key is_limits
no_name_is_limits verb.Open = refl
no_name_is_limits verb.Pin = refl
no_name_is_limits verb.Lack = refl
no_name_is_limits verb.Give = refl
no_name_is_limits verb.Fail = refl
no_name_is_limits verb.Lapse = refl
no_name_is_limits verb.Evict = refl
no_name_is_limits verb.Revise = refl
no_name_is_limits verb.Answer = refl
no_name_is_limits verb.Close = refl

limits_is_limits : is_limits (key (codes "limits")) ≡ true
unfolding key is_limits
limits_is_limits = refl

pub not_both : (l : Line) (m : Limits) → spelled l ≡ spelled_limits m → ⊥
not_both l m e =
    let names : name (verb_of l) ≡ codes "limits" = same_front (spelled_split l refl) (limits_line_words m e) in
    true≢false (sym limits_is_limits ∙ sym (ap (λ n. is_limits (key n)) names) ∙ no_name_is_limits (verb_of l))
