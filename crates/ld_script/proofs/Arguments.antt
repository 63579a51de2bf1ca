-- The words after a line's first: they are split in one way.
use Rattle.std.proofs.Common.{◌≡◌, ◌∙◌, refl, sym, ap, true≢false, true, false, ℕ, ◌^◌, ◌<◌, List, ◌∷◌, ◌++◌, None, arith}
use Rattle.std.specs.Prelude.{decimal}
use Rattle.ld_history.specs.declared.limits.Limits.{Limits}
use Rattle.ld_history.specs.Legal.{AreWithin}
use Rattle.ld_script.specs.declared.line.Line.TheVariants as line
use Rattle.ld_script.specs.declared.verb.Verb.TheVariants as verb
use Rattle.ld_script.specs.Lines.{is_word, IsNumber}
use Rattle.ld_script.specs.Reading.{lacks, limits_words, AreArguments, IsGiven, IsSessionIri, IsSplit, IsSplitTwice}
use Rattle.ld_script.proofs.Words.{no_split, split_front, split_back, decimal_lacks}

pub same_front : {byte : ℕ} {text a b c d : List ℕ} → IsSplit byte text a b → IsSplit byte text c d → a ≡ c
same_front {byte} {text} {a} {b} {c} {d} s t = split_front byte a b c d s.first t.first (sym s.parts ∙ t.parts)

pub same_back : {byte : ℕ} {text a b c d : List ℕ} → IsSplit byte text a b → IsSplit byte text c d → b ≡ d
same_back {byte} {text} {a} {b} {c} {d} s t = split_back byte a b c d s.first t.first (sym s.parts ∙ t.parts)

pub unsplit : {byte : ℕ} {text a b : List ℕ} → lacks byte text ≡ true → IsSplit byte text a b → ⊥
unsplit {byte} {text} {a} {b} h s = no_split byte text a b h s.parts

no_word : {iri i : List ℕ} → is_word iri ≡ false → iri ≡ i → is_word i ≡ true → ⊥
no_word h e k = true≢false (sym k ∙ sym (ap is_word e) ∙ h)

-- ---- split twice

once : {text a b c : List ℕ} → IsSplitTwice text a b c → IsSplit 32 text a (b ++ 32 ∷ c)
once t = record { parts = t.parts; first = t.one }

again : {text a b c rest : List ℕ} → IsSplitTwice text a b c → rest ≡ b ++ 32 ∷ c → IsSplit 32 rest b c
again t e = record { parts = e; first = t.two }

pub no_second : {text first rest : List ℕ} → IsSplit 32 text first rest → lacks 32 rest ≡ true → (a b c : List ℕ) → IsSplitTwice text a b c → ⊥
no_second s h a b c t = unsplit h (again t (same_back s (once t)))

-- the three parts are the same
pub record AreSame (a b c x y z : List ℕ) : Type 0 where
  pub one : a ≡ x
  pub two : b ≡ y
  pub three : c ≡ z

pub same_parts : {text a b c x y z : List ℕ} → IsSplitTwice text a b c → IsSplitTwice text x y z → AreSame a b c x y z
same_parts {text} {a} {b} {c} {x} {y} {z} s t =
    let rest : b ++ 32 ∷ c ≡ y ++ 32 ∷ z = same_back (once s) (once t) in
    record {
      one = same_front (once s) (once t);
      two = split_front 32 b c y z s.two t.two rest;
      three = split_back 32 b c y z s.two t.two rest;
    }

-- ---- a session and an IRI

pub session_split : {rest : List ℕ} {session : ℕ} {iri : List ℕ} → IsSessionIri rest session iri → IsSplit 32 rest (decimal session) iri
session_split {rest} {session} {iri} s = record { parts = s.spelled; first = decimal_lacks 32 session (omega arith) (omega (arith, s.fits)) }

pub no_session : {rest word iri : List ℕ} → IsSplit 32 rest word iri → ((n : ℕ) → n < 2 ^ 32 → word ≡ decimal n → ⊥) → (n : ℕ) (i : List ℕ) → IsSessionIri rest n i → ⊥
no_session s none n i is = none n is.fits (same_front s (session_split is))

pub no_iri : {rest word iri : List ℕ} → IsSplit 32 rest word iri → is_word iri ≡ false → (n : ℕ) (i : List ℕ) → IsSessionIri rest n i → ⊥
no_iri s h n i is = no_word h (same_back s (session_split is)) is.word

pub no_pair : {rest : List ℕ} → lacks 32 rest ≡ true → (n : ℕ) (i : List ℕ) → IsSessionIri rest n i → ⊥
no_pair h n i is = unsplit h (session_split is)

-- ---- a flight, a length and a mark

pub given_split : {rest : List ℕ} {flight length : ℕ} {mark : List ℕ} → IsGiven rest flight length mark → IsSplitTwice rest (decimal flight) (decimal length) mark
given_split {rest} {flight} {length} {mark} g = record {
  parts = g.spelled;
  one = decimal_lacks 32 flight (omega arith) (omega (arith, g.fits));
  two = decimal_lacks 32 length (omega arith) (omega (arith, g.short));
}

pub no_given : {rest : List ℕ} → ((a b c : List ℕ) → IsSplitTwice rest a b c → ⊥) → (f l : ℕ) (m : List ℕ) → IsGiven rest f l m → ⊥
no_given none f l m g = none (decimal f) (decimal l) m (given_split g)

pub no_given_flight : {rest a b c : List ℕ} → IsSplitTwice rest a b c → ((n : ℕ) → n < 2 ^ 32 → a ≡ decimal n → ⊥) → (f l : ℕ) (m : List ℕ) → IsGiven rest f l m → ⊥
no_given_flight t none f l m g = none f g.fits (same_parts t (given_split g)).one

pub no_given_length : {rest a b c : List ℕ} → IsSplitTwice rest a b c → ((n : ℕ) → IsNumber b 1048577 n → ⊥) → (f l : ℕ) (m : List ℕ) → IsGiven rest f l m → ⊥
no_given_length t none f l m g = none l (record { bounded = g.short; spelled = (same_parts t (given_split g)).two })

pub no_given_mark : {rest a b c : List ℕ} → IsSplitTwice rest a b c → is_word c ≡ false → (f l : ℕ) (m : List ℕ) → IsGiven rest f l m → ⊥
no_given_mark t h f l m g = no_word h (same_parts t (given_split g)).three g.word

-- ---- a flight and two counts

pub record IsFail (rest : List ℕ) (flight before after : ℕ) : Type 0 where
  pub spelled : rest ≡ decimal flight ++ 32 ∷ (decimal before ++ 32 ∷ decimal after)
  pub fits : flight < 2 ^ 32
  pub low : before < 2 ^ 63
  pub high : after < 2 ^ 63

pub fail_split : {rest : List ℕ} {flight before after : ℕ} → IsFail rest flight before after → IsSplitTwice rest (decimal flight) (decimal before) (decimal after)
fail_split {rest} {flight} {before} {after} g = record {
  parts = g.spelled;
  one = decimal_lacks 32 flight (omega arith) (omega (arith, g.fits));
  two = decimal_lacks 32 before (omega arith) (omega (arith, g.low));
}

-- no counts are there, so the line isn't
fails_not : {rest : List ℕ} → ((f b a : ℕ) → IsFail rest f b a → ⊥) → AreArguments verb.Fail rest None
fails_not none (line.Fail f b a) good v e = none f b a (record { spelled = e; fits = good.0; low = good.1; high = good.2 })
fails_not none _ good v e = cc

pub no_fail : {rest : List ℕ} → ((a b c : List ℕ) → IsSplitTwice rest a b c → ⊥) → AreArguments verb.Fail rest None
no_fail none = fails_not (λ f b a g. none (decimal f) (decimal b) (decimal a) (fail_split g))

pub no_fail_flight : {rest a b c : List ℕ} → IsSplitTwice rest a b c → ((n : ℕ) → n < 2 ^ 32 → a ≡ decimal n → ⊥) → AreArguments verb.Fail rest None
no_fail_flight t none = fails_not (λ f b a g. none f g.fits (same_parts t (fail_split g)).one)

pub no_fail_before : {rest a b c : List ℕ} → IsSplitTwice rest a b c → ((n : ℕ) → n < 2 ^ 63 → b ≡ decimal n → ⊥) → AreArguments verb.Fail rest None
no_fail_before t none = fails_not (λ f b a g. none b g.low (same_parts t (fail_split g)).two)

pub no_fail_after : {rest a b c : List ℕ} → IsSplitTwice rest a b c → ((n : ℕ) → n < 2 ^ 63 → c ≡ decimal n → ⊥) → AreArguments verb.Fail rest None
no_fail_after t none = fails_not (λ f b a g. none a g.high (same_parts t (fail_split g)).three)

-- ---- limits

-- the parts of a text after a first word, and of the rest
pub record IsSplitThrice (rest w a b c : List ℕ) : Type 0 where
  pub more : List ℕ
  pub first : IsSplit 32 rest w more
  pub others : IsSplitTwice more a b c

pub limits_split : {rest : List ℕ} (l : Limits) → AreWithin l → rest ≡ limits_words l → IsSplitThrice rest (decimal l.contexts) (decimal l.held) (decimal l.events) (decimal l.bytes)
limits_split l w e = record {
  more = decimal l.held ++ 32 ∷ (decimal l.events ++ 32 ∷ decimal l.bytes);
  first = record { parts = e; first = decimal_lacks 32 l.contexts (omega arith) (omega (arith, w.contexts)) };
  others = record {
    parts = refl;
    one = decimal_lacks 32 l.held (omega arith) (omega (arith, w.held));
    two = decimal_lacks 32 l.events (omega arith) (omega (arith, w.events));
  };
}

pub moved : {text more a b c : List ℕ} → text ≡ more → IsSplitTwice more a b c → IsSplitTwice text a b c
moved e t = record { parts = e ∙ t.parts; one = t.one; two = t.two }

pub record AreSameFour (w a b c v x y z : List ℕ) : Type 0 where
  pub zeroth : w ≡ v
  pub rest : AreSame a b c x y z

pub same_four : {rest w more a b c v x y z : List ℕ} → IsSplit 32 rest w more → IsSplitTwice more a b c → IsSplitThrice rest v x y z → AreSameFour w a b c v x y z
same_four s t k = record { zeroth = same_front s k.first; rest = same_parts t (moved (same_back s k.first) k.others) }

-- no such limits
abbrev pub NoLimits : List ℕ → Type 0
NoLimits rest = (l : Limits) → AreWithin l → rest ≡ limits_words l → ⊥

pub no_limits_alone : {rest : List ℕ} → lacks 32 rest ≡ true → NoLimits rest
no_limits_alone h l w e = unsplit h (limits_split l w e).first

pub no_limits_few : {rest v more : List ℕ} → IsSplit 32 rest v more → ((a b c : List ℕ) → IsSplitTwice more a b c → ⊥) → NoLimits rest
no_limits_few s none l w e =
    let k = limits_split l w e in
    none (decimal l.held) (decimal l.events) (decimal l.bytes) (moved (same_back s k.first) k.others)

pub no_contexts : {rest v more a b c : List ℕ} {most : ℕ} → IsSplit 32 rest v more → IsSplitTwice more a b c → most ≡ 256 → ((n : ℕ) → IsNumber v most n → ⊥) → NoLimits rest
no_contexts s t is none l w e = none l.contexts (record { bounded = rw is w.contexts; spelled = (same_four s t (limits_split l w e)).zeroth })

pub no_held : {rest v more a b c : List ℕ} {most : ℕ} → IsSplit 32 rest v more → IsSplitTwice more a b c → most ≡ 64 → ((n : ℕ) → IsNumber a most n → ⊥) → NoLimits rest
no_held s t is none l w e = none l.held (record { bounded = rw is w.held; spelled = (same_four s t (limits_split l w e)).rest.one })

pub no_events : {rest v more a b c : List ℕ} {most : ℕ} → IsSplit 32 rest v more → IsSplitTwice more a b c → most ≡ 16777216 → ((n : ℕ) → IsNumber b most n → ⊥) → NoLimits rest
no_events s t is none l w e = none l.events (record { bounded = rw is w.events; spelled = (same_four s t (limits_split l w e)).rest.two })

pub no_bytes : {rest v more a b c : List ℕ} {most : ℕ} → IsSplit 32 rest v more → IsSplitTwice more a b c → most ≡ 134217728 → ((n : ℕ) → IsNumber c most n → ⊥) → NoLimits rest
no_bytes s t is none l w e = none l.bytes (record { bounded = rw is w.bytes; spelled = (same_four s t (limits_split l w e)).rest.three })
