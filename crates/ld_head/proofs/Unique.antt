-- Bytes say one thing.
use Rattle.std.proofs.Common.{◌≡◌, ℕ, ◌+◌, List, [], sym, subst, ap, ◌∙◌, refl}
use Rattle.ld_head.specs.declared.dialogue.Ending.{Ending}
use Rattle.ld_head.specs.declared.dialogue.Ending.TheVariants.{Shut}
use Rattle.httparse.proofs.GrammarLemmas.{request_unique}
use Rattle.ld_head.specs.Heads.{parts, judged, Verdict, Says, head, no_head}
use Rattle.ld_head.specs.Dialogues.{Front, Whole, TooLong, Unfinished, front, Marked, Dialogue, before, silence, Opening, Stops, Shuts, GoesOn, opened, OpensAt, Opens, Speaks, stops, shuts, goes_on}

pub says_unique : (block : List ℕ) (v w : Verdict) → Says block v → Says block w → v ≡ w
says_unique block v w (head h is) (head k too) = ap (λ x. judged (parts x)) (request_unique block h k [] [] is.reads too.reads).0
says_unique block v w (head h is) (no_head none) = absurd (none h is)
says_unique block v w (no_head none) (head k too) = absurd (none k too)
says_unique block v w (no_head none) (no_head nor) = refl

opens_at_unique : (n : ℕ) (f : Front) (o p : Opening) → OpensAt n f o → OpensAt n f p → o ≡ p
opens_at_unique n (Unfinished place) o p a b = a ∙ sym b
opens_at_unique n TooLong o p a b = a ∙ sym b
opens_at_unique n (Whole block after) o p a b = a.2 ∙ (ap (λ v. opened n v after) (says_unique block a.0 b.0 a.1 b.1) ∙ sym b.2)

pub opens_unique : (n : ℕ) (bytes : List ℕ) (o p : Opening) → Opens n bytes o → Opens n bytes p → o ≡ p
opens_unique n bytes = opens_at_unique n (front bytes)

abbrev ending_of : Opening → Ending
ending_of (Stops ending) = ending
ending_of (Shuts item) = Shut
ending_of (GoesOn item rest) = Shut

abbrev item_of : Marked → Opening → Marked
item_of other (Stops ending) = other
item_of other (Shuts item) = item
item_of other (GoesOn item rest) = item

abbrev rest_of : Opening → List ℕ
rest_of (Stops ending) = []
rest_of (Shuts item) = []
rest_of (GoesOn item rest) = rest

abbrev IsStop : Opening → Type 0
IsStop (Stops ending) = Unit {0}
IsStop _ = ⊥

abbrev IsShut : Opening → Type 0
IsShut (Shuts item) = Unit {0}
IsShut _ = ⊥

pub speaks_unique : (n : ℕ) (bytes : List ℕ) (d e : Dialogue) → Speaks n bytes d → Speaks n bytes e → d ≡ e
speaks_unique n bytes d e (stops _ _ ending a) (stops _ _ other b) = ap (λ o. silence (ending_of o)) (opens_unique n bytes _ _ a b)
speaks_unique n bytes d e (stops _ _ ending a) (shuts _ _ item b) = absurd (subst IsStop (opens_unique n bytes _ _ a b) tt)
speaks_unique n bytes d e (stops _ _ ending a) (goes_on _ _ rest item f b s) = absurd (subst IsStop (opens_unique n bytes _ _ a b) tt)
speaks_unique n bytes d e (shuts _ _ item a) (stops _ _ ending b) = absurd (subst IsStop (opens_unique n bytes _ _ b a) tt)
speaks_unique n bytes d e (shuts _ _ item a) (shuts _ _ other b) = ap (λ o. before (item_of item o) (silence Shut)) (opens_unique n bytes _ _ a b)
speaks_unique n bytes d e (shuts _ _ item a) (goes_on _ _ rest other f b s) = absurd (subst IsShut (opens_unique n bytes _ _ a b) tt)
speaks_unique n bytes d e (goes_on _ _ rest item f a s) (stops _ _ ending b) = absurd (subst IsStop (opens_unique n bytes _ _ b a) tt)
speaks_unique n bytes d e (goes_on _ _ rest item f a s) (shuts _ _ other b) = absurd (subst IsShut (opens_unique n bytes _ _ b a) tt)
speaks_unique n bytes d e (goes_on _ _ rest item f a s) (goes_on _ _ left other g b t) =
    let same = opens_unique n bytes _ _ a b in
    let later = speaks_unique (n + 1) rest f g s (subst (λ r. Speaks (n + 1) r g) (sym (ap rest_of same)) t) in
    λ i. before (item_of item (same i)) (later i)

-- what is read off the front is said first
pub first_is_said : (n : ℕ) (bytes rest : List ℕ) (item : Marked) (d : Dialogue) → Opens n bytes (GoesOn item rest) → Speaks n bytes d → (later : Dialogue) × Speaks (n + 1) rest later × (d ≡ before item later)
first_is_said n bytes rest item d a (stops _ _ ending b) = absurd (subst IsStop (opens_unique n bytes _ _ b a) tt)
first_is_said n bytes rest item d a (shuts _ _ other b) = absurd (subst IsShut (opens_unique n bytes _ _ b a) tt)
first_is_said n bytes rest item d a (goes_on _ _ left other later b s) =
    let same = opens_unique n bytes _ _ b a in
    (later, subst (λ r. Speaks (n + 1) r later) (ap rest_of same) s, ap (λ o. before (item_of item o) later) same)
