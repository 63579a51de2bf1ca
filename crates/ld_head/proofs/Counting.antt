-- Items counted off the front.
use Rattle.std.proofs.Common.{◌≡◌, ℕ, ◌+◌, ◌<◌, Bool, true, false, List, length, refl, sym, subst, arith}
use Rattle.std.specs.Prelude.{◌||◌, nat_le, nat_lt, if◌then◌else◌, drop, take}
use Rattle.std.proofs.lemmas.Bool.{leb-false, or_parts}
use Rattle.ld_head.specs.declared.dialogue.Ending.{Ending}
use Rattle.ld_head.specs.declared.dialogue.Ending.TheVariants.{Inside}
use Rattle.ld_head.specs.declared.head.Head.{Head}
use Rattle.ld_head.specs.Heads.{Verdict, Accepts, Refuses}
use Rattle.ld_head.specs.Dialogues.{Front, Whole, TooLong, Unfinished, front, Marked, Dialogue, IsDialogue, before, good, Opening, Stops, Shuts, GoesOn, opened, opened_by, OpensAt, Opens, Speaks, goes_on}

abbrev IsGoing : Opening → Type 0
IsGoing (GoesOn item rest) = Unit {0}
IsGoing _ = ⊥

abbrev Few : ℕ → Opening → Type 0
Few n opening = IsGoing opening → n < 65535

few_if : (n : ℕ) (closes : Bool) (item : Marked) (rest : List ℕ) → (closes ≡ false → n < 65535) → Few n (if closes then Shuts item else GoesOn item rest)
few_if n true item rest is none = absurd none
few_if n false item rest is going = is refl

few_by : (n : ℕ) (h : Head) (body rest : List ℕ) → Few n (opened_by (good n h body) rest)
few_by n h body rest = few_if n (h.closes || nat_le 65535 n) (good n h body) rest (λ e. leb-false 65535 n (or_parts h.closes (nat_le 65535 n) e).1)

few_unless : (n : ℕ) (is_cut : Bool) (ending : Ending) (o : Opening) → Few n o → Few n (if is_cut then Stops ending else o)
few_unless n true ending o few none = absurd none
few_unless n false ending o few going = few going

few_after : (n : ℕ) (v : Verdict) (after : List ℕ) → Few n (opened n v after)
few_after n (Refuses status was_head) after = λ none. absurd none
few_after n (Accepts h) after =
    few_unless n (nat_lt (length after) h.length) (Inside h.interim) (opened_by (good n h (take h.length after)) (drop h.length after)) (few_by n h (take h.length after) (drop h.length after))

few_at : (n : ℕ) (f : Front) (o : Opening) → OpensAt n f o → Few n o
few_at n (Unfinished place) o is = subst (Few n) (sym is) (λ none. absurd none)
few_at n TooLong o is = subst (Few n) (sym is) (λ none. absurd none)
few_at n (Whole head after) o is = subst (Few n) (sym is.2) (few_after n is.0 after)

-- the 65,536th closes
pub goes_on_few : (n : ℕ) (bytes rest : List ℕ) (item : Marked) → Opens n bytes (GoesOn item rest) → n < 65535
goes_on_few n bytes rest item is = few_at n (front bytes) (GoesOn item rest) is tt

-- what is said from item n on is the end of what all the bytes say
pub record Ends (bytes : List ℕ) (n : ℕ) (d : Dialogue) : Type 0 where
  pub whole : Dialogue
  pub says : IsDialogue bytes whole
  pub items : length whole.items ≡ n + length d.items
  pub ending : whole.ending ≡ d.ending

abbrev pub Leads : List ℕ → ℕ → List ℕ → Type 0
Leads bytes n rest = (d : Dialogue) → Speaks n rest d → Ends bytes n d

pub leads_on : (bytes rest after : List ℕ) (n : ℕ) (item : Marked) → Leads bytes n rest → Opens n rest (GoesOn item after) → Leads bytes (n + 1) after
leads_on bytes rest after n item leads opens d says =
    let e = leads (before item d) (goes_on n rest after item d opens says) in
    record { whole = e.whole; says = e.says; items = let i = e.items in omega arith; ending = e.ending }

-- the whole is said, where nothing was read yet
pub leads_from : (bytes : List ℕ) → Leads bytes 0 bytes
leads_from bytes d says = record { whole = d; says = says; items = omega arith; ending = refl }
