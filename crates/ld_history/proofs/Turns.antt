-- Turns that rise.
use Rattle.std.proofs.Common.{◌≡◌, ◌+◌, ◌<◌, ◌≤◌, ℕ, zero, suc, List, [], ◌∷◌, ◌++◌, length, get_or, Bool, true, false, ◌&&◌, Some, None, cond, is_some, nat_le, refl, sym, ap, subst, arith}
use Rattle.std.specs.Prelude.{if◌then◌else◌}
use Rattle.std.proofs.lemmas.Bool.Decides.{nat_tests}
use Rattle.std.specs.declared.cmp.Ordering.TheVariants.{Less, Equal, Greater}
use Rattle.std.specs.Ordering.{is_eq, match_ordering}
use Rattle.std.proofs.lemmas.List.Sums.{sum_by-cons}
use Rattle.std.specs.List.{list_all}
use Rattle.std.specs.Map.{set_value}
use Rattle.std.specs.BTreeMap.{is_at}
use Rattle.ld_tree.specs.Names.{name_cmp}
use Rattle.ld_history.specs.Turns.{turns_until, is_rising, is_turns, are_turns}
use Rattle.ld_history.specs.Words.{at_iri}
use Rattle.ld_history.specs.After.{put_iri, turned, turn_found, named}

both : (a b : Bool) → a ≡ true → b ≡ true → a && b ≡ true
both true b h k = k
both false b h k = cc

left : (a b : Bool) → a && b ≡ true → a ≡ true
left true b h = refl
left false b h = cc

right : (a b : Bool) → a && b ≡ true → b ≡ true
right true b h = h
right false b h = cc

at_most : (a b : ℕ) → nat_le a b ≡ true → a ≤ b
at_most a b h = grind (arith, nat_tests)

is_at_most : (a b : ℕ) → a ≤ b → nat_le a b ≡ true
is_at_most a b h = grind (arith, nat_tests)

below_more : (version later : ℕ) (turns : List ℕ) → version ≤ later → list_all (λ turn. nat_le turn version) turns ≡ true → list_all (λ turn. nat_le turn later) turns ≡ true
below_more version later [] le h = refl
below_more version later (t ∷ ts) le h =
    let here : t ≤ version = at_most _ _ (left _ _ h) in
    both _ _ (is_at_most t later (omega arith)) (below_more version later ts le (right _ _ h))

below_push : (version : ℕ) (turns : List ℕ) → list_all (λ turn. nat_le turn version) turns ≡ true → list_all (λ turn. nat_le turn version) (turns ++ version ∷ []) ≡ true
below_push version [] h = both _ _ (is_at_most version version (omega arith)) refl
below_push version (t ∷ ts) h = both _ _ (left _ _ h) (below_push version ts (right _ _ h))

rising_push : (low version : ℕ) (turns : List ℕ) → low ≤ version → is_rising low turns ≡ true → list_all (λ turn. nat_le turn version) turns ≡ true → is_rising low (turns ++ version ∷ []) ≡ true
rising_push low version [] le h k = both _ _ (is_at_most low version le) refl
rising_push low version (t ∷ ts) le h k = both _ _ (left _ _ h) (rising_push t version ts (at_most _ _ (left _ _ k)) (right _ _ h) (right _ _ k))

turns_more : (version later : ℕ) (turns : List ℕ) → version ≤ later → is_turns version turns ≡ true → is_turns later turns ≡ true
turns_more version later turns le h = both _ _ (left _ _ h) (below_more version later turns le (right _ _ h))

turns_push : (version later : ℕ) (turns : List ℕ) → version ≤ later → is_turns version turns ≡ true → is_turns later (turns ++ later ∷ []) ≡ true
turns_push version later turns le h =
    let below : list_all (λ turn. nat_le turn later) turns ≡ true = below_more version later turns le (right _ _ h) in
    both _ _ (rising_push 0 later turns (omega arith) (left _ _ h) below) (below_push later turns below)

pub all_more : (version later : ℕ) (entries : List (List ℕ × List ℕ)) → version ≤ later → are_turns version entries ≡ true → are_turns later entries ≡ true
all_more version later [] le h = refl
all_more version later (e ∷ es) le h = both _ _ (turns_more version later e.1 le (left _ _ h)) (all_more version later es le (right _ _ h))

-- what stands at the IRI
found_turns : (version : ℕ) (iri : List ℕ) (entries : List (List ℕ × List ℕ)) (turns : List ℕ) → are_turns version entries ≡ true → at_iri entries iri ≡ Some turns → is_turns version turns ≡ true
found_turns version iri [] turns h is = cc
found_turns version iri (e ∷ es) turns h is =
    elim (is_eq (name_cmp iri e.0)) as (λ b. cond b (Some e.1) (at_iri es iri) ≡ Some turns → is_turns version turns ≡ true) [
      | true ↦ λ here. let same : e.1 ≡ turns = cc in subst (λ ts. is_turns version ts ≡ true) same (left _ _ h)
      | false ↦ λ there. found_turns version iri es turns (right _ _ h) there
    ] is

pub found_rising : (version : ℕ) (iri : List ℕ) (entries : List (List ℕ × List ℕ)) (turns read : List ℕ) → are_turns version entries ≡ true → Some turns ≡ at_iri entries iri → read ≡ turns → is_rising 0 read ≡ true
found_rising version iri entries turns read h is same = subst (λ ts. is_rising 0 ts ≡ true) (sym same) (left _ _ (found_turns version iri entries turns h (sym is)))

all_set : (version : ℕ) (iri turns : List ℕ) (entries : List (List ℕ × List ℕ)) → are_turns version entries ≡ true → is_turns version turns ≡ true → are_turns version (set_value (is_at (name_cmp iri)) entries turns) ≡ true
all_set version iri turns [] h k = refl
all_set version iri turns (e ∷ es) h k =
    elim (is_eq (name_cmp iri e.0)) as (λ b. are_turns version (cond b ((e.0, turns) ∷ es) (e ∷ set_value (is_at (name_cmp iri)) es turns)) ≡ true) [
      | true ↦ both _ _ k (right _ _ h)
      | false ↦ both _ _ (left _ _ h) (all_set version iri turns es (right _ _ h) k)
    ]

all_put : (version : ℕ) (iri turns : List ℕ) (entries : List (List ℕ × List ℕ)) → are_turns version entries ≡ true → is_turns version turns ≡ true → are_turns version (put_iri entries iri turns) ≡ true
all_put version iri turns [] h k = both _ _ k refl
all_put version iri turns (e ∷ es) h k =
    elim (name_cmp iri e.0) as (λ o. are_turns version (match_ordering o ((iri, turns) ∷ e ∷ es) ((e.0, turns) ∷ es) (e ∷ put_iri es iri turns)) ≡ true) [
      | Less ↦ both _ _ k h
      | Equal ↦ both _ _ k (right _ _ h)
      | Greater ↦ both _ _ (left _ _ h) (all_put version iri turns es (right _ _ h) k)
    ]

-- with an entry for the IRI
pub all_named : (version : ℕ) (iri : List ℕ) (entries new : List (List ℕ × List ℕ)) → new ≡ named entries iri → are_turns version entries ≡ true → are_turns version new ≡ true
all_named version iri entries new is h =
    subst (λ es. are_turns version es ≡ true) (sym is)
    (elim (is_some (at_iri entries iri)) as (λ b. are_turns version (if b then entries else put_iri entries iri []) ≡ true) [ true ↦ h | false ↦ all_put version iri [] entries h refl ])

-- with one more turn, at a version that isn't before
pub all_turned : (version later : ℕ) (iri : List ℕ) (entries new : List (List ℕ × List ℕ)) → new ≡ turned entries iri later → version ≤ later → are_turns version entries ≡ true → are_turns later new ≡ true
all_turned version later iri entries new is le h =
    let kept = all_more version later entries le h in
    subst (λ es. are_turns later es ≡ true) (sym is)
    (elim (at_iri entries iri) as (λ o. at_iri entries iri ≡ o → are_turns later (turn_found entries iri later o) ≡ true) [
      | None ↦ λ none. kept
      | Some before ↦ λ some. all_set later iri (before ++ later ∷ []) entries kept (turns_push version later before le (found_turns version iri entries before h some))
    ] refl)

-- and where there is one more only for what wasn't stored
pub all_entered : (version later : ℕ) (iri : List ℕ) (stored : Bool) (entries new : List (List ℕ × List ℕ)) → new ≡ (if stored then entries else turned entries iri later) → version ≤ later
    → are_turns version entries ≡ true → are_turns later new ≡ true
all_entered version later iri true entries new is le h = subst (λ es. are_turns later es ≡ true) (sym is) (all_more version later entries le h)
all_entered version later iri false entries new is le h = all_turned version later iri entries new is le h

-- where a binary search stands: those below low are counted, and those from high on are not
pub record IsCounted (turns : List ℕ) (version low high : ℕ) : Type 0 where
  pub ordered : low ≤ high
  pub within : high ≤ length turns
  pub before : (k : ℕ) → k < low → get_or turns k 0 ≤ version
  pub after : (k : ℕ) → high ≤ k → k < length turns → version < get_or turns k 0

rising_below : (low : ℕ) (turns : List ℕ) (k : ℕ) → is_rising low turns ≡ true → k < length turns → low ≤ get_or turns k 0
rising_below low [] k h lt = absurd (omega arith)
rising_below low (t ∷ ts) zero h lt = at_most _ _ (left _ _ h)
rising_below low (t ∷ ts) (suc k) h lt =
    let first : low ≤ t = at_most _ _ (left _ _ h) in
    let lt' : k < length ts = omega arith in
    let rest : t ≤ get_or ts k 0 = rising_below t ts k (right _ _ h) lt' in
    omega arith

pub rising : (low : ℕ) (turns : List ℕ) (i k : ℕ) → is_rising low turns ≡ true → i ≤ k → k < length turns → get_or turns i 0 ≤ get_or turns k 0
rising low [] i k h le lt = absurd (omega arith)
rising low (t ∷ ts) zero zero h le lt = omega arith
rising low (t ∷ ts) zero (suc k) h le lt = rising_below t ts k (right _ _ h) (omega arith)
rising low (t ∷ ts) (suc i) zero h le lt = absurd (omega arith)
rising low (t ∷ ts) (suc i) (suc k) h le lt = rising t ts i k (right _ _ h) (omega arith) (omega arith)

one_more : (t : ℕ) (ts : List ℕ) (version : ℕ) → turns_until (t ∷ ts) version ≡ cond {A = ℕ} (nat_le t version) 1 0 + turns_until ts version
one_more t ts version = sum_by-cons (λ x. cond (nat_le x version) 1 0) t ts

none_counted : (turns : List ℕ) (version : ℕ) → ((k : ℕ) → k < length turns → version < get_or turns k 0) → turns_until turns version ≡ 0
none_counted [] version h = refl
none_counted (t ∷ ts) version h =
    let past : version < t = h 0 (omega arith) in
    let no : nat_le t version ≡ false = grind (arith, nat_tests) in
    let first : cond {A = ℕ} (nat_le t version) 1 0 ≡ 0 = ap (λ b. cond b 1 0) no in
    let rest : turns_until ts version ≡ 0 = none_counted ts version (λ k lt. h (suc k) (omega arith)) in
    omega (arith, one_more t ts version)

pub counted : (turns : List ℕ) (version n : ℕ) → n ≤ length turns → ((k : ℕ) → k < n → get_or turns k 0 ≤ version) → ((k : ℕ) → n ≤ k → k < length turns → version < get_or turns k 0)
    → n ≡ turns_until turns version
counted turns version zero le before after = sym (none_counted turns version (λ k lt. after k (omega arith) lt))
counted [] version (suc n) le before after = absurd (omega arith)
counted (t ∷ ts) version (suc n) le before after =
    let first : cond {A = ℕ} (nat_le t version) 1 0 ≡ 1 = ap (λ b. cond b 1 0) (is_at_most t version (before 0 (omega arith))) in
    let rest : n ≡ turns_until ts version = counted ts version n (omega arith) (λ k lt. before (suc k) (omega arith)) (λ k from lt. after (suc k) (omega arith) (omega arith)) in
    omega (arith, one_more t ts version)
