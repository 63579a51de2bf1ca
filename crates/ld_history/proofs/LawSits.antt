-- What holds of a session, after its own events and after those of others.
use Rattle.std.proofs.Common.{◌≡◌, ℕ, ◌+◌, ◌≤◌, ◌<◌, List, [], ◌∷◌, ◌++◌, length, refl, sym, ap, ◌∙◌, subst, arith, Some, Bool, true, false, cond, ◌⊎◌, inl, inr, ◌||◌, length-append}
use Rattle.std.specs.Prelude.{is_some, nat_eq}
use Rattle.std.specs.Cmp.Lexicographic.{pointwise, nat_list_eq_equiv, same_text}
use Rattle.std.specs.List.{IsDistinct, list_any}
use Rattle.std.specs.Map.{values_of, lookup}
use Rattle.std.proofs.lemmas.Bool.{or_cases, or_parts, false_from_ne_true}
use Rattle.std.proofs.lemmas.Map.Keys.{IsDistinct-push}
use Rattle.ld_history.specs.declared.limits.Limits.{Limits}
use Rattle.ld_history.specs.declared.session.Session.{Session}
use Rattle.ld_history.specs.declared.session.Last.{Last}
use Rattle.ld_history.specs.declared.session.Last.TheVariants as last
use Rattle.ld_history.specs.declared.session.Flight.{Flight}
use Rattle.ld_history.specs.Words.{at_iri, holds}
use Rattle.ld_history.specs.Laws.{awaited}
use Rattle.ld_history.proofs.LawCrew.{Stock, Tries, Awaits, Sits, TurnsTell, is_trying}
use Rattle.ld_history.proofs.LawTurns.{Turns, was_in}

-- ---- lists
pub any_value : {K X : Type 0} (p : X → Bool) (test : K → Bool) (es : List (K × X)) (x : X) → list_any p (values_of es) ≡ false → lookup test es ≡ Some x → p x ≡ false
any_value p test [] x h is = cc
any_value p test (e ∷ es) x h is =
    let parts = or_parts (p e.1) (list_any p (values_of es)) h in
    elim (test e.0) as (λ b. cond b (Some e.1) (lookup test es) ≡ Some x → p x ≡ false) [
      | true ↦ λ one. let same : e.1 ≡ x = cc in ap p (sym same) ∙ parts.0
      | false ↦ λ rest. any_value p test es x parts.1 rest
    ] is

pub any_push : {X : Type 0} (p : X → Bool) (xs : List X) (y : X) → list_any p (xs ++ y ∷ []) ≡ (list_any p xs || p y)
any_push p [] y = elim (p y) as (λ b. (b || false) ≡ b) [ true ↦ refl | false ↦ refl ]
any_push p (x ∷ xs) y = elim (p x) as (λ b. (b || list_any p (xs ++ y ∷ [])) ≡ ((b || list_any p xs) || p y)) [ true ↦ refl | false ↦ any_push p xs y ]

any_turned : (iri : List ℕ) (xs : List (List ℕ)) → list_any (pointwise nat_eq iri) xs ≡ list_any (λ held. pointwise nat_eq held iri) xs
any_turned iri [] = refl
any_turned iri (x ∷ xs) = λ i. nat_list_eq_equiv.symm iri x i || any_turned iri xs i

-- ---- the last own event
trying_awaits : (l : Last) (n : ℕ) → is_trying l ≡ true → awaited l ≡ Some n → ⊥
trying_awaits last.Idle n h e = cc
trying_awaits last.Pinned n h e = cc
trying_awaits last.Found n h e = cc
trying_awaits (last.Led f) n h e = cc
trying_awaits (last.Joined f) n h e = cc
trying_awaits (last.Evicted v) n h e = cc
trying_awaits (last.ReviseLed f) n h e = cc

trying_tries : (l : Last) (a h : ℕ) → is_trying l ≡ true → Tries l a h → a ≡ h + 1
trying_tries last.Idle a h t e = cc
trying_tries last.Pinned a h t e = e
trying_tries last.Found a h t e = cc
trying_tries (last.Led f) a h t e = cc
trying_tries (last.Joined f) a h t e = cc
trying_tries (last.Evicted v) a h t e = e
trying_tries (last.ReviseLed f) a h t e = e

tries_trying : (l : Last) (a h : ℕ) → is_trying l ≡ true → a ≡ h + 1 → Tries l a h
tries_trying last.Idle a h t e = cc
tries_trying last.Pinned a h t e = e
tries_trying last.Found a h t e = cc
tries_trying (last.Led f) a h t e = cc
tries_trying (last.Joined f) a h t e = cc
tries_trying (last.Evicted v) a h t e = e
tries_trying (last.ReviseLed f) a h t e = e

trying_idle : (l : Last) → is_trying l ≡ true → l ≡ last.Idle → ⊥
trying_idle l t e = let no : is_trying last.Idle ≡ true = ap is_trying (sym e) ∙ t in cc

-- ---- no own event
module _ (limits : Limits) (version now : ℕ) (flights flown : List Flight) (stored stock : Stock) (turns gone : Turns) (s : Session) where
  pub sits-more : version ≤ now
      → ((iri : List ℕ) → holds s iri ≡ true → is_some (at_iri stored iri) ≡ true → is_some (at_iri stock iri) ≡ true)
      → ((iri : List ℕ) → Awaits flights s.last iri → (is_some (at_iri stock iri) ≡ true) ⊎ Awaits flown s.last iri)
      → ((iri : List ℕ) (v : ℕ) → v ≤ version → was_in gone iri v ≡ was_in turns iri v)
      → Sits limits version flights stored turns s → Sits limits now flown stock gone s
  sits-more later stay await past h = record {
    seat = h.seat;
    pinned = omega (arith, h.pinned);
    idle = h.idle;
    few = h.few;
    tries = h.tries;
    counted = h.counted;
    kept = λ iri held. elim (h.kept iri held) [ inl here ↦ inl (stay iri held here) | inr waits ↦ await iri waits ];
    had = λ trying iri held. past iri s.version h.pinned ∙ h.had trying iri held;
    differ = h.differ;
  }

-- ---- an own event
module _ (limits : Limits) (version : ℕ) (flights : List Flight) (stored : Stock) (turns : Turns) (s : Session) (h : Sits limits version flights stored turns s) where
  -- what it holds is stored, where it awaits nothing that isn't published
  pub settled : ((iri : List ℕ) → Awaits flights s.last iri → ⊥) → (iri : List ℕ) → holds s iri ≡ true → is_some (at_iri stored iri) ≡ true
  settled none iri held = elim (h.kept iri held) [ inl here ↦ here | inr waits ↦ absurd (none iri waits) ]

  pub trying_settled : is_trying s.last ≡ true → (iri : List ℕ) → holds s iri ≡ true → is_some (at_iri stored iri) ≡ true
  trying_settled trying = settled (λ iri waits. trying_awaits s.last waits.flight trying waits.own)

  pub sits-pinned : (request attempt v : ℕ) → v ≡ version → TurnsTell version turns stored → attempt ≡ length s.held + 1
      → ((iri : List ℕ) → holds s iri ≡ true → is_some (at_iri stored iri) ≡ true)
      → Sits limits version flights stored turns (record s { request = request; attempt = attempt; version = v; last = last.Pinned })
  sits-pinned request attempt v now tell one all = record {
    seat = h.seat;
    pinned = omega arith;
    idle = λ e. cc;
    few = h.few;
    tries = one;
    counted = λ n. omega (arith, one);
    kept = λ iri held. inl (all iri held);
    had = λ trying iri held. tell iri v (omega arith) ∙ all iri held;
    differ = h.differ;
  }

  -- it tries something else
  pub sits-trying : (l : Last) → is_trying s.last ≡ true → is_trying l ≡ true → Sits limits version flights stored turns (record s { last = l })
  sits-trying l was is = record {
    seat = h.seat;
    pinned = h.pinned;
    idle = λ e. absurd (trying_idle l is e);
    few = h.few;
    tries = tries_trying l s.attempt (length s.held) is (trying_tries s.last s.attempt (length s.held) was h.tries);
    counted = λ n. h.counted (trying_idle s.last was);
    kept = λ iri held. inl (trying_settled was iri held);
    had = λ trying iri held. h.had was iri held;
    differ = h.differ;
  }

  -- it holds one IRI more
  module _ (iri : List ℕ) (l : Last) (trying : is_trying s.last ≡ true) (absent : was_in turns iri s.version ≡ false) where
    held_cases : (q : List ℕ) → holds (record s { held = s.held ++ iri ∷ []; last = l }) q ≡ true → (holds s q ≡ true) ⊎ (iri ≡ q)
    held_cases q held = elim (or_cases (holds s q) (pointwise nat_eq iri q) (sym (any_push (λ x. pointwise nat_eq x q) s.held iri) ∙ held)) [
      | inl old ↦ inl old
      | inr same ↦ inr (same_text iri q (sym same))
    ]

    new_iri : list_any (pointwise nat_eq iri) s.held ≡ false
    new_iri = false_from_ne_true _ (λ e. let had : was_in turns iri s.version ≡ true = h.had trying iri (sym (any_turned iri s.held) ∙ e) in cc)

    pub sits-holding : is_trying l ≡ false → (l ≡ last.Idle → ⊥) → ((k : ℕ) → s.attempt ≡ k → Tries l s.attempt k) → length s.held < limits.held
        → (is_some (at_iri stored iri) ≡ true) ⊎ Awaits flights l iri
        → Sits limits version flights stored turns (record s { held = s.held ++ iri ∷ []; last = l })
    sits-holding over busy tries fewer here =
        let one : length (s.held ++ iri ∷ []) ≡ length s.held + 1 = length-append s.held (iri ∷ []) in
        let tried : s.attempt ≡ length s.held + 1 = trying_tries s.last s.attempt (length s.held) trying h.tries in
        record {
          seat = h.seat;
          pinned = h.pinned;
          idle = λ e. absurd (busy e);
          few = omega (arith, one, fewer);
          tries = tries _ (tried ∙ sym one);
          counted = λ n. h.counted (trying_idle s.last trying);
          kept = λ q held. elim (held_cases q held) [
            | inl old ↦ inl (trying_settled trying q old)
            | inr e ↦ subst (λ r. (is_some (at_iri stored r) ≡ true) ⊎ Awaits flights l r) e here
          ];
          had = λ t q held. cc;
          differ = IsDistinct-push nat_list_eq_equiv s.held iri h.differ new_iri;
        }

  pub sits-answered : Sits limits version flights stored turns (record s { held = []; last = last.Idle })
  unfolding IsDistinct
  sits-answered = record {
    seat = h.seat;
    pinned = h.pinned;
    idle = λ e. refl;
    few = omega arith;
    tries = tt;
    counted = λ n. absurd (n refl);
    kept = λ iri held. cc;
    had = λ t iri held. cc;
    differ = tt;
  }

pub sits-opened : (limits : Limits) (version : ℕ) (flights : List Flight) (stored : Stock) (turns : Turns) (seat : ℕ) → seat < 256
    → Sits limits version flights stored turns (record { seat = seat; request = 0; attempt = 0; version = 0; held = []; last = last.Idle })
unfolding IsDistinct
sits-opened limits version flights stored turns seat small = record {
  seat = small;
  pinned = omega arith;
  idle = λ e. refl;
  few = omega arith;
  tries = tt;
  counted = λ n. absurd (n refl);
  kept = λ iri held. cc;
  had = λ t iri held. cc;
  differ = tt;
}
