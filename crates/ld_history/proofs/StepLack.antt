-- Where a lack is a step, the rules allow its entries in turn.
use Rattle.std.proofs.Common.{◌≡◌, ℕ, ◌+◌, ◌≤◌, List, [], ◌∷◌, length, refl, ap, ◌∙◌, arith, Option, Some, None, true, false, not, eq-eqb}
use Rattle.std.specs.Prelude.{is_some, nat_le, nat_lt, ◌==◌, if◌then◌else◌}
use Rattle.std.proofs.lemmas.Bool.{and_from, or_left, not_from_false, not-true}
use Rattle.std.proofs.lemmas.Bool.Decides.{nat_tests}
use Rattle.ld_history.specs.declared.limits.Limits.{Limits}
use Rattle.ld_history.specs.declared.event.How.TheVariants as how
use Rattle.ld_history.specs.declared.answers.LackAnswer.TheVariants as lack_answer
use Rattle.ld_history.specs.declared.session.Session.{Session}
use Rattle.ld_history.specs.declared.session.Flying.{Flying}
use Rattle.ld_history.specs.Words.{at_number, at_iri, is_some_and, is_pinned, is_stored, places, archive_has_room}
use Rattle.ld_history.specs.Rules.{has_place, is_full}
use Rattle.ld_history.specs.Legal.{state, Entries}
use Rattle.ld_history.specs.ByTurns.{was_stored, lacks, may_find, may_join, may_lead, may_say, Legal, may_lack, lack_found}
use Rattle.ld_history.specs.Steps.{taken, plain, ending, led, led_after, leading, joining, missing, next_out, of_found}
use Rattle.ld_history.specs.Plans.{AllowsStep}
use Rattle.ld_history.specs.declared.event.Event.TheVariants as event
use Rattle.ld_history.proofs.LawReads.{both}
use Rattle.ld_history.proofs.LawSound.{sound}
use Rattle.ld_history.proofs.Pinned.{pinned_may_answer}
use Rattle.ld_history.proofs.PlaceMade.{next_is, may_go_out, may_come_in}

held_full : (a b : ℕ) → nat_lt a b ≡ false → a ≤ b → (a == b) ≡ true
held_full a b over le = grind (arith, nat_tests)

below : (a b : ℕ) → a ≤ b → (a == b) ≡ false → nat_lt a b ≡ true
below a b le apart = grind (arith, nat_tests)

module _ (limits : Limits) (entries : Entries) (legal : Legal limits entries) (session : ℕ) (iri : List ℕ) (s : Session)
    (is : at_number (state entries).sessions session ≡ Some s) (pinned : is_pinned s.last ≡ true) (absent : was_stored (state entries) iri s.version ≡ false) (short : nat_le (length iri) 2048 ≡ true) where
  too_many : nat_lt (length s.held) limits.held ≡ false → may_say limits (state entries) s (how.TooMany iri) ≡ true
  too_many over = and_from _ _ (and_from _ _ pinned (held_full (length s.held) limits.held over ((sound limits entries legal).crew.each session s is).few)) (not_from_false _ absent)

  module _ (fewer : nat_lt (length s.held) limits.held ≡ true) where
    lacking_it : lacks limits (state entries) iri s ≡ true
    lacking_it = and_from _ _ (and_from _ _ (not_from_false _ absent) short) fewer

    find_it : is_stored (state entries) iri ≡ true → may_find limits (state entries) session iri ≡ true
    find_it stored = ap (is_some_and _) is ∙ and_from _ _ (and_from _ _ pinned lacking_it) stored

    join_it : (lead : Flying) → at_iri (state entries).leads iri ≡ Some lead → may_join limits (state entries) session iri lead.flight ≡ true
    join_it lead there = ap (is_some_and _) is ∙ and_from _ _ (and_from _ _ pinned lacking_it) (ap (is_some_and _) there ∙ eq-eqb lead.flight lead.flight refl)

    module _ (unstored : is_stored (state entries) iri ≡ false) (none : at_iri (state entries).leads iri ≡ None) (room : archive_has_room limits (state entries) ≡ true) where
      lead_it : (places (state entries) == limits.contexts) ≡ false → may_lead limits (state entries) session iri (length (state entries).flights + 1) ≡ true
      lead_it place =
          let place : has_place limits (state entries) iri (length (state entries).flights + 1) ≡ true
          = and_from _ _ (and_from _ _ (and_from _ _ (and_from _ _ (not_from_false _ unstored) (not_from_false _ (ap is_some none))) (below (places (state entries)) limits.contexts (sound limits entries legal).air.places place)) room)
          (eq-eqb (length (state entries).flights + 1) (length (state entries).flights + 1) refl) in
          ap (is_some_and _) is ∙ and_from _ _ (and_from _ _ (or_left _ _ pinned) lacking_it) place

      replaced : (places (state entries) == limits.contexts) ≡ true → (o : Option (List ℕ)) → next_out (state entries) ≡ o → AllowsStep limits (state entries) (led_after (state entries) session iri o)
      replaced full None none_out = tt
      replaced full (Some out) is_out =
          let next = next_is (state entries) out is_out in
          (may_go_out limits (state entries) session iri out s is pinned next, (may_come_in limits (state entries) session iri out s is pinned next lacking_it unstored (ap is_some none) full room, tt))

      placed : AllowsStep limits (state entries) (if places (state entries) == limits.contexts then led_after (state entries) session iri (next_out (state entries))
          else Some (taken (lack_answer.Led (length (state entries).flights + 1) None) (plain (led (state entries) session iri) ∷ [])))
      placed =
          elim (places (state entries) == limits.contexts) as (λ b. (places (state entries) == limits.contexts) ≡ b → AllowsStep limits (state entries) (if b then led_after (state entries) session iri (next_out (state entries))
          else Some (taken (lack_answer.Led (length (state entries).flights + 1) None) (plain (led (state entries) session iri) ∷ [])))) [
            | true ↦ λ full. replaced full (next_out (state entries)) refl
            | false ↦ λ place. (lead_it place, tt)
          ] refl

    led_allowed : is_stored (state entries) iri ≡ false → at_iri (state entries).leads iri ≡ None → AllowsStep limits (state entries) (leading limits (state entries) session iri s)
    led_allowed unstored none =
        elim (is_full limits (state entries)) as (λ b. is_full limits (state entries) ≡ b → AllowsStep limits (state entries)
        (if b then Some (ending session s lack_answer.StoreFull how.StoreFull)
        else if not (archive_has_room limits (state entries)) then Some (ending session s (lack_answer.ArchiveFull (state entries).bytes) (how.ArchiveFull (state entries).bytes))
        else if places (state entries) == limits.contexts then led_after (state entries) session iri (next_out (state entries))
        else Some (taken (lack_answer.Led (length (state entries).flights + 1) None) (plain (led (state entries) session iri) ∷ [])))) [
          | true ↦ λ full. (pinned_may_answer limits entries session s legal is pinned how.StoreFull (and_from _ _ pinned full), tt)
          | false ↦ λ free.
              elim (archive_has_room limits (state entries)) as (λ b. archive_has_room limits (state entries) ≡ b → AllowsStep limits (state entries)
              (if not b then Some (ending session s (lack_answer.ArchiveFull (state entries).bytes) (how.ArchiveFull (state entries).bytes))
              else if places (state entries) == limits.contexts then led_after (state entries) session iri (next_out (state entries))
              else Some (taken (lack_answer.Led (length (state entries).flights + 1) None) (plain (led (state entries) session iri) ∷ [])))) [
                | true ↦ λ room. placed unstored none room
                | false ↦ λ over. (
                  pinned_may_answer limits entries session s legal is pinned (how.ArchiveFull (state entries).bytes)
                      (and_from _ _ (and_from _ _ pinned (not_from_false _ over)) (eq-eqb (state entries).bytes (state entries).bytes refl)),
                  tt,
                )
              ] refl
        ] refl

    joined_allowed : is_stored (state entries) iri ≡ false → (o : Option Flying) → at_iri (state entries).leads iri ≡ o → AllowsStep limits (state entries) (joining limits (state entries) session iri s o)
    joined_allowed unstored None none = led_allowed unstored none
    joined_allowed unstored (Some lead) there = (join_it lead there, tt)

    found_allowed : AllowsStep limits (state entries) (if is_stored (state entries) iri then Some (taken lack_answer.There (plain (event.Found session iri) ∷ [])) else joining limits (state entries) session iri s (at_iri (state entries).leads iri))
    found_allowed =
        elim (is_stored (state entries) iri) as (λ b. is_stored (state entries) iri ≡ b → AllowsStep limits (state entries)
        (if b then Some (taken lack_answer.There (plain (event.Found session iri) ∷ [])) else joining limits (state entries) session iri s (at_iri (state entries).leads iri))) [
          | true ↦ λ stored. (find_it stored, tt)
          | false ↦ λ unstored. joined_allowed unstored (at_iri (state entries).leads iri) refl
        ] refl

  missing_allowed : AllowsStep limits (state entries) (missing limits (state entries) session iri s)
  missing_allowed =
      elim (nat_lt (length s.held) limits.held) as (λ b. nat_lt (length s.held) limits.held ≡ b → AllowsStep limits (state entries)
      (if not b then Some (ending session s (lack_answer.TooMany (length s.held)) (how.TooMany iri))
      else if is_stored (state entries) iri then Some (taken lack_answer.There (plain (event.Found session iri) ∷ []))
      else joining limits (state entries) session iri s (at_iri (state entries).leads iri))) [
        | true ↦ λ fewer. found_allowed fewer
        | false ↦ λ no. (pinned_may_answer limits entries session s legal is pinned (how.TooMany iri) (too_many no), tt)
      ] refl

module _ (limits : Limits) (entries : Entries) (legal : Legal limits entries) (session : ℕ) (iri : List ℕ) where
  open_allowed : (s : Session) → at_number (state entries).sessions session ≡ Some s → AllowsStep limits (state entries) (if may_lack (state entries) iri s then missing limits (state entries) session iri s else None)
  open_allowed s is =
      elim (may_lack (state entries) iri s) as (λ b. may_lack (state entries) iri s ≡ b → AllowsStep limits (state entries) (if b then missing limits (state entries) session iri s else None)) [
        | true ↦ λ may. let parts = both may in let first = both parts.0 in missing_allowed limits entries legal session iri s is first.0 (not-true _ first.1) parts.1
        | false ↦ λ no. tt
      ] refl

  session_allowed : (o : Option Session) → at_number (state entries).sessions session ≡ o
      → AllowsStep limits (state entries) (of_found (λ s. if may_lack (state entries) iri s then missing limits (state entries) session iri s else None) o)
  session_allowed None is = tt
  session_allowed (Some s) is = open_allowed s is

  pub lack_allowed : AllowsStep limits (state entries) (lack_found limits (state entries) session iri)
  lack_allowed = session_allowed (at_number (state entries).sessions session) refl
