-- The steps of the history lead a session on: what they append is what its stage waits for.
use Rattle.std.proofs.Common.{◌≡◌, ◌∙◌, ℕ, ◌+◌, Bool, true, false, not, ◌&&◌, ◌||◌, List, [], ◌∷◌, ◌++◌, length, refl, ap, subst, eq-eqb}
use Rattle.std.specs.Prelude.{Option, Some, None, Err, is_some, if◌then◌else◌, ◌==◌, nat_lt}
use Rattle.std.specs.List.{find, fold, list_any}
use Rattle.std.specs.Map.{values_of}
use Rattle.std.specs.Option.{option_map}
use Rattle.std.proofs.lemmas.Bool.{and_from}
use Rattle.std.specs.Cmp.Lexicographic.{nat_list_eq_equiv}
use Rattle.ld_answer.specs.Bodies.{too_many_body}
use Rattle.ld_answer.specs.declared.envelope.Envelope.{Envelope}
use Rattle.ld_answer.specs.declared.op.Op.{Op}
use Rattle.ld_head.specs.declared.outcome.Outcome.TheVariants as outcome
use Rattle.ld_history.specs.After.{after}
use Rattle.ld_history.specs.Counts.{owner}
use Rattle.ld_history.specs.Rules.{Had, is_full, is_least_holder, on_session}
use Rattle.ld_history.specs.Steps as steps
use Rattle.ld_history.specs.Steps.{Taken, plain}
use Rattle.ld_history.specs.Store.{Store}
use Rattle.ld_history.specs.Legal.{Entries, Legal, state}
use Rattle.ld_history.specs.Words.{archive_has_room, at_iri, at_number, holds, is_held, is_led, is_pinned, is_revised, is_some_and, is_stored, least_holder, places, same_iri}
use Rattle.ld_history.specs.declared.answers.EvictAnswer.{EvictAnswer}
use Rattle.ld_history.specs.declared.answers.EvictAnswer.TheVariants as evict_answer
use Rattle.ld_history.specs.declared.answers.LackAnswer.{LackAnswer}
use Rattle.ld_history.specs.declared.answers.LackAnswer.TheVariants as lack_answer
use Rattle.ld_history.specs.declared.answers.ReviseAnswer.{ReviseAnswer}
use Rattle.ld_history.specs.declared.answers.ReviseAnswer.TheVariants as revise_answer
use Rattle.ld_history.specs.declared.event.Event.TheVariants as event
use Rattle.ld_history.specs.declared.event.How.TheVariants as how
use Rattle.ld_history.specs.declared.event.Entry.{Entry}
use Rattle.ld_history.specs.declared.event.Given.{Given}
use Rattle.ld_history.specs.declared.limits.Limits.{Limits}
use Rattle.ld_history.specs.declared.session.Flying.{Flying}
use Rattle.ld_history.specs.declared.session.Kind.TheVariants as kind
use Rattle.ld_history.specs.declared.session.Session.{Session}
use Rattle.ld_history.proofs.LawSound.{sound}
use Rattle.ld_history.proofs.LawTold.{by_turns}
use Rattle.ld_rec.specs.Outcome.{Stock}
use Rattle.ld_rec.specs.declared.stop.Stop.TheVariants as stop
use Rattle.ld_fits.specs.Leading.{after_evict, after_lack, after_revise}
use Rattle.ld_own.specs.Own.{Placed, placed, own_placed_from}
use Rattle.ld_fits.specs.Play.{Evicting, Gone, Lacking, Pinned, Reloading, Request, Revising, Stage, Wrong, has_no_place, lacks, led_if, play, replied, revises, step}
use Rattle.ld_own.proofs.Adding.{one_own}

same_number : (n : ℕ) → (n == n) ≡ true
same_number n = eq-eqb n n refl

same_name : (iri : List ℕ) → same_iri iri iri ≡ true
same_name iri = nat_list_eq_equiv.refl iri

when : {A : Type 0} (b : Bool) (x y : A) → b ≡ true → (if b then x else y) ≡ x
when true x y h = refl
when false x y h = cc

unless : {A : Type 0} (b : Bool) (x y : A) → b ≡ false → (if b then x else y) ≡ y
unless false x y h = refl
unless true x y h = cc

two_own : (a b : Bool) (p q : Placed) → a ≡ true → b ≡ true → (if a then p ∷ [] else []) ++ ((if b then q ∷ [] else []) ++ []) ≡ p ∷ q ∷ []
two_own true true p q h k = refl
two_own true false p q h k = cc
two_own false b p q h k = cc

module _ (limits : Limits) (stock : ℕ → Stock) (store : Store) (session : ℕ) where
  -- one entry of the session
  pub entry_leads : (from : Stage) (entry : Entry (List ℕ) Given) → (owner store entry.event == session) ≡ true
      → fold (play limits stock) from (own_placed_from store session (entry ∷ [])) ≡ step limits stock store from entry.event
  entry_leads from entry mine = ap (fold (play limits stock) from) (one_own (owner store entry.event == session) (placed store entry) mine)

  -- two of them
  entries_lead : (from : Stage) (first second : Entry (List ℕ) Given) → (owner store first.event == session) ≡ true → (owner (after store first) second.event == session) ≡ true
      → fold (play limits stock) from (own_placed_from store session (first ∷ second ∷ [])) ≡ step limits stock (after store first) (step limits stock store from first.event) second.event
  entries_lead from first second mine own =
      ap (fold (play limits stock) from) (two_own (owner store first.event == session) (owner (after store first) second.event == session) (placed store first) (placed (after store first) second) mine own)

  -- where a step leads, if it is one
  abbrev LeadsBy : {A : Type 0} → Stage → (A → Stage) → Option (Taken A) → Type 0
  LeadsBy from to None = Unit {0}
  LeadsBy from to (Some t) = fold (play limits stock) from (own_placed_from store session t.entries) ≡ to t.answer

  -- ---- a lack
  module _ (r : Request) (op : Op) (envelope : Envelope) (iri : List ℕ) where
    abbrev LeadsLack : Option (Taken LackAnswer) → Type 0
    LeadsLack t = LeadsBy (Pinned r op envelope (Err (stop.Missing iri))) (after_lack r op envelope iri) t

    found : (b : Bool) → b ≡ true → led_if b r op envelope iri ≡ Lacking r op envelope iri
    found true h = refl
    found false h = cc

    module _ (s : Session) (open_as : at_number store.sessions session ≡ Some s) (few : nat_lt (length s.held) limits.held ≡ true) (absent : is_stored store iri ≡ false) (unled : is_led store iri ≡ false) where
      no_place : has_no_place limits store session (Err (stop.Missing iri)) ≡ true
      no_place =
          and_from (on_session store session (λ s. nat_lt (length s.held) limits.held)) (not (is_stored store iri) && not (is_led store iri))
          (ap (is_some_and (λ (s : Session). nat_lt (length s.held) limits.held)) open_as ∙ few)
          (and_from (not (is_stored store iri)) (not (is_led store iri)) (ap not absent) (ap not unled))

      lead_out : (out : Option (List ℕ)) → LeadsLack (steps.led_after store session iri out)
      lead_out None = tt
      lead_out (Some out) =
          entries_lead (Pinned r op envelope (Err (stop.Missing iri))) (plain (event.Evicted session out (store.version + 1))) (plain (steps.led store session iri)) (same_number session) (same_number session)
          ∙ found (same_iri iri iri) (same_name iri)

      lead_place : (is_last : Bool) → LeadsLack (if is_last then steps.led_after store session iri (steps.next_out store) else Some (steps.taken (lack_answer.Led (length store.flights + 1) None) (plain (steps.led store session iri) ∷ [])))
      lead_place true = lead_out (steps.next_out store)
      lead_place false = entry_leads (Pinned r op envelope (Err (stop.Missing iri))) (plain (steps.led store session iri)) (same_number session) ∙ found (same_iri iri iri) (same_name iri)

      archive : (room : Bool) → is_full limits store ≡ false → archive_has_room limits store ≡ room
          → LeadsLack (if not room then Some (steps.ending session s (lack_answer.ArchiveFull store.bytes) (how.ArchiveFull store.bytes))
          else if places store == limits.contexts then steps.led_after store session iri (steps.next_out store)
          else Some (steps.taken (lack_answer.Led (length store.flights + 1) None) (plain (steps.led store session iri) ∷ [])))
      archive true not_full is = lead_place (places store == limits.contexts)
      archive false not_full is =
          entry_leads (Pinned r op envelope (Err (stop.Missing iri))) (plain (event.Answered session s.request (how.ArchiveFull store.bytes))) (same_number session)
          ∙ ap (replied r) (when (has_no_place limits store session (Err (stop.Missing iri)) && not (is_full limits store) && not (archive_has_room limits store)) (Some (outcome.ArchiveFull store.bytes)) None
          (and_from (has_no_place limits store session (Err (stop.Missing iri)) && not (is_full limits store)) (not (archive_has_room limits store))
          (and_from (has_no_place limits store session (Err (stop.Missing iri))) (not (is_full limits store)) no_place (ap not not_full)) (ap not is)))

      full : (is_so : Bool) → is_full limits store ≡ is_so
          → LeadsLack (if is_so then Some (steps.ending session s lack_answer.StoreFull how.StoreFull)
          else if not (archive_has_room limits store) then Some (steps.ending session s (lack_answer.ArchiveFull store.bytes) (how.ArchiveFull store.bytes))
          else if places store == limits.contexts then steps.led_after store session iri (steps.next_out store)
          else Some (steps.taken (lack_answer.Led (length store.flights + 1) None) (plain (steps.led store session iri) ∷ [])))
      full true is =
          entry_leads (Pinned r op envelope (Err (stop.Missing iri))) (plain (event.Answered session s.request how.StoreFull)) (same_number session)
          ∙ ap (replied r) (when (has_no_place limits store session (Err (stop.Missing iri)) && is_full limits store) (Some outcome.StoreFull) None
          (and_from (has_no_place limits store session (Err (stop.Missing iri))) (is_full limits store) no_place is))
      full false is = archive (archive_has_room limits store) is refl

    module _ (s : Session) (open_as : at_number store.sessions session ≡ Some s) where
      joined : (few : nat_lt (length s.held) limits.held ≡ true) → is_stored store iri ≡ false → (lead : Option Flying) → at_iri store.leads iri ≡ lead → LeadsLack (steps.joining limits store session iri s lead)
      joined few absent None is = full s open_as few absent (ap is_some is) (is_full limits store) refl
      joined few absent (Some lead) is = entry_leads (Pinned r op envelope (Err (stop.Missing iri))) (plain (event.Joined session iri lead.flight)) (same_number session) ∙ found (same_iri iri iri) (same_name iri)

      there : (few : nat_lt (length s.held) limits.held ≡ true) (stored : Bool) → is_stored store iri ≡ stored
          → LeadsLack (if stored then Some (steps.taken lack_answer.There (plain (event.Found session iri) ∷ [])) else steps.joining limits store session iri s (at_iri store.leads iri))
      there few true is = entry_leads (Pinned r op envelope (Err (stop.Missing iri))) (plain (event.Found session iri)) (same_number session) ∙ found (same_iri iri iri) (same_name iri)
      there few false is = joined few is (at_iri store.leads iri) refl

      enough : (few : Bool) → nat_lt (length s.held) limits.held ≡ few
          → LeadsLack (if not few then Some (steps.ending session s (lack_answer.TooMany (length s.held)) (how.TooMany iri))
          else if is_stored store iri then Some (steps.taken lack_answer.There (plain (event.Found session iri) ∷ [])) else steps.joining limits store session iri s (at_iri store.leads iri))
      enough true is = there is (is_stored store iri) refl
      enough false is =
          entry_leads (Pinned r op envelope (Err (stop.Missing iri))) (plain (event.Answered session s.request (how.TooMany iri))) (same_number session)
          ∙ ap (replied r) (when (lacks iri (Err (stop.Missing iri))) (Some (outcome.TooMany (too_many_body iri))) None (same_name iri))

      allowed_lack : (ok : Bool) → LeadsLack (if ok then steps.missing limits store session iri s else None)
      allowed_lack true = enough (nat_lt (length s.held) limits.held) refl
      allowed_lack false = tt

    found_lack : (had : Had) (o : Option Session) → at_number store.sessions session ≡ o → LeadsLack (steps.of_found (λ s. if steps.may_lack had iri s then steps.missing limits store session iri s else None) o)
    found_lack had None is = tt
    found_lack had (Some s) is = allowed_lack s is (steps.may_lack had iri s)

    pub lack_leads : (had : Had) → LeadsLack (steps.lack_taken had limits store session iri)
    lack_leads had = found_lack had (at_number store.sessions session) refl

  -- ---- an eviction
  module _ (r : Request) (iri : List ℕ) (s : Session) where
    abbrev LeadsEvict : Taken EvictAnswer → Type 0
    LeadsEvict t = LeadsBy (Evicting r iri) (after_evict r) (Some t)

    gone : (revision : Option Flying) → is_stored store iri ≡ true → is_held store iri ≡ false → at_iri store.revisions iri ≡ revision → LeadsEvict (steps.evicting_unrevised store session iri s revision)
    gone None stored free is =
        entries_lead (Evicting r iri) (plain (event.Evicted session iri (store.version + 1))) (plain (event.Answered session s.request (how.Evicted (store.version + 1)))) (same_number session) (same_number session)
        ∙ ap (λ stage. step limits stock (after store (plain (event.Evicted session iri (store.version + 1)))) stage (event.Answered session s.request (how.Evicted (store.version + 1)))) (when (same_iri iri iri) (Gone r) Wrong (same_name iri))
    gone (Some revision) stored free is =
        entry_leads (Evicting r iri) (plain (event.Answered session s.request (how.Revising revision.flight))) (same_number session)
        ∙ ap (replied r) (when (is_stored store iri && not (is_held store iri) && revises store iri revision.flight) (Some (outcome.Revising revision.flight)) None
        (and_from (is_stored store iri && not (is_held store iri)) (revises store iri revision.flight) (and_from (is_stored store iri) (not (is_held store iri)) stored (ap not free))
        (ap (is_some_and (λ (f : Flying). f.flight == revision.flight)) is ∙ same_number revision.flight)))

    none_holds : (es : List (ℕ × Session)) → find (λ (e : ℕ × Session). holds e.1 iri) es ≡ None → list_any (λ (s : Session). holds s iri) (values_of es) ≡ false
    none_holds [] none = refl
    none_holds (e ∷ es) none = go (holds e.1 iri) none (none_holds es)
      where
        go : (b : Bool) → (if b then Some e else find (λ (e : ℕ × Session). holds e.1 iri) es) ≡ None → (find (λ (e : ℕ × Session). holds e.1 iri) es ≡ None → list_any (λ (s : Session). holds s iri) (values_of es) ≡ false)
            → (b || list_any (λ (s : Session). holds s iri) (values_of es)) ≡ false
        go false none later = later none
        go true none later = cc

    none_named : (o : Option (ℕ × Session)) → option_map (λ (e : ℕ × Session). e.0) o ≡ None → o ≡ None
    none_named None h = refl
    none_named (Some e) h = cc

    unheld : (holder : Option ℕ) → is_stored store iri ≡ true → least_holder store iri ≡ holder → LeadsEvict (steps.evicting_unheld store session iri s holder)
    unheld None stored is = gone (at_iri store.revisions iri) stored (none_holds store.sessions (none_named (find (λ (e : ℕ × Session). holds e.1 iri) store.sessions) is)) refl
    unheld (Some holder) stored is =
        entry_leads (Evicting r iri) (plain (event.Answered session s.request (how.Held holder))) (same_number session)
        ∙ ap (replied r) (when (is_stored store iri && is_least_holder store holder iri) (Some (outcome.Held holder)) None
        (and_from (is_stored store iri) (is_least_holder store holder iri) stored (ap (is_some_and (λ (n : ℕ). n == holder)) is ∙ same_number holder)))

    evicted_if : (stored : Bool) → is_stored store iri ≡ stored
        → LeadsEvict (if stored then steps.evicting_unheld store session iri s (least_holder store iri) else steps.ending session s (evict_answer.NotStored store.version) (how.NotStored store.version))
    evicted_if true is = unheld (least_holder store iri) is refl
    evicted_if false is =
        entry_leads (Evicting r iri) (plain (event.Answered session s.request (how.NotStored store.version))) (same_number session)
        ∙ ap (replied r) (when (not (is_stored store iri)) (Some (outcome.NotStored store.version)) None (ap not is))

    pub evicting_leads : LeadsEvict (steps.evicting_stored store session iri s)
    evicting_leads = evicted_if (is_stored store iri) refl

  -- ---- a revision
  module _ (r : Request) (iri : List ℕ) (apart : is_stored store iri ≡ true → is_led store iri ≡ false) (s : Session) where
    abbrev LeadsRevise : Taken ReviseAnswer → Type 0
    LeadsRevise t = LeadsBy (Revising r iri) (after_revise r iri) (Some t)

    revised_if : (room : Bool) → is_stored store iri ≡ true → at_iri store.revisions iri ≡ None
        → LeadsRevise (if room then steps.taken (revise_answer.Led (length store.flights + 1)) (plain (event.ReviseLed session iri (length store.flights + 1)) ∷ [])
        else steps.ending session s (revise_answer.ArchiveFull store.bytes) (how.ArchiveFull store.bytes))
    revised_if true stored none =
        entry_leads (Revising r iri) (plain (event.ReviseLed session iri (length store.flights + 1))) (same_number session) ∙ when (same_iri iri iri) (Reloading r iri) Wrong (same_name iri)
    revised_if false stored none =
        entry_leads (Revising r iri) (plain (event.Answered session s.request (how.ArchiveFull store.bytes))) (same_number session)
        ∙ ap (replied r) (when (is_stored store iri && not (is_led store iri) && not (is_revised store iri)) (Some (outcome.ArchiveFull store.bytes)) None
        (and_from (is_stored store iri && not (is_led store iri)) (not (is_revised store iri)) (and_from (is_stored store iri) (not (is_led store iri)) stored (ap not (apart stored)))
        (ap (λ (o : Option Flying). not (is_some o)) none)))

    unrevised : (revision : Option Flying) → is_stored store iri ≡ true → at_iri store.revisions iri ≡ revision → LeadsRevise (steps.revising_unrevised limits store session iri s revision)
    unrevised None stored is = revised_if (archive_has_room limits store) stored is
    unrevised (Some revision) stored is =
        entry_leads (Revising r iri) (plain (event.Answered session s.request (how.Flying revision.flight))) (same_number session)
        ∙ ap (replied r) (when (is_stored store iri && revises store iri revision.flight) (Some (outcome.Flying revision.flight)) None
        (and_from (is_stored store iri) (revises store iri revision.flight) stored (ap (is_some_and (λ (f : Flying). f.flight == revision.flight)) is ∙ same_number revision.flight)))

    revise_if : (stored : Bool) → is_stored store iri ≡ stored
        → LeadsRevise (if stored then steps.revising_unrevised limits store session iri s (at_iri store.revisions iri) else steps.ending session s (revise_answer.NotStored store.version) (how.NotStored store.version))
    revise_if true is = unrevised (at_iri store.revisions iri) is refl
    revise_if false is =
        entry_leads (Revising r iri) (plain (event.Answered session s.request (how.NotStored store.version))) (same_number session)
        ∙ ap (replied r) (when (not (is_stored store iri)) (Some (outcome.NotStored store.version)) None (ap not is))

    pub revising_leads : LeadsRevise (steps.revising_stored limits store session iri s)
    revising_leads = revise_if (is_stored store iri) refl

-- ---- the steps of a history, where one is taken
module _ (limits : Limits) (stock : ℕ → Stock) (store : Store) (session : ℕ) where
  taken_is : {A : Type 0} (a b : Taken A) → Some a ≡ Some b → a ≡ b
  taken_is a b e = cc

  no_step : {A : Type 0} (t : Taken A) → None ≡ Some t → ⊥
  no_step t e = cc

  pub lack_goes : (had : Had) (r : Request) (op : Op) (envelope : Envelope) (iri : List ℕ) (t : Taken LackAnswer) → steps.lack_taken had limits store session iri ≡ Some t
      → fold (play limits stock) (Pinned r op envelope (Err (stop.Missing iri))) (own_placed_from store session t.entries) ≡ after_lack r op envelope iri t.answer
  lack_goes had r op envelope iri t is =
      subst (λ (o : Option (Taken LackAnswer)). LeadsBy limits stock store session (Pinned r op envelope (Err (stop.Missing iri))) (after_lack r op envelope iri) o) is (lack_leads limits stock store session r op envelope iri had)

  evict_found : (r : Request) (iri : List ℕ) (t : Taken EvictAnswer) (o : Option Session) → steps.of_found (λ s. steps.where_ (is_pinned s.last) (steps.evicting_stored store session iri s)) o ≡ Some t
      → fold (play limits stock) (Evicting r iri) (own_placed_from store session t.entries) ≡ after_evict r t.answer
  evict_found r iri t None is = absurd (no_step t is)
  evict_found r iri t (Some s) is = go (is_pinned s.last) is
    where
      go : (b : Bool) → steps.where_ b (steps.evicting_stored store session iri s) ≡ Some t → fold (play limits stock) (Evicting r iri) (own_placed_from store session t.entries) ≡ after_evict r t.answer
      go false is = absurd (no_step t is)
      go true is = subst (λ (t : Taken EvictAnswer). fold (play limits stock) (Evicting r iri) (own_placed_from store session t.entries) ≡ after_evict r t.answer) (taken_is (steps.evicting_stored store session iri s) t is) (evicting_leads limits stock store session r iri s)

  pub evict_goes : (r : Request) (iri : List ℕ) (t : Taken EvictAnswer) → steps.of_session store session (λ s. steps.where_ (is_pinned s.last) (steps.evicting_stored store session iri s)) ≡ Some t
      → fold (play limits stock) (Evicting r iri) (own_placed_from store session t.entries) ≡ after_evict r t.answer
  evict_goes r iri t is = evict_found r iri t (at_number store.sessions session) is

  revise_found : (r : Request) (iri : List ℕ) (apart : is_stored store iri ≡ true → is_led store iri ≡ false) (t : Taken ReviseAnswer) (o : Option Session)
      → steps.of_found (λ s. steps.where_ (is_pinned s.last) (steps.revising_stored limits store session iri s)) o ≡ Some t
      → fold (play limits stock) (Revising r iri) (own_placed_from store session t.entries) ≡ after_revise r iri t.answer
  revise_found r iri apart t None is = absurd (no_step t is)
  revise_found r iri apart t (Some s) is = go (is_pinned s.last) is
    where
      go : (b : Bool) → steps.where_ b (steps.revising_stored limits store session iri s) ≡ Some t → fold (play limits stock) (Revising r iri) (own_placed_from store session t.entries) ≡ after_revise r iri t.answer
      go false is = absurd (no_step t is)
      go true is = subst (λ (t : Taken ReviseAnswer). fold (play limits stock) (Revising r iri) (own_placed_from store session t.entries) ≡ after_revise r iri t.answer) (taken_is (steps.revising_stored limits store session iri s) t is) (revising_leads limits stock store session r iri apart s)

  pub revise_goes : (r : Request) (iri : List ℕ) → (is_stored store iri ≡ true → is_led store iri ≡ false) → (t : Taken ReviseAnswer)
      → steps.of_session store session (λ s. steps.where_ (is_pinned s.last) (steps.revising_stored limits store session iri s)) ≡ Some t
      → fold (play limits stock) (Revising r iri) (own_placed_from store session t.entries) ≡ after_revise r iri t.answer
  revise_goes r iri apart t is = revise_found r iri apart t (at_number store.sessions session) is

-- in a legal history what is stored is in no Lead flight under way
pub stored_is_unled : (limits : Limits) (entries : Entries) (iri : List ℕ) → Legal limits entries → is_stored (state entries) iri ≡ true → is_led (state entries) iri ≡ false
stored_is_unled limits entries iri legal stored = go (at_iri (state entries).leads iri) refl
  where
    go : (o : Option Flying) → at_iri (state entries).leads iri ≡ o → is_led (state entries) iri ≡ false
    go None is = ap is_some is
    go (Some lead) is = let other : is_stored (state entries) iri ≡ false = (sound limits entries (by_turns limits entries legal)).air.flights.sides kind.Lead iri lead is in cc
