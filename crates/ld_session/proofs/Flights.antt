-- What the end of a flight moves that the session led, and a look at one.
use Rattle.std.proofs.Common.{◌≡◌, ◌∙◌, ℕ, ◌<◌, ◌≤◌, ◌++◌, ◌∷◌, [], List, length, true, refl, sym, ap, subst, arith, inl, inr}
use Rattle.std.specs.Prelude.{IfErr, Result, Option, Some, None, Ok, Err, is_some, map}
use mathlib.Core.List.{IsPrefix}
use Rattle.std.specs.Option.{option_map}
use Rattle.sha2.specs.Sha256.{sha256}
use Rattle.ld_rec.specs.Documents.{Keeps, text_limit}
use Rattle.ld_rec.specs.declared.doc.Doc.{Doc}
use Rattle.ld_rec.specs.declared.stored.Stored.{Stored}
use Rattle.ld_rec.specs.declared.stored.Stored.TheVariants.{Read, Unreadable, Oversize}
use Rattle.ld_edge.specs.Faults.{Rose}
use Rattle.ld_fits.specs.Play.{Stage}
use Rattle.ld_flight.specs.Loads.{IsDocument, Loading, entry_of, longest_text}
use Rattle.ld_flight.specs.Passes as passes
use Rattle.ld_flight.specs.Readied.{Readied, Tells, text_in}
use Rattle.ld_flight.specs.declared.given.Given as loader
use Rattle.ld_history.specs.Legal.{state}
use Rattle.ld_history.specs.Rules.{end_of}
use Rattle.ld_history.specs.Steps.{Taken, appended, fail_step, lapse_step, publish_step}
use Rattle.ld_history.specs.Words.{flight_at}
use Rattle.ld_history.specs.declared.answers.PublishAnswer.{PublishAnswer}
use Rattle.ld_history.specs.declared.answers.PublishAnswer.TheVariants as answers
use Rattle.ld_history.specs.declared.session.End.{End}
use Rattle.ld_history.specs.declared.session.End.TheVariants as end
use Rattle.ld_history.specs.declared.session.Flight.{Flight}
use Rattle.ld_history.specs.declared.session.Session.{Session}
use Rattle.ld_book.specs.Pages.{Booked, Pages, after_answer, after_step, bare, entries_of, given_of, history_of, page_of}
use Rattle.ld_book.specs.Said.{Says, told_end, told_publish}
use Rattle.ld_book.specs.declared.answers.LookAnswer.{LookAnswer}
use Rattle.ld_book.specs.declared.answers.LookAnswer.TheVariants as looks
use Rattle.ld_book.specs.declared.answers.PublishAnswer as published
use Rattle.ld_book.specs.declared.answers.PublishAnswer.TheVariants as publishing
use Rattle.ld_moves.specs.Moving.{Finds, Moves, place}
use Rattle.ld_moves.specs.Stocks.{IsSound}
use Rattle.ld_moves.specs.Standing.{IsFlightAt, IsGiven, IsOpenAt, IsWaiting, end_by}
use Rattle.ld_moves.proofs.Joining.{prefix_itself, prefix_trans}
use Rattle.ld_moves.proofs.Keeping.{led_found, of_stays}
use Rattle.ld_moves.proofs.Landing as moving
use Rattle.ld_moves.proofs.Publishing.{publish_ends, publish_moves, publish_stands}
use Rattle.ld_visit.specs.Ending.{Ended, IsLeading}
use Rattle.ld_visit.specs.Taking.{Lands, Looks, Takes}
use Rattle.ld_visit.specs.Visits.{Took, Visiting}
use Rattle.ld_session.specs.Landing.{GainsAtMostOne, Landed, Waited, end_of_landing, landing_by}
use Rattle.ld_session.specs.declared.landing.Landing.{Landing}
use Rattle.ld_session.specs.declared.landing.Landing.TheVariants as landing
use Rattle.ld_session.specs.Adding.{moved_more, moved_none}
use Rattle.ld_session.proofs.Moving.{still_stands, took_moved, took_none, took_sound, took_standing}

-- ---- what is read of a loaded text
kept_text : (text : List ℕ) (body : Stored) → Keeps text body → (t : List ℕ) → text_in body ≡ Some t → t ≡ text
kept_text text (Read kept tree) keeps t is = let same = keeps.0 in cc
kept_text text (Unreadable kept) keeps t is = let same = keeps.0 in cc
kept_text text Oversize keeps t is = cc

left_out : (text : List ℕ) (body : Stored) → Keeps text body → text_in body ≡ None → text_limit < length text
left_out text (Read kept tree) keeps is = cc
left_out text (Unreadable kept) keeps is = cc
left_out text Oversize keeps is = keeps

pub tells_of : (doc : Doc) (url text : List ℕ) (size : ℕ) (mark : List ℕ) → IsDocument doc url text → size ≡ length text → mark ≡ sha256 text → length text ≤ longest_text → Tells doc size mark
tells_of doc url text size mark is sized marked short = record {
  short = omega (arith, sized, short);
  sized = λ t at. sized ∙ ap length (sym (kept_text text doc.body is.keeps t at));
  marked = λ t at. marked ∙ ap sha256 (sym (kept_text text doc.body is.keeps t at));
  left_out = λ none. let long = left_out text doc.body is.keeps none in omega (arith, sized, short, long);
}

-- ---- pages that came
grows_on : (front found since : Pages) → IsPrefix front found → IsPrefix front (found ++ since)
grows_on front found since p = prefix_trans front found (found ++ since) p (since, refl)

on_step : {A : Type 0} (front : Pages) (found : Booked) (o : Option (Taken A)) → IsPrefix front found.pages → IsPrefix front (after_step found o).pages
on_step front found o p = grows_on front found.pages (bare (appended o)) p

-- ---- a flight that the session leads
module _ (visit : Visiting) (pass : passes.Flight) (lead : IsLeading visit.pages visit.session pass) where
  abbrev led : Flight
  led = record { iri = pass.iri; kind = lead.kind; session = visit.session; end = end.UnderWay }

  led_there : (found : Booked) → Finds visit.session visit.limits visit.pages found → IsFlightAt found.pages pass.number led
  led_there found f = led_found visit.session visit.limits visit.pages found f pass.number led refl lead.is

  module _ (later : Visiting) (step : Booked → Pages → Type 0) (t : Took visit later step) (pages : Pages) (is : later.pages ≡ pages) where
    landed_by : (before after : Loading) (how : Landing) → IsPrefix visit.pages pages
        → ((stage : Stage) → IsWaiting stage → Moves visit.session (place visit.limits visit.pages before.given before.faults stage) (place visit.limits pages after.given after.faults stage))
        → ((s : Session) → IsOpenAt t.found.pages visit.session s → IsOpenAt pages visit.session s)
        → end_of (state (entries_of pages)) pass.number ≡ Some (end_of_landing how) → Landed visit later before after pass.number how
    landed_by before after how grows moves stands ends = record {
      waited = record {
        lock_is = t.lock_is;
        grows = subst (λ (p : Pages). IsPrefix visit.pages p) (sym is) grows;
        sound = took_sound visit later step t;
        moved = λ stage waits. took_moved visit later step t pages is before after stage stage (moves stage waits);
        stands = took_standing visit later step t pages is stands;
      };
      ended = subst (λ (p : Pages). end_of (state (entries_of p)) pass.number ≡ Some (end_of_landing how)) (sym is) ends;
    }

  -- it lapsed
  pub lapsed : (later : Visiting) → Took visit later (Takes (λ found. lapse_step (history_of found) pass.number)) → (before after : Loading) → GainsAtMostOne pass before after
      → Landed visit later before after pass.number landing.Lapsed
  lapsed later t before after g =
      let there = led_there t.found t.finds in
      let pages = (after_step t.found (lapse_step (history_of t.found) pass.number)).pages in
      landed_by later (Takes (λ found. lapse_step (history_of found) pass.number)) t pages t.took.2 before after landing.Lapsed (on_step visit.pages t.found (lapse_step (history_of t.found) pass.number) t.finds.grows)
      (λ stage waits. subst (λ (gs : List loader.Given). Moves visit.session (place visit.limits visit.pages before.given before.faults stage) (place visit.limits pages gs after.faults stage)) (sym g.given_are)
      (subst (λ (n : ℕ). Moves visit.session (place visit.limits visit.pages before.given before.faults stage) (place visit.limits pages (before.given ++ g.gained) n stage)) (sym g.count)
      (moving.lapse_moves visit.session visit.limits visit.pages t.found t.finds pass.number led refl there t.took.0 t.took.1 stage waits before.given g.gained before.faults g.one)))
      (moving.lapse_stands visit.session visit.limits visit.pages t.found t.finds pass.number led refl there t.took.0 t.took.1)
      (moving.lapse_ends visit.session visit.limits visit.pages t.found t.finds pass.number led refl there t.took.0 t.took.1)

  -- its load failed
  pub failed : (later : Visiting) (low high : ℕ) → Took visit later (Takes (λ found. fail_step (history_of found) pass.number low high)) → Rose low high
      → (before after : Loading) → after.given ≡ before.given → low ≡ before.faults → high ≡ after.faults → Landed visit later before after pass.number (landing.Failed low high)
  failed later low high t rose before after same from to =
      let there = led_there t.found t.finds in
      let pages = (after_step t.found (fail_step (history_of t.found) pass.number low high)).pages in
      landed_by later (Takes (λ found. fail_step (history_of found) pass.number low high)) t pages t.took.2 before after (landing.Failed low high) (on_step visit.pages t.found (fail_step (history_of t.found) pass.number low high) t.finds.grows)
      (λ stage waits. subst (λ (gs : List loader.Given). Moves visit.session (place visit.limits visit.pages before.given before.faults stage) (place visit.limits pages gs after.faults stage)) (sym same)
      (subst (λ (n : ℕ). Moves visit.session (place visit.limits visit.pages before.given before.faults stage) (place visit.limits pages before.given n stage)) to
      (moving.fail_moves visit.session visit.limits visit.pages t.found t.finds pass.number led refl there low high t.took.0 t.took.1 rose stage waits before.given before.faults (omega (arith, from)))))
      (moving.fail_stands visit.session visit.limits visit.pages t.found t.finds pass.number led refl there low high t.took.0 t.took.1)
      (moving.fail_ends visit.session visit.limits visit.pages t.found t.finds pass.number led refl there low high t.took.0 t.took.1)

-- ---- an answer that came
pub says_taken : {A B : Type 0} (told : A → B) (o : Option (Taken A)) (answer : B) → Says told o answer → (t : Taken A) × (o ≡ Some t) × (told t.answer ≡ answer)
says_taken told None answer e = cc
says_taken told (Some t) answer e = (t, refl, cc)

end_told : (a : PublishAnswer) (b : published.PublishAnswer) → told_publish a ≡ b → end_by a ≡ end_of_landing (landing_by b)
end_told (answers.Published version) (publishing.Published other) e = cc
end_told answers.Same (publishing.Published other) e = cc
end_told (answers.Published version) publishing.Same e = cc
end_told answers.Same publishing.Same e = refl

module _ (visit : Visiting) (ready : Readied) (lead : IsLeading visit.pages visit.session ready.pass) (tells : Tells ready.doc ready.length ready.mark) where
  pub landed : (E : Type 0) (later : Visiting) (answer : published.PublishAnswer) → Took visit later (Lands {E = E} ready (Ok answer)) → (url text : List ℕ) → IsDocument ready.doc url text
      → ready.length ≡ length text → ready.mark ≡ sha256 text
      → (before after : Loading) → after.given ≡ before.given ++ entry_of ready.pass url text ∷ [] → after.faults ≡ before.faults → Landed visit later before after ready.pass.number (landing_by answer)
  landed E later answer t url text document sized marked before after given same =
      let pass = ready.pass in
      let flight : Flight = led visit pass lead in
      let there = led_there visit pass lead t.found t.finds in
      let step = publish_step (history_of t.found) pass.number (given_of ready) in
      let some = says_taken told_publish step answer t.took.0 in
      let pages = (after_answer t.found step ready.doc).pages in
      let is_given : IsGiven pass.number flight.iri ready (entry_of pass url text) = record { number_is = refl; iri_is = refl; url_is = sym document.url_is; length_is = sym sized; mark_is = sym marked } in
      landed_by visit pass lead later (Lands {E = E} ready (Ok answer)) t pages t.took.1 before after (landing_by answer) (grows_on visit.pages t.found.pages (map (page_of ready.doc) (appended step)) t.finds.grows)
      (λ stage waits. subst (λ (gs : List loader.Given). Moves visit.session (place visit.limits visit.pages before.given before.faults stage) (place visit.limits pages gs after.faults stage)) (sym given)
      (subst (λ (n : ℕ). Moves visit.session (place visit.limits visit.pages before.given before.faults stage) (place visit.limits pages (before.given ++ entry_of pass url text ∷ []) n stage)) (sym same)
      (publish_moves visit.session visit.limits visit.pages t.found t.finds pass.number flight refl there ready tells some.0 some.1 before.given (entry_of pass url text) is_given before.faults stage waits)))
      (publish_stands visit.session visit.limits visit.pages t.found t.finds pass.number flight refl there ready tells some.0 some.1)
      (publish_ends visit.session visit.limits visit.pages t.found t.finds pass.number flight refl there ready tells some.0 some.1 ∙ ap Some (end_told some.0.answer answer some.2))

-- what comes back of a publish that was refused
pub refused_back : {E : Type 0} (r : Result published.PublishAnswer (Readied × E)) (back : Readied) (e : E) (ready : Readied) → r ≡ Err (back, e) → IfErr r (λ x. x.0 ≡ ready) → back ≡ ready
refused_back {E} r back e ready is h = subst (λ x. IfErr x (λ y. y.0 ≡ ready)) is h

-- a publish that was refused leaves all as it was
module _ (E : Type 0) (visit later : Visiting) (ready : Readied) (e : E) (t : Took visit later (Lands {E = E} ready (Err e))) where
  pub still_leads : IsLeading visit.pages visit.session ready.pass → IsLeading later.pages later.session ready.pass
  still_leads lead =
      let pass = ready.pass in
      record {
        kind = lead.kind;
        is = subst (λ (n : ℕ). IsFlightAt later.pages pass.number (record { iri = pass.iri; kind = lead.kind; session = n; end = end.UnderWay })) (sym t.session_is)
            (subst (λ (p : Pages). IsFlightAt p pass.number (led visit pass lead)) (sym t.took) (led_there visit pass lead t.found t.finds));
      }

  pub landed_later : (last : Visiting) (before after : Loading) (flight : ℕ) (how : Landing) → Landed later last before after flight how → Landed visit last before after flight how
  landed_later last before after flight how h = record {
    waited = record {
      lock_is = h.waited.lock_is ∙ t.lock_is;
      grows = prefix_trans visit.pages later.pages last.pages (subst (λ (p : Pages). IsPrefix visit.pages p) (sym t.took) t.finds.grows) h.waited.grows;
      sound = h.waited.sound;
      moved = λ stage waits. moved_more visit later last before before after stage stage stage (took_none visit later (Lands {E = E} ready (Err e)) t t.took stage before) (h.waited.moved stage waits);
      stands = λ l s. h.waited.stands l (still_stands visit later (Lands {E = E} ready (Err e)) t t.took l s);
    };
    ended = h.ended;
  }

-- ---- a flight of another session
pub waited_none : (v : Visiting) (loader : Loading) → IsSound v.limits v.pages → Waited v v loader loader
waited_none v loader sound = record { lock_is = refl; grows = prefix_itself v.pages; sound = sound; moved = λ stage waits. moved_none v loader stage sound; stands = λ l h. h }

-- a look at it, after a while
pub waited_more : (v a b : Visiting) (step : Booked → Pages → Type 0) (t : Took a b step) → b.pages ≡ t.found.pages → (loader : Loading) → Waited v a loader loader → Waited v b loader loader
waited_more v a b step t is loader w = record {
  lock_is = t.lock_is ∙ w.lock_is;
  grows = prefix_trans v.pages a.pages b.pages w.grows (subst (λ (p : Pages). IsPrefix a.pages p) (sym is) t.finds.grows);
  sound = took_sound a b step t;
  moved = λ stage waits. moved_more v a b loader loader loader stage stage stage (w.moved stage waits) (took_none a b step t is stage loader);
  stands = λ l h. still_stands a b step t is l (w.stands l h);
}

-- how it is seen
abbrev end_seen : LookAnswer → End
end_seen looks.Flying = end.UnderWay
end_seen (looks.Published version) = end.Published version
end_seen looks.Same = end.Same
end_seen (looks.Failed before after) = end.Failed before after
end_seen looks.Lapsed = end.Lapsed

seen_back : (e : End) → end_seen (told_end e) ≡ e
seen_back end.UnderWay = refl
seen_back (end.Published version) = refl
seen_back end.Same = refl
seen_back (end.Failed before after) = refl
seen_back end.Lapsed = refl

some_same : {A : Type 0} (a b : A) → Some a ≡ Some b → a ≡ b
some_same a b e = cc

pub seen_ended : (o : Option End) (seen : LookAnswer) (how : Landing) → option_map told_end o ≡ Some seen → seen ≡ told_end (end_of_landing how) → o ≡ Some (end_of_landing how)
seen_ended None seen how p q = cc
seen_ended (Some e) seen how p q = ap Some (sym (seen_back e) ∙ ap end_seen (some_same (told_end e) seen p ∙ q) ∙ seen_back (end_of_landing how))

-- a loader that gave nothing yet
pub no_loader : Loading
no_loader = record { given = []; held = λ iri. None; faults = 0 }

pub led_on : (front later : Pages) → IsPrefix front later → (flight : ℕ) → is_some (flight_at (state (entries_of front)).flights flight) ≡ true → is_some (flight_at (state (entries_of later)).flights flight) ≡ true
led_on front later p flight is = go (flight_at (state (entries_of front)).flights flight) refl is
  where
    go : (o : Option Flight) → flight_at (state (entries_of front)).flights flight ≡ o → is_some o ≡ true → is_some (flight_at (state (entries_of later)).flights flight) ≡ true
    go (Some f) at h = ap is_some (of_stays front later p flight f.iri (record { flight = f; is = at; iri_is = refl })).is
    go None at h = cc

pub seen_landed : (v a b : Visiting) (flight : ℕ) (seen : LookAnswer) (t : Took a b (Looks flight seen)) (how : Landing) → seen ≡ told_end (end_of_landing how) → (loader : Loading) → Waited v a loader loader → Landed v b loader loader flight how
seen_landed v a b flight seen t how is loader w = record {
  waited = waited_more v a b (Looks flight seen) t t.took.1 loader w;
  ended = subst (λ (p : Pages). end_of (state (entries_of p)) flight ≡ Some (end_of_landing how)) (sym t.took.1) (seen_ended (end_of (state (entries_of t.found.pages)) flight) seen how t.took.0 is);
}
