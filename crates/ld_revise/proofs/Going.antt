-- What a session's turns come to adds up.
use Rattle.std.proofs.Common.{◌≡◌, ◌∙◌, ℕ, ◌≤◌, true, List, [], ◌∷◌, ◌++◌, refl, sym, ap, subst, append_assoc, append-nil, arith}
use Rattle.std.specs.Prelude.{◌==◌}
use mathlib.Core.List.{IsPrefix}
use Rattle.ld_fits.specs.Play.{Stage}
use Rattle.ld_flight.specs.Loads.{Loading}
use Rattle.ld_history.specs.Counts.{owner}
use Rattle.ld_history.specs.Legal.{Entries, state}
use Rattle.ld_history.specs.Steps.{plain}
use Rattle.ld_history.specs.declared.event.Event.{Event}
use Rattle.ld_history.specs.declared.limits.Limits.{Limits}
use Rattle.ld_rec.specs.Outcome.{Stock}
use Rattle.ld_book.specs.Pages.{Booked, Pages, bare, entries_of}
use Rattle.ld_own.specs.Adding.{Adds}
use Rattle.ld_own.specs.Loads.{BringsBy, after_fault}
use Rattle.ld_own.specs.Own.{Placed, placed}
use Rattle.ld_own.proofs.Adding.{adds_none, adds_one, adds_trans}
use Rattle.ld_own.proofs.Loads.{gained_on, spans_on}
use Rattle.ld_moves.specs.Stocks.{IsSound}
use Rattle.ld_moves.proofs.Joining.{prefix_itself, prefix_trans}
use Rattle.ld_moves.proofs.Quiet.{entries_bare}
use Rattle.ld_moves.proofs.Staying.{entries_on, stocks_stay_on, versions_rise}
use Rattle.ld_session.specs.Serving.{Moved}
use Rattle.ld_session.proofs.Moving.{took_sound}
use Rattle.ld_visit.specs.Visits.{Took, Visiting}
use Rattle.ld_revise.specs.Walking.{Holds, Went}

-- what holds of a front goes on to hold
pub holds_on : (limits : Limits) (front later : Pages) → IsSound limits later → IsPrefix front later → (P : (ℕ → Stock) → Type 0) → Holds front P → Holds later P
holds_on limits front later sound grows P h stock agree =
    let rises = versions_rise limits front later sound grows in
    h stock (λ version le. agree version (omega (arith, le, rises)) ∙ stocks_stay_on limits front later version sound grows le)

pub went_none : (v : Visiting) (loader : Loading) → IsSound v.limits v.pages → Went v v loader loader []
went_none v loader sound = record {
  lock_is = refl;
  number_is = refl;
  session_is = refl;
  limits_are = refl;
  sound = sound;
  grows = prefix_itself v.pages;
  adds = adds_none v.session (entries_of v.pages);
  gained = [];
  gives = refl;
  given_are = sym (append-nil loader.given);
  spans = omega arith;
}

pub went_more : (a b c : Visiting) (x y z : Loading) (xs ys : List Placed) → Went a b x y xs → Went b c y z ys → Went a c x z (xs ++ ys)
went_more a b c x y z xs ys m n = record {
  lock_is = n.lock_is ∙ m.lock_is;
  number_is = n.number_is ∙ m.number_is;
  session_is = n.session_is ∙ m.session_is;
  limits_are = n.limits_are ∙ m.limits_are;
  sound = n.sound;
  grows = prefix_trans a.pages b.pages c.pages m.grows n.grows;
  adds = adds_trans a.session (entries_of a.pages) (entries_of b.pages) (entries_of c.pages) xs ys m.adds
      (subst (λ (s : ℕ). Adds s (entries_of b.pages) ys (entries_of c.pages)) m.session_is n.adds);
  gained = m.gained ++ n.gained;
  gives = gained_on xs ys m.gained n.gained m.gives n.gives;
  given_are = n.given_are ∙ ap (λ l. l ++ n.gained) m.given_are ∙ append_assoc x.given m.gained n.gained;
  spans = spans_on x.faults y.faults z.faults xs ys m.spans n.spans;
}

-- what was moved went so
pub went_moved : (a b : Visiting) (x y : Loading) (from to : Stage) (m : Moved a b x y from to) → Went a b x y m.moves.mine
went_moved a b x y from to m = record {
  lock_is = m.lock_is;
  number_is = m.number_is;
  session_is = m.session_is;
  limits_are = m.moves.limits_are;
  sound = m.moves.sound;
  grows = m.moves.grows;
  adds = m.moves.adds;
  gained = m.moves.gained;
  gives = m.moves.gives;
  given_are = m.moves.given_are;
  spans = m.moves.spans;
}

-- ---- a turn
module _ (visit later : Visiting) (step : Booked → Pages → Type 0) (t : Took visit later step) where
  -- nothing came
  pub went_still : (loader : Loading) → later.pages ≡ t.found.pages → Went visit later loader loader []
  went_still loader is = record {
    lock_is = t.lock_is;
    number_is = t.number_is;
    session_is = t.session_is;
    limits_are = t.limits_are;
    sound = took_sound visit later step t;
    grows = subst (IsPrefix visit.pages) (sym is) t.finds.grows;
    adds = subst (λ (pages : Pages). Adds visit.session (entries_of visit.pages) [] (entries_of pages)) (sym is) t.finds.quiet;
    gained = [];
    gives = refl;
    given_are = sym (append-nil loader.given);
    spans = omega arith;
  }

  -- one entry came, at which no flight ended
  module _ (e : Event (List ℕ)) (is : later.pages ≡ t.found.pages ++ bare (plain e ∷ [])) (own : (owner (state (entries_of t.found.pages)) e == visit.session) ≡ true) where
    abbrev pub came : Placed
    came = placed (state (entries_of t.found.pages)) (plain e)

    entries_came : entries_of later.pages ≡ entries_of t.found.pages ++ plain e ∷ []
    entries_came = ap entries_of is ∙ entries_on t.found.pages (bare (plain e ∷ [])) ∙ ap (λ (es : Entries). entries_of t.found.pages ++ es) (entries_bare (plain e ∷ []))

    pub went_one : (loader : Loading) → BringsBy came e [] → ((low : ℕ) → after_fault e low (λ count. count ≤ low)) → Went visit later loader loader (came ∷ [])
    went_one loader brings spans = record {
      lock_is = t.lock_is;
      number_is = t.number_is;
      session_is = t.session_is;
      limits_are = t.limits_are;
      sound = took_sound visit later step t;
      grows = subst (IsPrefix visit.pages) (sym is) (prefix_trans visit.pages t.found.pages (t.found.pages ++ bare (plain e ∷ [])) t.finds.grows (bare (plain e ∷ []), refl));
      adds = adds_trans visit.session (entries_of visit.pages) (entries_of t.found.pages) (entries_of later.pages) [] (came ∷ []) t.finds.quiet
          (subst (Adds visit.session (entries_of t.found.pages) (came ∷ [])) (sym entries_came) (adds_one visit.session (entries_of t.found.pages) (plain e) own));
      gained = [];
      gives = ([], [], brings, refl, refl);
      given_are = sym (append-nil loader.given);
      spans = spans loader.faults;
    }
