-- Moves one after another.
use Rattle.std.proofs.Common.{◌∙◌, ℕ, ◌≤◌, List, [], ◌∷◌, ◌++◌, refl, sym, ap, subst, append_assoc, append-nil, arith}
use mathlib.Core.List.{IsPrefix}
use Rattle.ld_flight.specs.declared.given.Given as loader
use Rattle.ld_history.specs.declared.event.Event.{Event}
use Rattle.ld_history.specs.declared.event.Event.TheVariants as event
use Rattle.ld_history.specs.declared.limits.Limits.{Limits}
use Rattle.ld_rec.specs.Outcome.{Stock}
use Rattle.ld_own.specs.Own.{Placed}
use Rattle.ld_own.proofs.Adding.{adds_none, adds_trans}
use Rattle.ld_own.proofs.Loads.{gained_on, spans_on}
use Rattle.ld_fits.specs.Fits.{AgreeUpTo, Goes, PinWithin, pins_within}
use Rattle.ld_fits.specs.Play.{Stage}
use Rattle.ld_fits.proofs.Staying.{leads_on}
use Rattle.ld_book.specs.Pages.{Booked, Pages, entries_of}
use Rattle.ld_moves.specs.Moving.{Finds, Moves, Place, place, version_in}
use Rattle.ld_moves.specs.Stocks.{IsSound, stocks}
use Rattle.ld_moves.proofs.Staying.{stocks_stay_on, versions_rise}

pub prefix_trans : {A : Type 0} (xs ys zs : List A) → IsPrefix xs ys → IsPrefix ys zs → IsPrefix xs zs
prefix_trans xs ys zs p q = (p.0 ++ q.0, sym (append_assoc xs p.0 q.0) ∙ ap (λ l. l ++ q.0) p.1 ∙ q.1)

pub prefix_itself : {A : Type 0} (xs : List A) → IsPrefix xs xs
prefix_itself xs = ([], append-nil xs)

-- pins within a version are within each later one
within_event : (n m : ℕ) (e : Event (List ℕ)) → n ≤ m → pins_within n e → pins_within m e
within_event n m (event.Pinned session request attempt version) le h = omega (arith, le, h)
within_event n m (event.Opened session seat) le h = tt
within_event n m (event.Found session iri) le h = tt
within_event n m (event.Led session iri flight) le h = tt
within_event n m (event.Joined session iri flight) le h = tt
within_event n m (event.Published flight version) le h = tt
within_event n m (event.Failed flight before after) le h = tt
within_event n m (event.Lapsed flight) le h = tt
within_event n m (event.Evicted session iri version) le h = tt
within_event n m (event.ReviseLed session iri flight) le h = tt
within_event n m (event.Same flight) le h = tt
within_event n m (event.Answered session request how) le h = tt
within_event n m (event.Closed session) le h = tt

pub within_on : (n m : ℕ) (xs ys : List Placed) → n ≤ m → PinWithin n xs → PinWithin m ys → PinWithin m (xs ++ ys)
within_on n m [] ys le h k = k
within_on n m (p ∷ xs) ys le h k = (within_event n m p.entry.event le h.0, within_on n m xs ys le h.1 k)

-- what leads on from the stocks of a front leads on from those of the book that it is a front of
agree_front : (limits : Limits) (front back : Pages) → IsSound limits back → IsPrefix front back → (later : ℕ → Stock) → AgreeUpTo (version_in back) (stocks back) later → AgreeUpTo (version_in front) (stocks front) later
agree_front limits front back sound grows later agree version le =
    let rises = versions_rise limits front back sound grows in
    agree version (omega (arith, le, rises)) ∙ stocks_stay_on limits front back version sound grows le

pub none_moves : (session : ℕ) (p : Place) → IsSound p.limits p.pages → Moves session p p
none_moves session p sound = record {
  limits_are = refl;
  sound = sound;
  grows = prefix_itself p.pages;
  mine = [];
  adds = adds_none session (entries_of p.pages);
  pins = tt;
  goes = λ later agree. refl;
  gained = [];
  gives = refl;
  given_are = sym (append-nil p.given);
  spans = omega arith;
}

pub more_moves : (session : ℕ) (a b c : Place) → Moves session a b → Moves session b c → Moves session a c
more_moves session a b c m n =
    let sound : IsSound b.limits c.pages = subst (λ (limits : Limits). IsSound limits c.pages) n.limits_are n.sound in
    let rises = versions_rise b.limits b.pages c.pages sound n.grows in
    record {
      limits_are = n.limits_are ∙ m.limits_are;
      sound = n.sound;
      grows = prefix_trans a.pages b.pages c.pages m.grows n.grows;
      mine = m.mine ++ n.mine;
      adds = adds_trans session (entries_of a.pages) (entries_of b.pages) (entries_of c.pages) m.mine n.mine m.adds n.adds;
      pins = within_on (version_in b.pages) (version_in c.pages) m.mine n.mine rises m.pins n.pins;
      goes = λ later agree.
          leads_on a.limits later a.stage b.stage c.stage m.mine n.mine (m.goes later (agree_front b.limits b.pages c.pages sound n.grows later agree))
          (subst (λ (limits : Limits). Goes limits (version_in c.pages) (stocks c.pages) b.stage n.mine c.stage) m.limits_are n.goes later agree);
      gained = m.gained ++ n.gained;
      gives = gained_on m.mine n.mine m.gained n.gained m.gives n.gives;
      given_are = n.given_are ∙ ap (λ l. l ++ n.gained) m.given_are ∙ append_assoc a.given m.gained n.gained;
      spans = spans_on a.faults b.faults c.faults m.mine n.mine m.spans n.spans;
    }

module _ (session : ℕ) (limits : Limits) (front : Pages) (found : Booked) (f : Finds session limits front found) (given : List loader.Given) (faults : ℕ) (stage : Stage) where
  pub waits_moves : Moves session (place limits front given faults stage) (place limits found.pages given faults stage)
  waits_moves = record {
    limits_are = refl;
    sound = f.sound;
    grows = f.grows;
    mine = [];
    adds = f.quiet;
    pins = tt;
    goes = λ later agree. refl;
    gained = [];
    gives = refl;
    given_are = sym (append-nil given);
    spans = omega arith;
  }
