-- How far the requests of a round came, one after another.
use Rattle.std.proofs.Common.{◌≡◌, ◌∙◌, inl, inr, ℕ, false, List, [], ◌∷◌, ◌++◌, refl, sym, ap, subst, append_assoc}
use Rattle.std.specs.Prelude.{Err}
use Rattle.ld_flight.specs.Loads.{Loading}
use Rattle.ld_head.specs.declared.outcome.Outcome.{Outcome}
use Rattle.ld_history.specs.declared.limits.Limits.{Limits}
use Rattle.ld_history.specs.declared.session.Last.TheVariants as last
use Rattle.ld_book.specs.declared.answers.RoomRefusal.{RoomRefusal}
use Rattle.ld_book.specs.declared.answers.RoomRefusal.TheVariants as room
use Rattle.ld_fits.specs.Asks.{Eviction}
use Rattle.ld_own.specs.Own.{Placed}
use Rattle.ld_moves.specs.Standing.{Stands}
use Rattle.ld_moves.specs.Stocks.{IsSound}
use Rattle.ld_rec.specs.Outcome.{Stock}
use Rattle.ld_session.specs.Serving.{IsFull}
use Rattle.ld_session.proofs.Requesting.{unmade_requested}
use Rattle.ld_session.proofs.Turning.{refused_idle}
use Rattle.ld_visit.specs.Taking.{Pins}
use Rattle.ld_visit.specs.Visits.{Took, Visiting}
use Rattle.ld_revise.specs.Rounds.{Come, LackedAt, Revises, is_counted}
use Rattle.ld_revise.specs.Walking.{Made, Reached, Sums, end_by}
use Rattle.ld_revise.specs.declared.round.RoundEnd.{RoundEnd}
use Rattle.ld_revise.specs.declared.round.RoundEnd.TheVariants as ending
use Rattle.ld_revise.specs.declared.tally.Tally.{Tally}
use Rattle.ld_revise.proofs.Counting.{sums_more, sums_none}
use Rattle.ld_revise.proofs.Going.{holds_on, went_more, went_none, went_still}

lacked_none : (limits : Limits) (stock : ℕ → Stock) (iris : List (List ℕ)) → LackedAt limits stock iris []
lacked_none limits stock [] = refl
lacked_none limits stock (iri ∷ iris) = inl refl

-- one request first
come_next : (limits : Limits) (stock : ℕ → Stock) (full : ℕ → Type 0) (e : RoundEnd) (iri : List ℕ) (iris : List (List ℕ)) (o : Outcome) (outcomes : List Outcome) (first rest : List Placed)
    → Revises limits stock iri o first → Come limits stock full e iris outcomes rest → Come limits stock full e (iri ∷ iris) (o ∷ outcomes) (first ++ rest)
come_next limits stock full ending.Done iri iris o outcomes first rest h c = (first, rest, refl, h, c)
come_next limits stock full (ending.HistoryFull events) iri iris o outcomes first rest h c =
    (c.0, iri ∷ c.1, (c.2.0, ap (λ (l : List (List ℕ)). iri ∷ l) c.2.1), (first, rest, refl, h, c.3))
come_next limits stock full ending.NoMemory iri iris o outcomes first rest h c = record {
  done = iri ∷ c.done;
  rest = c.rest;
  names_are = ap (λ (l : List (List ℕ)). iri ∷ l) c.names_are;
  front = first ++ c.front;
  last = c.last;
  are = ap (λ (l : List Placed). first ++ l) c.are ∙ sym (append_assoc first c.front c.last);
  revised = (first, c.front, refl, h, c.revised);
  lacked = c.lacked;
}

pub reached_done : (v : Visiting) (loader : Loading) (t : Tally) → IsSound v.limits v.pages → Stands v.pages v.session last.Idle → Reached v v loader loader [] t t ending.Done []
reached_done v loader t sound idle = record { went = went_none v loader sound; idle = idle; outcomes = []; sums = sums_none t; come = λ stock agree. refl }

module _ (visit mid : Visiting) (x y : Loading) (iri : List ℕ) (o : Outcome) (first : List Placed) (m : Made visit mid x y iri o first) where
  pub reached_next : (later : Visiting) (z : Loading) (iris : List (List ℕ)) (t u w : Tally) (e : RoundEnd) (rest : List Placed) → Sums t (o ∷ []) u → Reached mid later y z iris u w e rest
      → Reached visit later x z (iri ∷ iris) t w e (first ++ rest)
  reached_next later z iris t u w e rest one r = record {
    went = went_more visit mid later x y z first rest m.went r.went;
    idle = r.idle;
    outcomes = o ∷ r.outcomes;
    sums = sums_more t u w o r.outcomes one r.sums;
    come = λ stock agree.
        come_next visit.limits stock (IsFull later.limits later.pages) e iri iris o r.outcomes first rest
        (holds_on later.limits mid.pages later.pages r.went.sound r.went.grows (λ s. Revises visit.limits s iri o first) m.revises stock agree)
        (subst (λ (l : Limits). Come l stock (IsFull later.limits later.pages) e iris r.outcomes rest) m.went.limits_are (r.come stock agree));
  }

  -- it wasn't counted
  pub reached_lacked : is_counted o ≡ false → (iris : List (List ℕ)) (t : Tally) → Reached visit mid x y (iri ∷ iris) t t ending.NoMemory first
  reached_lacked other iris t = record {
    went = m.went;
    idle = m.idle;
    outcomes = [];
    sums = sums_none t;
    come = λ stock agree. record { done = []; rest = iri ∷ iris; names_are = refl; front = []; last = first; are = refl; revised = refl; lacked = inr (o, other, m.revises stock agree) };
  }

-- no version was pinned
module _ (visit later : Visiting) (loader : Loading) where
  refused_come : (refusal : RoomRefusal) → Took visit later (Pins visit.session (Err refusal)) → Stands visit.pages visit.session last.Idle → (iris : List (List ℕ)) (limits : Limits) (stock : ℕ → Stock)
      → Come limits stock (IsFull later.limits later.pages) (end_by refusal) iris [] []
  refused_come room.NoMemory p idle iris limits stock = record { done = []; rest = iris; names_are = refl; front = []; last = []; are = refl; revised = refl; lacked = lacked_none limits stock iris }
  refused_come (room.HistoryFull events) p idle iris limits stock = ((unmade_requested visit later (room.HistoryFull events) p idle loader (Eviction [])).replied.0, [], (iris, refl), refl)

  refused_pages : (refusal : RoomRefusal) (p : Took visit later (Pins visit.session (Err refusal))) → later.pages ≡ p.found.pages
  refused_pages refusal p = p.took.1

  pub reached_refused : (refusal : RoomRefusal) → Took visit later (Pins visit.session (Err refusal)) → Stands visit.pages visit.session last.Idle → (iris : List (List ℕ)) (t : Tally)
      → Reached visit later loader loader iris t t (end_by refusal) []
  reached_refused refusal p idle iris t = record {
    went = went_still visit later (Pins visit.session (Err refusal)) p loader (refused_pages refusal p);
    idle = refused_idle visit later refusal p last.Idle idle;
    outcomes = [];
    sums = sums_none t;
    come = λ stock agree. refused_come refusal p idle iris visit.limits stock;
  }
