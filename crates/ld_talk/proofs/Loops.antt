-- The loop of a talk.
use Rattle.std.proofs.Common.{◌≡◌, ◌∙◌, inl, ℕ, ◌≤◌, List, [], ◌∷◌, ◌++◌, take, refl, sym, subst, arith}
use Rattle.std.specs.Prelude.{None}
use Rattle.ld_edge.specs.Passing.{Comes, Goes}
use Rattle.ld_edge.specs.Sides.{Incoming, Outgoing}
use Rattle.ld_edge.proofs.Known.{comes_none, comes_then, goes_none, goes_then}
use Rattle.ld_fits.specs.Asks.{Heard}
use Rattle.ld_fits.specs.Play.{Stage, idle}
use Rattle.ld_head.specs.declared.session_end.SessionEnd.{SessionEnd}
use Rattle.ld_items.specs.Taking.{Standing, start}
use Rattle.ld_items.proofs.Saying.{said_none}
use Rattle.ld_talk.specs.Concluding.{GivesUp}
use Rattle.ld_talk.specs.Talking.{Faults, Moving, Talked, no_memory_text}
use Rattle.ld_talk.specs.Underway.{IsTalking, GoesOnOrEnds}
use Rattle.ld_talk.proofs.Talks.{talked_out_of_memory}

-- what holds before each item
pub record Talks (moves : Moving) (source source' : Incoming) (sink sink' : Outgoing) (p : Standing) : Type 0 where
  pub came : List ℕ
  pub went : List ℕ
  pub heard : List Heard
  pub comes : Comes source source' came
  pub goes : Goes sink sink' went
  pub talking : IsTalking moves came went heard p
  pub few : p.items ≤ 65535
  pub reads : source'.faults ≡ source.faults
  pub writes : sink'.faults ≡ sink.faults

pub talks_begin : (moves : Moving) (source : Incoming) (sink : Outgoing) → ((stage : Stage) → moves stage stage) → Talks moves source source sink sink start
talks_begin moves source sink none = record {
  came = [];
  went = [];
  heard = [];
  comes = comes_none source source refl refl;
  goes = goes_none sink sink refl;
  talking = record { said = said_none; told = record { moved = λ items. none (idle items []) } };
  few = omega (arith);
  reads = refl;
  writes = refl;
}

-- the talk has ended
abbrev pub HasEnded : Moving → (full : ℕ → Type 0) → (source source' : Incoming) → (sink sink' : Outgoing) → SessionEnd → Type 0
HasEnded moves full source source' sink sink' e = (came went : List ℕ) × Comes source source' came × Goes sink sink' went × Talked moves full came went source' e

module _ (before through : Moving) (full : ℕ → Type 0) (source source' : Incoming) (sink sink' : Outgoing) (p : Standing) (t : Talks before source source' sink sink' p)
    (now : Incoming) (sunk : Outgoing) (came went : List ℕ) (comes : Comes source' now came) (goes : Goes sink' sunk went) where
  -- after one item more
  pub talks_next : (q : Standing) → GoesOnOrEnds through full (t.came ++ came) (t.went ++ went) t.heard q now None → now.faults ≡ source'.faults → sunk.faults ≡ sink'.faults
      → Talks through source now sink sunk q
  talks_next q on reads writes = record {
    came = t.came ++ came;
    went = t.went ++ went;
    heard = t.heard ++ on.0 ∷ [];
    comes = comes_then source source' now t.came came t.comes comes;
    goes = goes_then sink sink' sunk t.went went t.goes goes;
    talking = on.1;
    few = on.2;
    reads = reads ∙ t.reads;
    writes = writes ∙ t.writes;
  }

  pub talks_ended : (e : SessionEnd) → Talked through full (t.came ++ came) (t.went ++ went) now e → HasEnded through full source now sink sunk e
  talks_ended e ended = (
    t.came ++ came,
    t.went ++ went,
    comes_then source source' now t.came came t.comes comes,
    goes_then sink sink' sunk t.went went t.goes goes,
    ended,
  )

  pub faults_since : (e : SessionEnd) → Faults e source'.faults now.faults sink'.faults sunk.faults → Faults e source.faults now.faults sink.faults sunk.faults
  faults_since e f =
      subst (λ (n : ℕ). Faults e n now.faults sink.faults sunk.faults) t.reads
      (subst (λ (n : ℕ). Faults e source'.faults now.faults n sunk.faults) t.writes f)

-- it ends for want of memory
module _ (before moves : Moving) (full : ℕ → Type 0) (none : (stage : Stage) → moves stage stage) (trans : (p q r : Stage) → before p q → moves q r → before p r) (source source' : Incoming) (sink sink' sunk : Outgoing) (p : Standing)
    (t : Talks before source source' sink sink' p) (e : SessionEnd) (gave : GivesUp sink' sunk e) where
  pub talks_gave_up : HasEnded before full source source' sink sunk e
  talks_gave_up =
      talks_ended before before full source source' sink sink' p t source' sunk [] ([] ++ take gave.n no_memory_text) (comes_none source' source' refl refl) gave.goes e
      (subst (λ (e : SessionEnd). Talked before full (t.came ++ []) (t.went ++ ([] ++ take gave.n no_memory_text)) source' e) (sym gave.is)
      (talked_out_of_memory before moves before full trans t.came t.went t.heard p t.talking [] source' none [] gave.n (inl refl)))
