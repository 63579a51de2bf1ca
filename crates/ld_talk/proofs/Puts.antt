-- What goes out for an item, and how the talk goes on from it.
use Rattle.std.proofs.Common.{◌≡◌, ◌∙◌, ◌≤◌, ℕ, Bool, true, false, List, ◌++◌, take, refl, sym, ap, subst}
use Rattle.std.specs.Prelude.{Option, Some, None, ◌==◌, ◌||◌, if◌then◌else◌}
use Rattle.ld_edge.specs.Faults.{Rose}
use Rattle.ld_edge.specs.Passing.{Goes}
use Rattle.ld_edge.specs.Sides.{Incoming, Outgoing}
use Rattle.ld_fits.specs.Asks.{Heard}
use Rattle.ld_fits.specs.Play.{Stage}
use Rattle.ld_head.specs.Dialogues.{Item, Ask, Bad, Marked}
use Rattle.ld_head.specs.declared.session_end.SessionEnd.{SessionEnd}
use Rattle.ld_head.specs.declared.session_end.SessionEnd.TheVariants as end
use Rattle.ld_items.specs.Taking.{Standing, Takes, marked}
use Rattle.ld_items.specs.declared.arrivals.Arrived.{Arrived}
use Rattle.ld_items.specs.declared.arrivals.Next.TheVariants as next
use Rattle.ld_items.proofs.Arriving.{same_sink, same_sink_before}
use Rattle.ld_talk.specs.Talking.{Moving, Answering, IsSpoken, end_of_item, full_text, no_memory_text, reply_in}
use Rattle.ld_talk.specs.Concluding.{EndsAs, IsConcluded, IsEndOf}
use Rattle.ld_talk.specs.Putting.{Put, Whole, Cut, Unsaid, Full, FullCut, FullUnsaid, IsPut, SinkFaults, end_put, text_put}
use Rattle.ld_talk.specs.Sending.{IsUnsent}
use Rattle.ld_talk.specs.Underway.{IsTalking, GoesOnOrEnds}
use Rattle.ld_talk.specs.declared.answering.Spoken.{Spoken}
use Rattle.ld_talk.specs.declared.answering.Spoken.TheVariants as spoken
use Rattle.ld_talk.specs.declared.sending.SendRefusal.TheVariants as refusal
use Rattle.ld_talk.proofs.Talks.{talks_on, talked_to_item, talked_to_cut, talked_unsaid, talked_to_full, talked_full_cut, talked_full_unsaid}

-- an item that closes is no failure
by_status : (known : Bool) (status before after : ℕ) → after ≡ before → SinkFaults (Some (if known then end.Closed else end.BadHead status)) before after
by_status true status before after same = same
by_status false status before after same = same

by_item : (item : Item) (before after : ℕ) → after ≡ before → SinkFaults (Some (end_of_item item)) before after
by_item (Ask path body) before after same = same
by_item (Bad status) before after same = by_status ((status == 404) || (status == 405)) status before after same

by_closing : (closes : Bool) (item : Item) (before after : ℕ) → after ≡ before → SinkFaults (if closes then Some (end_of_item item) else None) before after
by_closing true item before after same = by_item item before after same
by_closing false item before after same = same

module _ (moves : Moving) (full : ℕ → Type 0) (m : Marked) (a b c : Outgoing) where
  abbrev Puts : Option SessionEnd → Type 0
  Puts e = (own : List ℕ) × Goes a c own × IsPut moves full m own e × SinkFaults e a.faults c.faults

  unsent : (x : Answering moves m) (r : _) (e : Option SessionEnd) → IsUnsent (reply_in moves m x) a b r → EndsAs e (IsEndOf r b c) → Puts e
  unsent x refusal.Failed None p q = absurd q
  unsent x refusal.Failed (Some e) p q = (
    take p.0.0 (reply_in moves m x),
    same_sink a b c (take p.0.0 (reply_in moves m x)) q.1 p.0.2,
    (Cut x p.0.0, refl, ap Some q.0),
    subst (λ (e : SessionEnd). SinkFaults (Some e) a.faults c.faults) (sym q.0) (subst (λ (s : Outgoing). Rose a.faults s.faults) (sym q.1) p.1),
  )
  unsent x refusal.NoMemory None p q = absurd q
  unsent x refusal.NoMemory (Some e) p q = (
    take q.n no_memory_text,
    same_sink_before a b c (take q.n no_memory_text) p q.goes,
    (Unsaid x q.n, refl, ap Some q.is),
    subst (λ (e : SessionEnd). SinkFaults (Some e) a.faults c.faults) (sym q.is) (subst (λ (s : Outgoing). s.faults ≤ c.faults) p q.count),
  )

  unsent_full : (events : ℕ) → full events → ((stage : Stage) → moves stage stage) → (r : _) (e : Option SessionEnd) → IsUnsent (full_text events) a b r → EndsAs e (IsEndOf r b c) → Puts e
  unsent_full events is none refusal.Failed None p q = absurd q
  unsent_full events is none refusal.Failed (Some e) p q = (
    take p.0.0 (full_text events),
    same_sink a b c (take p.0.0 (full_text events)) q.1 p.0.2,
    (FullCut events is none p.0.0, refl, ap Some q.0),
    subst (λ (e : SessionEnd). SinkFaults (Some e) a.faults c.faults) (sym q.0) (subst (λ (s : Outgoing). Rose a.faults s.faults) (sym q.1) p.1),
  )
  unsent_full events is none refusal.NoMemory None p q = absurd q
  unsent_full events is none refusal.NoMemory (Some e) p q = (
    take q.n no_memory_text,
    same_sink_before a b c (take q.n no_memory_text) p q.goes,
    (FullUnsaid events is none q.n, refl, ap Some q.is),
    subst (λ (e : SessionEnd). SinkFaults (Some e) a.faults c.faults) (sym q.is) (subst (λ (s : Outgoing). s.faults ≤ c.faults) p q.count),
  )

  pub puts : (s : Spoken) (e : Option SessionEnd) → IsSpoken moves full m a b s → IsConcluded m s b c e → Puts e
  puts spoken.Sent e p q = (
    reply_in moves m p.0,
    same_sink a b c (reply_in moves m p.0) q.1 p.1,
    (Whole p.0, refl, q.0),
    subst (λ (e : Option SessionEnd). SinkFaults e a.faults c.faults) (sym q.0) (by_closing m.marks.closes m.item a.faults c.faults (ap (λ (s : Outgoing). s.faults) q.1 ∙ p.2)),
  )
  puts (spoken.Unsent r) e p q = unsent p.0 r e p.1 q
  puts (spoken.Full events) e p q = (
    full_text events,
    same_sink a b c (full_text events) q.1 p.2,
    (Full events p.0 p.1, refl, q.0),
    subst (λ (e : Option SessionEnd). SinkFaults e a.faults c.faults) (sym q.0) (ap (λ (s : Outgoing). s.faults) q.1 ∙ p.3),
  )
  puts (spoken.FullUnsent events r) e p q = unsent_full events p.0 p.1 r e p.2 q

module _ (before after_ through : Moving) (full : ℕ → Type 0) (trans : (p q r : Stage) → before p q → after_ q r → through p r)
    (came wrote : List ℕ) (heard : List Heard) (p : Standing) (talking : IsTalking before came wrote heard p) (more : List ℕ) (source : Incoming)
    (a : Arrived) (interim : List ℕ) (q : Standing) (takes : Takes p.items (p.pending ++ more) interim q source (next.Item a)) where
  whole_by : (closes : Bool) → a.marks.closes ≡ closes → (x : Answering after_ (marked a))
      → GoesOnOrEnds through full (came ++ more) (wrote ++ (interim ++ reply_in after_ (marked a) x)) heard q source (if closes then Some (end_of_item (marked a).item) else None)
  whole_by true closes x = talked_to_item before after_ through full trans came wrote heard p talking more source a interim q takes x closes
  whole_by false stays x = talks_on before after_ through full trans came wrote heard p talking more source a interim q takes x stays

  on_put : (put : Put after_ full (marked a))
      → GoesOnOrEnds through full (came ++ more) (wrote ++ (interim ++ text_put after_ full (marked a) put)) heard q source (end_put after_ full (marked a) put)
  on_put (Whole x) = whole_by a.marks.closes refl x
  on_put (Cut x n) = talked_to_cut before after_ through full trans came wrote heard p talking more source a interim q takes x n
  on_put (Unsaid x n) = talked_unsaid before after_ through full trans came wrote heard p talking more source a interim q takes x n
  on_put (Full events is none) = talked_to_full before after_ through full trans came wrote heard p talking more source a interim q takes none events is
  on_put (FullCut events is none n) = talked_full_cut before after_ through full trans came wrote heard p talking more source a interim q takes none events is n
  on_put (FullUnsaid events is none n) = talked_full_unsaid before after_ through full trans came wrote heard p talking more source a interim q takes none events is n

  -- it goes on, or ends, as what was put says
  pub goes_on_put : (own : List ℕ) (e : Option SessionEnd) → IsPut after_ full (marked a) own e
      → GoesOnOrEnds through full (came ++ more) (wrote ++ (interim ++ own)) heard q source e
  goes_on_put own e is =
      subst (λ (e : Option SessionEnd). GoesOnOrEnds through full (came ++ more) (wrote ++ (interim ++ own)) heard q source e) (sym is.2)
      (subst (λ (l : List ℕ). GoesOnOrEnds through full (came ++ more) (wrote ++ (interim ++ l)) heard q source (end_put after_ full (marked a) is.0)) (sym is.1) (on_put is.0))
