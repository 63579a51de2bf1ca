-- One item's answer and reply.
use Rattle.std.proofs.Common.{◌≡◌, ◌∙◌, ℕ, List, ◌∷◌, ◌++◌, refl, sym, ap, subst}
use Rattle.std.specs.Prelude.{Some, None}
use Rattle.ld_edge.specs.Sides.{Outgoing}
use Rattle.ld_fits.specs.Asks.{Asked, Heard, IsAsked, Unrecorded}
use Rattle.ld_fits.specs.Play.{Stage, Idle, idle, item_text, passed}
use Rattle.ld_head.specs.Dialogues.{Ask, Bad, Item, Marked}
use Rattle.ld_head.specs.Outcomes.{reply}
use Rattle.ld_head.specs.declared.outcome.Outcome.{Outcome}
use Rattle.ld_head.specs.declared.outcome.Outcome.TheVariants as outcome
use Rattle.ld_talk.specs.Hearing.{requested}
use Rattle.ld_talk.specs.Talking.{Moving, Answering, IsReplied, IsSaid, IsSaidFull, IsSaidOf, IsSpoken}
use Rattle.ld_talk.specs.declared.answering.Spoken.{Spoken}
use Rattle.ld_talk.specs.declared.answering.Spoken.TheVariants as spoken
use Rattle.ld_talk.specs.declared.hearing.Request.{Request}
use Rattle.ld_talk.specs.declared.hearing.Request.TheVariants as request
use Rattle.ld_talk.specs.declared.requests.Replied.{Replied}
use Rattle.ld_talk.specs.declared.requests.Replied.TheVariants as replied

-- a request waits for its answer
recorded : (r : Request) (h : Heard) (items : List Heard) (text : List ℕ) → h.asked ≡ requested r → idle (h ∷ items) text ≡ Idle (h ∷ items) text
recorded r h items text asked =
    ap (λ (a : Asked). passed a h.marked.marks (Idle (h ∷ items) text) (λ own. idle items (text ++ own))) asked ∙ waits r
  where
    waits : (r : Request) → passed (requested r) h.marked.marks (Idle (h ∷ items) text) (λ own. idle items (text ++ own)) ≡ Idle (h ∷ items) text
    waits (request.Evaluation op envelope) = refl
    waits (request.Revision iri) = refl
    waits (request.Eviction iri) = refl

-- what is a request might have found no memory
unmade : (item : Item) (r : Request) → IsAsked item (requested r) → IsAsked item (Unrecorded outcome.NoMemory)
unmade (Ask path body) r is = tt
unmade (Bad status) (request.Evaluation op envelope) is = absurd is
unmade (Bad status) (request.Revision iri) is = absurd is
unmade (Bad status) (request.Eviction iri) is = absurd is

module _ (moves : Moving) (full : ℕ → Type 0) (marked : Marked) (sink sink' : Outgoing) where
  said : (a : Answering moves marked) (s : Spoken) → IsSaid (reply a.fields a.outcome_is marked.marks) sink sink' s → IsSpoken moves full marked sink sink' s
  said a spoken.Sent p = (a, p.0, p.1)
  said a (spoken.Unsent refusal) p = (a, p)
  said a (spoken.Full events) p = absurd p
  said a (spoken.FullUnsent events refusal) p = absurd p

  -- it stands in no history
  abbrev left_out : (o : Outcome) → IsAsked marked.item (Unrecorded o) → ((stage : Stage) → moves stage stage) → Answering moves marked
  left_out o is none = record {
    heard = record { marked = marked; asked = Unrecorded o; is = is };
    is = refl;
    fields = None;
    outcome_is = o;
    answered = λ items text. none (idle items (text ++ item_text None o marked.marks));
  }

  pub left_out_spoken : (o : Outcome) → IsAsked marked.item (Unrecorded o) → ((stage : Stage) → moves stage stage) → (s : Spoken) → IsSaid (reply None o marked.marks) sink sink' s → IsSpoken moves full marked sink sink' s
  left_out_spoken o is none s p = said (left_out o is none) s p

  spoken_full : (events : ℕ) → full events → ((stage : Stage) → moves stage stage) → (s : Spoken) → IsSaidFull events sink sink' s → IsSpoken moves full marked sink sink' s
  spoken_full events is none (spoken.Full n) p = (subst full (sym p.0) is, none, p.1, p.2)
  spoken_full events is none (spoken.FullUnsent n refusal) p = (subst full (sym p.0) is, none, p.1)
  spoken_full events is none spoken.Sent p = absurd p
  spoken_full events is none (spoken.Unsent refusal) p = absurd p

  pub recorded_spoken : (r : Request) → IsAsked marked.item (requested r) → (rep : Replied) → IsReplied moves full (requested r) rep → (s : Spoken) → IsSaidOf rep marked.marks sink sink' s
      → IsSpoken moves full marked sink sink' s
  recorded_spoken r is (replied.Answered number version o) did s p =
      let h : Heard = record { marked = marked; asked = requested r; is = is } in
      said
      (record {
        heard = h;
        is = refl;
        fields = Some (number, version);
        outcome_is = o;
        answered = λ items text. subst (λ (stage : Stage). moves stage (idle items (text ++ item_text (Some (number, version)) o marked.marks))) (sym (recorded r h items text refl)) (did h items text refl);
      })
      s p
  recorded_spoken r is replied.Unmade did s p = left_out_spoken outcome.NoMemory (unmade marked.item r is) did s p
  recorded_spoken r is (replied.HistoryFull events) did s p = spoken_full events did.0 did.1 s p
