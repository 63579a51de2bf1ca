-- What an item adds to a talk, and how a talk ends.
use Rattle.std.proofs.Common.{◌≡◌, ◌∙◌, ◌⊎◌, inl, inr, ℕ, ◌+◌, Bool, true, false, List, [], ◌∷◌, ◌++◌, length, take, refl, sym, ap, subst, append_assoc, append-nil}
use Rattle.std.proofs.Math.Seq.{take-append-add}
use Rattle.std.proofs.lemmas.List.{map-append}
use Rattle.std.specs.Prelude.{None, ◌==◌, ◌||◌, if◌then◌else◌}
use Rattle.ld_edge.specs.Passing.{IsReadToEnd}
use Rattle.ld_edge.specs.Sides.{Incoming}
use Rattle.ld_fits.specs.Asks.{Heard}
use Rattle.ld_fits.specs.Play.{Stage, idle}
use Rattle.ld_head.specs.Dialogues.{Front, Whole, TooLong, Unfinished, Item, Ask, Bad, IsDialogue, Marked, Opens, OpensAt, Stops, Shuts, GoesOn, is_due_at, opened_by, silence, front}
use Rattle.ld_head.specs.Heads.{Accepts, Refuses}
use Rattle.ld_head.specs.Outcomes.{reply}
use Rattle.ld_head.specs.Replies.{interim_text, text_if}
use Rattle.ld_head.specs.declared.dialogue.Ending.{Ending}
use Rattle.ld_head.specs.declared.dialogue.Ending.TheVariants.{Between, Inside, Shut}
use Rattle.ld_head.specs.declared.finding.Place.TheVariants.{Before, BeforeCr, Within, AfterLf, AfterLfCr, Done}
use Rattle.ld_head.specs.declared.session_end.SessionEnd.TheVariants as end
use Rattle.ld_head.proofs.Unique.{speaks_unique}
use Rattle.ld_items.specs.Saying.{HaveSaid, after}
use Rattle.ld_items.specs.Taking.{IsDue, Standing, Takes, is_due, marked}
use Rattle.ld_items.specs.declared.arrivals.Arrived.{Arrived}
use Rattle.ld_items.specs.declared.arrivals.Next.TheVariants as next
use Rattle.ld_items.proofs.Saying.{first_due, first_said, said_ended, said_last, said_one_more}
use Rattle.ld_talk.specs.Talking.{Moving, Answering, EndsSo, IsInterim, SaysAll, SaysDue, SaysFirst, Talked, Told, end_of_ending, end_of_item, full_text, marked_in, no_memory_text, reply_in}
use Rattle.ld_talk.specs.Underway.{IsTalking, GoesOnOrEnds}

-- ---- no input ends shut

never_open : (cut closes : Bool) (interim : Bool) (item : Marked) (rest : List ℕ) → Stops Shut ≡ (if cut then Stops (Inside interim) else (if closes then Shuts item else GoesOn item rest)) → ⊥
never_open true closes interim item rest e = cc
never_open false true interim item rest e = cc
never_open false false interim item rest e = cc

never_shut : (n : ℕ) (f : Front) → OpensAt n f (Stops Shut) → ⊥
never_shut n (Unfinished Before) e = cc
never_shut n (Unfinished BeforeCr) e = cc
never_shut n (Unfinished Within) e = cc
never_shut n (Unfinished AfterLf) e = cc
never_shut n (Unfinished AfterLfCr) e = cc
never_shut n (Unfinished Done) e = cc
never_shut n TooLong e = cc
never_shut n (Whole head rest) (Refuses status was_head, says, e) = cc
never_shut n (Whole head rest) (Accepts h, says, e) = never_open _ _ _ _ _ e

same_end : (items : List Marked) (ending : Ending) → after items (silence ending) ≡ record { items = items; ending = ending }
same_end items ending = λ i. record { items = append-nil items i; ending = ending }

due_by : (closes : Bool) (item : Marked) (rest : List ℕ) → item.marks.interim ≡ true → is_due (if closes then Shuts item else GoesOn item rest) ≡ true
due_by true item rest due = due
due_by false item rest due = due

-- a front of what was due
cut_at : (wrote part whole : List ℕ) (n : ℕ) → wrote ++ (part ++ take n whole) ≡ take (length wrote + (length part + n)) (wrote ++ (part ++ whole))
cut_at wrote part whole n = sym (take-append-add wrote (part ++ whole) (length part + n) ∙ ap (λ l. wrote ++ l) (take-append-add part whole n))

module _ (before after_ through : Moving) (full : ℕ → Type 0) (trans : (p q r : Stage) → before p q → after_ q r → through p r)
    (came wrote : List ℕ) (heard : List Heard) (p : Standing) (talking : IsTalking before came wrote heard p) (more : List ℕ) (source : Incoming) where
  abbrev all : List ℕ
  all = came ++ more

  first : SaysFirst all heard
  first d says = first_said came (marked_in heard) p talking.said more d says

  due : IsDue p.items (p.pending ++ more) → SaysDue all heard
  due is d says = first_due came (marked_in heard) p talking.said more d is says

  -- ---- without an item

  module _ (none : (stage : Stage) → after_ stage stage) where
    same : Told through heard wrote
    same = record { moved = λ items. trans (idle (heard ++ items) []) (idle items wrote) (idle items wrote) (talking.told.moved items) (none (idle items wrote)) }

    by_ending : (went : List ℕ) (ending : Ending) → Opens p.items (p.pending ++ more) (Stops ending) → went ≡ text_if (is_due_at ending) interim_text → IsReadToEnd source
        → EndsSo full all (wrote ++ went) source heard wrote (end_of_ending ending)
    by_ending went Between opens is read = (ap (λ l. wrote ++ l) is ∙ append-nil wrote, inl (said_ended came (marked_in heard) p talking.said more Between opens, read))
    by_ending went (Inside interim) opens is read = (interim, said_ended came (marked_in heard) p talking.said more (Inside interim) opens, read, ap (λ l. wrote ++ l) is)
    by_ending went Shut opens is read = absurd (never_shut p.items (front (p.pending ++ more)) opens)

    pub talked_to_end : (went : List ℕ) (ending : Ending) → Opens p.items (p.pending ++ more) (Stops ending) → went ≡ text_if (is_due_at ending) interim_text → IsReadToEnd source
        → Talked through full all (wrote ++ went) source (end_of_ending ending)
    talked_to_end went ending opens is read = record { heard = heard; text = wrote; told = same; ends = by_ending went ending opens is read }

    pub talked_to_fault : (went : List ℕ) (ending : Ending) → Opens p.items (p.pending ++ more) (Stops ending) → went ≡ text_if (is_due_at ending) interim_text
        → Talked through full all (wrote ++ went) source end.ReadFault
    talked_to_fault went ending opens is = record {
      heard = heard;
      text = wrote;
      told = same;
      ends = (ending, said_ended came (marked_in heard) p talking.said more ending opens, ap (λ l. wrote ++ l) is);
    }

    pub talked_to_interim : (went : List ℕ) (k : ℕ) → IsDue p.items (p.pending ++ more) → went ≡ take k interim_text → Talked through full all (wrote ++ went) source end.WriteFault
    talked_to_interim went k is cut = record {
      heard = heard;
      text = wrote;
      told = same;
      ends = (interim_text, inr (refl, due is), inl (length wrote + k, ap (λ l. wrote ++ l) cut ∙ sym (take-append-add wrote interim_text k)), first);
    }

    interim_in : (went : List ℕ) → (went ≡ []) ⊎ ((went ≡ interim_text) × IsDue p.items (p.pending ++ more)) → IsInterim all heard went
    interim_in went (inl is) = inl is
    interim_in went (inr is) = inr (is.0, due is.1)

    pub talked_out_of_memory : (went : List ℕ) (n : ℕ) → (went ≡ []) ⊎ ((went ≡ interim_text) × IsDue p.items (p.pending ++ more))
        → Talked through full all (wrote ++ (went ++ take n no_memory_text)) source end.NoMemory
    talked_out_of_memory went n is = record {
      heard = heard;
      text = wrote;
      told = same;
      ends = (wrote, went, inl refl, interim_in went is, (n, refl), first);
    }

  -- ---- with an item

  module _ (a : Arrived) (interim : List ℕ) (q : Standing) (takes : Takes p.items (p.pending ++ more) interim q source (next.Item a)) where
    module _ (x : Answering after_ (marked a)) where
      abbrev own : List ℕ
      own = reply_in after_ (marked a) x

      abbrev with_item : List Heard
      with_item = heard ++ x.heard ∷ []

      did : (items : List Heard) → after_ (idle (x.heard ∷ items) wrote) (idle items (wrote ++ (interim ++ own)))
      did items =
          subst (λ (l : List ℕ). after_ (idle (x.heard ∷ items) wrote) (idle items (wrote ++ (l ++ own))))
          (ap (λ (m : Marked). text_if m.marks.interim interim_text) x.is ∙ sym takes.2)
          (x.answered items wrote)

      told : Told through with_item (wrote ++ (interim ++ own))
      told = record {
        moved = λ items.
            subst (λ (hs : List Heard). through (idle hs []) (idle items (wrote ++ (interim ++ own)))) (sym (append_assoc heard (x.heard ∷ []) items))
            (trans (idle (heard ++ x.heard ∷ items) []) (idle (x.heard ∷ items) wrote) (idle items (wrote ++ (interim ++ own))) (talking.told.moved (x.heard ∷ items)) (did items));
      }

      are_marked : marked_in with_item ≡ marked_in heard ++ marked a ∷ []
      are_marked = map-append (λ (h : Heard). h.marked) heard (x.heard ∷ []) ∙ ap (λ (m : Marked). marked_in heard ++ m ∷ []) x.is

      pub talks_on : a.marks.closes ≡ false → GoesOnOrEnds through full all (wrote ++ (interim ++ own)) heard q source None
      talks_on stays =
          let s = said_one_more came (marked_in heard) p talking.said more interim q source a takes stays in
          (x.heard, record { said = subst (λ (ms : List Marked). HaveSaid all ms q) (sym are_marked) s.0; told = told }, s.1)

      shut : a.marks.closes ≡ true → SaysAll all with_item Shut
      shut closes =
          subst (λ (ms : List Marked). IsDialogue all (record { items = ms; ending = Shut })) (sym are_marked)
          (said_last came (marked_in heard) p talking.said more interim q source a takes closes)

      first_by : (closes : Bool) → a.marks.closes ≡ closes → SaysFirst all with_item
      first_by false stays d says =
          let s = said_one_more came (marked_in heard) p talking.said more interim q source a takes stays in
          let f = first_said all (marked_in heard ++ marked a ∷ []) q s.0 [] d (subst (λ (l : List ℕ). IsDialogue l d) (sym (append-nil all)) says) in
          (f.0, f.1 ∙ ap (λ (ms : List Marked). after ms f.0) (sym are_marked))
      first_by true closes d says =
          (silence Shut, speaks_unique 0 all d (record { items = marked_in with_item; ending = Shut }) says (shut closes) ∙ sym (same_end (marked_in with_item) Shut))

      first_with : SaysFirst all with_item
      first_with = first_by a.marks.closes refl

      by_status : (status : ℕ) (known : Bool) → a.marks.closes ≡ true → end_of_item (marked a).item ≡ (if known then end.Closed else end.BadHead status)
          → EndsSo full all (wrote ++ (interim ++ own)) source with_item (wrote ++ (interim ++ own)) (if known then end.Closed else end.BadHead status)
      by_status status true closes is = (refl, inr (shut closes, (heard, x.heard, refl, ap (λ (m : Marked). end_of_item m.item) x.is ∙ is)))
      by_status status false closes is = (refl, shut closes, (heard, x.heard, refl, ap (λ (m : Marked). end_of_item m.item) x.is ∙ is))

      by_item : (item : Item) → (marked a).item ≡ item → a.marks.closes ≡ true
          → EndsSo full all (wrote ++ (interim ++ own)) source with_item (wrote ++ (interim ++ own)) (end_of_item item)
      by_item (Ask path body) is closes = (refl, inr (shut closes, (heard, x.heard, refl, ap (λ (m : Marked). end_of_item m.item) x.is ∙ ap end_of_item is)))
      by_item (Bad status) is closes = by_status status ((status == 404) || (status == 405)) closes (ap end_of_item is)

      pub talked_to_item : a.marks.closes ≡ true → Talked through full all (wrote ++ (interim ++ own)) source (end_of_item (marked a).item)
      talked_to_item closes = record { heard = with_item; text = wrote ++ (interim ++ own); told = told; ends = by_item (marked a).item refl closes }

      pub talked_to_cut : (n : ℕ) → Talked through full all (wrote ++ (interim ++ take n own)) source end.WriteFault
      talked_to_cut n = record {
        heard = with_item;
        text = wrote ++ (interim ++ own);
        told = told;
        ends = ([], inl refl, inl (length wrote + (length interim + n), cut_at wrote interim own n ∙ ap (λ l. take (length wrote + (length interim + n)) l) (sym (append-nil (wrote ++ (interim ++ own))))), first_with);
      }

      pub talked_unsaid : (n : ℕ) → Talked through full all (wrote ++ (interim ++ take n no_memory_text)) source end.NoMemory
      talked_unsaid n = record {
        heard = with_item;
        text = wrote ++ (interim ++ own);
        told = told;
        ends = (
          wrote ++ interim,
          [],
          inr (heard, x.heard, refl, (x.fields, x.outcome_is, sym (append_assoc wrote interim own) ∙ ap (λ (m : Marked). (wrote ++ interim) ++ reply x.fields x.outcome_is m.marks) (sym x.is))),
          inl refl,
          (n, sym (append_assoc wrote interim (take n no_memory_text))),
          first_with,
        );
      }

    -- for which the history has no room
    module _ (none : (stage : Stage) → after_ stage stage) (events : ℕ) (is : full events) where
      due_if : (b : Bool) → a.marks.interim ≡ b → interim ≡ text_if b interim_text → IsInterim all heard interim
      due_if false not_due went = inl went
      due_if true is_due_ went =
          inr (went, due (opened_by (marked a) (q.pending ++ []), subst (λ (l : List ℕ). Opens p.items l (opened_by (marked a) (q.pending ++ []))) (append-nil (p.pending ++ more)) (takes.1 []), due_by a.marks.closes (marked a) (q.pending ++ []) is_due_))

      interim_is : IsInterim all heard interim
      interim_is = due_if a.marks.interim refl takes.2

      pub talked_to_full : Talked through full all (wrote ++ (interim ++ full_text events)) source (end.HistoryFull events)
      talked_to_full = record { heard = heard; text = wrote; told = same none; ends = (is, (interim, interim_is, refl), first) }

      pub talked_full_cut : (n : ℕ) → Talked through full all (wrote ++ (interim ++ take n (full_text events))) source end.WriteFault
      talked_full_cut n = record {
        heard = heard;
        text = wrote;
        told = same none;
        ends = (interim, interim_is, inr (events, is, (length wrote + (length interim + n), cut_at wrote interim (full_text events) n)), first);
      }

      pub talked_full_unsaid : (n : ℕ) → Talked through full all (wrote ++ (interim ++ take n no_memory_text)) source end.NoMemory
      talked_full_unsaid n = record { heard = heard; text = wrote; told = same none; ends = (wrote, interim, inl refl, interim_is, (n, refl), first) }
