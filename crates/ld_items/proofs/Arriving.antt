-- The item of a head that is whole, and how the input stands where its body isn't.
use Rattle.std.proofs.Common.{◌≡◌, ◌∙◌, ◌⊎◌, inl, inr, ℕ, ◌+◌, ◌<◌, Bool, true, false, List, [], ◌++◌, length, take, drop, refl, sym, ap, subst, append_assoc}
use Rattle.std.specs.Prelude.{◌||◌, if◌then◌else◌, nat_lt, nat_le}
use Rattle.ld_edge.specs.Passing.{Comes, Goes}
use Rattle.ld_edge.specs.Sides.{Incoming, Outgoing}
use Rattle.ld_head.specs.declared.dialogue.Ending.{Ending}
use Rattle.ld_head.specs.declared.dialogue.Ending.TheVariants.{Inside}
use Rattle.ld_head.specs.declared.dialogue.Marks.{Marks}
use Rattle.ld_head.specs.declared.head.Head.{Head}
use Rattle.ld_head.specs.Dialogues.{Whole, front, Marked, Opening, OpensAt, Opens, Shuts, Stops, GoesOn, is_due_at, asked, good, marks_of, opened, opened_by}
use Rattle.ld_head.specs.Heads.{Says, Accepts}
use Rattle.ld_head.specs.Replies.{interim_text, text_if}
use Rattle.ld_head.proofs.Bodies.{body_is_cut, item_stays}
use Rattle.ld_items.specs.Taking.{Gives, IsDue, Standing, Takes, is_due, item_of}
use Rattle.ld_items.specs.declared.arrivals.Next.{Next}
use Rattle.ld_items.specs.declared.arrivals.Next.TheVariants as next
use Rattle.ld_items.specs.declared.arrivals.Received.{Received}

due_by : (closes : Bool) (item : Marked) (rest : List ℕ) → item.marks.interim ≡ true → is_due (if closes then Shuts item else GoesOn item rest) ≡ true
due_by true item rest due = due
due_by false item rest due = due

due_unless : (cut interim : Bool) (o : Opening) → interim ≡ true → is_due o ≡ true → is_due (if cut then Stops (Inside interim) else o) ≡ true
due_unless true interim o due later = due
due_unless false interim o due later = later

due_opened : (n : ℕ) (h : Head) (after : List ℕ) → h.interim ≡ true → is_due (opened n (Accepts h) after) ≡ true
due_opened n h after due =
    due_unless (nat_lt (length after) h.length) h.interim (opened_by (good n h (take h.length after)) (drop h.length after)) due
    (due_by (h.closes || nat_le 65535 n) (good n h (take h.length after)) (drop h.length after) due)

module _ (n : ℕ) (bytes block pending : List ℕ) (h : Head) (says : Says block (Accepts h)) (begins : (more : List ℕ) → front (bytes ++ more) ≡ Whole block (pending ++ more)) where
  -- whatever of the body came
  pub due_inside : (came : List ℕ) → h.interim ≡ true → IsDue n (bytes ++ came)
  due_inside came due =
      (opened n (Accepts h) (pending ++ came), subst (λ f. OpensAt n f (opened n (Accepts h) (pending ++ came))) (sym (begins came)) (Accepts h, says, refl), due_opened n h (pending ++ came) due)

  pub cut : (came : List ℕ) → length (pending ++ came) < h.length → Opens n (bytes ++ came) (Stops (Inside h.interim))
  cut came short = body_is_cut n (bytes ++ came) block (pending ++ came) h (begins came) says short

  pub whole : (came own after : List ℕ) → length own ≡ h.length → pending ++ came ≡ own ++ after → (more : List ℕ) → Opens n ((bytes ++ came) ++ more) (opened_by (good n h own) (after ++ more))
  whole came own after size is more =
      item_stays n ((bytes ++ came) ++ more) block own (after ++ more) h
      (ap front (append_assoc bytes came more) ∙ begins (came ++ more) ∙ ap (Whole block) (sym (append_assoc pending came more) ∙ ap (λ l. l ++ more) is ∙ append_assoc own after more))
      says size

  out_of_memory : (came : List ℕ) (interim : Bool) → h.interim ≡ interim → (text_if interim interim_text ≡ []) ⊎ ((text_if interim interim_text ≡ interim_text) × IsDue n (bytes ++ came))
  out_of_memory came true due = inr (refl, due_inside came due)
  out_of_memory came false due = inl refl

  pub takes_no_memory : (came : List ℕ) (after : Standing) (source : Incoming) → Takes n (bytes ++ came) (text_if h.interim interim_text) after source next.NoMemory
  takes_no_memory came after source = out_of_memory came h.interim refl

  pub takes_write_fault : (after : Standing) (source : Incoming) (k : ℕ) → k < length interim_text → h.interim ≡ true → Takes n (bytes ++ []) (take k interim_text) after source next.WriteFault
  takes_write_fault after source k short due = (due_inside [] due, (k, short, refl))

  -- the item that is given
  pub takes_item : (came own : List ℕ) (after : Standing) (source : Incoming) (item : Received) (marks : Marks) (given : Next) → length own ≡ h.length → pending ++ came ≡ own ++ after.pending → after.items ≡ n + 1
      → item_of item ≡ asked h own → marks ≡ marks_of n h → Gives item marks given → Takes n (bytes ++ came) (text_if h.interim interim_text) after source given
  takes_item came own after source item marks given size is count item_is marks_are gives =
      let same : ◌≡◌ {A = Marked} (good n h own) (record { item = item_of item; marks = marks }) = λ i. record { item = sym item_is i; marks = sym marks_are i } in
      subst (Takes n (bytes ++ came) (text_if h.interim interim_text) after source) (sym gives) (
        count,
        (λ more. subst (λ m. Opens n ((bytes ++ came) ++ more) (opened_by m (after.pending ++ more))) same (whole came own after.pending size is more)),
        ap (λ (m : Marks). text_if m.interim interim_text) (sym marks_are),
      )

-- a side that was left as it was
pub same_source : (a b c : Incoming) (came : List ℕ) → b ≡ a → Comes b c came → Comes a c came
same_source a b c came same comes = subst (λ s. Comes s c came) same comes

pub same_sink : (a b c : Outgoing) (went : List ℕ) → c ≡ b → Goes a b went → Goes a c went
same_sink a b c went same goes = subst (λ s. Goes a s went) (sym same) goes

-- where a call goes on behind a head
pub takes_grouped : (n : ℕ) (before xs ys went : List ℕ) (after : Standing) (source : Incoming) (given : Next) → Takes n ((before ++ xs) ++ ys) went after source given → Takes n (before ++ (xs ++ ys)) went after source given
takes_grouped n before xs ys went after source given h = subst (λ bytes. Takes n bytes went after source given) (append_assoc before xs ys) h

-- where the head isn't whole, no interim text is due
pub silent : (ending : Ending) → is_due_at ending ≡ false → [] ≡ text_if (is_due_at ending) interim_text
silent ending due = ap (λ b. text_if b interim_text) (sym due)

pub same_sink_before : (a b c : Outgoing) (went : List ℕ) → b ≡ a → Goes b c went → Goes a c went
same_sink_before a b c went same goes = subst (λ s. Goes s c went) same goes
