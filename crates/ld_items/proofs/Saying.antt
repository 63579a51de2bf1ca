-- Items that were taken, one after another, and what the bytes say.
use Rattle.std.proofs.Common.{◌≡◌, ◌∙◌, ℕ, ◌+◌, ◌≤◌, ◌<◌, Bool, true, false, List, [], ◌∷◌, ◌++◌, refl, sym, ap, subst, append_assoc, append-nil, arith}
use Rattle.std.specs.Prelude.{if◌then◌else◌}
use Rattle.ld_edge.specs.Sides.{Incoming}
use Rattle.ld_head.specs.Dialogues.{Dialogue, IsDialogue, Marked, Opening, Opens, Shuts, Stops, GoesOn, Speaks, stops, shuts, goes_on, before, opened_by, silence}
use Rattle.ld_head.specs.declared.dialogue.Ending.{Ending}
use Rattle.ld_head.specs.declared.dialogue.Ending.TheVariants.{Shut}
use Rattle.ld_head.proofs.Unique.{first_is_said, opens_unique}
use Rattle.ld_head.proofs.Counting.{goes_on_few}
use Rattle.ld_items.specs.Saying.{HaveSaid, after, is_due_next}
use Rattle.ld_items.specs.Taking.{IsDue, Standing, Takes, is_due, marked, start}
use Rattle.ld_items.specs.declared.arrivals.Arrived.{Arrived}
use Rattle.ld_items.specs.declared.arrivals.Next.TheVariants as next

pub said_none : HaveSaid [] [] start
said_none = record { on = λ more d says. says; back = λ more d says. (d, says, refl) }

same_end : (items : List Marked) (ending : Ending) → after items (silence ending) ≡ record { items = items; ending = ending }
same_end items ending = λ i. record { items = append-nil items i; ending = ending }

same_last : (items : List Marked) (item : Marked) (d : Dialogue) → after items (before item d) ≡ after (items ++ item ∷ []) d
same_last items item d = λ i. record { items = sym (append_assoc items (item ∷ []) d.items) i; ending = d.ending }

module _ (came : List ℕ) (items : List Marked) (p : Standing) (said : HaveSaid came items p) (bytes : List ℕ) where
  -- the bytes that came, where others come after them
  whole : (more : List ℕ) (d : Dialogue) → Speaks p.items ((p.pending ++ bytes) ++ more) d → IsDialogue ((came ++ bytes) ++ more) (after items d)
  whole more d says =
      subst (λ l. IsDialogue l (after items d)) (sym (append_assoc came bytes more)) (said.on (bytes ++ more) d (subst (λ l. Speaks p.items l d) (append_assoc p.pending bytes more) says))

  found : (more : List ℕ) (d : Dialogue) → IsDialogue ((came ++ bytes) ++ more) d → (later : Dialogue) × Speaks p.items ((p.pending ++ bytes) ++ more) later × (d ≡ after items later)
  found more d says =
      let f = said.back (bytes ++ more) d (subst (λ l. IsDialogue l d) (append_assoc came bytes more) says) in
      (f.0, subst (λ l. Speaks p.items l f.0) (sym (append_assoc p.pending bytes more)) f.1, f.2)

  said_to : (d : Dialogue) → Speaks p.items (p.pending ++ bytes) d → IsDialogue (came ++ bytes) (after items d)
  said_to d says = said.on bytes d says

  pub said_ended : (ending : Ending) → Opens p.items (p.pending ++ bytes) (Stops ending) → IsDialogue (came ++ bytes) (record { items = items; ending = ending })
  said_ended ending opens = subst (IsDialogue (came ++ bytes)) (same_end items ending) (said_to (silence ending) (stops p.items (p.pending ++ bytes) ending opens))

  pub first_said : (d : Dialogue) → IsDialogue (came ++ bytes) d → (later : Dialogue) × (d ≡ after items later)
  first_said d says = let f = said.back bytes d says in (f.0, f.2)

  due_said : (later : Dialogue) (opening : Opening) → Speaks p.items (p.pending ++ bytes) later → Opens p.items (p.pending ++ bytes) opening → is_due opening ≡ true → is_due_next later ≡ true
  due_said later opening (stops _ _ ending own) opens due = ap is_due (opens_unique p.items (p.pending ++ bytes) (Stops ending) opening own opens) ∙ due
  due_said later opening (shuts _ _ item own) opens due = ap is_due (opens_unique p.items (p.pending ++ bytes) (Shuts item) opening own opens) ∙ due
  due_said later opening (goes_on _ _ rest item d own says) opens due = ap is_due (opens_unique p.items (p.pending ++ bytes) (GoesOn item rest) opening own opens) ∙ due

  pub first_due : (d : Dialogue) → IsDue p.items (p.pending ++ bytes) → IsDialogue (came ++ bytes) d → (later : Dialogue) × (d ≡ after items later) × (is_due_next later ≡ true)
  first_due d due says = let f = said.back bytes d says in (f.0, f.2, due_said f.0 due.0 f.1 due.1 due.2)

  module _ (went : List ℕ) (q : Standing) (source : Incoming) (a : Arrived) (takes : Takes p.items (p.pending ++ bytes) went q source (next.Item a)) where
    by_mark : (closes : Bool) → a.marks.closes ≡ closes → (more : List ℕ) → Opens p.items ((p.pending ++ bytes) ++ more) (if closes then Shuts (marked a) else GoesOn (marked a) (q.pending ++ more))
    by_mark closes is more = subst (λ b. Opens p.items ((p.pending ++ bytes) ++ more) (if b then Shuts (marked a) else GoesOn (marked a) (q.pending ++ more))) is (takes.1 more)

    pub said_one_more : a.marks.closes ≡ false → HaveSaid (came ++ bytes) (items ++ marked a ∷ []) q × (q.items ≤ 65535)
    said_one_more stays =
        let opens = by_mark false stays in
        let few = goes_on_few p.items ((p.pending ++ bytes) ++ []) (q.pending ++ []) (marked a) (opens []) in
        let count = takes.0 in (
          record {
            on = λ more d says.
                subst (IsDialogue ((came ++ bytes) ++ more)) (same_last items (marked a) d)
                (whole more (before (marked a) d) (goes_on p.items ((p.pending ++ bytes) ++ more) (q.pending ++ more) (marked a) d (opens more) (subst (λ n. Speaks n (q.pending ++ more) d) count says)));
            back = λ more d says.
                let f = found more d says in
                let rest = first_is_said p.items ((p.pending ++ bytes) ++ more) (q.pending ++ more) (marked a) f.0 (opens more) f.1 in
                (rest.0, subst (λ n. Speaks n (q.pending ++ more) rest.0) (sym count) rest.1, f.2 ∙ ap (after items) rest.2 ∙ same_last items (marked a) rest.0);
          },
          omega (arith, few, count),
        )

    pub said_last : a.marks.closes ≡ true → IsDialogue (came ++ bytes) (record { items = items ++ marked a ∷ []; ending = Shut })
    said_last shut =
        let opens : Opens p.items (p.pending ++ bytes) (Shuts (marked a)) = subst (λ l. Opens p.items l (Shuts (marked a))) (append-nil (p.pending ++ bytes)) (by_mark true shut []) in
        subst (IsDialogue (came ++ bytes)) (same_last items (marked a) (silence Shut) ∙ same_end (items ++ marked a ∷ []) Shut)
        (said_to (before (marked a) (silence Shut)) (shuts p.items (p.pending ++ bytes) (marked a) opens))
