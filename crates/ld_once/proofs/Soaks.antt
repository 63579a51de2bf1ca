-- The words of a soak are those of no other form.
use Rattle.std.proofs.Common.{◌≡◌, ◌∙◌, ◌<◌, ◌≤◌, ℕ, List, [], ◌∷◌, refl, sym, subst, arith}
use Rattle.std.specs.Prelude.{codes, decimal}
use Rattle.std.proofs.lemmas.Fmt.{decimal_injective}
use Rattle.ld_edge.specs.Sides.{Incoming, Outgoing}
use Rattle.ld_edge.specs.declared.status.Status.{Status}
use Rattle.ld_edge.specs.declared.status.Status.TheVariants.{Done, Refused, Usage, ReadFault, WriteFault, LoadFault, TooMany, NoMemory, InputTooLong}
use Rattle.ld_flight.specs.Loads.{Loading}
use Rattle.ld_once.specs.declared.command.Command.{Command}
use Rattle.ld_once.specs.Runs.{word_of, IsForm, IsFormOf, IsSoak, IsSoakOf, IsSoaked, Due, Ended, written, write_failed, read_failed, no_memory, soaked}

one_or_two : (word first second : List ℕ) → word ∷ [] ≡ first ∷ second ∷ [] → ⊥
one_or_two word first second e = cc

form_or_soak : (words : List (List ℕ)) → IsForm words → IsSoak words → ⊥
form_or_soak words form soak = one_or_two (word_of form.0) (codes "soak") (decimal soak.0) (sym form.1 ∙ soak.1.2)

-- nothing that rests on an input is due for them
pub not_soak : (words : List (List ℕ)) (bytes out : List ℕ) (loader loader' : Loading) (s : Status) → Due words bytes loader loader' s out → IsSoak words → ⊥
not_soak words bytes out loader loader' Usage h = h.1
not_soak words bytes out loader loader' InputTooLong h = form_or_soak words h.0
not_soak words bytes out loader loader' Done h = form_or_soak words (h.0, h.1)
not_soak words bytes out loader loader' Refused h = form_or_soak words (h.0, h.1)
not_soak words bytes out loader loader' ReadFault h = form_or_soak words (h.0, h.1)
not_soak words bytes out loader loader' WriteFault h = form_or_soak words (h.0, h.1)
not_soak words bytes out loader loader' LoadFault h = form_or_soak words (h.0, h.1)
not_soak words bytes out loader loader' TooMany h = form_or_soak words (h.0, h.1)
not_soak words bytes out loader loader' NoMemory h = form_or_soak words (h.0, h.1)

-- the words ask for one number
same_count : (words : List (List ℕ)) (a b : ℕ) → IsSoakOf words a → IsSoakOf words b → a ≡ b
same_count words a b h k = decimal_injective a b (omega (arith, h.1)) (omega (arith, k.1)) (second (decimal a) (decimal b) (sym h.2 ∙ k.2))
  where
    second : (x y : List ℕ) → codes "soak" ∷ x ∷ [] ≡ codes "soak" ∷ y ∷ [] → x ≡ y
    second x y e = cc

module _ (words : List (List ℕ)) (source source' : Incoming) (sink sink' : Outgoing) (loader loader' : Loading) where
  -- how a run ended whose words ask for a soak
  pub Ended-soak : (s : Status) → Ended words source source' sink sink' loader loader' s → (count : ℕ) → IsSoakOf words count
      → (source' ≡ source) × (loader' ≡ loader) × IsSoaked count sink sink' s
  Ended-soak s (written status bytes out h reads writes) count soak = absurd (not_soak words bytes out loader loader' status h (count, soak))
  Ended-soak s (write_failed status bytes out h reads front) count soak = absurd (not_soak words bytes out loader loader' status h (count, soak))
  Ended-soak s (read_failed form rose same unasked) count soak = absurd (form_or_soak words form (count, soak))
  Ended-soak s (no_memory form count' same cut) count soak = absurd (form_or_soak words form (count, soak))
  Ended-soak s (soaked status count' soak' unread unasked is) count soak = (unread, unasked, subst (λ n. IsSoaked n sink sink' status) (same_count words count' count soak' soak) is)
