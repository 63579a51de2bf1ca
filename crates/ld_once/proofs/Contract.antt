-- Which status comes, from how the run ended.
use Rattle.std.proofs.Common.{◌≡◌, ◌∙◌, ◌⊎◌, inl, inr, ℕ, ◌<◌, ◌≤◌, List, [], ◌∷◌, ◌++◌, length, refl, sym, ap, subst, arith, length-append, append-nil}
use Rattle.std.specs.Prelude.{Option, Some, None, IfSome, codes}
use Rattle.std.specs.Io.KnownBytes.{prepend_known}
use Rattle.ld_edge.specs.Faults.{Rose}
use Rattle.ld_edge.specs.Sides.{Incoming, Outgoing}
use Rattle.ld_edge.specs.declared.status.Status.{Status}
use Rattle.ld_edge.specs.declared.status.Status.TheVariants.{Done, Refused, Usage, ReadFault, WriteFault, LoadFault, TooMany, NoMemory, InputTooLong}
use Rattle.ld_script.proofs.Scripts.{not_bad}
use Rattle.ld_once.proofs.Foreseen.{replied_foreseen}
use Rattle.ld_once.proofs.Replied.{replied_once}
use Rattle.ld_once.proofs.Soaks.{not_soak}
use Rattle.ld_once.specs.declared.command.Command.{Command}
use Rattle.ld_once.specs.declared.command.Command.TheVariants.{Document, Schedule}
use Rattle.ld_answer.specs.declared.op.Op.TheVariants.{Expand, Compact, Flatten}
use Rattle.ld_flight.specs.Loads.{Loading}
use Rattle.ld_once.specs.Runs.{input_limit, IsForm, IsFormOf, IsPrinted, IsReply, word_of, Due, Reads, IsReadToEnd, IsReadFor, IsTelling, IsUnloading, IsUnlessFailed, IsUnlessLoadFailed, Ended, written, write_failed, read_failed, no_memory, soaked}

abbrev first_of : List ℕ → ℕ
first_of [] = 0
first_of (byte ∷ bytes) = byte

-- words that begin otherwise are others
unlike : (a b : List ℕ) → (first_of a ≡ first_of b → ⊥) → a ≡ b → ⊥
unlike a b other e = other (ap first_of e)

-- each command has a word of its own
same_word : (a b : Command) → word_of a ≡ word_of b → a ≡ b
same_word (Document Expand) (Document Expand) e = refl
same_word (Document Expand) (Document Compact) e = cc
same_word (Document Expand) (Document Flatten) e = cc
same_word (Document Expand) Schedule e = cc
same_word (Document Compact) (Document Expand) e = cc
same_word (Document Compact) (Document Compact) e = refl
same_word (Document Compact) (Document Flatten) e = absurd (unlike (codes "compact") (codes "flatten") (λ first. grind (arith, first)) e)
same_word (Document Compact) Schedule e = cc
same_word (Document Flatten) (Document Expand) e = cc
same_word (Document Flatten) (Document Compact) e = absurd (unlike (codes "flatten") (codes "compact") (λ first. grind (arith, first)) e)
same_word (Document Flatten) (Document Flatten) e = refl
same_word (Document Flatten) Schedule e = cc
same_word Schedule (Document Expand) e = cc
same_word Schedule (Document Compact) e = cc
same_word Schedule (Document Flatten) e = cc
same_word Schedule Schedule e = refl

-- the words are one command's
same_command : (words : List (List ℕ)) (a b : Command) → IsFormOf words a → IsFormOf words b → a ≡ b
same_command words a b h k = same_word a b (only_word (word_of a) (word_of b) (sym h ∙ k))
  where
    only_word : (x y : List ℕ) → x ∷ [] ≡ y ∷ [] → x ≡ y
    only_word x y e = cc

printed_once : (bytes : List ℕ) (s t : Status) (out out' : List ℕ) → IsPrinted bytes s out → IsPrinted bytes t out' → t ≡ s
printed_once bytes Done Done out out' h k = refl
printed_once bytes Refused Refused out out' h k = refl
printed_once bytes Done Refused out out' h k = absurd (not_bad h.script k.1)
printed_once bytes Refused Done out out' h k = absurd (not_bad k.script h.1)
printed_once bytes Done _ out out' h k = absurd k
printed_once bytes Refused _ out out' h k = absurd k
printed_once bytes _ t out out' h k = absurd h

reply_once : (command : Command) (bytes : List ℕ) (loader after loader' : Loading) (s t : Status) (out out' : List ℕ) → IsReply command bytes loader after s out
    → after.given ≡ loader.given → (s ≡ LoadFault → ⊥) → IsReply command bytes loader loader' t out' → t ≡ s
reply_once (Document op) bytes loader after loader' s t out out' h unloaded other k = replied_once op bytes loader after loader' s t out out' h unloaded other k
reply_once Schedule bytes loader after loader' s t out out' h unloaded other k = printed_once bytes s t out out' h.0 k.0

reply_foreseen : (command : Command) (bytes : List ℕ) (loader after loader' : Loading) (s t : Status) (out out' : List ℕ) → IsTelling loader → IsReply command bytes loader after s out
    → (s ≡ LoadFault → ⊥) → IsReply command bytes loader loader' t out' → (t ≡ s) ⊎ ((t ≡ LoadFault) × Rose loader.faults loader'.faults)
reply_foreseen (Document op) bytes loader after loader' s t out out' telling h other k = replied_foreseen op bytes loader after loader' s t out out' telling h other k
reply_foreseen Schedule bytes loader after loader' s t out out' telling h other k = inl (printed_once bytes s t out out' h.0 k.0)

-- the parts of what is due for an input that is answered
abbrev AnswerDue : List (List ℕ) → List ℕ → Loading → Loading → Status → List ℕ → Type 0
AnswerDue words bytes loader loader' status out = (command : Command) × IsFormOf words command × (length bytes ≤ input_limit) × IsReply command bytes loader loader' status out

-- each status is that of the usage line, that of too long an input, or another
data Way (words : List (List ℕ)) (bytes : List ℕ) (loader loader' : Loading) (out : List ℕ) : Status → Type 0 where
  usage_way : (IsForm words → ⊥) → Way words bytes loader loader' out Usage
  long_way : IsForm words → input_limit < length bytes → Way words bytes loader loader' out InputTooLong
  answer_way : (status : Status) → AnswerDue words bytes loader loader' status out → Way words bytes loader loader' out status

way_of : (words : List (List ℕ)) (bytes : List ℕ) (loader loader' : Loading) (out : List ℕ) (s : Status) → Due words bytes loader loader' s out → Way words bytes loader loader' out s
way_of words bytes loader loader' out Usage h = usage_way h.0
way_of words bytes loader loader' out InputTooLong h = long_way h.0 h.1
way_of words bytes loader loader' out Done h = answer_way Done h
way_of words bytes loader loader' out Refused h = answer_way Refused h
way_of words bytes loader loader' out ReadFault h = answer_way ReadFault h
way_of words bytes loader loader' out WriteFault h = answer_way WriteFault h
way_of words bytes loader loader' out LoadFault h = answer_way LoadFault h
way_of words bytes loader loader' out TooMany h = answer_way TooMany h
way_of words bytes loader loader' out NoMemory h = answer_way NoMemory h

module _ (words : List (List ℕ)) (bytes out out' : List ℕ) (loader after loader' : Loading) (G : Status → Status → Type 0) (alike : (s : Status) → G s s)
    (replied : (command : Command) (s t : Status) → IsReply command bytes loader after s out → IsReply command bytes loader loader' t out' → G s t) where
  once : (s t : Status) → Way words bytes loader after out s → Way words bytes loader loader' out' t → G s t
  once s t (usage_way no_form) (usage_way no_form') = alike Usage
  once s t (usage_way no_form) (long_way form long) = absurd (no_form form)
  once s t (usage_way no_form) (answer_way status k) = absurd (no_form (k.0, k.1))
  once s t (long_way form long) (usage_way no_form) = absurd (no_form form)
  once s t (long_way form long) (long_way form' long') = alike InputTooLong
  once s t (long_way form long) (answer_way status k) = absurd (grind (arith, long, k.2))
  once s t (answer_way status h) (usage_way no_form) = absurd (no_form (h.0, h.1))
  once s t (answer_way status h) (long_way form long) = absurd (grind (arith, long, h.2))
  once s t (answer_way status h) (answer_way status' k) =
      replied h.0 status status' h.3 (subst (λ c. IsReply c bytes loader loader' status' out') (same_command words k.0 h.0 k.1 h.1) k.3)

  due_once : (s t : Status) → Due words bytes loader after s out → Due words bytes loader loader' t out' → G s t
  due_once s t h k = once s t (way_of words bytes loader after out s h) (way_of words bytes loader loader' out' t k)

module _ (words : List (List ℕ)) (bytes out out' : List ℕ) (loader after loader' : Loading) where
  -- where nothing is loaded, one status is due for one input
  pub Due-once : after.given ≡ loader.given → (s t : Status) → (s ≡ LoadFault → ⊥) → Due words bytes loader after s out → Due words bytes loader loader' t out' → t ≡ s
  Due-once unloaded s t other h k =
      due_once words bytes out out' loader after loader' (λ s t. (s ≡ LoadFault → ⊥) → t ≡ s) (λ s _. refl)
      (λ command s t h k other. reply_once command bytes loader after loader' s t out out' h unloaded other k) s t h k other

  -- where the loader tells its answers, one status is due for one input, but for a load that fails
  pub Due-foreseen : IsTelling loader → (s t : Status) → (s ≡ LoadFault → ⊥) → Due words bytes loader after s out → Due words bytes loader loader' t out'
      → (t ≡ s) ⊎ ((t ≡ LoadFault) × Rose loader.faults loader'.faults)
  Due-foreseen telling s t other h k =
      due_once words bytes out out' loader after loader' (λ s t. (s ≡ LoadFault → ⊥) → (t ≡ s) ⊎ ((t ≡ LoadFault) × Rose loader.faults loader'.faults)) (λ s _. inl refl)
      (λ command s t h k other. reply_foreseen command bytes loader after loader' s t out out' telling h other k) s t h k other

-- what a source that tells its bytes has left, behind those that were read
rest_told : (left left' : Option (List ℕ)) (bytes read : List ℕ) → left ≡ Some bytes → left ≡ prepend_known read left' → (rest : List ℕ) × (left' ≡ Some rest) × (bytes ≡ read ++ rest)
rest_told left (Some rest) bytes read e f = (rest, refl, cc)
rest_told left None bytes read e f = absurd cc

module _ (words : List (List ℕ)) (bytes read out : List ℕ) (source source' : Incoming) (told : source.left ≡ Some bytes) where
  -- all bytes were read
  all_read : Reads source source' read → IsReadToEnd source' → read ≡ bytes
  all_read reads end =
      let rest = rest_told source.left source'.left bytes read told reads.1 in
      let none : rest.0 ≡ [] = subst (λ l. IfSome l (λ r. r ≡ [])) rest.1 end.1 in
      sym (rest.2 ∙ ap (λ r. read ++ r) none ∙ append-nil read)

  -- more than the limit was read
  too_many : Reads source source' read → input_limit < length read → input_limit < length bytes
  too_many reads long =
      let rest = rest_told source.left source'.left bytes read told reads.1 in
      subst (λ b. input_limit < length b) (sym rest.2) (omega (arith, long, length-append read rest.0))

  -- what is due for the bytes read is due for the bytes told
  Due-told : (loader loader' : Loading) (s : Status) → Due words read loader loader' s out → IsReadFor s source source' read → Due words bytes loader loader' s out
  Due-told loader loader' Usage h k = h
  Due-told loader loader' InputTooLong h k = (h.0, too_many k h.1, h.2, h.3)
  Due-told loader loader' Done h k = subst (λ b. Due words b loader loader' Done out) (all_read k.0 k.1) h
  Due-told loader loader' Refused h k = subst (λ b. Due words b loader loader' Refused out) (all_read k.0 k.1) h
  Due-told loader loader' ReadFault h k = subst (λ b. Due words b loader loader' ReadFault out) (all_read k.0 k.1) h
  Due-told loader loader' WriteFault h k = subst (λ b. Due words b loader loader' WriteFault out) (all_read k.0 k.1) h
  Due-told loader loader' LoadFault h k = subst (λ b. Due words b loader loader' LoadFault out) (all_read k.0 k.1) h
  Due-told loader loader' TooMany h k = subst (λ b. Due words b loader loader' TooMany out) (all_read k.0 k.1) h
  Due-told loader loader' NoMemory h k = subst (λ b. Due words b loader loader' NoMemory out) (all_read k.0 k.1) h

module _ (words : List (List ℕ)) (source source' : Incoming) (sink sink' : Outgoing) (loader loader' : Loading) where
  -- where the source tells its bytes and nothing is due to be loaded, the status is the one that is due for them, unless an
  -- object failed or memory was wanting
  pub Ended-exact : (s : Status) → Ended words source source' sink sink' loader loader' s → (bytes out : List ℕ) (due : Status) (after : Loading) → source.left ≡ Some bytes
      → Due words bytes loader after due out → IsUnloading due loader after → IsUnlessFailed due s source source' sink sink'
  Ended-exact s (written status read out' h reads writes) bytes out due after told k unloading =
      inl (Due-once words bytes out out' loader after loader' unloading.1 due status unloading.0 k (Due-told words bytes read out' source source' told loader loader' status h reads))
  Ended-exact s (write_failed status read out' h reads front) bytes out due after told k unloading = inr (inr (inl (refl, front.0)))
  Ended-exact s (read_failed form rose same unasked) bytes out due after told k unloading = inr (inl (refl, rose))
  Ended-exact s (no_memory form count same cut) bytes out due after told k unloading = inr (inr (inr refl))
  Ended-exact s (soaked status count form unread unasked is) bytes out due after told k unloading = absurd (not_soak words bytes out loader after due k (count, form))

  -- where the loader tells its answers too, the status is the one that is due, unless an object or a load failed or memory was wanting
  pub Ended-foreseen : (s : Status) → Ended words source source' sink sink' loader loader' s → (bytes out : List ℕ) (due : Status) (after : Loading) → IsTelling loader
      → source.left ≡ Some bytes → Due words bytes loader after due out → (due ≡ LoadFault → ⊥) → IsUnlessLoadFailed due s source source' sink sink' loader loader'
  Ended-foreseen s (written status read out' h reads writes) bytes out due after telling told k other =
      elim (Due-foreseen words bytes out out' loader after loader' telling due status other k (Due-told words bytes read out' source source' told loader loader' status h reads)) [
        | inl same ↦ inl (inl same)
        | inr fault ↦ inr fault
      ]
  Ended-foreseen s (write_failed status read out' h reads front) bytes out due after telling told k other = inl (inr (inr (inl (refl, front.0))))
  Ended-foreseen s (read_failed form rose same unasked) bytes out due after telling told k other = inl (inr (inl (refl, rose)))
  Ended-foreseen s (no_memory form count same cut) bytes out due after telling told k other = inl (inr (inr (inr refl)))
  Ended-foreseen s (soaked status count form unread unasked is) bytes out due after telling told k other = absurd (not_soak words bytes out loader after due k (count, form))
