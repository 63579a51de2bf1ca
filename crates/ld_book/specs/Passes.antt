-- What a book keeps anew for the answer of a step.
use Rattle.std.specs.Prelude.{◌≡◌, ℕ, Option, Some, None}
use Rattle.ld_store.specs.Snapshots.{Shot}
use Rattle.ld_history.specs.declared.answers.LackAnswer.{LackAnswer}
use Rattle.ld_history.specs.declared.answers.LackAnswer.TheVariants as lack_answer
use Rattle.ld_history.specs.declared.answers.EvictAnswer.{EvictAnswer}
use Rattle.ld_history.specs.declared.answers.EvictAnswer.TheVariants as evict_answer
use Rattle.ld_history.specs.declared.answers.ReviseAnswer.{ReviseAnswer}
use Rattle.ld_history.specs.declared.answers.ReviseAnswer.TheVariants as revise_answer

-- how many passes are made for it
abbrev pub passes_for_lack : LackAnswer → ℕ
passes_for_lack (lack_answer.Led flight out) = 1
passes_for_lack _ = 0

abbrev pub passes_for_revise : ReviseAnswer → ℕ
passes_for_revise (revise_answer.Led flight) = 1
passes_for_revise _ = 0

-- where it leads a flight, that has this number
abbrev pub leads_lack : LackAnswer → ℕ → Type 0
leads_lack (lack_answer.Led flight out) number = flight ≡ number
leads_lack _ number = Unit {0}

abbrev pub leads_revise : ReviseAnswer → ℕ → Type 0
leads_revise (revise_answer.Led flight) number = flight ≡ number
leads_revise _ number = Unit {0}

-- this is stored from now on, where the context went out
abbrev pub if_evicted : EvictAnswer → Shot → Option Shot
if_evicted (evict_answer.Evicted version) next = Some next
if_evicted _ next = None
