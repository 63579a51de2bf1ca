-- Where the steps of the history lead a session that takes them, by what they answer.
use Rattle.std.specs.Prelude.{ℕ, List, Some}
use Rattle.ld_answer.specs.Bodies.{too_many_body}
use Rattle.ld_answer.specs.declared.envelope.Envelope.{Envelope}
use Rattle.ld_answer.specs.declared.op.Op.{Op}
use Rattle.ld_head.specs.declared.outcome.Outcome.TheVariants as outcome
use Rattle.ld_history.specs.declared.answers.EvictAnswer.{EvictAnswer}
use Rattle.ld_history.specs.declared.answers.EvictAnswer.TheVariants as evict_answer
use Rattle.ld_history.specs.declared.answers.LackAnswer.{LackAnswer}
use Rattle.ld_history.specs.declared.answers.LackAnswer.TheVariants as lack_answer
use Rattle.ld_history.specs.declared.answers.ReviseAnswer.{ReviseAnswer}
use Rattle.ld_history.specs.declared.answers.ReviseAnswer.TheVariants as revise_answer
use Rattle.ld_fits.specs.Play.{Request, Stage, Lacking, Reloading, replied}

-- an evaluation lacks this context
abbrev pub after_lack : Request → Op → Envelope → List ℕ → LackAnswer → Stage
after_lack r op envelope iri (lack_answer.TooMany held) = replied r (Some (outcome.TooMany (too_many_body iri)))
after_lack r op envelope iri lack_answer.There = Lacking r op envelope iri
after_lack r op envelope iri (lack_answer.Joined flight) = Lacking r op envelope iri
after_lack r op envelope iri (lack_answer.Led flight out) = Lacking r op envelope iri
after_lack r op envelope iri lack_answer.StoreFull = replied r (Some outcome.StoreFull)
after_lack r op envelope iri (lack_answer.ArchiveFull bytes) = replied r (Some (outcome.ArchiveFull bytes))

-- a revision asks for a flight
abbrev pub after_revise : Request → List ℕ → ReviseAnswer → Stage
after_revise r iri (revise_answer.Led flight) = Reloading r iri
after_revise r iri (revise_answer.NotStored version) = replied r (Some (outcome.NotStored version))
after_revise r iri (revise_answer.Flying flight) = replied r (Some (outcome.Flying flight))
after_revise r iri (revise_answer.ArchiveFull bytes) = replied r (Some (outcome.ArchiveFull bytes))

-- an eviction is asked for
abbrev pub after_evict : Request → EvictAnswer → Stage
after_evict r (evict_answer.Evicted version) = replied r (Some (outcome.Evicted version))
after_evict r (evict_answer.NotStored version) = replied r (Some (outcome.NotStored version))
after_evict r (evict_answer.Held session) = replied r (Some (outcome.Held session))
after_evict r (evict_answer.Revising flight) = replied r (Some (outcome.Revising flight))
