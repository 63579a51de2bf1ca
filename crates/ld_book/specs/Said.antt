-- What a book answers, where a step of its history answers this.
use Rattle.std.specs.Prelude.{◌≡◌, ℕ, List, Option, Some}
use Rattle.std.specs.Option.{option_map}
use Rattle.ld_history.specs.declared.answers.LackAnswer.{LackAnswer}
use Rattle.ld_history.specs.declared.answers.LackAnswer.TheVariants as lack_answer
use Rattle.ld_history.specs.declared.answers.PublishAnswer.{PublishAnswer}
use Rattle.ld_history.specs.declared.answers.PublishAnswer.TheVariants as publish_answer
use Rattle.ld_history.specs.declared.answers.EvictAnswer.{EvictAnswer}
use Rattle.ld_history.specs.declared.answers.EvictAnswer.TheVariants as evict_answer
use Rattle.ld_history.specs.declared.answers.ReviseAnswer.{ReviseAnswer}
use Rattle.ld_history.specs.declared.answers.ReviseAnswer.TheVariants as revise_answer
use Rattle.ld_history.specs.declared.session.End.{End}
use Rattle.ld_history.specs.declared.session.End.TheVariants as end
use Rattle.ld_history.specs.Steps.{Taken, Answers}
use Rattle.ld_book.specs.declared.answers.RoomRefusal.{RoomRefusal}
use Rattle.ld_book.specs.declared.answers.RoomRefusal.TheVariants as room
use Rattle.ld_book.specs.declared.answers.LackAnswer as lacked
use Rattle.ld_book.specs.declared.answers.LackAnswer.TheVariants as lack
use Rattle.ld_book.specs.declared.answers.PublishAnswer as published
use Rattle.ld_book.specs.declared.answers.PublishAnswer.TheVariants as publish
use Rattle.ld_book.specs.declared.answers.EvictAnswer as evicted
use Rattle.ld_book.specs.declared.answers.EvictAnswer.TheVariants as evict
use Rattle.ld_book.specs.declared.answers.ReviseAnswer as revised
use Rattle.ld_book.specs.declared.answers.ReviseAnswer.TheVariants as revise
use Rattle.ld_book.specs.declared.answers.LookAnswer as looked
use Rattle.ld_book.specs.declared.answers.LookAnswer.TheVariants as look

-- the book answers so where the step is taken
abbrev pub Says : {A B : Type 0} → (A → B) → Option (Taken A) → B → Type 0
Says told step answer = option_map (λ t. told t.answer) step ≡ Some answer

-- what a refusal says of the step: the history is full, by this answer of the step; of memory nothing
abbrev pub IsRefusal : {A : Type 0} → (ℕ → A) → Option (Taken A) → RoomRefusal → Type 0
IsRefusal full step (room.HistoryFull events) = Answers step (full events)
IsRefusal full step room.NoMemory = Unit {0}

-- A flight that is led is handed out as its pass, for the IRI.
abbrev pub told_lack : List ℕ → LackAnswer → lacked.LackAnswer
told_lack iri (lack_answer.TooMany held) = lack.TooMany held
told_lack iri lack_answer.There = lack.There
told_lack iri (lack_answer.Joined flight) = lack.Joined flight
told_lack iri lack_answer.StoreFull = lack.StoreFull
told_lack iri (lack_answer.ArchiveFull bytes) = lack.ArchiveFull bytes
told_lack iri (lack_answer.Led flight out) = lack.Lead (record { number = flight; iri = iri })

abbrev pub told_publish : PublishAnswer → published.PublishAnswer
told_publish (publish_answer.Published version) = publish.Published version
told_publish publish_answer.Same = publish.Same

abbrev pub told_evict : EvictAnswer → evicted.EvictAnswer
told_evict (evict_answer.Evicted version) = evict.Evicted version
told_evict (evict_answer.NotStored version) = evict.NotStored version
told_evict (evict_answer.Held session) = evict.Held session
told_evict (evict_answer.Revising flight) = evict.Revising flight

abbrev pub told_revise : List ℕ → ReviseAnswer → revised.ReviseAnswer
told_revise iri (revise_answer.Led flight) = revise.Lead (record { number = flight; iri = iri })
told_revise iri (revise_answer.NotStored version) = revise.NotStored version
told_revise iri (revise_answer.Flying flight) = revise.Flying flight
told_revise iri (revise_answer.ArchiveFull bytes) = revise.ArchiveFull bytes

abbrev pub told_end : End → looked.LookAnswer
told_end end.UnderWay = look.Flying
told_end (end.Published version) = look.Published version
told_end end.Same = look.Same
told_end (end.Failed before after) = look.Failed before after
told_end end.Lapsed = look.Lapsed
