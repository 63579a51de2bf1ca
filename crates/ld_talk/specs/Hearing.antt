-- What an item of a connection asks for, once its body is read.
use Rattle.ld_fits.specs.Asks.{Asked, Evaluation, Revision, Eviction, Unrecorded}
use Rattle.ld_talk.specs.declared.hearing.Asking.{Asking}
use Rattle.ld_talk.specs.declared.hearing.Asking.TheVariants as asking
use Rattle.ld_talk.specs.declared.hearing.Request.{Request}
use Rattle.ld_talk.specs.declared.hearing.Request.TheVariants as request

abbrev pub requested : Request → Asked
requested (request.Evaluation op envelope) = Evaluation op envelope
requested (request.Revision iri) = Revision iri
requested (request.Eviction iri) = Eviction iri

abbrev pub asked_of : Asking → Asked
asked_of (asking.Recorded r) = requested r
asked_of (asking.Unrecorded outcome) = Unrecorded outcome
