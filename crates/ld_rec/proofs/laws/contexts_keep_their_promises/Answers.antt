use Rattle.ld_rec.proofs.Promising.{fresh_context_keeps, process_keeps, previous_keeps}
use Rattle.ld_rec.proofs.laws.contexts_keep_their_promises.Goals as goal

pub returns : goal.returns
returns c = record { fresh_context = fresh_context_keeps; processed_context = process_keeps; previous_context = previous_keeps }
