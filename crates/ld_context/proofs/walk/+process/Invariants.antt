use Rattle.std.proofs.Common.{◌≡◌, ◌+◌, ◌*◌, drop}
use Rattle.ld_rec.specs.Outcome.{each}
use Rattle.ld_rec.specs.Processing.{processed_in, item_step, check_by, unless_keyword}
use Rattle.ld_term.specs.NextSizes.{next_size}
use Rattle.ld_term.specs.Waits.{made_of, rest_of}
use Rattle.ld_context.specs.Calls.{item_ask, progress_of}
use Rattle.ld_context.specs.Starts.{term_outcome}
use Rattle.ld_context.specs.Tells.{tallied}
use Rattle.ld_context.proofs.Terms.{Defining}
use Rattle.ld_context.proofs.walk.+process.Given as goal

abbrev pub decreases-process_in : goal.decreases-process_in
decreases-process_in l = 13 * l.levels

abbrev pub decreases-process_step : goal.decreases-process_step
decreases-process_step l = 13 * l.levels + 12

abbrev pub decreases-each_item : goal.decreases-each_item
decreases-each_item l = 13 * l.levels + 11

abbrev pub decreases-item_step : goal.decreases-item_step
decreases-item_step l = 13 * l.levels + 10

abbrev pub decreases-by_text : goal.decreases-by_text
decreases-by_text l = 13 * l.levels + 9

abbrev pub decreases-by_iri : goal.decreases-by_iri
decreases-by_iri l = 13 * l.levels + 8

abbrev pub decreases-dereferenced : goal.decreases-dereferenced
decreases-dereferenced l = 13 * l.levels + 7

abbrev pub decreases-by_map : goal.decreases-by_map
decreases-by_map l = 13 * l.levels + 9

abbrev pub decreases-by_import : goal.decreases-by_import
decreases-by_import l = 13 * l.levels + 8

abbrev pub decreases-by_entries : goal.decreases-by_entries
decreases-by_entries l = 13 * l.levels + 7

abbrev pub decreases-terms_in : goal.decreases-terms_in
decreases-terms_in l = 13 * l.levels + 6

abbrev pub decreases-each_term : goal.decreases-each_term
decreases-each_term l = 13 * l.levels + 5

abbrev pub decreases-unless_keyword : goal.decreases-unless_keyword
decreases-unless_keyword l = 13 * l.levels + 4

abbrev pub decreases-define_term : goal.decreases-define_term
decreases-define_term l = 13 * l.levels + 3

abbrev pub decreases-check_scoped : goal.decreases-check_scoped
decreases-check_scoped l = 13 * l.levels + 2

abbrev pub decreases-check_in_place : goal.decreases-check_in_place
decreases-check_in_place l = 13 * l.levels + 1

abbrev pub decreases-check_on_copy : goal.decreases-check_on_copy
decreases-check_on_copy l = 13 * l.levels + 1

abbrev pub invariant-each_item-loop-item : goal.invariant-each_item-loop-item
invariant-each_item-loop-item l =
    tallied l.initial.runs ((each (item_step (processed_in l.levels) (item_ask l.call) l.call.inputs.propagate) l.items (progress_of l.initial.progress)).run l.stock)
    ≡ tallied l.runs ((each (item_step (processed_in l.levels) (item_ask l.call) l.call.inputs.propagate) (drop l.item-index l.items) (progress_of l.progress)).run l.stock)

abbrev pub invariant-each_term-loop-entry : goal.invariant-each_term-loop-entry
invariant-each_term-loop-entry l =
    tallied l.initial.runs ((each (unless_keyword (check_by (processed_in l.levels) (rest_of l.rest)) (rest_of l.rest) l.entries) l.entries.0 (made_of l.initial.made l.initial.defined)).run l.stock)
    ≡ tallied l.runs ((each (unless_keyword (check_by (processed_in l.levels) (rest_of l.rest)) (rest_of l.rest) l.entries) (drop l.entry-index l.entries.0) (made_of l.made l.defined)).run l.stock)

abbrev pub invariant-define_term-loop-next : goal.invariant-define_term-loop-next
invariant-define_term-loop-next l =
    Defining (check_by (processed_in l.levels) (rest_of l.rest)) (rest_of l.rest) l.entries l.stock
    (tallied l.fn.runs (term_outcome (check_by (processed_in l.levels) (rest_of l.rest)) (rest_of l.rest) l.entries l.name (made_of l.fn.made l.fn.defined) l.stock))
    l.runs l.next (made_of l.made l.defined)

abbrev pub decreases-define_term-loop-next : goal.decreases-define_term-loop-next
decreases-define_term-loop-next l = next_size l.entries.0 l.defined l.next
