use Rattle.std.proofs.Common.{◌∙◌, sym, None, true, false}
use Rattle.std.specs.Fmt.{digits}
use Rattle.ld_head.specs.Outcomes.{reply}
use Rattle.ld_head.specs.declared.outcome.Outcome.TheVariants.{NoMemory}
use Rattle.ld_head.proofs.Texts.{no_memory_is}
use Rattle.ld_head.proofs.fixed.no_memory_text.Goals as goal

pub returns-in-true-true : goal.returns-in-true-true
unfolding digits
returns-in-true-true c = λ interim. no_memory_is interim true true ∙ (λ i. reply None NoMemory (record { interim = interim; closes = sym c.in-true-true.is-0 i; head_alone = sym c.in-true-true.is-1 i }))

pub returns-in-true-false : goal.returns-in-true-false
unfolding digits
returns-in-true-false c = λ interim. no_memory_is interim true false ∙ (λ i. reply None NoMemory (record { interim = interim; closes = sym c.in-true-false.is-0 i; head_alone = sym c.in-true-false.is-1 i }))

pub returns-in-false-true : goal.returns-in-false-true
unfolding digits
returns-in-false-true c = λ interim. no_memory_is interim false true ∙ (λ i. reply None NoMemory (record { interim = interim; closes = sym c.in-false-true.is-0 i; head_alone = sym c.in-false-true.is-1 i }))

pub returns-in-false-false : goal.returns-in-false-false
unfolding digits
returns-in-false-false c = λ interim. no_memory_is interim false false ∙ (λ i. reply None NoMemory (record { interim = interim; closes = sym c.in-false-false.is-0 i; head_alone = sym c.in-false-false.is-1 i }))
