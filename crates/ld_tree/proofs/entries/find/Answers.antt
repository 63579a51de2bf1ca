use Rattle.std.proofs.Common.{◌+◌, ◌-◌, ◌/◌, ◌<◌, ℕ, length, sym, ap, ◌∙◌, arith}
use Rattle.std.specs.Map.{keys_of}
use Rattle.std.proofs.lemmas.Map.Entries.{length-keys_of}
use Rattle.ld_tree.specs.Names.{name_cmp}
use Rattle.ld_tree.proofs.Order.{between_below, between_above}
use Rattle.ld_tree.proofs.Search.{key_at}
use Rattle.ld_tree.proofs.entries.find.Goals as goal

pub loop-low-preserved-in-Less : goal.loop-low-preserved-in-Less
loop-low-preserved-in-Less g c =
    let es = c.args.entries.now in
    let middle : ℕ = c.loop-low.low + (c.loop-low.high - c.loop-low.low) / 2 in
    let below : middle < c.loop-low.high = omega (arith, c.loop-low-test.true) in
    let within : middle < length es = omega (arith, c.loop-low.invariant.within, length-keys_of es) in
    let key = key_at es middle c.index-entries-middle.result within c.index-entries-middle.is in
    between_below c.args.name.now (keys_of es) c.requires c.loop-low.low c.loop-low.high middle c.loop-low.invariant (omega arith) below
    (ap (name_cmp c.args.name.now) (key ∙ sym c.as_str.ensures) ∙ sym c.cmp.ensures ∙ c.in-Less.is)

pub loop-low-preserved : goal.loop-low-preserved
loop-low-preserved g c =
    let es = c.args.entries.now in
    let middle : ℕ = c.loop-low.low + (c.loop-low.high - c.loop-low.low) / 2 in
    let below : middle < c.loop-low.high = omega (arith, c.loop-low-test.true) in
    let within : middle < length es = omega (arith, c.loop-low.invariant.within, length-keys_of es) in
    let key = key_at es middle c.index-entries-middle.result within c.index-entries-middle.is in
    between_above c.args.name.now (keys_of es) c.requires c.loop-low.low c.loop-low.high middle c.loop-low.invariant (omega arith) below
    (ap (name_cmp c.args.name.now) (key ∙ sym c.as_str.ensures) ∙ sym c.cmp.ensures ∙ c.in-Greater.is)
