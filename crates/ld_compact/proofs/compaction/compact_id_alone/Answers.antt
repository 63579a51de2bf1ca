use Rattle.std.proofs.Common.{◌≡◌, ◌∙◌, ap, sym, subst, refl, Ok}
use Rattle.std.specs.Prelude.{codes, option_copied}
use Rattle.ld_tree.specs.Trees.{member}
use Rattle.ld_tree.specs.declared.tree.Tree.{Tree}
use Rattle.ld_rec.specs.Iris.{or_else}
use Rattle.ld_rec.specs.Kinds.{entries_of}
use Rattle.ld_rec.specs.Outcome.{Gives}
use Rattle.ld_compact.specs.Elements.{Whole, value_at}
use Rattle.ld_compact.specs.Compaction.{alone, entry_alone, map_becomes, map_within}
use Rattle.ld_compact.specs.Steps.{place_of, all_beside, only_becomes}
use Rattle.ld_compact.proofs.Cycle.{itself, map_gives}
use Rattle.ld_compact.proofs.Only.{only_is}
use Rattle.ld_compact.proofs.Stages.{gives_same}
use Rattle.ld_compact.proofs.compaction.compact_id_alone.Goals as goal

pub returns-clause-answer : goal.returns-clause-answer
returns-clause-answer g c =
    let stock = g.W.Contexts.stock c.args.work.now in
    let arrays = c.args.place.now.arrays in
    let item = c.args.item.now in
    let context = g.W.Kept.View.flat c.args.place.now.view.now in
    let property = option_copied c.args.place.now.property in
    let made = g.W.Kept.View.flat c.active-within.result.view.now in
    let within = option_copied c.active-within.result.property in
    let id_is : c.in_ok-id.id ≡ member (codes "@id") item = c.in_ok-id.ensures ∙ c.get.ensures in
    let done : Gives c.compact_only.result
    ((map_within arrays c.in_ok-only.only (entry_alone (codes "@id") (value_at (codes "@id") (all_beside arrays (entries_of item)))) context (place_of made within Whole)).run stock).result =
    gives_same itself c.compact_only.result ((only_becomes c.in_ok-id.id c.in_ok-only.only (place_of made within Whole)).run stock).result _
    (only_is stock arrays context made within item c.in_ok-id.id c.in_ok-only.only id_is c.in_ok-only.ensures) (c.compact_only.ensures stock) in
    subst (λ (t : Tree). Gives c.compact_only.result
    ((map_becomes arrays t (entry_alone (codes "@id") (value_at (codes "@id") (all_beside arrays (entries_of item)))) (place_of context property Whole)).run stock).result)
    (c.in_ok-only.ensures ∙ ap (alone (codes "@id")) id_is)
    (map_gives stock arrays c.in_ok-only.only (λ b. entry_alone (codes "@id") (value_at (codes "@id") (all_beside b (entries_of item)))) context
    (g.W.Kept.View.flat c.reverted-before.result.view.now) property (option_copied c.property_def-own.result) c.property_def-own.ensures.value c.reverted-before.ensures.context
    stock arrays within made c.compact_only.result refl refl (c.active-within.ensures.property ∙ c.reverted-before.ensures.property)
    (c.in_ok-applied.ensures.answer ∙ ap (λ o. Ok (g.W.Kept.View.flat (or_else o c.reverted-before.result.view.now))) (sym c.in_ok-made.ensures.kept) ∙ ap (λ v. Ok (g.W.Kept.View.flat v)) (sym c.active-within.ensures.view))
    done)
