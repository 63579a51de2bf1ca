use Rattle.std.proofs.Common.{◌≡◌, ◌∙◌, sym, subst, Option, Some, None}
use Rattle.std.specs.Prelude.{codes, IfOk}
use Rattle.std.proofs.lemmas.Result.{IfOk-weaker}
use Rattle.ld_tree.specs.declared.tree.Tree.{Tree}
use Rattle.ld_tree.specs.declared.tree.Tree.TheVariants as V
use Rattle.ld_compact.specs.Compaction.{alone}
use Rattle.ld_compact.proofs.Only.{none_alone, one_alone}
use Rattle.ld_compact.proofs.compaction.id_map.Goals as goal
use Rattle.ld_compact.proofs.compaction.id_map.Goals.{in-Some+in_ok-try_copy+in_ok-put, in_default}

pub returns : goal.returns
returns c =
    elim c.match-id.branch [
      | in-Some+in_ok-try_copy+in_ok-put w ↦
          subst (λ (id : Option Tree). IfOk c.into_map.result (λ only. only ≡ alone (codes "@id") id)) (sym w.in-Some.is)
          (IfOk-weaker c.into_map.result (λ only. only ≡ V.Map c.match-id.only) (λ only. only ≡ alone (codes "@id") (Some w.in-Some.id))
          (λ only e. one_alone c.new-only.result c.match-id.only w.in_ok-try_copy.field-0 w.in-Some.id only c.new-only.ensures (w.only-is ∙ w.in_ok-put.ensures) w.in_ok-try_copy.ensures e) c.into_map.ensures)
      | in_default w ↦
          subst (λ (id : Option Tree). IfOk c.into_map.result (λ only. only ≡ alone (codes "@id") id)) (sym w.in_default.is)
          (IfOk-weaker c.into_map.result (λ only. only ≡ V.Map c.match-id.only) (λ only. only ≡ alone (codes "@id") None)
          (λ only e. none_alone c.match-id.only only (w.only-is ∙ c.new-only.ensures) e) c.into_map.ensures)
    ]
