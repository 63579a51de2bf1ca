-- A turn that was added and taken away again leaves the entries as they were.
use Rattle.std.proofs.Common.{◌≡◌, ℕ, ◌-◌, List, [], ◌∷◌, ◌++◌, length, take, refl, ap, ◌∙◌, arith, Option, Some, None, Bool, true, false, cond, length-append}
use Rattle.std.specs.Map.{set_value}
use Rattle.std.specs.BTreeMap.{is_at}
use Rattle.std.proofs.Math.Seq.{take-append_seam}
use Rattle.std.proofs.lemmas.Map.Steps.{set_value_same}
use Rattle.ld_tree.specs.Names.{name_cmp}
use Rattle.ld_history.specs.Words.{at_iri}
use Rattle.ld_history.specs.After.{turned, turn_found}
use Rattle.ld_history.specs.Plans.{unturned, unturn_found}
use Rattle.ld_history.proofs.LawTurns.{set_iri_same}

pub set_twice : {K X : Type 0} (test : K → Bool) (es : List (K × X)) (v w : X) → set_value test (set_value test es v) w ≡ set_value test es w
set_twice test [] v w = refl
set_twice test (e ∷ es) v w =
    elim (test e.0) as (λ b. test e.0 ≡ b → set_value test (cond b ((e.0, v) ∷ es) (e ∷ set_value test es v)) w ≡ cond b ((e.0, w) ∷ es) (e ∷ set_value test es w)) [
      | true ↦ λ is. ap (λ b. cond b ((e.0, w) ∷ es) ((e.0, v) ∷ set_value test es w)) is
      | false ↦ λ is. ap (λ b. cond b ((e.0, w) ∷ set_value test es v) (e ∷ set_value test (set_value test es v) w)) is ∙ ap (λ l. e ∷ l) (set_twice test es v w)
    ] refl

shorter : (before : List ℕ) (w : ℕ) → take (length (before ++ w ∷ []) - 1) (before ++ w ∷ []) ≡ before
shorter before w =
    let n : length (before ++ w ∷ []) - 1 ≡ length before = omega (arith, length-append before (w ∷ [])) in
    ap (λ k. take k (before ++ w ∷ [])) n ∙ take-append_seam before (w ∷ [])

module _ (turns : List (List ℕ × List ℕ)) (iri : List ℕ) (w : ℕ) where
  unturned_by : (o : Option (List ℕ)) → at_iri turns iri ≡ o → unturned (turn_found turns iri w o) iri ≡ turns
  unturned_by None is = ap (unturn_found turns iri) is
  unturned_by (Some before) is =
      ap (unturn_found (set_value (is_at (name_cmp iri)) turns (before ++ w ∷ [])) iri) (set_iri_same turns iri (before ++ w ∷ []) before is)
      ∙ set_twice (is_at (name_cmp iri)) turns (before ++ w ∷ []) (take (length (before ++ w ∷ []) - 1) (before ++ w ∷ []))
      ∙ ap (set_value (is_at (name_cmp iri)) turns) (shorter before w)
      ∙ set_value_same (is_at (name_cmp iri)) turns before is

  pub unturned-turned : unturned (turned turns iri w) iri ≡ turns
  unturned-turned = unturned_by (at_iri turns iri) refl

-- the same over the entries that a map had, then and after
pub turns_undone : (iri : List ℕ) (w : ℕ) (turns more less : List (List ℕ × List ℕ)) → more ≡ turned turns iri w → less ≡ unturned more iri → less ≡ turns
turns_undone iri w turns more less is_more is_less = is_less ∙ ap (λ l. unturned l iri) is_more ∙ unturned-turned turns iri w
