-- That contexts keep their promises, and that their inverses are held.
use Rattle.std.proofs.Common.{◌≡◌, sym, subst, ℕ, List, [], ◌∷◌, Bool, true, false, cond, Option, Some, Ok, Err}
use Rattle.std.specs.Prelude.{Result, IfOk}
use Rattle.std.specs.List.{AllByRecursion}
use Rattle.std.specs.Map.{lookup}
use Rattle.std.specs.BTreeMap.{is_at}
use Rattle.ld_tree.specs.Names.{name_cmp}
use Rattle.ld_rec.specs.declared.def.Def.{Def}
use Rattle.ld_rec.specs.declared.stop.Stop.{Stop}
use Rattle.ld_rec.specs.Outcome.{Stock, GivesAs}
use Rattle.ld_rec.specs.Processing.{Ask, processed}
use Rattle.ld_rec.specs.Promises.{KeepsEntry, KeepsContext, KeepsAsk}
use Rattle.ld_rec.specs.Records.{Context, def_of}
use Rattle.ld_rec.proofs.Promising.{process_keeps}
use Rattle.ld_compact.specs.Standing.{IsDefKept}

found_kept : (test : List ℕ → Bool) (es : List (List ℕ × Def)) → AllByRecursion KeepsEntry es → IsDefKept (lookup test es)
found_kept test [] h = tt
found_kept test (e ∷ es) h = elim (test e.0) as (λ b. IsDefKept (cond b (Some e.1) (lookup test es))) [ true ↦ h.0 | false ↦ found_kept test es h.1 ]

-- a definition that is found
pub def_kept : (context : Context) (term : List ℕ) (def : Option Def) → KeepsContext context → def ≡ def_of context term → IsDefKept def
def_kept context term def h e = subst IsDefKept (sym e) (found_kept (is_at (name_cmp term)) context.own.terms.0 h.own.terms)

-- a context that was processed
pub promised : {K : Type 0} (flat : K → Context) (stock : Stock) (ask : Ask) (r : Result K Stop) → KeepsAsk ask → GivesAs flat r (processed stock ask).result → IfOk r (λ made. KeepsContext (flat made))
promised flat stock ask (Ok made) k h = process_keeps stock ask (flat made) k h
promised flat stock ask (Err e) k h = tt
