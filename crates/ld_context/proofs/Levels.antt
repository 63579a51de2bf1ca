-- One level of processing, and items apart from the rest of their invocation.
use Rattle.std.proofs.Common.{◌≡◌, ℕ, zero, suc, ◌+◌, ◌-◌, ◌<◌, refl, sym, ap, ap₂, ◌∙◌, List, Option, Some, None, Bool, true, false, arith}
use Rattle.ld_codes.specs.declared.own.Own.TheVariants.{NestingLimit}
use Rattle.ld_tree.specs.declared.tree.Tree.{Tree, out-Tree}
use Rattle.ld_tree.specs.declared.tree.Tree.TheOpen.{Tree-F}
use Rattle.ld_rec.specs.Outcome.{Stock, give, declines, counted, each, ◌>>=◌}
use Rattle.ld_rec.specs.Records.{Context}
use Rattle.ld_rec.specs.Terms.{Rest}
use Rattle.ld_rec.specs.Words.{items_of}
use Rattle.ld_rec.specs.Processing.{scoped_ask, Ask, Again, Progress, processed_in, process_step, is_propagated, begun, nullified, against, loadable, by_remote, by_item, item_step}
use Rattle.std.proofs.Math.Path.{fun_ext}
use Rattle.ld_context.specs.declared.inputs.Inputs.{Inputs}
use Rattle.ld_context.specs.Calls.{invocation, item_ask}

module _ (ask : Ask) where
  no_level : processed_in 0 ask ≡ counted (declines NestingLimit)
  unfolding processed_in
  no_level = refl

  pub at_no_level : (levels : ℕ) → levels ≡ 0 → processed_in levels ask ≡ counted (declines NestingLimit)
  at_no_level levels e = ap (λ n. processed_in n ask) e ∙ no_level

  pub at_level : (levels : ℕ) → 0 < levels → processed_in levels ask ≡ counted (process_step (processed_in (levels - 1)) ask)
  unfolding processed_in
  at_level zero lt = absurd (omega arith)
  at_level (suc n) lt = let e : suc n - 1 ≡ n = omega arith in ap (λ k. counted (process_step (processed_in k) ask)) (sym e)

  -- each invocation counts itself
  pub counts_itself : (levels : ℕ) (stock : Stock) → (n : ℕ) × (((processed_in levels ask).run stock).runs ≡ suc n)
  unfolding processed_in
  counts_itself zero stock = (0, refl)
  counts_itself (suc left) stock =
      let n : ℕ = ((process_step (processed_in left) ask).run stock).runs in
      let e : n + 1 ≡ suc n = omega arith in
      (n, e)

-- an item finds in `item_ask` what it needs of its invocation
module _ (again : Again) (inputs : Inputs) (remote : List (List ℕ)) (active : Context) (local : Tree) (propagate : Bool) (first_base : Option (List ℕ)) where
  abbrev pub whole : Ask
  whole = invocation inputs remote active local

  abbrev pub part : Ask
  part = item_ask (record { first_base = first_base; inputs = record inputs { propagate = propagate } })

  same_remote : (progress : Progress) (iri : Option (List ℕ)) → by_remote again whole progress iri ≡ by_remote again part progress iri
  same_remote progress None = refl
  same_remote progress (Some iri) = refl

  same_item : active.own.first_base ≡ first_base → (x : Tree-F Tree) (progress : Progress) → by_item again whole propagate x progress ≡ by_item again part propagate x progress
  same_item e Tree-F.Null progress = ap (λ b. nullified b inputs.over propagate progress.context >>= (λ context. give (record progress { context = context }))) e
  same_item e (Tree-F.Text text) progress = same_remote progress (loadable (against inputs.base text))
  same_item e (Tree-F.Map entries) progress = refl
  same_item e (Tree-F.Bool b) progress = refl
  same_item e (Tree-F.Num n) progress = refl
  same_item e (Tree-F.List items) progress = refl

  same_step : active.own.first_base ≡ first_base → item_step again whole propagate ≡ item_step again part propagate
  same_step e = fun_ext (λ item. fun_ext (λ progress. same_item e (out-Tree item) progress))

  pub same_items : active.own.first_base ≡ first_base → (items : List Tree) (progress : Progress) → each (item_step again whole propagate) items progress ≡ each (item_step again part propagate) items progress
  same_items e items progress = ap (λ step. each step items progress) (same_step e)

  -- a whole invocation, as its items are gone over
  pub in_parts' : (e : active.own.first_base ≡ first_base) → propagate ≡ is_propagated inputs.propagate (out-Tree local) → (context : Context) → context ≡ begun propagate active → (items : List Tree) → items ≡ items_of local
      → each (item_step again whole (is_propagated inputs.propagate (out-Tree local))) (items_of local) (record { context = begun (is_propagated inputs.propagate (out-Tree local)) active; remote = remote })
      ≡ each (item_step again part propagate) items (record { context = context; remote = remote })
  in_parts' e p context is items all =
      ap (λ q. each (item_step again whole q) (items_of local) (record { context = begun q active; remote = remote })) (sym p)
      ∙ ap (λ c. each (item_step again whole propagate) (items_of local) (record { context = c; remote = remote })) (sym is)
      ∙ ap (λ l. each (item_step again whole propagate) l (record { context = context; remote = remote })) (sym all)
      ∙ same_items e items (record { context = context; remote = remote })

pub in_parts : (again : Again) (inputs : Inputs) (remote : List (List ℕ)) (active : Context) (local : Tree) (first_base : Option (List ℕ)) → first_base ≡ active.own.first_base → (propagate : Bool) → propagate ≡ is_propagated inputs.propagate (out-Tree local)
    → (context : Context) → context ≡ begun propagate active → (items : List Tree) → items ≡ items_of local
    → each (item_step again (invocation inputs remote active local) (is_propagated inputs.propagate (out-Tree local))) (items_of local) (record { context = begun (is_propagated inputs.propagate (out-Tree local)) active; remote = remote })
    ≡ each (item_step again (item_ask (record { first_base = first_base; inputs = record inputs { propagate = propagate } })) propagate) items (record { context = context; remote = remote })
in_parts again inputs remote active local first_base e propagate p context is items all = in_parts' again inputs remote active local propagate first_base (sym e) p context is items all

-- a scoped context's inputs
pub same_scoped : (rest : Rest) (local : Tree) (a b : Context) (inputs : Inputs) (remote : List (List ℕ)) → a ≡ b
    → inputs ≡ record { base = rest.base; over = true; propagate = true; validate = false; depth = rest.depth + 1 } → remote ≡ rest.remote → scoped_ask rest a local ≡ invocation inputs remote b local
same_scoped rest local a b inputs remote e i r = ap (λ c. scoped_ask rest c local) e ∙ ap₂ (λ x y. invocation x y b local) (sym i) (sym r)
