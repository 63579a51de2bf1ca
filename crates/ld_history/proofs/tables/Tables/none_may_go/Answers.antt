use Rattle.std.proofs.Common.{◌∙◌, ◌≡◌, sym, ap, refl, Bool, true, false, not, Bor, List, ℕ}
use Rattle.std.specs.Prelude.{Option, Some, None, is_some, option_copied}
use Rattle.ld_history.specs.Seen.{seen}
use Rattle.ld_history.proofs.Ordered.{none_goes_now}
use Rattle.ld_history.proofs.FirstGoes.{first_or_none}
use Rattle.ld_history.proofs.tables.Tables.none_may_go.Goals as goal

none_by : (there none : Bool) → there ≡ not none → none ≡ not there
none_by there true h = ap not (sym h)
none_by there false h = ap not (sym h)

pub returns : goal.returns
returns c =
    let t = c.args.self.now in
    none_by (is_some (option_copied c.next_out.result)) c.is_none.result (same c.next_out.result ∙ c.is_none.ensures) ∙ ap (λ o. not (is_some o)) c.next_out.ensures ∙ none_goes_now (seen t) t.order.published.entries t.ordered (first_or_none t)
  where
    same : (o : Option (Bor (List ℕ))) → is_some (option_copied o) ≡ is_some o
    same None = refl
    same (Some iri) = refl
