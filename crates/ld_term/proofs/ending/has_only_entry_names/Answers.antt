use Rattle.std.proofs.Common.{◌≡◌, ℕ, List, arith, ap, sym, ◌∙◌, false, true}
use Rattle.std.specs.List.{list_all}
use Rattle.std.proofs.lemmas.Grind.{common_steps}
use Rattle.std.proofs.lemmas.List.Folds.{list_all-map, list_all_at}
use Rattle.ld_rec.specs.Terms.{entry_names}
use Rattle.ld_rec.specs.Words.{is_among}
use Rattle.ld_term.proofs.ending.has_only_entry_names.Goals as goal

pub returns-then-not-is_entry_name : goal.returns-then-not-is_entry_name
returns-then-not-is_entry_name c =
    let h : list_all (λ e. is_among entry_names e.0) c.args.entries.now.0 ≡ false = grind (arith, common_steps) in
    sym h ∙ sym (list_all-map (is_among entry_names) (λ e. e.0) c.args.entries.now.0)

pub returns : goal.returns
returns c =
    let h : list_all (λ e. is_among entry_names e.0) c.args.entries.now.0 ≡ true = grind (arith, common_steps) in
    sym h ∙ sym (list_all-map (is_among entry_names) (λ e. e.0) c.args.entries.now.0)
