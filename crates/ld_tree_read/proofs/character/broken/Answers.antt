use Rattle.std.proofs.Common.{◌∙◌, sym, subst, take}
use Rattle.std.specs.List.{prefix_len}
use Rattle.std.specs.Str.{IsUtf8}
use Rattle.std.proofs.lemmas.Str.{IsUtf8-nil, IsUtf8-append}
use Rattle.ld_tree.specs.Reading.{is_unescaped}
use Rattle.ld_tree_read.specs.Cursor.{left}
use Rattle.ld_tree_read.proofs.Glides.{run_append}
use Rattle.ld_tree_read.proofs.character.broken.Goals as goal

pub skip_char-requires : goal.skip_char-requires
skip_char-requires c =
    let bs = left c.loop-e.cursor in
    record {
      no_quote = λ r e. c.loop-e.invariant.bad (subst (λ bs. IsUtf8 (take (prefix_len is_unescaped bs) bs)) (sym e) IsUtf8-nil);
      no_slash = λ r e. c.loop-e.invariant.bad (subst (λ bs. IsUtf8 (take (prefix_len is_unescaped bs) bs)) (sym e) IsUtf8-nil);
    }

pub loop-e-preserved : goal.loop-e-preserved
loop-e-preserved c =
    let bs = left c.loop-e.cursor in
    let new = left c.skip_char.new.cursor in
    let p = c.in_default.ensures.passed in
    record {
      leads = λ n fs. c.loop-e.invariant.leads n fs ∙ c.in_default.ensures.leads n fs;
      bad = λ h. c.loop-e.invariant.bad
          (subst (λ bs. IsUtf8 (take (prefix_len is_unescaped bs) bs)) (sym p.is) (subst IsUtf8 (sym (run_append p.passed new p.each)) (IsUtf8-append p.passed (take (prefix_len is_unescaped new) new) p.utf8 h)));
    }

pub returns-in-Err : goal.returns-in-Err
returns-in-Err c = λ n fs. c.loop-e.invariant.leads n fs ∙ c.in-Err.ensures.stops n fs
