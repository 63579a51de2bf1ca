use Rattle.std.proofs.Common.{◌≡◌, refl, sym, ap, ◌∙◌, subst, ◌+◌, ◌-◌, ◌<◌, ◌∷◌, drop, false, Ok, Err, arith}
use Rattle.std.specs.Prelude.{codes}
use Rattle.ld_codes.specs.declared.own.Own.TheVariants.{NestingLimit}
use Rattle.ld_tree.specs.Maps.{find}
use Rattle.ld_tree.specs.declared.tree.Tree.{out-Tree}
use Rattle.ld_tree.specs.declared.tree.Tree.TheOpen.{Tree-F}
use Rattle.ld_ctx.specs.Flat.{flat}
use Rattle.ld_rec.specs.declared.stop.Stop.TheVariants as stop
use Rattle.ld_rec.specs.Outcome.{Refuses, each, give, continued, declines, ◌>>=◌}
use Rattle.ld_rec.specs.Records.{Context}
use Rattle.ld_rec.specs.Processing.{scoped_ask, processed_in, process_step, item_step, by_item, keywords_in, protected_in, terms_in, check_by, unless_keyword, context_keywords, is_propagated, begun}
use Rattle.ld_rec.specs.Words.{is_among, items_of, opened}
use Rattle.ld_term.specs.Waits.{made_of, rest_of}
use Rattle.ld_term.proofs.Forms.{null_out}
use Rattle.ld_context.specs.Calls.{invocation, item_ask, progress_of}
use Rattle.ld_context.specs.Starts.{term_outcome, left_outcome}
use Rattle.ld_context.specs.Counts.{UnlessNoMemory}
use Rattle.ld_context.specs.Tells.{Tally, Tells, tallied, grown}
use Rattle.ld_context.proofs.Levels.{at_no_level, at_level, in_parts, same_scoped}
use Rattle.ld_context.proofs.Telling.{tells_along, tells_given, tells_passed, tells_then, tells_comes, tells_err, tallied_counted, tallied_refused, then_value, each_next, drop_next}
use Rattle.ld_context.proofs.Terms.{resumed_ok, resumed_err, outcome_on, moved, refused_scoped, tells_done, not_keyword}
use Rattle.ld_context.proofs.Undoing.{own_is, undone_scoped}
use Rattle.ld_context.proofs.walk.+process.Goals as goal

pub by_entries-returns-in_err-protected : goal.by_entries-returns-in_err-protected
by_entries-returns-in_err-protected t c =
    let again = processed_in c.args.levels in
    let ask = item_ask c.args.call.now in
    let p = progress_of c.args.progress in
    let es = c.args.entries.now in
    tells_given progress_of _ _ _ (keywords_in p.remote es p.context).run (λ context. (protected_in (opened (find es (codes "@protected"))) >>= (λ protected. terms_in again ask p es protected context)).run) c.args.stock.now (flat c.in_ok-ctx.ctx) c.in_ok-ctx.ensures
    (tells_passed progress_of _ _ _ (protected_in (opened (find es (codes "@protected")))).run (λ protected. (terms_in again ask p es protected (flat c.in_ok-ctx.ctx)).run) c.args.stock.now c.from_residual-in_err-protected.ensures.1 c.in_err-protected.ensures)

pub by_entries-returns : goal.by_entries-returns
by_entries-returns t c =
    let again = processed_in c.args.levels in
    let ask = item_ask c.args.call.now in
    let p = progress_of c.args.progress in
    let es = c.args.entries.now in
    tells_given progress_of _ _ _ (keywords_in p.remote es p.context).run (λ context. (protected_in (opened (find es (codes "@protected"))) >>= (λ protected. terms_in again ask p es protected context)).run) c.args.stock.now (flat c.in_ok-ctx.ctx) c.in_ok-ctx.ensures
    (tells_given progress_of _ _ _ (protected_in (opened (find es (codes "@protected")))).run (λ protected. (terms_in again ask p es protected (flat c.in_ok-ctx.ctx)).run) c.args.stock.now c.in_ok-protected.protected c.in_ok-protected.ensures c.terms_in.ensures)

pub by_import-returns-in-Ok : goal.by_import-returns-in-Ok
by_import-returns-in-Ok t c = tells_then progress_of _ _ _ _ _ _ c.in-Ok.joined c.in-Ok.ensures c.by_entries.ensures

pub define_term-loop-next-init : goal.define_term-loop-next-init
define_term-loop-next-init t c = record {
  same = ap (tallied c.args.runs.now) (c.in-Ok.ensures.gives (check_by (processed_in c.args.levels) (rest_of c.args.rest.now)) c.args.stock.now);
  fits = c.in-Ok.ensures.fits;
}

pub define_term-loop-next-preserved : goal.define_term-loop-next-preserved
define_term-loop-next-preserved t c =
    let r = rest_of c.args.rest.now in
    let check = check_by (processed_in c.args.levels) r in
    let es = c.args.entries.now in
    let m = made_of c.loop-next.made c.loop-next.defined in
    let w = c.in-Check.waiting in
    let stock = c.args.stock.now in
    let told = subst (λ tree. (x : Context) × (((check m.context tree).run stock).result ≡ Ok x)) c.scoped.ensures c.in-Ok-check_scoped.ensures.told in
    let counted = subst (λ tree. c.check_scoped.new.runs ≡ grown c.loop-next.runs ((check m.context tree).run stock).runs ((check m.context tree).run stock).reads) c.scoped.ensures c.in-Ok-check_scoped.ensures.counted in
    record {
      same = resumed_ok check r es stock c.loop-next.runs c.check_scoped.new.runs m (made_of c.go_on.new.made c.go_on.new.defined) w w.ready.scoped _ (outcome_on check r es stock m.context w) counted c.loop-next.next c.in-Check.is c.loop-next.invariant.same
          c.in-Ok-go_on.after (moved check r es stock _ _ c.loop-next.defined w (Ok c.in-Ok-go_on.after) (λ n. left_outcome check r es n (made_of c.go_on.new.made c.go_on.new.defined) stock) c.in-Ok-check_scoped.ensures.same (c.in-Ok-go_on.ensures.gives check stock) told.0 told.1);
      fits = c.in-Ok-go_on.ensures.fits;
    }

pub define_term-returns-in-Done : goal.define_term-returns-in-Done
define_term-returns-in-Done t c =
    tells_done (check_by (processed_in c.args.levels) (rest_of c.args.rest.now)) (rest_of c.args.rest.now) c.args.entries.now c.args.stock.now _ c.loop-next.runs c.loop-next.next (made_of c.loop-next.made c.loop-next.defined) c.in-Done.is c.loop-next.invariant

pub unless_keyword-returns : goal.unless_keyword-returns
unless_keyword-returns t c =
    let check = check_by (processed_in c.args.levels) (rest_of c.args.rest.now) in
    let r = rest_of c.args.rest.now in
    let es = c.args.entries.now in
    let m = made_of c.args.made.now c.args.defined.now in
    let entry = c.args.entry.now in
    let name = c.as_str-name.result.now in
    let same : name ≡ entry.0 = c.as_str-name.ensures in
    let apart : is_among context_keywords name ≡ false = sym c.is_context_keyword.ensures ∙ c.if-is_context_keyword.false in
    tells_along (λ (x : Unit {0}). made_of c.define_term.new.made c.define_term.new.defined) c.define_term.new.runs c.define_term.result
    (tallied c.args.runs.now ((unless_keyword check r es entry m).run c.args.stock.now)) (tallied c.args.runs.now (term_outcome check r es name m c.args.stock.now))
    (not_keyword check r es c.args.stock.now c.args.runs.now entry m (subst (λ n. is_among context_keywords n ≡ false) same apart) ∙ ap (λ n. tallied c.args.runs.now (term_outcome check r es n m c.args.stock.now)) (sym same))
    c.define_term.ensures

pub each_item-loop-item-preserved : goal.each_item-loop-item-preserved
each_item-loop-item-preserved t c =
    let step = item_step (processed_in c.args.levels) (item_ask c.args.call.now) c.args.call.now.inputs.propagate in
    let xs = c.args.items.now in
    let i = c.loop-item.item-index in
    let e : drop i xs ≡ c.item-item.result ∷ drop (i + 1) xs = drop_next xs i c.item-item.result c.loop-item-test.true c.item-item.is in
    c.loop-item.invariant ∙ ap (λ l. tallied c.loop-item.runs ((each step l (progress_of c.loop-item.progress)).run c.args.stock.now)) e
    ∙ each_next step c.args.stock.now c.loop-item.runs c.item_step.new.runs c.item-item.result (drop (i + 1) xs) (progress_of c.loop-item.progress) (progress_of c.in-Ok.next) c.in-Ok.ensures

pub each_term-returns-in-Err : goal.each_term-returns-in-Err
each_term-returns-in-Err t c =
    let step = unless_keyword (check_by (processed_in c.args.levels) (rest_of c.args.rest.now)) (rest_of c.args.rest.now) c.args.entries.now in
    let xs = c.args.entries.now.0 in
    let i = c.loop-entry.entry-index in
    let same : c.as_slice-entry-items.result.now ≡ xs = c.as_slice-entry-items.ensures.value in
    let e : drop i xs ≡ c.entry-item.result ∷ drop (i + 1) xs = subst (λ l. drop i l ≡ c.entry-item.result ∷ drop (i + 1) l) same (drop_next c.as_slice-entry-items.result.now i c.entry-item.result c.loop-entry-test.true c.entry-item.is) in
    let view = λ (x : Unit {0}). made_of c.unless_keyword.new.made c.unless_keyword.new.defined in
    let here = (step c.entry-item.result (made_of c.loop-entry.made c.loop-entry.defined)).run c.args.stock.now in
    tells_along view c.unless_keyword.new.runs (Err c.in-Err.e) (tallied c.args.runs.now ((each step xs (made_of c.args.made.now c.args.defined.now)).run c.args.stock.now)) (tallied c.loop-entry.runs (continued here (λ a. (each step (drop (i + 1) xs) a).run c.args.stock.now)))
    (c.loop-entry.invariant ∙ ap (λ l. tallied c.loop-entry.runs ((each step l (made_of c.loop-entry.made c.loop-entry.defined)).run c.args.stock.now)) e)
    (tells_err view c.unless_keyword.new.runs view c.loop-entry.runs here (λ a. (each step (drop (i + 1) xs) a).run c.args.stock.now) c.in-Err.e c.in-Err.ensures)

pub each_term-loop-entry-preserved : goal.each_term-loop-entry-preserved
each_term-loop-entry-preserved t c =
    let step = unless_keyword (check_by (processed_in c.args.levels) (rest_of c.args.rest.now)) (rest_of c.args.rest.now) c.args.entries.now in
    let xs = c.args.entries.now.0 in
    let i = c.loop-entry.entry-index in
    let same : c.as_slice-entry-items.result.now ≡ xs = c.as_slice-entry-items.ensures.value in
    let e : drop i xs ≡ c.entry-item.result ∷ drop (i + 1) xs = subst (λ l. drop i l ≡ c.entry-item.result ∷ drop (i + 1) l) same (drop_next c.as_slice-entry-items.result.now i c.entry-item.result c.loop-entry-test.true c.entry-item.is) in
    c.loop-entry.invariant ∙ ap (λ l. tallied c.loop-entry.runs ((each step l (made_of c.loop-entry.made c.loop-entry.defined)).run c.args.stock.now)) e
    ∙ each_next step c.args.stock.now c.loop-entry.runs c.unless_keyword.new.runs c.entry-item.result (drop (i + 1) xs) (made_of c.loop-entry.made c.loop-entry.defined) (made_of c.unless_keyword.new.made c.unless_keyword.new.defined) c.in-Ok.ensures

pub item_step-returns-in-Null : goal.item_step-returns-in-Null
item_step-returns-in-Null t c =
    let again = processed_in c.args.levels in
    let ask = item_ask c.args.call.now in
    let p = progress_of c.args.progress in
    tells_along progress_of _ _ _ _ (ap (λ x. tallied c.args.runs.now ((by_item again ask c.args.call.now.inputs.propagate x p).run c.args.stock.now)) (null_out c.args.item.now c.in-Null.is))
    (tells_comes progress_of c.args.runs.now _ (λ q. give (progress_of q)) (by_item again ask c.args.call.now.inputs.propagate Tree-F.Null p).run c.args.stock.now (λ q. refl) (c.null_item.ensures again))

pub process_in-returns-then-levels-eq0 : goal.process_in-returns-then-levels-eq0
process_in-returns-then-levels-eq0 t c =
    let ask = invocation c.args.inputs c.args.remote (flat c.args.active) c.args.local.now in
    ap (λ a. tallied c.args.runs.now (a.run c.args.stock.now)) (at_no_level ask c.args.levels c.if-levels-eq0.true)
    ∙ tallied_counted c.args.runs.now c.count_one.new.runs ((declines NestingLimit).run c.args.stock.now) c.count_one.ensures
    ∙ tallied_refused c.count_one.new.runs (stop.Own NestingLimit)

pub process_in-returns : goal.process_in-returns
process_in-returns t c =
    let ask = invocation c.args.inputs c.args.remote (flat c.args.active) c.args.local.now in
    let lt : 0 < c.args.levels = omega arith in
    tells_along flat _ _ _ _
    (ap (λ a. tallied c.args.runs.now (a.run c.args.stock.now)) (at_level ask c.args.levels lt)
    ∙ tallied_counted c.args.runs.now c.count_one.new.runs ((process_step (processed_in (c.args.levels - 1)) ask).run c.args.stock.now) c.count_one.ensures)
    c.process_step.ensures

pub process_step-returns-in-Ok : goal.process_step-returns-in-Ok
process_step-returns-in-Ok t c =
    let again = processed_in c.args.levels in
    let active = flat c.args.active in
    let local = c.args.local.now in
    let ask = invocation c.args.inputs c.args.remote active local in
    let p = is_propagated c.args.inputs.propagate (out-Tree local) in
    let e = in_parts again c.args.inputs c.args.remote active local c.in_ok-first_base.first_base c.in_ok-first_base.ensures c.is_propagated-propagate.result c.is_propagated-propagate.ensures (flat c.in_ok-ctx.ctx) c.in_ok-ctx.ensures c.items_of.result.now c.items_of.ensures in
    then_value c.args.runs.now c.each_item.new.runs ((each (item_step again ask p) (items_of local) (record { context = begun p active; remote = c.args.remote })).run c.args.stock.now) (λ a. a.context) (progress_of c.in-Ok.progress)
    (ap (λ o. tallied c.args.runs.now (o.run c.args.stock.now)) e ∙ c.in-Ok.ensures)

pub process_step-returns : goal.process_step-returns
process_step-returns t c =
    let again = processed_in c.args.levels in
    let active = flat c.args.active in
    let local = c.args.local.now in
    let ask = invocation c.args.inputs c.args.remote active local in
    let p = is_propagated c.args.inputs.propagate (out-Tree local) in
    let e = in_parts again c.args.inputs c.args.remote active local c.in_ok-first_base.first_base c.in_ok-first_base.ensures c.is_propagated-propagate.result c.is_propagated-propagate.ensures (flat c.in_ok-ctx.ctx) c.in_ok-ctx.ensures c.items_of.result.now c.items_of.ensures in
    tells_err flat c.each_item.new.runs progress_of c.args.runs.now ((each (item_step again ask p) (items_of local) (record { context = begun p active; remote = c.args.remote })).run c.args.stock.now) (λ a. (give a.context).run c.args.stock.now) c.in-Err.e
    (tells_along progress_of c.each_item.new.runs (Err c.in-Err.e) _ _ (ap (λ o. tallied c.args.runs.now (o.run c.args.stock.now)) e) c.in-Err.ensures)

pub define_term-returns-in-Err-check_scoped : goal.define_term-returns-in-Err-check_scoped
define_term-returns-in-Err-check_scoped t c =
    let r = rest_of c.args.rest.now in
    let check = check_by (processed_in c.args.levels) r in
    let es = c.args.entries.now in
    let m = made_of c.loop-next.made c.loop-next.defined in
    let w = c.in-Check.waiting in
    let stock = c.args.stock.now in
    let e = c.in-Err-check_scoped.e in
    let told = subst (λ tree. Refuses e ((check m.context tree).run stock).result) c.scoped.ensures c.in-Err-check_scoped.ensures.told in
    let counted = subst (λ tree. UnlessNoMemory {A = Unit {0}} (Err e) (c.check_scoped.new.runs ≡ grown c.loop-next.runs ((check m.context tree).run stock).runs ((check m.context tree).run stock).reads)) c.scoped.ensures c.in-Err-check_scoped.ensures.counted in
    let view = λ (x : Unit {0}). made_of c.check_scoped.new.made c.loop-next.defined in
    let whole = tallied c.args.runs.now (term_outcome check r es c.args.name.now (made_of c.args.made.now c.args.defined.now) stock) in
    subst (λ s. Tells view c.check_scoped.new.runs (Err s) whole) (sym c.scoped_stop.ensures)
    (refused_scoped check r es stock c.loop-next.runs c.check_scoped.new.runs m w whole c.loop-next.next c.in-Check.is c.loop-next.invariant.same view e counted told)

pub define_term-returns-in-Err-go_on : goal.define_term-returns-in-Err-go_on
define_term-returns-in-Err-go_on t c =
    let r = rest_of c.args.rest.now in
    let check = check_by (processed_in c.args.levels) r in
    let es = c.args.entries.now in
    let m = made_of c.loop-next.made c.loop-next.defined in
    let n = made_of c.go_on.new.made c.go_on.new.defined in
    let w = c.in-Check.waiting in
    let stock = c.args.stock.now in
    let told = subst (λ tree. (x : Context) × (((check m.context tree).run stock).result ≡ Ok x)) c.scoped.ensures c.in-Ok-check_scoped.ensures.told in
    let counted = subst (λ tree. c.check_scoped.new.runs ≡ grown c.loop-next.runs ((check m.context tree).run stock).runs ((check m.context tree).run stock).reads) c.scoped.ensures c.in-Ok-check_scoped.ensures.counted in
    resumed_err check r es stock c.loop-next.runs c.check_scoped.new.runs m n w w.ready.scoped _ (outcome_on check r es stock m.context w) counted c.loop-next.next c.in-Check.is c.loop-next.invariant.same
    (λ (x : Unit {0}). n) (λ later. left_outcome check r es later n stock) c.in-Err-go_on.e
    (moved check r es stock _ _ c.loop-next.defined w (Err c.in-Err-go_on.e) (λ later. left_outcome check r es later n stock) c.in-Ok-check_scoped.ensures.same (c.in-Err-go_on.ensures.gives check stock) told.0 told.1)

pub check_on_copy-returns-in-Ok-clause-told : goal.check_on_copy-returns-in-Ok-clause-told
check_on_copy-returns-in-Ok-clause-told t c =
    let again = processed_in c.args.levels in
    let e = same_scoped (rest_of c.args.rest.now) c.args.local.now (flat c.args.made.now) (flat c.in_ok-active.active) c.in_ok-inputs.inputs c.in_ok-remote.remote (sym c.in_ok-active.ensures.equal) c.in_ok-inputs.ensures c.in_ok-remote.ensures in
    (flat c.in-Ok.field-0, ap (λ a. ((again a).run c.args.stock.now).result) e ∙ ap (λ (o : Tally Context). o.result) c.in-Ok.ensures)

pub check_in_place-returns-in_ok-made-in-Ok-clause-told : goal.check_in_place-returns-in_ok-made-in-Ok-clause-told
check_in_place-returns-in_ok-made-in-Ok-clause-told t c =
    let again = processed_in c.args.levels in
    let e = same_scoped (rest_of c.args.rest.now) c.args.local.now (flat c.args.made.now) (flat c.replace-active.result) c.in_ok-inputs.inputs c.in_ok-remote.remote (ap flat (sym c.replace-active.ensures.value)) c.in_ok-inputs.ensures c.in_ok-remote.ensures in
    (flat c.in-Ok.ctx, ap (λ a. ((again a).run c.args.stock.now).result) e ∙ ap (λ (o : Tally Context). o.result) c.in-Ok.ensures)

pub check_in_place-returns-in_ok-made-in-Ok-clause-same : goal.check_in_place-returns-in_ok-made-in-Ok-clause-same
check_in_place-returns-in_ok-made-in-Ok-clause-same t c =
    let again = processed_in c.args.levels in
    let rest = rest_of c.args.rest.now in
    let active = flat c.args.made.now in
    let local = c.args.local.now in
    let e = same_scoped rest local active (flat c.replace-active.result) c.in_ok-inputs.inputs c.in_ok-remote.remote (ap flat (sym c.replace-active.ensures.value)) c.in_ok-inputs.ensures c.in_ok-remote.ensures in
    let former = c.in_ok-former.ensures in
    c.in_ok-made-in-Ok.ensures
    ∙ undone_scoped c.args.levels c.args.stock.now (scoped_ask rest active local) c.args.entries.now (flat c.in-Ok.ctx) c.in_ok-former.former (own_is local c.args.entries.now (sym c.requires.own))
    (ap (λ a. ((again a).run c.args.stock.now).result) e ∙ ap (λ (o : Tally Context). o.result) c.in-Ok.ensures) former.base former.vocab former.language former.defs
