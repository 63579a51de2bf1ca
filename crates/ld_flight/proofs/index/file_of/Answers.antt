use Rattle.std.proofs.Common.{◌≡◌, ◌∙◌, ◌∷◌, ◌++◌, [], sym, ap, subst, take, drop, ◌+◌, length, All, ℕ, List, Bor, map, lit<}
use Rattle.std.proofs.lemmas.Iterator.Splits.{YieldsList-from_str_split}
use Rattle.std.proofs.lemmas.Iterator.Consumers.{YieldsList-at, YieldsList-turn, YieldsList-end, YieldsList-so_far}
use Rattle.std.proofs.lemmas.List.{map-append, take-append-drop, drop_more}
use Rattle.std.proofs.lemmas.List.Elements.{All-append}
use Rattle.ld_flight.proofs.Named.{All-one}
use Rattle.ld_flight.specs.Index.{lines_of, NamesNone}
use Rattle.ld_flight.proofs.index.file_of.Goals as goal

pub returns-in-Some-file_in : goal.returns-in-Some-file_in
returns-in-Some-file_in c =
    let e = YieldsList-at c.into_iter-line-iterator.ensures.into_iter_gives (YieldsList-from_str_split 10 c.args.index.now (lit< tt) c.split-line-items.ensures.text c.split-line-items.ensures.has_more c.split-line-items.ensures.pattern) in
    let turn = YieldsList-turn e c.loop-line.yielded _ c.loop-line.yielded_by _ _ c.in-Some.line c.in-Some.is c.next.ensures.steps in
    let all = lines_of c.args.index.now in
    let n = length c.loop-line.yielded in
    record {
      before = take n all;
      line = c.in-Some.line.now;
      after = drop (n + 1) all;
      lines_are = sym (take-append-drop n all) ∙ ap (λ lines. take n all ++ lines) (drop_more all n c.in-Some.line.now turn.0 ∙ ap (λ line. line ∷ drop (n + 1) all) (sym turn.1));
      none_before = subst (λ lines. All (NamesNone c.args.iri.now) lines) (YieldsList-so_far e c.loop-line.yielded _ c.loop-line.yielded_by) c.loop-line.invariant;
      names = c.in-Some-file_in.ensures;
    }

pub loop-line-preserved : goal.loop-line-preserved
loop-line-preserved c =
    let now = λ (line : Bor (List ℕ)). line.now in
    subst (λ lines. All (NamesNone c.args.iri.now) lines) (sym (map-append now c.loop-line.yielded (c.in-Some.line ∷ [])))
    (All-append (NamesNone c.args.iri.now) (map now c.loop-line.yielded) (c.in-Some.line.now ∷ []) c.loop-line.invariant (All-one (NamesNone c.args.iri.now) c.in-Some.line.now c.in_default.ensures))

pub returns : goal.returns
returns c =
    let e = YieldsList-at c.into_iter-line-iterator.ensures.into_iter_gives (YieldsList-from_str_split 10 c.args.index.now (lit< tt) c.split-line-items.ensures.text c.split-line-items.ensures.has_more c.split-line-items.ensures.pattern) in
    subst (λ lines. All (NamesNone c.args.iri.now) lines) (YieldsList-end e c.loop-line.yielded _ c.loop-line.yielded_by _ _ c.in-None.is c.next.ensures.steps).0 c.loop-line.invariant
