use Rattle.std.proofs.Common.{◌≡◌, ◌<◌, ◌+◌, ℕ, List, length, get_or, take, map, find, ap, sym, ◌∙◌, subst, arith, nat_eq, true}
use Rattle.std.specs.List.{All, Contains, starts_with}
use Rattle.std.specs.Map.{keys_of}
use Rattle.ld_tree.specs.Names.{name_cmp}
use Rattle.ld_rec.specs.Records.{def_of}
use Rattle.ld_rec.specs.Records.{Context}
use Rattle.ld_inverse.proofs.Candidates.{among_at, among_contains, AtFront, AtFronts, found_at_front, group_begins, IsUpByTerm, least_of_fronts, none_at, one_more_front, prefixes_up, terms_up}
use Rattle.std.proofs.lemmas.List.{take_all}
use Rattle.std.proofs.lemmas.List.Elements.{All-contains}
use Rattle.ld_inverse.proofs.Leasts.{IsLeast}
use Rattle.ld_inverse.specs.Groups.{group, IsGrouped, IsInOrder}
use Rattle.ld_rec.specs.Prefixes.{compact_form, counts, Prefix, prefixes}
use Rattle.ld_rec.specs.Slots.{terms_of}
use Rattle.ld_inverse.proofs.compact_form.by_prefix.Goals as goal

-- what the table has under a front is what the context has
under_front : (all table shown found : List Prefix) (bytes iri : List ℕ) (n : ℕ) → shown ≡ table → bytes ≡ iri → IsGrouped name_cmp all table
    → (IsInOrder name_cmp shown → found ≡ group name_cmp (take n bytes) shown) → found ≡ group name_cmp (take n iri) all
under_front all table shown found bytes iri n e f grouped clause =
    clause (subst (IsInOrder name_cmp) (sym e) grouped.in_order) ∙ ap (λ b. group name_cmp (take n b) shown) f ∙ ap (group name_cmp (take n iri)) e ∙ grouped.same (take n iri)

go_up : (ctx : Context) → IsUpByTerm (prefixes ctx)
go_up ctx = prefixes_up (def_of ctx) (terms_of ctx) (terms_up (keys_of ctx.own.terms.0))

pub first_counting-requires : goal.first_counting-requires
first_counting-requires g c =
    let all = prefixes (g.V.View.flat c.args.ctx.now) in
    let n = get_or c.below-length-items.result.now c.loop-length.length-index 0 in
    let below : n < length c.args.iri.now = c.below-length-items.ensures.below c.loop-length.length-index 0 c.loop-length-test.true in
    let at = under_front all _ _ _ _ c.args.iri.now n c.as_slice-in-loop-length.ensures.value c.as_bytes.ensures.value c.requires.prefixes_grouped c.prefixes_of-prefixes.ensures in
    subst (All (λ (p : Prefix). starts_with nat_eq c.args.iri.now p.0 ≡ true)) (sym at) (group_begins c.args.iri.now all n (omega (arith, below)))

pub loop-length-init : goal.loop-length-init
loop-length-init g c = none_at c.args.iri.now (counts (g.V.View.flat c.args.ctx.now) c.args.iri.now c.args.has_value) (prefixes (g.V.View.flat c.args.ctx.now))

pub loop-length-preserved : goal.loop-length-preserved
loop-length-preserved g c =
    let ctx = g.V.View.flat c.args.ctx.now in
    let all = prefixes ctx in
    let iri = c.args.iri.now in
    let test = counts ctx iri c.args.has_value in
    let lengths = c.below-length-items.result.now in
    let i = c.loop-length.length-index in
    let n = get_or lengths i 0 in
    let at = under_front all _ _ _ _ iri n c.as_slice-in-loop-length.ensures.value c.as_bytes.ensures.value c.requires.prefixes_grouped c.prefixes_of-prefixes.ensures in
    let same : c.in_ok-found.found ≡ find test (map (compact_form iri) (group name_cmp (take n iri) all)) = c.in_ok-found.ensures ∙ ap (λ ps. find test (map (compact_form iri) ps)) at in
    let here : IsLeast (AtFront iri test all n) c.in_ok-found.found = subst (IsLeast (AtFront iri test all n)) (sym same) (found_at_front iri test all n (go_up ctx)) in
    subst (IsLeast (AtFronts iri test all (take (i + 1) lengths))) (sym c.shorter-best.ensures)
    (one_more_front iri test all lengths i c.loop-length.best c.in_ok-found.found c.loop-length-test.true c.loop-length.invariant here)

pub returns : goal.returns
returns g c =
    let ctx = g.V.View.flat c.args.ctx.now in
    let iri = c.args.iri.now in
    let test = counts ctx iri c.args.has_value in
    let lengths = c.below-length-items.result.now in
    let done : take c.loop-length.length-index lengths ≡ lengths = take_all c.loop-length.length-index lengths (omega arith) in
    least_of_fronts iri test (prefixes ctx) lengths c.loop-length.best
    (λ n m. All-contains (λ n. n < length iri) lengths n c.below-length-items.ensures.below (among_contains lengths n m))
    (λ p m h. let listed = All-contains (λ (p : Prefix). Contains c.args.inverse.now.lengths.items (length p.0)) (prefixes ctx) p c.requires.lengths_cover (among_contains (prefixes ctx) p m) in
    let kept = c.below-length-items.ensures.each (length p.0) h (subst (λ ns. Contains ns (length p.0)) (sym c.as_slice.ensures.value) listed) in
    among_at lengths kept.0 (length p.0) kept.1 kept.2)
    (subst (λ ns. IsLeast (AtFronts iri test (prefixes ctx) ns) c.loop-length.best) done c.loop-length.invariant)
