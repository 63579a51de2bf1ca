-- A context on which a scoped context was processed is as it was, once what was kept of it is put back.
use Rattle.std.proofs.Common.{◌≡◌, ℕ, List, [], ◌∷◌, Option, Some, None, Bool, true, false, cond, map, refl, sym, ap, ◌∙◌, true≢false, Ok}
use Rattle.std.specs.Prelude.{is_some, not, ◌&&◌, if◌then◌else◌, codes, fold}
use Rattle.std.specs.Cmp.{first_so, second_so}
use Rattle.std.specs.Ordering.{is_eq}
use Rattle.ld_tree.specs.Maps.{find}
use Rattle.ld_tree.specs.Names.{name_cmp, Sorted}
use Rattle.ld_tree.specs.declared.tree.Tree.{Tree, out-Tree}
use Rattle.ld_tree.specs.declared.tree.Tree.TheOpen.{Tree-F}
use Rattle.ld_rec.specs.declared.def.Def.{Def}
use Rattle.ld_rec.specs.Outcome.{Stock}
use Rattle.ld_rec.specs.Processing.{Ask, is_propagated, processed_in}
use Rattle.ld_rec.specs.Records.{Context, Layer}
use Rattle.ld_rec.specs.Words.{has}
use Rattle.ld_context.specs.declared.trial.Former.{Former}
use Rattle.ld_context.specs.Trials.{own_entries, former_entry, with_optional, with_former, undone}
use Rattle.ld_context.proofs.SameMaps.{at, same_name, put_there, put_beside, take_there, take_beside, same_maps, none_is}
use Rattle.ld_context.proofs.Scoping.{Framed, IsOwn, framed_by}

-- ---- which scoped contexts

absent : (value : Option Tree) → not (is_some value) ≡ true → value ≡ None
absent None h = refl
absent (Some x) h = absurd (true≢false (sym h))

module _ (tree : Tree) (local : Sorted Tree) where
  if_so : (x : Tree-F Tree) (entries : Sorted Tree) (b : Bool) → (if b then Some entries else None) ≡ Some local → (b ≡ true) × (entries ≡ local)
  if_so x entries true e = (refl, cc)
  if_so x entries false e = absurd (none_is local e)

  of_map : (entries : Sorted Tree) → out-Tree tree ≡ Tree-F.Map entries → (not (has entries (codes "@import")) && is_propagated true (Tree-F.Map entries) ≡ true) × (entries ≡ local) → IsOwn local true tree
  of_map entries is h = record {
    map = is ∙ ap (λ (l : Sorted Tree). Tree-F.Map l) h.1;
    import = ap (λ (l : Sorted Tree). find l (codes "@import")) (sym h.1) ∙ absent (find entries (codes "@import")) (first_so _ _ h.0);
    spread = ap (is_propagated true) is ∙ second_so _ _ h.0;
  }

  by_form : (x : Tree-F Tree) → out-Tree tree ≡ x → own_entries x ≡ Some local → IsOwn local true tree
  by_form (Tree-F.Map entries) is e = of_map entries is (if_so (Tree-F.Map entries) entries _ e)
  by_form Tree-F.Null is e = absurd (none_is local e)
  by_form (Tree-F.Bool b) is e = absurd (none_is local e)
  by_form (Tree-F.Num n) is e = absurd (none_is local e)
  by_form (Tree-F.Text text) is e = absurd (none_is local e)
  by_form (Tree-F.List items) is e = absurd (none_is local e)

  pub own_is : own_entries (out-Tree tree) ≡ Some local → IsOwn local true tree
  own_is e = by_form (out-Tree tree) refl e

-- ---- the definitions

set : (terms : Sorted Def) (name : List ℕ) (value : Option Def) → find (with_optional terms name value) name ≡ value
set terms name (Some def) = put_there name def terms.0
set terms name None = take_there name terms.0 terms.1

beside : (terms : Sorted Def) (name : List ℕ) (value : Option Def) (other : List ℕ) → is_eq (name_cmp other name) ≡ false → find (with_optional terms name value) other ≡ find terms other
beside terms name (Some def) other apart = put_beside name def other apart terms.0
beside terms name None other apart = take_beside name other apart terms.0

module _ (start : Context) where
  next_alike : (terms : Sorted Def) (e : List ℕ × Tree) (es : List (List ℕ × Tree)) → ((name : List ℕ) → is_some (at (e ∷ es) name) ≡ false → find terms name ≡ find start.own.terms name)
      → (name : List ℕ) (b : Bool) → is_eq (name_cmp name e.0) ≡ b → is_some (at es name) ≡ false → find (with_former terms (former_entry start e)) name ≡ find start.own.terms name
  next_alike terms e es h name true is away =
      let same : name ≡ e.0 = same_name name e.0 is in
      ap (λ n. find (with_former terms (former_entry start e)) n) same ∙ set terms e.0 (find start.own.terms e.0) ∙ ap (λ n. find start.own.terms n) (sym same)
  next_alike terms e es h name false is away =
      beside terms e.0 (find start.own.terms e.0) name is ∙ h name (ap (λ b. is_some (cond b (Some e.1) (at es name))) is ∙ away)

  put_back : (es : List (List ℕ × Tree)) (terms : Sorted Def) → ((name : List ℕ) → is_some (at es name) ≡ false → find terms name ≡ find start.own.terms name)
      → fold with_former terms (map (former_entry start) es) ≡ start.own.terms
  put_back [] terms h = same_maps terms start.own.terms (λ name. h name refl)
  put_back (e ∷ es) terms h = put_back es (with_former terms (former_entry start e)) (λ name. next_alike terms e es h name (is_eq (name_cmp name e.0)) refl)

-- ---- the whole context

abbrev built : (base first_base vocab language direction : Option (List ℕ)) → Sorted Def → List Layer → Context
built base first_base vocab language direction terms before = record {
  own = record { base = base; first_base = first_base; vocab = vocab; language = language; direction = direction; terms = terms };
  before = before;
}

pub undone_is : (local : Sorted Tree) (start now : Context) (former : Former) → Framed local start now → former.base ≡ start.own.base → former.vocab ≡ start.own.vocab → former.language ≡ start.own.language
    → former.defs.items ≡ map (former_entry start) local.0 → undone former now ≡ start
undone_is local start now former framed base vocab language defs =
    let terms : fold with_former now.own.terms former.defs.items ≡ start.own.terms = ap (fold with_former now.own.terms) defs ∙ put_back start local.0 now.own.terms framed.beside in
    let t = fold with_former now.own.terms former.defs.items in
    let s = start.own in
    ap (λ x. built x now.own.first_base former.vocab former.language now.own.direction t now.before) base
    ∙ ap (λ x. built s.base x former.vocab former.language now.own.direction t now.before) framed.first_base
    ∙ ap (λ x. built s.base s.first_base x former.language now.own.direction t now.before) vocab
    ∙ ap (λ x. built s.base s.first_base s.vocab x now.own.direction t now.before) language
    ∙ ap (λ x. built s.base s.first_base s.vocab s.language x t now.before) framed.direction
    ∙ ap (λ x. built s.base s.first_base s.vocab s.language s.direction x now.before) terms
    ∙ ap (λ x. built s.base s.first_base s.vocab s.language s.direction s.terms x) framed.before

-- what the scoped context made of the context, undone
pub undone_scoped : (left : ℕ) (stock : Stock) (ask : Ask) (local : Sorted Tree) (now : Context) (former : Former) → IsOwn local ask.propagate ask.local → ((processed_in left ask).run stock).result ≡ Ok now
    → former.base ≡ ask.active.own.base → former.vocab ≡ ask.active.own.vocab → former.language ≡ ask.active.own.language → former.defs.items ≡ map (former_entry ask.active) local.0 → undone former now ≡ ask.active
undone_scoped left stock ask local now former own is base vocab language defs = undone_is local ask.active now former (framed_by left stock ask local now own is) base vocab language defs
