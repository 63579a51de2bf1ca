-- That context processing keeps what contexts promise.
use Rattle.std.proofs.Common.{◌≡◌, ℕ, ◌≤◌, zero, suc, ◌-◌, ◌+◌, refl, Bool, true, false, List, [], ◌∷◌, ◌++◌, length, Option, Some, None, Ok, subst, rules, arith}
use Rattle.std.specs.Prelude.{nat_le, not, if◌then◌else◌, ◌&&◌, codes}
use Rattle.std.proofs.lemmas.Bool.{leb-true}
use Rattle.std.specs.List.{AllByRecursion}
use Rattle.ld_iri.specs.Words.{is_iri}
use Rattle.ld_iri.specs.Resolution.{resolved}
use Rattle.ld_tree.specs.Maps.{find, empty}
use Rattle.ld_tree.specs.Names.{Sorted}
use Rattle.ld_tree.specs.declared.tree.Tree.{Tree, out-Tree}
use Rattle.ld_tree.specs.declared.tree.Tree.TheOpen.{Tree-F}
use Rattle.ld_rec.specs.declared.doc.Doc.{Doc}
use Rattle.ld_rec.specs.Iris.{iri_of}
use Rattle.ld_rec.specs.Outcome.{Stock, give, each}
use Rattle.ld_rec.specs.Processing.{Ask, Again, Progress, levels, previous_limit, remote_limit, within_limit, anew, nullified, against, loadable, context_in, base_of, remote_ask}
use Rattle.ld_rec.specs.Processing.{dereferenced, by_remote, version_in, import_in, with_base, if_resolved, relative_base, base_in, base_unless_remote, with_vocab, by_vocab_iri}
use Rattle.ld_rec.specs.Processing.{vocab_in, default_language_in, with_default_language, without_direction, propagate_in, protected_in, keywords_in, check_by, context_keywords}
use Rattle.ld_rec.specs.Processing.{unless_keyword, rest_of, terms_in, by_entries, by_map, is_propagated, first_kept, begun, by_item, item_step, by_items, process_step}
use Rattle.ld_rec.specs.Processing.{processed_in, processed}
use Rattle.ld_rec.specs.Promises.{IsBase, KeepsLayer, KeepsContext, KeepsAsk}
use Rattle.ld_rec.specs.Records.{Context, Layer, first_of, previous, fresh, fresh_layer, has_protected}
use Rattle.ld_rec.specs.Terms.{Made, Rest, Check}
use Rattle.ld_rec.specs.Words.{is_among, is_iri_or_blank, lowered, has, items_of, opened}
use Rattle.ld_rec.proofs.Holding.{Holds, OkHas, anything, gives, failing, declining, when, when_so, next, asking, counting, each_keeps}
use Rattle.ld_rec.proofs.PromisingTerms.{KeepsMade, defined_keeps}

-- ---- contexts

fresh_keeps : (base : Option (List ℕ)) → IsBase base → KeepsLayer (fresh_layer base)
fresh_keeps base h = record { base = h; first_base = h; terms = tt }

pub fresh_context_keeps : (base : Option (List ℕ)) → IsBase base → KeepsContext (fresh base)
fresh_context_keeps base h = record { own = fresh_keeps base h; before = tt; within = search rules }

first_of_keeps : (layers : List Layer) (context : Context) → AllByRecursion KeepsLayer layers → length layers ≤ previous_limit → first_of layers ≡ Some context → KeepsContext context
first_of_keeps [] context h few e = absurd (cc)
first_of_keeps (layer ∷ layers) context h few e = subst KeepsContext (let inner : record { own = layer; before = layers } ≡ context = cc in inner) (record { own = h.0; before = h.1; within = omega (arith, few) })

pub previous_keeps : (context before : Context) → KeepsContext context → previous context ≡ Some before → KeepsContext before
previous_keeps context before h e = first_of_keeps context.before before h.before h.within e

within_limit_keeps : (context : Context) → KeepsLayer context.own → AllByRecursion KeepsLayer context.before → Holds KeepsContext (within_limit context)
within_limit_keeps context own before =
    when_so (nat_le (length context.before) previous_limit) _ _ (λ few. gives context (record { own = own; before = before; within = leb-true _ _ few })) (declining _)

anew_keeps : (base : Option (List ℕ)) (propagate : Bool) (context : Context) → IsBase base → KeepsContext context → Holds KeepsContext (within_limit (anew base propagate context))
anew_keeps base true context b h = within_limit_keeps (anew base true context) (fresh_keeps base b) tt
anew_keeps base false context b h = within_limit_keeps (anew base false context) (fresh_keeps base b) (h.own, h.before)

nullified_keeps : (base : Option (List ℕ)) (over propagate : Bool) (context : Context) → IsBase base → KeepsContext context → Holds KeepsContext (nullified base over propagate context)
nullified_keeps base over propagate context b h = when (not over && has_protected context) _ _ (failing _) (anew_keeps base propagate context b h)

with_base_keeps : (base : Option (List ℕ)) (context : Context) → IsBase base → KeepsContext context → KeepsContext (with_base base context)
with_base_keeps base context b h = record { own = record { base = b; first_base = h.own.first_base; terms = h.own.terms }; before = h.before; within = h.within }

with_vocab_keeps : (vocab : Option (List ℕ)) (context : Context) → KeepsContext context → KeepsContext (with_vocab vocab context)
with_vocab_keeps vocab context h = record { own = record { base = h.own.base; first_base = h.own.first_base; terms = h.own.terms }; before = h.before; within = h.within }

with_default_language_keeps : (language : Option (List ℕ)) (context : Context) → KeepsContext context → KeepsContext (with_default_language language context)
with_default_language_keeps language context h = record { own = record { base = h.own.base; first_base = h.own.first_base; terms = h.own.terms }; before = h.before; within = h.within }

first_kept_keeps : (context : Context) (before : List Layer) → KeepsContext context → KeepsContext (first_kept context before)
first_kept_keeps context [] h = record { own = h.own; before = (h.own, tt); within = search rules }
first_kept_keeps context (layer ∷ layers) h = h

begun_keeps : (propagate : Bool) (context : Context) → KeepsContext context → KeepsContext (begun propagate context)
begun_keeps true context h = h
begun_keeps false context h = first_kept_keeps context context.before h

-- ---- the keywords of a context definition

if_resolved_keeps : (context : Context) (iri : List ℕ) → KeepsContext context → Holds KeepsContext (if_resolved context iri)
if_resolved_keeps context iri h = when_so (is_iri iri) _ _ (λ so. gives _ (with_base_keeps (Some iri) context so h)) (failing _)

relative_base_keeps : (context : Context) (text : List ℕ) (base : Option (List ℕ)) → KeepsContext context → Holds KeepsContext (relative_base context text base)
relative_base_keeps context text (Some base) h = if_resolved_keeps context (resolved base text) h
relative_base_keeps context text None h = failing _

base_in_keeps : (value : Option (Tree-F Tree)) (context : Context) → KeepsContext context → Holds KeepsContext (base_in value context)
base_in_keeps None context h = gives context h
base_in_keeps (Some Tree-F.Null) context h = gives _ (with_base_keeps None context tt h)
base_in_keeps (Some (Tree-F.Text text)) context h =
    when_so (is_iri text) _ _ (λ so. gives _ (with_base_keeps (Some text) context so h)) (relative_base_keeps context text context.own.base h)
base_in_keeps (Some _) context h = failing _

base_unless_remote_keeps : (remote : List (List ℕ)) (value : Option (Tree-F Tree)) (context : Context) → KeepsContext context → Holds KeepsContext (base_unless_remote remote value context)
base_unless_remote_keeps [] value context h = base_in_keeps value context h
base_unless_remote_keeps (iri ∷ iris) value context h = gives context h

by_vocab_iri_keeps : (iri : Option (List ℕ)) (context : Context) → KeepsContext context → Holds KeepsContext (by_vocab_iri iri context)
by_vocab_iri_keeps None context h = failing _
by_vocab_iri_keeps (Some iri) context h = when (is_iri_or_blank iri) _ _ (gives _ (with_vocab_keeps (Some iri) context h)) (failing _)

vocab_in_keeps : (value : Option (Tree-F Tree)) (context : Context) → KeepsContext context → Holds KeepsContext (vocab_in value context)
vocab_in_keeps None context h = gives context h
vocab_in_keeps (Some Tree-F.Null) context h = gives _ (with_vocab_keeps None context h)
vocab_in_keeps (Some (Tree-F.Text text)) context h = by_vocab_iri_keeps (iri_of context text true true) context h
vocab_in_keeps (Some _) context h = failing _

default_language_in_keeps : (value : Option (Tree-F Tree)) (context : Context) → KeepsContext context → Holds KeepsContext (default_language_in value context)
default_language_in_keeps None context h = gives context h
default_language_in_keeps (Some Tree-F.Null) context h = gives _ (with_default_language_keeps None context h)
default_language_in_keeps (Some (Tree-F.Text tag)) context h = gives _ (with_default_language_keeps (Some (lowered tag)) context h)
default_language_in_keeps (Some _) context h = failing _

without_direction_keeps : (entries : Sorted Tree) (context : Context) → KeepsContext context → Holds KeepsContext (without_direction entries context)
without_direction_keeps entries context h = when (has entries (codes "@direction")) _ _ (declining _) (gives context h)

propagate_in_keeps : (value : Option (Tree-F Tree)) (context : Context) → KeepsContext context → Holds KeepsContext (propagate_in value context)
propagate_in_keeps None context h = gives context h
propagate_in_keeps (Some (Tree-F.Bool b)) context h = gives context h
propagate_in_keeps (Some _) context h = failing _

keywords_in_keeps : (remote : List (List ℕ)) (entries : Sorted Tree) (context : Context) → KeepsContext context → Holds KeepsContext (keywords_in remote entries context)
keywords_in_keeps remote entries context h =
    next _ _ (next _ _ (next _ _ (next _ _
    (base_unless_remote_keeps remote (opened (find entries (codes "@base"))) context h) (vocab_in_keeps (opened (find entries (codes "@vocab")))))
    (default_language_in_keeps (opened (find entries (codes "@language"))))) (without_direction_keeps entries)) (propagate_in_keeps (opened (find entries (codes "@propagate"))))

-- ---- one item after another

abbrev KeepsProgress : Progress → Type 0
KeepsProgress progress = KeepsContext progress.context

with_context : (progress : Progress) (context : Context) → KeepsContext context → Holds KeepsProgress (give (record progress { context = context }))
with_context progress context h = gives _ h

base_of_keeps : (doc : Doc) → IsBase (base_of doc)
base_of_keeps doc = if_so (is_iri doc.url) refl
  where
    if_so : (test : Bool) → is_iri doc.url ≡ test → IsBase (if test then Some doc.url else None)
    if_so true e = e
    if_so false e = tt

module _ (again : Again) (again_keeps : (ask : Ask) → KeepsAsk ask → Holds KeepsContext (again ask)) (ask : Ask) (promised : KeepsAsk ask) where
  dereferenced_keeps : (progress : Progress) (doc : Doc) → KeepsProgress progress → Holds KeepsProgress (dereferenced again ask progress doc)
  dereferenced_keeps progress doc h =
      next (context_in doc doc.body) _ (anything _) (λ local _.
      next (again (remote_ask ask doc progress local)) _ (again_keeps (remote_ask ask doc progress local) (record { active = h; base = base_of_keeps doc })) (with_context progress))

  by_remote_keeps : (progress : Progress) (iri : Option (List ℕ)) → KeepsProgress progress → Holds KeepsProgress (by_remote again ask progress iri)
  by_remote_keeps progress None h = failing _
  by_remote_keeps progress (Some iri) h =
      when (not ask.validate && is_among progress.remote iri) _ _ (gives progress h)
      (when (nat_le remote_limit (length progress.remote)) _ _ (failing _)
      (asking iri _ (λ doc. dereferenced_keeps (record progress { remote = progress.remote ++ iri ∷ [] }) doc h)))

  unless_keyword_keeps : (check : Check) (rest : Rest) → IsBase rest.base → (local : Sorted Tree) (e : List ℕ × Tree) (made : Made) → KeepsMade made → Holds KeepsMade (unless_keyword check rest local e made)
  unless_keyword_keeps check rest base local e made h = when (is_among context_keywords e.0) _ _ (gives made h) (defined_keeps check rest base local e.0 made h)

  terms_in_keeps : (progress : Progress) (local : Sorted Tree) (protected : Bool) (context : Context) → KeepsContext context → Holds KeepsProgress (terms_in again ask progress local protected context)
  terms_in_keeps progress local protected context h =
      let rest = rest_of ask progress protected in
      let check = check_by again rest in
      next (each (unless_keyword check rest local) local.0 (record { context = context; table = empty })) _
      (each_keeps (unless_keyword check rest local) (unless_keyword_keeps check rest promised.base local) local.0 (record { context = context; table = empty }) h)
      (λ made. with_context progress made.context)

  by_entries_keeps : (progress : Progress) (entries : Sorted Tree) → KeepsProgress progress → Holds KeepsProgress (by_entries again ask progress entries)
  by_entries_keeps progress entries h =
      next (keywords_in progress.remote entries progress.context) _ (keywords_in_keeps progress.remote entries progress.context h) (λ context k.
      next (protected_in (opened (find entries (codes "@protected")))) _ (anything _) (λ protected _. terms_in_keeps progress entries protected context k))

  by_map_keeps : (progress : Progress) (entries : Sorted Tree) → KeepsProgress progress → Holds KeepsProgress (by_map again ask progress entries)
  by_map_keeps progress entries h =
      next (version_in (opened (find entries (codes "@version")))) _ (anything _) (λ _ _.
      next (import_in ask.base entries (opened (find entries (codes "@import")))) _ (anything _) (λ whole _. by_entries_keeps progress whole h))

  by_item_keeps : (propagate : Bool) (value : Tree-F Tree) (progress : Progress) → KeepsProgress progress → Holds KeepsProgress (by_item again ask propagate value progress)
  by_item_keeps propagate Tree-F.Null progress h =
      next (nullified ask.active.own.first_base ask.over propagate progress.context) _
      (nullified_keeps ask.active.own.first_base ask.over propagate progress.context promised.active.own.first_base h) (with_context progress)
  by_item_keeps propagate (Tree-F.Text text) progress h = by_remote_keeps progress (loadable (against ask.base text)) h
  by_item_keeps propagate (Tree-F.Map entries) progress h = by_map_keeps progress entries h
  by_item_keeps propagate _ progress h = failing _

  by_items_keeps : (propagate : Bool) → Holds KeepsContext (by_items again ask propagate)
  by_items_keeps propagate =
      let first : Progress = record { context = begun propagate ask.active; remote = ask.remote } in
      next (each (item_step again ask propagate) (items_of ask.local) first) _
      (each_keeps (item_step again ask propagate) (λ item progress. by_item_keeps propagate (out-Tree item) progress) (items_of ask.local) first (begun_keeps propagate ask.active promised.active))
      (λ progress. gives progress.context)

  process_step_keeps : Holds KeepsContext (process_step again ask)
  process_step_keeps = by_items_keeps (is_propagated ask.propagate (out-Tree ask.local))

-- ---- the whole

processed_in_keeps : (left : ℕ) (ask : Ask) → KeepsAsk ask → Holds KeepsContext (processed_in left ask)
unfolding processed_in
processed_in_keeps zero ask h = counting _ (declining _)
processed_in_keeps (suc left) ask h = counting _ (process_step_keeps (processed_in left) (processed_in_keeps left) ask h)

pub process_keeps : (stock : Stock) (ask : Ask) (context : Context) → KeepsAsk ask → (processed stock ask).result ≡ Ok context → KeepsContext context
process_keeps stock ask context h is = subst (OkHas KeepsContext) is ((processed_in_keeps (levels + 1 - ask.depth) ask h).over stock)
