-- What a scoped context that is a map leaves of the context that it is processed over: all but the base IRI, the
-- vocabulary mapping, the default language and the definitions under the map's own names.
use Rattle.std.proofs.Common.{◌≡◌, ℕ, zero, suc, List, [], ◌∷◌, Option, Some, None, Bool, true, false, refl, sym, ap, ◌∙◌, subst, Ok, true≢false}
use Rattle.std.specs.Prelude.{codes}
use Rattle.std.specs.Ordering.{is_eq}
use Rattle.ld_iri.specs.Words.{is_iri}
use Rattle.ld_iri.specs.Resolution.{resolved}
use Rattle.ld_tree.specs.Maps.{find, put, take_out, empty}
use Rattle.ld_tree.specs.Names.{name_cmp, Sorted}
use Rattle.ld_tree.specs.declared.tree.Tree.{Tree, out-Tree}
use Rattle.ld_tree.specs.declared.tree.Tree.TheOpen.{Tree-F}
use Rattle.ld_rec.specs.declared.def.Def.{Def}
use Rattle.ld_rec.specs.Iris.{iri_of}
use Rattle.ld_rec.specs.Outcome.{Stock, each}
use Rattle.ld_rec.specs.Processing.{Ask, Again, Progress, version_in, import_in, with_base, if_resolved, relative_base, base_in, base_unless_remote, with_vocab, by_vocab_iri}
use Rattle.ld_rec.specs.Processing.{vocab_in, default_language_in, with_default_language, without_direction, propagate_in, protected_in, keywords_in, check_by, context_keywords}
use Rattle.ld_rec.specs.Processing.{unless_keyword, rest_of, terms_in, by_entries, by_map, is_propagated, by_item, item_step, by_items, process_step, processed_in}
use Rattle.ld_rec.specs.Records.{Context, with_terms}
use Rattle.ld_rec.specs.Terms.{Made, Rest, Check}
use Rattle.ld_rec.specs.Words.{is_among, is_iri_or_blank, lowered, has, items_in, items_of, opened}
use Rattle.ld_rec.proofs.Holding.{Holds, OkHas, anything, gives, failing, declining, when, next, counting, each_keeps}
use Rattle.ld_context.proofs.Framing.{defined_keeps}
use Rattle.ld_context.proofs.SameMaps.{same_name, put_beside, take_beside, none_is}

pub record Framed (local : Sorted Tree) (start now : Context) : Type 0 where
  pub before : now.before ≡ start.before
  pub first_base : now.own.first_base ≡ start.own.first_base
  pub direction : now.own.direction ≡ start.own.direction
  pub beside : (name : List ℕ) → has local name ≡ false → find now.own.terms name ≡ find start.own.terms name

pub framed_itself : (local : Sorted Tree) (start : Context) → Framed local start start
framed_itself local start = record { before = refl; first_base = refl; direction = refl; beside = λ _ _. refl }

module _ (local : Sorted Tree) (start : Context) where
  abbrev K : Context → Type 0
  K now = Framed local start now

  apart : (name term : List ℕ) → has local term ≡ true → has local name ≡ false → is_eq (name_cmp name term) ≡ false
  apart name term there away = go (is_eq (name_cmp name term)) refl
    where
      go : (b : Bool) → is_eq (name_cmp name term) ≡ b → is_eq (name_cmp name term) ≡ false
      go false is = is
      go true is = absurd (true≢false (sym there ∙ ap (λ n. has local n) (sym (same_name name term is)) ∙ away))

  puts : (context : Context) (term : List ℕ) (def : Def) → has local term ≡ true → K context → K (with_terms context (put context.own.terms term def))
  puts context term def there h = record {
    before = h.before;
    first_base = h.first_base;
    direction = h.direction;
    beside = λ name away. put_beside term def name (apart name term there away) context.own.terms.0 ∙ h.beside name away;
  }

  takes : (context : Context) (term : List ℕ) → has local term ≡ true → K context → K (with_terms context (take_out context.own.terms term))
  takes context term there h = record {
    before = h.before;
    first_base = h.first_base;
    direction = h.direction;
    beside = λ name away. take_beside term name (apart name term there away) context.own.terms.0 ∙ h.beside name away;
  }

  -- ---- the keywords of a context definition

  with_base_keeps : (base : Option (List ℕ)) (context : Context) → K context → K (with_base base context)
  with_base_keeps base context h = record { before = h.before; first_base = h.first_base; direction = h.direction; beside = h.beside }

  with_vocab_keeps : (vocab : Option (List ℕ)) (context : Context) → K context → K (with_vocab vocab context)
  with_vocab_keeps vocab context h = record { before = h.before; first_base = h.first_base; direction = h.direction; beside = h.beside }

  with_default_language_keeps : (language : Option (List ℕ)) (context : Context) → K context → K (with_default_language language context)
  with_default_language_keeps language context h = record { before = h.before; first_base = h.first_base; direction = h.direction; beside = h.beside }

  if_resolved_keeps : (context : Context) (iri : List ℕ) → K context → Holds K (if_resolved context iri)
  if_resolved_keeps context iri h = when (is_iri iri) _ _ (gives _ (with_base_keeps (Some iri) context h)) (failing _)

  relative_base_keeps : (context : Context) (text : List ℕ) (base : Option (List ℕ)) → K context → Holds K (relative_base context text base)
  relative_base_keeps context text (Some base) h = if_resolved_keeps context (resolved base text) h
  relative_base_keeps context text None h = failing _

  base_in_keeps : (value : Option (Tree-F Tree)) (context : Context) → K context → Holds K (base_in value context)
  base_in_keeps None context h = gives context h
  base_in_keeps (Some Tree-F.Null) context h = gives _ (with_base_keeps None context h)
  base_in_keeps (Some (Tree-F.Text text)) context h = when (is_iri text) _ _ (gives _ (with_base_keeps (Some text) context h)) (relative_base_keeps context text context.own.base h)
  base_in_keeps (Some _) context h = failing _

  base_unless_remote_keeps : (remote : List (List ℕ)) (value : Option (Tree-F Tree)) (context : Context) → K context → Holds K (base_unless_remote remote value context)
  base_unless_remote_keeps [] value context h = base_in_keeps value context h
  base_unless_remote_keeps (iri ∷ iris) value context h = gives context h

  by_vocab_iri_keeps : (iri : Option (List ℕ)) (context : Context) → K context → Holds K (by_vocab_iri iri context)
  by_vocab_iri_keeps None context h = failing _
  by_vocab_iri_keeps (Some iri) context h = when (is_iri_or_blank iri) _ _ (gives _ (with_vocab_keeps (Some iri) context h)) (failing _)

  vocab_in_keeps : (value : Option (Tree-F Tree)) (context : Context) → K context → Holds K (vocab_in value context)
  vocab_in_keeps None context h = gives context h
  vocab_in_keeps (Some Tree-F.Null) context h = gives _ (with_vocab_keeps None context h)
  vocab_in_keeps (Some (Tree-F.Text text)) context h = by_vocab_iri_keeps (iri_of context text true true) context h
  vocab_in_keeps (Some _) context h = failing _

  default_language_in_keeps : (value : Option (Tree-F Tree)) (context : Context) → K context → Holds K (default_language_in value context)
  default_language_in_keeps None context h = gives context h
  default_language_in_keeps (Some Tree-F.Null) context h = gives _ (with_default_language_keeps None context h)
  default_language_in_keeps (Some (Tree-F.Text tag)) context h = gives _ (with_default_language_keeps (Some (lowered tag)) context h)
  default_language_in_keeps (Some _) context h = failing _

  without_direction_keeps : (entries : Sorted Tree) (context : Context) → K context → Holds K (without_direction entries context)
  without_direction_keeps entries context h = when (has entries (codes "@direction")) _ _ (declining _) (gives context h)

  propagate_in_keeps : (value : Option (Tree-F Tree)) (context : Context) → K context → Holds K (propagate_in value context)
  propagate_in_keeps None context h = gives context h
  propagate_in_keeps (Some (Tree-F.Bool b)) context h = gives context h
  propagate_in_keeps (Some _) context h = failing _

  keywords_in_keeps : (remote : List (List ℕ)) (entries : Sorted Tree) (context : Context) → K context → Holds K (keywords_in remote entries context)
  keywords_in_keeps remote entries context h =
      next _ _ (next _ _ (next _ _ (next _ _
      (base_unless_remote_keeps remote (opened (find entries (codes "@base"))) context h) (vocab_in_keeps (opened (find entries (codes "@vocab")))))
      (default_language_in_keeps (opened (find entries (codes "@language"))))) (without_direction_keeps entries)) (propagate_in_keeps (opened (find entries (codes "@propagate"))))

  -- ---- the whole map

  abbrev KeepsProgress : Progress → Type 0
  KeepsProgress progress = K progress.context

  abbrev KeepsMade : Made → Type 0
  KeepsMade made = K made.context

  unless_keyword_keeps : (check : Check) (rest : Rest) (e : List ℕ × Tree) (made : Made) → KeepsMade made → Holds KeepsMade (unless_keyword check rest local e made)
  unless_keyword_keeps check rest e made h = when (is_among context_keywords e.0) _ _ (gives made h) (defined_keeps K local puts takes check rest e.0 made h)

  module _ (again : Again) (ask : Ask) where
    terms_in_keeps : (progress : Progress) (protected : Bool) (context : Context) → K context → Holds KeepsProgress (terms_in again ask progress local protected context)
    terms_in_keeps progress protected context h =
        let rest = rest_of ask progress protected in
        let check = check_by again rest in
        next (each (unless_keyword check rest local) local.0 (record { context = context; table = empty })) _
        (each_keeps (unless_keyword check rest local) (unless_keyword_keeps check rest) local.0 (record { context = context; table = empty }) h)
        (λ made k. gives _ k)

    by_entries_keeps : (progress : Progress) → KeepsProgress progress → Holds KeepsProgress (by_entries again ask progress local)
    by_entries_keeps progress h =
        next (keywords_in progress.remote local progress.context) _ (keywords_in_keeps progress.remote local progress.context h) (λ context k.
        next (protected_in (opened (find local (codes "@protected")))) _ (anything _) (λ protected _. terms_in_keeps progress protected context k))

    -- without an import the entries are the map's own
    not_imported : (value : Option (Tree-F Tree)) → value ≡ None → Holds (λ whole. whole ≡ local) (import_in ask.base local value)
    not_imported None is = gives local refl
    not_imported (Some x) is = absurd (none_is x (sym is))

    by_map_keeps : find local (codes "@import") ≡ None → (progress : Progress) → KeepsProgress progress → Holds KeepsProgress (by_map again ask progress local)
    by_map_keeps absent progress h =
        next (version_in (opened (find local (codes "@version")))) _ (anything _) (λ _ _.
        next (import_in ask.base local (opened (find local (codes "@import")))) _ (not_imported (opened (find local (codes "@import"))) (ap opened absent))
        (λ whole is. subst (λ w. Holds KeepsProgress (by_entries again ask progress w)) (sym is) (by_entries_keeps progress h)))

-- a map without an import, which is propagated
pub record IsOwn (local : Sorted Tree) (propagate : Bool) (tree : Tree) : Type 0 where
  pub map : out-Tree tree ≡ Tree-F.Map local
  pub import : find local (codes "@import") ≡ None
  pub spread : is_propagated propagate (out-Tree tree) ≡ true

module _ (again : Again) (ask : Ask) (local : Sorted Tree) (own : IsOwn local ask.propagate ask.local) where
  abbrev Kept : Progress → Type 0
  Kept progress = Framed local ask.active progress.context

  abbrev begins : Progress
  begins = record { context = ask.active; remote = ask.remote }

  item_keeps : Holds Kept (item_step again ask true ask.local begins)
  item_keeps = subst (λ x. Holds Kept (by_item again ask true x begins)) (sym own.map) (by_map_keeps local ask.active again ask own.import begins (framed_itself local ask.active))

  one : items_of ask.local ≡ ask.local ∷ []
  one = ap (λ x. items_in ask.local x) own.map

  items_keep : Holds (Framed local ask.active) (by_items again ask true)
  items_keep =
      next (each (item_step again ask true) (items_of ask.local) begins) _
      (subst (λ items. Holds Kept (each (item_step again ask true) items begins)) (sym one) (next (item_step again ask true ask.local begins) (each (item_step again ask true) []) item_keeps (λ p h. gives p h)))
      (λ p h. gives p.context h)

  step_keeps : Holds (Framed local ask.active) (process_step again ask)
  step_keeps = subst (λ p. Holds (Framed local ask.active) (by_items again ask p)) (sym own.spread) items_keep

processed_framed : (left : ℕ) (ask : Ask) (local : Sorted Tree) → IsOwn local ask.propagate ask.local → Holds (Framed local ask.active) (processed_in left ask)
unfolding processed_in
processed_framed zero ask local own = counting _ (declining _)
processed_framed (suc left) ask local own = counting _ (step_keeps (processed_in left) ask local own)

pub framed_by : (left : ℕ) (stock : Stock) (ask : Ask) (local : Sorted Tree) (context : Context) → IsOwn local ask.propagate ask.local → ((processed_in left ask).run stock).result ≡ Ok context → Framed local ask.active context
framed_by left stock ask local context own is = subst (OkHas (Framed local ask.active)) is ((processed_framed left ask local own).over stock)
