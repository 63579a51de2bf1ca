-- What stays true of a context while terms of a local context are defined in it: what a definition put or taken out
-- under a name of the local context leaves true.
use Rattle.std.proofs.Common.{◌≡◌, refl, ap, ℕ, zero, suc, Bool, true, false, List, Option, Some, None}
use Rattle.std.specs.Prelude.{◌==◌, ◌&&◌, ◌||◌, not, is_some, length, codes}
use Rattle.std.specs.Str.{bytes_eq}
use Rattle.std.specs.List.{list_all}
use Rattle.ld_iri.specs.Words.{is_iri, is_keyword_form}
use Rattle.ld_tree.specs.Maps.{find, put, take_out}
use Rattle.ld_tree.specs.Names.{Sorted}
use Rattle.ld_tree.specs.declared.tree.Tree.{Tree, out-Tree}
use Rattle.ld_tree.specs.declared.tree.Tree.TheOpen.{Tree-F}
use Rattle.ld_rec.specs.declared.def.Containers.{Containers}
use Rattle.ld_rec.specs.declared.def.Def.{Def}
use Rattle.ld_rec.specs.Iris.{parts, is_keyword_mapping}
use Rattle.ld_rec.specs.Outcome.{as_scoped, ◌>>=◌}
use Rattle.ld_rec.specs.Records.{Context, with_terms, def_of, same_text, new_def}
use Rattle.ld_rec.specs.Words.{is_keyword, is_among, is_iri_or_blank, names_are_among, has, opened, text_of}
use Rattle.ld_rec.specs.Terms.{entry_names, has_colon_or_slash, has_slash, typed_for_types, container_names, container_texts, containers_of, is_container_mapping, meaning_in}
use Rattle.ld_rec.specs.Terms.{is_type_mapping, is_compound, reverse_container, only_id, is_type_definition, Made, Rest, Draft, Check, Define, Mapped, marked, ignored, first_if}
use Rattle.ld_rec.specs.Terms.{first, first_prefix, first_of_form, first_of_value, first_all, put_def, kept_or, finished, only_known, prefixed, prefix_in, without_direction}
use Rattle.ld_rec.specs.Terms.{without_nest, without_index, language_in, language_unless_typed, with_scoped, scoped_in, ended, if_typed, with_containers, containers_named}
use Rattle.ld_rec.specs.Terms.{containers_in, mapped, by_vocab, by_meaning, by_term, by_own_parts, by_own, if_means, must_mean, with_iri, by_iri, some_draft, by_text, by_id_value}
use Rattle.ld_rec.specs.Terms.{by_id, mapped_or_ignored, forward, reversed, reversed_to, backward_to, backward, either_way, with_type, type_in, protected_in, drafted, by_value}
use Rattle.ld_rec.specs.Terms.{begun, begin, by_name, by_entry, by_table, define_step, nested, defined}
use Rattle.ld_rec.proofs.Holding.{Holds, anything, gives, failing, declining, when, next}

module _ (K : Context → Type 0) (local : Sorted Tree)
    (puts : (context : Context) (term : List ℕ) (def : Def) → has local term ≡ true → K context → K (with_terms context (put context.own.terms term def)))
    (takes : (context : Context) (term : List ℕ) → has local term ≡ true → K context → K (with_terms context (take_out context.own.terms term))) where
  abbrev pub KeepsMade : Made → Type 0
  KeepsMade made = K made.context

  abbrev pub KeepsDraft : Draft → Type 0
  KeepsDraft draft = KeepsMade draft.made

  abbrev pub KeepsMapped : Mapped → Type 0
  KeepsMapped None = Unit {0}
  KeepsMapped (Some draft) = KeepsDraft draft

  module _ (define : Define) (define_keeps : (term : List ℕ) (made : Made) → KeepsMade made → Holds KeepsMade (define term made)) where
    first_if_keeps : (due : Bool) (name : List ℕ) (made : Made) → KeepsMade made → Holds KeepsMade (first_if due define name made)
    first_if_keeps true name made h = define_keeps name made h
    first_if_keeps false name made h = gives made h

    first_keeps : (name : List ℕ) (made : Made) → KeepsMade made → Holds KeepsMade (first define local name made)
    first_keeps name made h = first_if_keeps _ name made h

    first_prefix_keeps : (p : Option (List ℕ × List ℕ)) (made : Made) → KeepsMade made → Holds KeepsMade (first_prefix define local p made)
    first_prefix_keeps (Some p) made h = when _ _ _ (gives made h) (first_keeps p.0 made h)
    first_prefix_keeps None made h = gives made h

    first_of_form_keeps : (value : List ℕ) (made : Made) → KeepsMade made → Holds KeepsMade (first_of_form define local value made)
    first_of_form_keeps value made h = when (is_some (def_of made.context value)) _ _ (gives made h) (first_prefix_keeps (parts value) made h)

    first_of_value_keeps : (value : List ℕ) (made : Made) → KeepsMade made → Holds KeepsMade (first_of_value define local value made)
    first_of_value_keeps value made h = next _ _ (first_keeps value made h) (first_of_form_keeps value)

    first_all_keeps : (value : List ℕ) (made : Made) → KeepsMade made → Holds KeepsMade (first_all define local value made)
    first_all_keeps value made h = when _ _ _ (gives made h) (first_of_value_keeps value made h)

  -- ---- definitions

  ignored_keeps : (term : List ℕ) (made : Made) → KeepsMade made → Holds KeepsMade (ignored term made)
  ignored_keeps term made h = gives _ h

  put_def_keeps : (term : List ℕ) (def : Def) (made : Made) → has local term ≡ true → KeepsMade made → KeepsMade (put_def term def made)
  put_def_keeps term def made there h = puts made.context term def there h

  finished_keeps : (rest : Rest) (term : List ℕ) (previous : Option Def) (draft : Draft) → has local term ≡ true → KeepsDraft draft → Holds KeepsMade (finished rest term previous draft)
  finished_keeps rest term previous draft there h =
      when rest.over _ _ (gives _ (put_def_keeps term draft.def draft.made there h))
      (next (kept_or previous draft.def) _ (anything (kept_or previous draft.def)) (λ def _. gives _ (put_def_keeps term def draft.made there h)))

  only_known_keeps : (entries : Sorted Tree) (draft : Draft) → KeepsDraft draft → Holds KeepsDraft (only_known entries draft)
  only_known_keeps entries draft h = when (names_are_among entry_names entries) _ _ (gives draft h) (failing _)

  prefixed_keeps : (is_prefix : Bool) (draft : Draft) → KeepsDraft draft → Holds KeepsDraft (prefixed is_prefix draft)
  prefixed_keeps is_prefix draft h = when (is_prefix && is_keyword_mapping draft.def.mapping) _ _ (failing _) (gives _ h)

  prefix_in_keeps : (term : List ℕ) (value : Option (Tree-F Tree)) (draft : Draft) → KeepsDraft draft → Holds KeepsDraft (prefix_in term value draft)
  prefix_in_keeps term None draft h = gives draft h
  prefix_in_keeps term (Some (Tree-F.Bool is_prefix)) draft h = when (has_colon_or_slash term) _ _ (failing _) (prefixed_keeps is_prefix draft h)
  prefix_in_keeps term (Some _) draft h = when (has_colon_or_slash term) _ _ (failing _) (failing _)

  without_direction_keeps : (entries : Sorted Tree) (draft : Draft) → KeepsDraft draft → Holds KeepsDraft (without_direction entries draft)
  without_direction_keeps entries draft h = when (has entries (codes "@direction")) _ _ (declining _) (gives draft h)

  without_nest_keeps : (entries : Sorted Tree) (draft : Draft) → KeepsDraft draft → Holds KeepsDraft (without_nest entries draft)
  without_nest_keeps entries draft h = when (has entries (codes "@nest")) _ _ (declining _) (gives draft h)

  without_index_keeps : (entries : Sorted Tree) (draft : Draft) → KeepsDraft draft → Holds KeepsDraft (without_index entries draft)
  without_index_keeps entries draft h = when (has entries (codes "@index")) _ _ (declining _) (gives draft h)

  language_in_keeps : (value : Option (Tree-F Tree)) (draft : Draft) → KeepsDraft draft → Holds KeepsDraft (language_in value draft)
  language_in_keeps None draft h = gives draft h
  language_in_keeps (Some Tree-F.Null) draft h = gives _ h
  language_in_keeps (Some (Tree-F.Text tag)) draft h = gives _ h
  language_in_keeps (Some _) draft h = failing _

  language_unless_typed_keeps : (entries : Sorted Tree) (draft : Draft) → KeepsDraft draft → Holds KeepsDraft (language_unless_typed entries draft)
  language_unless_typed_keeps entries draft h = when (has entries (codes "@type")) _ _ (gives draft h) (language_in_keeps (opened (find entries (codes "@language"))) draft h)

  if_typed_keeps : (draft : Draft) (typed : Option (List ℕ)) → KeepsDraft draft → Holds KeepsDraft (if_typed draft typed)
  if_typed_keeps draft None h = failing _
  if_typed_keeps draft (Some typed) h = gives _ h

  with_containers_keeps : (containers : Containers) (draft : Draft) → KeepsDraft draft → Holds KeepsDraft (with_containers containers draft)
  with_containers_keeps containers draft h =
      when containers.types _ _ (if_typed_keeps (record draft { def = record draft.def { containers = containers } }) (typed_for_types draft.def.typed) h) (gives _ h)

  containers_named_keeps : (names : Option (List (List ℕ))) (draft : Draft) → KeepsDraft draft → Holds KeepsDraft (containers_named names draft)
  containers_named_keeps None draft h = failing _
  containers_named_keeps (Some names) draft h =
      when (list_all (is_among container_names) names && is_container_mapping (containers_of names)) _ _ (with_containers_keeps (containers_of names) draft h) (failing _)

  containers_in_keeps : (value : Option (Tree-F Tree)) (draft : Draft) → KeepsDraft draft → Holds KeepsDraft (containers_in value draft)
  containers_in_keeps None draft h = gives draft h
  containers_in_keeps (Some value) draft h = containers_named_keeps (container_texts value) draft h

  by_vocab_keeps : (term : List ℕ) (vocab : Option (List ℕ)) (draft : Draft) → KeepsDraft draft → Holds KeepsDraft (by_vocab term vocab draft)
  by_vocab_keeps term (Some vocabulary) draft h = gives _ h
  by_vocab_keeps term None draft h = failing _

  by_meaning_keeps : (meaning : Option (List ℕ)) (draft : Draft) → KeepsDraft draft → Holds KeepsDraft (by_meaning meaning draft)
  by_meaning_keeps None draft h = failing _
  by_meaning_keeps (Some iri) draft h = when (is_iri iri) _ _ (gives _ h) (failing _)

  by_term_keeps : (term : List ℕ) (draft : Draft) → KeepsDraft draft → Holds KeepsDraft (by_term term draft)
  by_term_keeps term draft h =
      when (has_slash term) _ _ (by_meaning_keeps (meaning_in draft.made term) draft h)
      (when (bytes_eq term (codes "@type")) _ _ (gives _ h) (by_vocab_keeps term draft.made.context.own.vocab draft h))

  if_means_keeps : (term iri : List ℕ) (draft : Draft) → KeepsDraft draft → Holds KeepsDraft (if_means term iri draft)
  if_means_keeps term iri draft h = when (same_text (meaning_in draft.made term) (Some iri)) _ _ (gives draft h) (failing _)

  some_draft_keeps : (draft : Draft) → KeepsDraft draft → Holds KeepsMapped (some_draft draft)
  some_draft_keeps draft h = gives (Some draft) h

  with_type_keeps : (iri : Option (List ℕ)) (draft : Draft) → KeepsDraft draft → Holds KeepsDraft (with_type iri draft)
  with_type_keeps None draft h = failing _
  with_type_keeps (Some iri) draft h = when (is_type_mapping iri) _ _ (gives _ h) (failing _)

  -- ---- with the scoped context

  module _ (check : Check) (rest : Rest) where
    scoped_in_keeps : (value : Option Tree) (draft : Draft) → KeepsDraft draft → Holds KeepsDraft (scoped_in check rest value draft)
    scoped_in_keeps None draft h = gives draft h
    scoped_in_keeps (Some scoped) draft h = next (as_scoped (check draft.made.context scoped)) _ (anything (as_scoped (check draft.made.context scoped))) (λ _ _. gives (with_scoped rest scoped draft) h)

    ended_keeps : (term : List ℕ) (entries : Sorted Tree) (previous : Option Def) (draft : Draft) → has local term ≡ true → KeepsDraft draft → Holds KeepsMade (ended check rest term entries previous draft)
    ended_keeps term entries previous draft p h =
        next _ _ (next _ _ (next _ _ (next _ _ (next _ _ (next _ _ (next _ _
        (without_index_keeps entries draft h) (scoped_in_keeps (find entries (codes "@context")))) (language_unless_typed_keeps entries)) (without_direction_keeps entries))
        (without_nest_keeps entries)) (prefix_in_keeps term (opened (find entries (codes "@prefix"))))) (only_known_keeps entries)) (λ made. finished_keeps rest term previous made p)

    mapped_keeps : (term : List ℕ) (entries : Sorted Tree) (previous : Option Def) (draft : Draft) → has local term ≡ true → KeepsDraft draft → Holds KeepsMade (mapped check rest term entries previous draft)
    mapped_keeps term entries previous draft p h = next _ _ (containers_in_keeps (opened (find entries (codes "@container"))) draft h) (λ made. ended_keeps term entries previous made p)

    mapped_or_ignored_keeps : (term : List ℕ) (entries : Sorted Tree) (previous : Option Def) (made : Made) (m : Mapped) → has local term ≡ true → KeepsMade made → KeepsMapped m
        → Holds KeepsMade (mapped_or_ignored check rest term entries previous made m)
    mapped_or_ignored_keeps term entries previous made (Some draft) p k h = mapped_keeps term entries previous draft p h
    mapped_or_ignored_keeps term entries previous made None p k h = ignored_keeps term made k

  -- ---- with the other terms of the local context

  module _ (define : Define) (define_keeps : (term : List ℕ) (made : Made) → KeepsMade made → Holds KeepsMade (define term made)) where
    by_own_parts_keeps : (term : List ℕ) (p : Option (List ℕ × List ℕ)) (draft : Draft) → KeepsDraft draft → Holds KeepsDraft (by_own_parts define local term p draft)
    by_own_parts_keeps term None draft h = by_term_keeps term draft h
    by_own_parts_keeps term (Some p) draft h = next (first define local p.0 draft.made) _ (first_keeps define define_keeps p.0 draft.made h) (λ made k. gives _ k)

    by_own_keeps : (term : List ℕ) (draft : Draft) → KeepsDraft draft → Holds KeepsDraft (by_own define local term draft)
    by_own_keeps term draft h = by_own_parts_keeps term (parts term) draft h

    must_mean_keeps : (term iri : List ℕ) (draft : Draft) → KeepsDraft draft → Holds KeepsDraft (must_mean define local term iri draft)
    must_mean_keeps term iri draft h =
        when (is_compound term) _ _
        (next (first_all define local term (marked term true draft.made)) _ (first_all_keeps define define_keeps term (marked term true draft.made) h) (λ made k. if_means_keeps term iri (record draft { made = made }) k))
        (gives draft h)

    by_iri_keeps : (term : List ℕ) (is_simple : Bool) (meaning : Option (List ℕ)) (draft : Draft) → KeepsDraft draft → Holds KeepsDraft (by_iri define local term is_simple meaning draft)
    by_iri_keeps term is_simple None draft h = failing _
    by_iri_keeps term is_simple (Some iri) draft h =
        when (not (is_keyword iri || is_iri_or_blank iri)) _ _ (failing _)
        (when (bytes_eq iri (codes "@context")) _ _ (failing _) (must_mean_keeps term iri (with_iri is_simple term iri draft) h))

    by_text_keeps : (term : List ℕ) (is_simple : Bool) (value : List ℕ) (draft : Draft) → KeepsDraft draft → Holds KeepsMapped (by_text define local term is_simple value draft)
    by_text_keeps term is_simple value draft h =
        when (is_keyword_form value && not (is_keyword value)) _ _ (gives None tt)
        (next _ _ (next (first_all define local value draft.made) _ (first_all_keeps define define_keeps value draft.made h)
        (λ made k. by_iri_keeps term is_simple (meaning_in made value) (record draft { made = made }) k)) some_draft_keeps)

    own_draft_keeps : (term : List ℕ) (draft : Draft) → KeepsDraft draft → Holds KeepsMapped (by_own define local term draft >>= some_draft)
    own_draft_keeps term draft h = next _ _ (by_own_keeps term draft h) some_draft_keeps

    by_id_value_keeps : (term : List ℕ) (is_simple : Bool) (value : Tree-F Tree) (draft : Draft) → KeepsDraft draft → Holds KeepsMapped (by_id_value define local term is_simple value draft)
    by_id_value_keeps term is_simple (Tree-F.Text value) draft h = when (bytes_eq value term) _ _ (own_draft_keeps term draft h) (by_text_keeps term is_simple value draft h)
    by_id_value_keeps term is_simple Tree-F.Null draft h = some_draft_keeps draft h
    by_id_value_keeps term is_simple _ draft h = failing _

    by_id_keeps : (term : List ℕ) (is_simple : Bool) (value : Option (Tree-F Tree)) (draft : Draft) → KeepsDraft draft → Holds KeepsMapped (by_id define local term is_simple value draft)
    by_id_keeps term is_simple (Some value) draft h = by_id_value_keeps term is_simple value draft h
    by_id_keeps term is_simple None draft h = own_draft_keeps term draft h

    type_in_keeps : (value : Option (Tree-F Tree)) (draft : Draft) → KeepsDraft draft → Holds KeepsDraft (type_in define local value draft)
    type_in_keeps None draft h = gives draft h
    type_in_keeps (Some (Tree-F.Text value)) draft h =
        next (first_all define local value draft.made) _ (first_all_keeps define define_keeps value draft.made h) (λ made k. with_type_keeps (meaning_in made value) (record draft { made = made }) k)
    type_in_keeps (Some _) draft h = failing _

    module _ (rest : Rest) (term : List ℕ) where
      reversed_keeps : (previous : Option Def) (iri : List ℕ) (draft : Draft) (containers : Option Containers) → has local term ≡ true → KeepsDraft draft → Holds KeepsMade (reversed rest term previous iri draft containers)
      reversed_keeps previous iri draft None p h = failing _
      reversed_keeps previous iri draft (Some containers) p h = finished_keeps rest term previous (record draft { def = record draft.def { mapping = Some iri; reverse = true; containers = containers } }) p h

      reversed_to_keeps : (entries : Sorted Tree) (previous : Option Def) (meaning : Option (List ℕ)) (draft : Draft) → has local term ≡ true → KeepsDraft draft
          → Holds KeepsMade (reversed_to rest term entries previous meaning draft)
      reversed_to_keeps entries previous None draft p h = failing _
      reversed_to_keeps entries previous (Some iri) draft p h =
          when (is_iri_or_blank iri) _ _ (reversed_keeps previous iri draft (reverse_container (opened (find entries (codes "@container")))) p h) (failing _)

      backward_to_keeps : (entries : Sorted Tree) (previous : Option Def) (value : Option (List ℕ)) (draft : Draft) → has local term ≡ true → KeepsDraft draft
          → Holds KeepsMade (backward_to define rest local term entries previous value draft)
      backward_to_keeps entries previous None draft p h = failing _
      backward_to_keeps entries previous (Some value) draft p h =
          when (is_keyword_form value) _ _ (ignored_keeps term draft.made h)
          (next (first_all define local value draft.made) _ (first_all_keeps define define_keeps value draft.made h) (λ made k. reversed_to_keeps entries previous (meaning_in made value) (record draft { made = made }) p k))

      backward_keeps : (entries : Sorted Tree) (previous : Option Def) (value : Tree) (draft : Draft) → has local term ≡ true → KeepsDraft draft
          → Holds KeepsMade (backward define rest local term entries previous value draft)
      backward_keeps entries previous value draft p h =
          when (has entries (codes "@id") || has entries (codes "@nest")) _ _ (failing _) (backward_to_keeps entries previous (text_of value) draft p h)

    module _ (check : Check) (rest : Rest) (term : List ℕ) where
      forward_keeps : (is_simple : Bool) (entries : Sorted Tree) (previous : Option Def) (draft : Draft) → has local term ≡ true → KeepsDraft draft
          → Holds KeepsMade (forward check define rest local term is_simple entries previous draft)
      forward_keeps is_simple entries previous draft p h =
          next _ _ (by_id_keeps term is_simple (opened (find entries (codes "@id"))) draft h) (λ m. mapped_or_ignored_keeps check rest term entries previous draft.made m p h)

      either_way_keeps : (is_simple : Bool) (entries : Sorted Tree) (previous : Option Def) (value : Option Tree) (draft : Draft) → has local term ≡ true → KeepsDraft draft
          → Holds KeepsMade (either_way check define rest local term is_simple entries previous value draft)
      either_way_keeps is_simple entries previous (Some value) draft p h = backward_keeps rest term entries previous value draft p h
      either_way_keeps is_simple entries previous None draft p h = forward_keeps is_simple entries previous draft p h

      drafted_keeps : (is_simple : Bool) (entries : Sorted Tree) (previous : Option Def) (made : Made) → has local term ≡ true → KeepsMade made
          → Holds KeepsMade (drafted check define rest local term is_simple entries previous made)
      drafted_keeps is_simple entries previous made p h =
          next _ _ (next (protected_in rest.protected (opened (find entries (codes "@protected")))) _ (anything _)
          (λ protected _. type_in_keeps (opened (find entries (codes "@type"))) (record { def = new_def protected; made = made }) h))
          (λ draft. either_way_keeps is_simple entries previous (find entries (codes "@reverse")) draft p)

      by_value_keeps : (value : Tree-F Tree) (previous : Option Def) (made : Made) → has local term ≡ true → KeepsMade made
          → Holds KeepsMade (by_value check define rest local term value previous made)
      by_value_keeps Tree-F.Null previous made p h = drafted_keeps false (only_id Tree-F.Null) previous made p h
      by_value_keeps (Tree-F.Text value) previous made p h = drafted_keeps true (only_id (Tree-F.Text value)) previous made p h
      by_value_keeps (Tree-F.Map entries) previous made p h = drafted_keeps false entries previous made p h
      by_value_keeps _ previous made p h = failing _

      begin_keeps : (value : Tree) (made : Made) → has local term ≡ true → KeepsMade made → Holds KeepsMade (begin check define rest local term value made)
      begin_keeps value made p h = by_value_keeps (out-Tree value) (def_of made.context term) (begun term made) p (takes made.context term p h)

      by_name_keeps : (value : Tree) (made : Made) → has local term ≡ true → KeepsMade made → Holds KeepsMade (by_name check define rest local term value made)
      by_name_keeps value made p h =
          when (bytes_eq term (codes "@type")) _ _ (when (is_type_definition (out-Tree value)) _ _ (begin_keeps value made p h) (failing _))
          (when (is_keyword term) _ _ (failing _) (when (is_keyword_form term) _ _ (ignored_keeps term made h) (begin_keeps value made p h)))

      by_entry_keeps : (value : Option Tree) (made : Made) → find local term ≡ value → KeepsMade made → Holds KeepsMade (by_entry check define rest local term value made)
      by_entry_keeps None made is h = failing _
      by_entry_keeps (Some value) made is h = when (length term == 0) _ _ (failing _) (by_name_keeps value made (ap is_some is) h)

      by_table_keeps : (state : Option Bool) (made : Made) → KeepsMade made → Holds KeepsMade (by_table check define rest local term state made)
      by_table_keeps (Some true) made h = gives made h
      by_table_keeps (Some false) made h = failing _
      by_table_keeps None made h = by_entry_keeps (find local term) made refl h

      define_step_keeps : (made : Made) → KeepsMade made → Holds KeepsMade (define_step check define rest local term made)
      define_step_keeps made h = by_table_keeps (find made.table term) made h

  module _ (check : Check) (rest : Rest) where
    nested_keeps : (room : ℕ) (term : List ℕ) (made : Made) → KeepsMade made → Holds KeepsMade (nested check rest local room term made)
    unfolding nested
    nested_keeps zero term made h = failing _
    nested_keeps (suc room) term made h = define_step_keeps (nested check rest local room) (nested_keeps room) check rest term made h

    pub defined_keeps : (term : List ℕ) (made : Made) → KeepsMade made → Holds KeepsMade (defined check rest local term made)
    defined_keeps term made h = define_step_keeps (nested check rest local (length local.0)) (nested_keeps (length local.0)) check rest term made h
