-- That defining terms asks for nothing but under short IRIs, where scoped contexts do.
use Rattle.std.proofs.Common.{ℕ, zero, suc, Bool, true, false, List, Option, Some, None}
use Rattle.std.specs.Prelude.{◌&&◌, ◌||◌, not, length, codes}
use Rattle.std.specs.List.{list_all}
use Rattle.std.specs.Str.{bytes_eq}
use Rattle.ld_iri.specs.Words.{is_keyword_form}
use Rattle.ld_tree.specs.Maps.{find}
use Rattle.ld_tree.specs.Names.{Sorted}
use Rattle.ld_tree.specs.declared.tree.Tree.{Tree, out-Tree}
use Rattle.ld_tree.specs.declared.tree.Tree.TheOpen.{Tree-F}
use Rattle.ld_rec.specs.declared.def.Containers.{Containers}
use Rattle.ld_rec.specs.declared.def.Def.{Def}
use Rattle.ld_rec.specs.Iris.{parts, is_keyword_mapping}
use Rattle.ld_rec.specs.Records.{Context, def_of, new_def}
use Rattle.ld_rec.specs.Words.{is_keyword, is_among, is_iri_or_blank, opened, text_of}
use Rattle.ld_rec.specs.Terms.{Made, Rest, Draft, Check, Define, Mapped, marked, first_if, first, first_prefix, first_all, kept_or, finished, prefix_in, language_in, scoped_in, ended, typed_for_types, has_colon_or_slash, if_typed, with_containers, container_names, containers_of, is_container_mapping, containers_named, container_texts, containers_in, meaning_in, by_vocab, by_meaning, by_term, by_own_parts, if_means, must_mean, with_iri, by_iri, by_text, by_id_value, by_id}
use Rattle.ld_rec.specs.Terms.{mapped_or_ignored, reverse_container, reversed, reversed_to, backward_to, either_way, with_type, type_in, protected_in, drafted, only_id, by_value, is_type_definition, begun, begin, by_name, by_entry, by_table, define_step, nested, defined}
use Rattle.ld_lacks.proofs.Short.{AsksShort, giving, failing, declining, when, scoping, next}

-- ---- what asks for nothing

kept_or_short : (previous : Option Def) (def : Def) → AsksShort (kept_or previous def)
kept_or_short None def = giving
kept_or_short (Some previous) def = when _ (when _ giving failing) giving

finished_short : (rest : Rest) (term : List ℕ) (previous : Option Def) (draft : Draft) → AsksShort (finished rest term previous draft)
finished_short rest term previous draft = when _ giving (next (kept_or_short previous draft.def) (λ _. giving))

prefix_in_short : (term : List ℕ) (value : Option (Tree-F Tree)) (draft : Draft) → AsksShort (prefix_in term value draft)
prefix_in_short term None draft = giving
prefix_in_short term (Some (Tree-F.Bool is_prefix)) draft = when (has_colon_or_slash term) failing (when (is_prefix && is_keyword_mapping draft.def.mapping) failing giving)
prefix_in_short term (Some _) draft = when (has_colon_or_slash term) failing failing

language_in_short : (value : Option (Tree-F Tree)) (draft : Draft) → AsksShort (language_in value draft)
language_in_short None draft = giving
language_in_short (Some Tree-F.Null) draft = giving
language_in_short (Some (Tree-F.Text tag)) draft = giving
language_in_short (Some _) draft = failing

if_typed_short : (draft : Draft) (typed : Option (List ℕ)) → AsksShort (if_typed draft typed)
if_typed_short draft None = failing
if_typed_short draft (Some typed) = giving

with_containers_short : (containers : Containers) (draft : Draft) → AsksShort (with_containers containers draft)
with_containers_short containers draft = when containers.types (if_typed_short (record draft { def = record draft.def { containers = containers } }) (typed_for_types draft.def.typed)) giving

containers_named_short : (names : Option (List (List ℕ))) (draft : Draft) → AsksShort (containers_named names draft)
containers_named_short None draft = failing
containers_named_short (Some names) draft = when (list_all (is_among container_names) names && is_container_mapping (containers_of names)) (with_containers_short (containers_of names) draft) failing

containers_in_short : (value : Option (Tree-F Tree)) (draft : Draft) → AsksShort (containers_in value draft)
containers_in_short None draft = giving
containers_in_short (Some value) draft = containers_named_short (container_texts value) draft

by_vocab_short : (term : List ℕ) (vocab : Option (List ℕ)) (draft : Draft) → AsksShort (by_vocab term vocab draft)
by_vocab_short term (Some vocabulary) draft = giving
by_vocab_short term None draft = failing

by_meaning_short : (meaning : Option (List ℕ)) (draft : Draft) → AsksShort (by_meaning meaning draft)
by_meaning_short None draft = failing
by_meaning_short (Some iri) draft = when _ giving failing

by_term_short : (term : List ℕ) (draft : Draft) → AsksShort (by_term term draft)
by_term_short term draft = when _ (by_meaning_short (meaning_in draft.made term) draft) (when _ giving (by_vocab_short term draft.made.context.own.vocab draft))

if_means_short : (term iri : List ℕ) (draft : Draft) → AsksShort (if_means term iri draft)
if_means_short term iri draft = when _ giving failing

with_type_short : (iri : Option (List ℕ)) (draft : Draft) → AsksShort (with_type iri draft)
with_type_short None draft = failing
with_type_short (Some iri) draft = when _ giving failing

protected_in_short : (protected : Bool) (value : Option (Tree-F Tree)) → AsksShort (protected_in protected value)
protected_in_short protected None = giving
protected_in_short protected (Some (Tree-F.Bool b)) = giving
protected_in_short protected (Some _) = failing

module _ (rest : Rest) (term : List ℕ) where
  reversed_short : (previous : Option Def) (iri : List ℕ) (draft : Draft) (containers : Option Containers) → AsksShort (reversed rest term previous iri draft containers)
  reversed_short previous iri draft None = failing
  reversed_short previous iri draft (Some containers) = finished_short rest term previous _

  reversed_to_short : (entries : Sorted Tree) (previous : Option Def) (meaning : Option (List ℕ)) (draft : Draft) → AsksShort (reversed_to rest term entries previous meaning draft)
  reversed_to_short entries previous None draft = failing
  reversed_to_short entries previous (Some iri) draft = when _ (reversed_short previous iri draft (reverse_container (opened (find entries (codes "@container"))))) failing

-- ---- with the scoped context

module _ (check : Check) (check_short : (context : Context) (local : Tree) → AsksShort (check context local)) (rest : Rest) where
  scoped_in_short : (value : Option Tree) (draft : Draft) → AsksShort (scoped_in check rest value draft)
  scoped_in_short None draft = giving
  scoped_in_short (Some local) draft = next (scoping (check draft.made.context local) (check_short draft.made.context local)) (λ _. giving)

  ended_short : (term : List ℕ) (entries : Sorted Tree) (previous : Option Def) (draft : Draft) → AsksShort (ended check rest term entries previous draft)
  ended_short term entries previous draft =
      next (next (next (next (next (next (next (when _ declining giving)
      (scoped_in_short (find entries (codes "@context")))) (λ draft. when _ giving (language_in_short (opened (find entries (codes "@language"))) draft)))
      (λ _. when _ declining giving)) (λ _. when _ declining giving)) (prefix_in_short term (opened (find entries (codes "@prefix"))))) (λ _. when _ giving failing)) (finished_short rest term previous)

  mapped_or_ignored_short : (term : List ℕ) (entries : Sorted Tree) (previous : Option Def) (made : Made) (m : Mapped) → AsksShort (mapped_or_ignored check rest term entries previous made m)
  mapped_or_ignored_short term entries previous made (Some draft) = next (containers_in_short (opened (find entries (codes "@container"))) draft) (ended_short term entries previous)
  mapped_or_ignored_short term entries previous made None = giving

-- ---- with the other terms of the local context

module _ (define : Define) (define_short : (term : List ℕ) (made : Made) → AsksShort (define term made)) (local : Sorted Tree) where
  first_if_short : (due : Bool) (name : List ℕ) (made : Made) → AsksShort (first_if due define name made)
  first_if_short true name made = define_short name made
  first_if_short false name made = giving

  first_short : (name : List ℕ) (made : Made) → AsksShort (first define local name made)
  first_short name made = first_if_short _ name made

  first_prefix_short : (p : Option (List ℕ × List ℕ)) (made : Made) → AsksShort (first_prefix define local p made)
  first_prefix_short (Some p) made = when _ giving (first_short p.0 made)
  first_prefix_short None made = giving

  first_all_short : (value : List ℕ) (made : Made) → AsksShort (first_all define local value made)
  first_all_short value made = when _ giving (next (first_short value made) (λ made. when _ giving (first_prefix_short (parts value) made)))

  by_own_parts_short : (term : List ℕ) (p : Option (List ℕ × List ℕ)) (draft : Draft) → AsksShort (by_own_parts define local term p draft)
  by_own_parts_short term None draft = by_term_short term draft
  by_own_parts_short term (Some p) draft = next (first_short p.0 draft.made) (λ _. giving)

  must_mean_short : (term iri : List ℕ) (draft : Draft) → AsksShort (must_mean define local term iri draft)
  must_mean_short term iri draft = when _ (next (first_all_short term (marked term true draft.made)) (λ made. if_means_short term iri (record draft { made = made }))) giving

  by_iri_short : (term : List ℕ) (is_simple : Bool) (meaning : Option (List ℕ)) (draft : Draft) → AsksShort (by_iri define local term is_simple meaning draft)
  by_iri_short term is_simple None draft = failing
  by_iri_short term is_simple (Some iri) draft = when (not (is_keyword iri || is_iri_or_blank iri)) failing (when (bytes_eq iri (codes "@context")) failing (must_mean_short term iri (with_iri is_simple term iri draft)))

  by_text_short : (term : List ℕ) (is_simple : Bool) (value : List ℕ) (draft : Draft) → AsksShort (by_text define local term is_simple value draft)
  by_text_short term is_simple value draft =
      when _ giving (next (next (first_all_short value draft.made) (λ made. by_iri_short term is_simple (meaning_in made value) (record draft { made = made }))) (λ _. giving))

  by_id_value_short : (term : List ℕ) (is_simple : Bool) (value : Tree-F Tree) (draft : Draft) → AsksShort (by_id_value define local term is_simple value draft)
  by_id_value_short term is_simple (Tree-F.Text value) draft = when _ (next (by_own_parts_short term (parts term) draft) (λ _. giving)) (by_text_short term is_simple value draft)
  by_id_value_short term is_simple Tree-F.Null draft = giving
  by_id_value_short term is_simple _ draft = failing

  by_id_short : (term : List ℕ) (is_simple : Bool) (value : Option (Tree-F Tree)) (draft : Draft) → AsksShort (by_id define local term is_simple value draft)
  by_id_short term is_simple (Some value) draft = by_id_value_short term is_simple value draft
  by_id_short term is_simple None draft = next (by_own_parts_short term (parts term) draft) (λ _. giving)

  type_in_short : (value : Option (Tree-F Tree)) (draft : Draft) → AsksShort (type_in define local value draft)
  type_in_short None draft = giving
  type_in_short (Some (Tree-F.Text value)) draft = next (first_all_short value draft.made) (λ made. with_type_short (meaning_in made value) (record draft { made = made }))
  type_in_short (Some _) draft = failing

  backward_to_short : (rest : Rest) (term : List ℕ) (entries : Sorted Tree) (previous : Option Def) (value : Option (List ℕ)) (draft : Draft) → AsksShort (backward_to define rest local term entries previous value draft)
  backward_to_short rest term entries previous None draft = failing
  backward_to_short rest term entries previous (Some value) draft =
      when _ giving (next (first_all_short value draft.made) (λ made. reversed_to_short rest term entries previous (meaning_in made value) (record draft { made = made })))

  module _ (check : Check) (check_short : (context : Context) (local : Tree) → AsksShort (check context local)) (rest : Rest) (term : List ℕ) where
    either_way_short : (is_simple : Bool) (entries : Sorted Tree) (previous : Option Def) (value : Option Tree) (draft : Draft) → AsksShort (either_way check define rest local term is_simple entries previous value draft)
    either_way_short is_simple entries previous (Some value) draft = when _ failing (backward_to_short rest term entries previous (text_of value) draft)
    either_way_short is_simple entries previous None draft =
        next (by_id_short term is_simple (opened (find entries (codes "@id"))) draft) (mapped_or_ignored_short check check_short rest term entries previous draft.made)

    drafted_short : (is_simple : Bool) (entries : Sorted Tree) (previous : Option Def) (made : Made) → AsksShort (drafted check define rest local term is_simple entries previous made)
    drafted_short is_simple entries previous made =
        next (next (protected_in_short rest.protected (opened (find entries (codes "@protected"))))
        (λ protected. type_in_short (opened (find entries (codes "@type"))) (record { def = new_def protected; made = made })))
        (either_way_short is_simple entries previous (find entries (codes "@reverse")))

    by_value_short : (value : Tree-F Tree) (previous : Option Def) (made : Made) → AsksShort (by_value check define rest local term value previous made)
    by_value_short Tree-F.Null previous made = drafted_short false (only_id Tree-F.Null) previous made
    by_value_short (Tree-F.Text value) previous made = drafted_short true (only_id (Tree-F.Text value)) previous made
    by_value_short (Tree-F.Map entries) previous made = drafted_short false entries previous made
    by_value_short _ previous made = failing

    begin_short : (value : Tree) (made : Made) → AsksShort (begin check define rest local term value made)
    begin_short value made = by_value_short (out-Tree value) (def_of made.context term) (begun term made)

    by_name_short : (value : Tree) (made : Made) → AsksShort (by_name check define rest local term value made)
    by_name_short value made =
        when (bytes_eq term (codes "@type")) (when (is_type_definition (out-Tree value)) (begin_short value made) failing)
        (when (is_keyword term) failing (when (is_keyword_form term) giving (begin_short value made)))

    by_entry_short : (value : Option Tree) (made : Made) → AsksShort (by_entry check define rest local term value made)
    by_entry_short None made = failing
    by_entry_short (Some value) made = when _ failing (by_name_short value made)

    by_table_short : (state : Option Bool) (made : Made) → AsksShort (by_table check define rest local term state made)
    by_table_short (Some true) made = giving
    by_table_short (Some false) made = failing
    by_table_short None made = by_entry_short (find local term) made

    define_step_short : (made : Made) → AsksShort (define_step check define rest local term made)
    define_step_short made = by_table_short (find made.table term) made

-- ---- the whole

module _ (check : Check) (check_short : (context : Context) (local : Tree) → AsksShort (check context local)) (rest : Rest) (local : Sorted Tree) where
  nested_short : (room : ℕ) (term : List ℕ) (made : Made) → AsksShort (nested check rest local room term made)
  unfolding nested
  nested_short zero term made = failing
  nested_short (suc room) term made = define_step_short (nested check rest local room) (nested_short room) local check check_short rest term made

  pub defined_short : (term : List ℕ) (made : Made) → AsksShort (defined check rest local term made)
  defined_short term made = define_step_short (nested check rest local (length local.0)) (nested_short (length local.0)) local check check_short rest term made
