-- Create Term Definition (JSON-LD 1.1 API, 4.2.2), and IRI Expansion with a local context (5.2.2). `check` says
-- what a scoped context gives, and `define` defines another term of the local context.
use Rattle.std.specs.Prelude.{ℕ, zero, suc, ◌+◌, ◌==◌, Bool, true, false, not, ◌&&◌, ◌||◌, if◌then◌else◌, List, [], ◌∷◌, ◌++◌, length, Option, Some, None, is_some, codes}
use Rattle.std.specs.List.{list_any, list_all}
use Rattle.std.specs.Str.{bytes_eq}
use Rattle.ld_codes.specs.declared.code.Code.TheVariants as code
use Rattle.ld_codes.specs.declared.keyword.Keyword.TheVariants as keyword
use Rattle.ld_codes.specs.declared.own.Own.TheVariants.{OutsideProfile}
use Rattle.ld_iri.specs.Words.{is_keyword_form, is_iri, is_blank}
use Rattle.ld_tree.specs.Names.{Sorted}
use Rattle.ld_tree.specs.declared.tree.Tree.{Tree, out-Tree}
use Rattle.ld_tree.specs.declared.tree.Tree.TheOpen.{Tree-F}
use Rattle.ld_tree.specs.declared.tree.Tree.TheViews.{roll-Tree}
use Rattle.ld_rec.specs.declared.def.Containers.{Containers}
use Rattle.ld_rec.specs.declared.def.Def.{Def}
use Rattle.ld_rec.specs.Iris.{iri_of, parts, is_whole, is_colon, has_inner_colon, is_keyword_mapping}
use Rattle.ld_tree.specs.Maps.{find, put, take_out, empty}
use Rattle.ld_rec.specs.Outcome.{Answer, give, fails, declines, as_scoped, ◌>>=◌}
use Rattle.ld_rec.specs.Records.{Context, def_of, with_terms, no_containers, new_def, same_def, same_text}
use Rattle.ld_rec.specs.Words.{is_keyword, is_among, is_iri_or_blank, lowered, text_of, has, names_are_among, opened}

-- the context as it is being made, and which terms are defined: true where one is, false on the way
pub record Made : Type 0 where
  pub context : Context
  pub table : Sorted Bool

-- what context processing hands on: base URL, the item's @protected, override protected, remote contexts,
-- validate scoped context, and the depth of the invocation
pub record Rest : Type 0 where
  pub base : Option (List ℕ)
  pub protected : Bool
  pub over : Bool
  pub remote : List (List ℕ)
  pub validate : Bool
  pub depth : ℕ

-- what a scoped context gives over a context
abbrev pub Check : Type 0
Check = Context → Tree → Answer Context

-- what defining a term gives
abbrev pub Define : Type 0
Define = List ℕ → Made → Answer Made

-- a term definition on the way
pub record Draft : Type 0 where
  pub def : Def
  pub made : Made

abbrev pub marked : List ℕ → Bool → Made → Made
marked term is_defined made = record made { table = put made.table term is_defined }

-- an ignored term counts as defined (own)
abbrev pub ignored : List ℕ → Made → Answer Made
ignored term made = give (marked term true made)

-- ---- 5.2.2: IRI expansion with a local context. What the expansion would look up is defined first, where the
-- ---- local context has it and it isn't defined; then the expansion is that without a local context

abbrev pub is_true : Option Bool → Bool
is_true (Some b) = b
is_true None = false

abbrev pub is_due : Sorted Tree → List ℕ → Made → Bool
is_due local name made = has local name && not (is_true (find made.table name))

abbrev pub first_if : Bool → Define → List ℕ → Made → Answer Made
first_if true define name made = define name made
first_if false define name made = give made

abbrev pub first : Define → Sorted Tree → List ℕ → Made → Answer Made
first define local name made = first_if (is_due local name made) define name made

-- 6.3: the prefix
abbrev pub first_prefix : Define → Sorted Tree → Option (List ℕ × List ℕ) → Made → Answer Made
first_prefix define local (Some p) made = if is_whole p then give made else first define local p.0 made
first_prefix define local None made = give made

-- 4 and 5 end the expansion of a term, before its parts are looked at
abbrev pub first_of_form : Define → Sorted Tree → List ℕ → Made → Answer Made
first_of_form define local value made = if is_some (def_of made.context value) then give made else first_prefix define local (parts value) made

-- 3: the value itself
abbrev pub first_of_value : Define → Sorted Tree → List ℕ → Made → Answer Made
first_of_value define local value made = first define local value made >>= first_of_form define local value

-- 1 and 2 end the expansion before the rest
abbrev pub first_all : Define → Sorted Tree → List ℕ → Made → Answer Made
first_all define local value made = if is_keyword value || is_keyword_form value then give made else first_of_value define local value made

-- what the value expands to by vocabulary, in the context that is made by then
abbrev pub meaning_in : Made → List ℕ → Option (List ℕ)
meaning_in made value = iri_of made.context value false true

-- ---- 4.2.2

-- 28: the definition is put, and the table takes true
abbrev pub put_def : List ℕ → Def → Made → Made
put_def term def made = marked term true (record made { context = with_terms made.context (put made.context.own.terms term def) })

-- 27: a protected definition stays, and what would change it fails
abbrev pub kept_or : Option Def → Def → Answer Def
kept_or None def = give def
kept_or (Some previous) def =
    if previous.protected then (if same_def previous def then give previous else fails code.ProtectedTermRedefinition) else give def

abbrev pub finished : Rest → List ℕ → Option Def → Draft → Answer Made
finished rest term previous draft =
    if rest.over then give (put_def term draft.def draft.made)
    else kept_or previous draft.def >>= (λ def. give (put_def term def draft.made))

-- 26: no entry but these
abbrev pub entry_names : List (List ℕ)
entry_names = codes "@id" ∷ codes "@reverse" ∷ codes "@container" ∷ codes "@context" ∷ codes "@direction" ∷ codes "@index" ∷ codes "@language" ∷ codes "@nest" ∷ codes "@prefix" ∷ codes "@protected" ∷ codes "@type" ∷ []

abbrev pub only_known : Sorted Tree → Draft → Answer Draft
only_known entries draft = if names_are_among entry_names entries then give draft else fails code.InvalidTermDefinition

-- a colon or a slash anywhere
abbrev pub is_slash : ℕ → Bool
is_slash b = b == 47

abbrev pub has_slash : List ℕ → Bool
has_slash text = list_any is_slash text

abbrev pub has_colon_or_slash : List ℕ → Bool
has_colon_or_slash text = list_any is_colon text || has_slash text

-- 25
abbrev pub prefixed : Bool → Draft → Answer Draft
prefixed is_prefix draft =
    if is_prefix && is_keyword_mapping draft.def.mapping then fails code.InvalidTermDefinition
    else give (record draft { def = record draft.def { prefix = is_prefix } })

abbrev pub prefix_in : List ℕ → Option (Tree-F Tree) → Draft → Answer Draft
prefix_in term None draft = give draft
prefix_in term (Some (Tree-F.Bool is_prefix)) draft = if has_colon_or_slash term then fails code.InvalidTermDefinition else prefixed is_prefix draft
prefix_in term (Some _) draft = if has_colon_or_slash term then fails code.InvalidTermDefinition else fails code.InvalidPrefixValue

-- 23, 24 and 20 (own): what this profile leaves out
abbrev pub without_direction : Sorted Tree → Draft → Answer Draft
without_direction entries draft = if has entries (codes "@direction") then declines (OutsideProfile keyword.Direction) else give draft

abbrev pub without_nest : Sorted Tree → Draft → Answer Draft
without_nest entries draft = if has entries (codes "@nest") then declines (OutsideProfile keyword.Nest) else give draft

abbrev pub without_index : Sorted Tree → Draft → Answer Draft
without_index entries draft = if has entries (codes "@index") then declines (OutsideProfile keyword.Index) else give draft

-- 22: only without @type
abbrev pub with_language : Option (List ℕ) → Draft → Draft
with_language language draft = record draft { def = record draft.def { language = Some language } }

abbrev pub language_in : Option (Tree-F Tree) → Draft → Answer Draft
language_in None draft = give draft
language_in (Some Tree-F.Null) draft = give (with_language None draft)
language_in (Some (Tree-F.Text tag)) draft = give (with_language (Some (lowered tag)) draft)
language_in (Some _) draft = fails code.InvalidLanguageMapping

abbrev pub language_unless_typed : Sorted Tree → Draft → Answer Draft
language_unless_typed entries draft = if has entries (codes "@type") then give draft else language_in (opened (find entries (codes "@language"))) draft

-- 21: the scoped context is tried over the context as it is now, in every definition (own), and kept unprocessed;
-- a code becomes `invalid scoped context`, and what else there is passes (own)
abbrev pub with_scoped : Rest → Tree → Draft → Draft
with_scoped rest local draft = record draft { def = record draft.def { scoped = Some local; scoped_base = rest.base } }

abbrev pub scoped_in : Check → Rest → Option Tree → Draft → Answer Draft
scoped_in check rest None draft = give draft
scoped_in check rest (Some local) draft = as_scoped (check draft.made.context local) >>= (λ _. give (with_scoped rest local draft))

-- 20 to 28
abbrev pub ended : Check → Rest → List ℕ → Sorted Tree → Option Def → Draft → Answer Made
ended check rest term entries previous draft =
    without_index entries draft >>= scoped_in check rest (find entries (codes "@context"))
    >>= language_unless_typed entries >>= without_direction entries >>= without_nest entries
    >>= prefix_in term (opened (find entries (codes "@prefix"))) >>= only_known entries >>= finished rest term previous

-- 19.4: a container @type
abbrev pub typed_for_types : Option (List ℕ) → Option (List ℕ)
typed_for_types None = Some (codes "@id")
typed_for_types (Some typed) = if is_among (codes "@id" ∷ codes "@vocab" ∷ []) typed then Some typed else None

abbrev pub if_typed : Draft → Option (List ℕ) → Answer Draft
if_typed draft None = fails code.InvalidTypeMapping
if_typed draft (Some typed) = give (record draft { def = record draft.def { typed = Some typed } })

abbrev pub with_containers : Containers → Draft → Answer Draft
with_containers containers draft =
    if containers.types then if_typed (record draft { def = record draft.def { containers = containers } }) (typed_for_types draft.def.typed)
    else give (record draft { def = record draft.def { containers = containers } })

-- 19.1: one of the seven keywords; @graph with one of @id and @index, and maybe @set; @set with others but @list
abbrev pub count_of : Bool → ℕ
count_of true = 1
count_of false = 0

abbrev pub is_single : Containers → Bool
is_single c = count_of c.graph + count_of c.id + count_of c.index + count_of c.language + count_of c.list + count_of c.set + count_of c.types == 1

abbrev pub is_graph_map : Containers → Bool
is_graph_map c = c.graph && ((c.id && not c.index) || (c.index && not c.id)) && not (c.language || c.list || c.types)

abbrev pub is_with_set : Containers → Bool
is_with_set c = c.set && not c.list && (c.graph || c.id || c.index || c.language || c.types)

abbrev pub is_container_mapping : Containers → Bool
is_container_mapping c = is_single c || is_graph_map c || is_with_set c

abbrev pub container_names : List (List ℕ)
container_names = codes "@graph" ∷ codes "@id" ∷ codes "@index" ∷ codes "@language" ∷ codes "@list" ∷ codes "@set" ∷ codes "@type" ∷ []

-- the keywords of a list that has empty else
abbrev pub containers_of : List (List ℕ) → Containers
containers_of names = record {
  graph = is_among names (codes "@graph");
  id = is_among names (codes "@id");
  index = is_among names (codes "@index");
  language = is_among names (codes "@language");
  list = is_among names (codes "@list");
  set = is_among names (codes "@set");
  types = is_among names (codes "@type");
}

abbrev pub texts_of : List Tree → Option (List (List ℕ))
texts_of [] = Some []
texts_of (item ∷ items) = both_texts (text_of item) (texts_of items)
  where
    both_texts : Option (List ℕ) → Option (List (List ℕ)) → Option (List (List ℕ))
    both_texts (Some text) (Some texts) = Some (text ∷ texts)
    both_texts _ _ = None

abbrev pub container_texts : Tree-F Tree → Option (List (List ℕ))
container_texts (Tree-F.Text text) = Some (text ∷ [])
container_texts (Tree-F.List items) = texts_of items
container_texts _ = None

abbrev pub containers_named : Option (List (List ℕ)) → Draft → Answer Draft
containers_named None draft = fails code.InvalidContainerMapping
containers_named (Some names) draft =
    if list_all (is_among container_names) names && is_container_mapping (containers_of names) then with_containers (containers_of names) draft
    else fails code.InvalidContainerMapping

abbrev pub containers_in : Option (Tree-F Tree) → Draft → Answer Draft
containers_in None draft = give draft
containers_in (Some value) draft = containers_named (container_texts value) draft

-- 19 to 28
abbrev pub mapped : Check → Rest → List ℕ → Sorted Tree → Option Def → Draft → Answer Made
mapped check rest term entries previous draft = containers_in (opened (find entries (codes "@container"))) draft >>= ended check rest term entries previous

abbrev pub with_mapping : Option (List ℕ) → Draft → Draft
with_mapping mapping draft = record draft { def = record draft.def { mapping = mapping } }

-- ---- 15 to 18: a term without an @id of its own

-- 18: vocabulary and term
abbrev pub by_vocab : List ℕ → Option (List ℕ) → Draft → Answer Draft
by_vocab term (Some vocabulary) draft = give (with_mapping (Some (vocabulary ++ term)) draft)
by_vocab term None draft = fails code.InvalidIriMapping

-- 16.2: what the term means must be an IRI
abbrev pub by_meaning : Option (List ℕ) → Draft → Answer Draft
by_meaning None draft = fails code.InvalidIriMapping
by_meaning (Some iri) draft = if is_iri iri then give (with_mapping (Some iri) draft) else fails code.InvalidIriMapping

-- 16 to 18
abbrev pub by_term : List ℕ → Draft → Answer Draft
by_term term draft =
    if has_slash term then by_meaning (meaning_in draft.made term) draft
    else if bytes_eq term (codes "@type") then give (with_mapping (Some term) draft)
    else by_vocab term draft.made.context.own.vocab draft

-- 15.2 and 15.3: the prefix's mapping and the suffix, else the term
abbrev pub joined_or : List ℕ → List ℕ → Option Def → List ℕ
joined_or term suffix None = term
joined_or term suffix (Some def) = joined_with def.mapping
  where
    joined_with : Option (List ℕ) → List ℕ
    joined_with (Some iri) = iri ++ suffix
    joined_with None = term

-- 15.1: a prefix that the local context has is defined first (own reading: of any term with a colon inside)
abbrev pub by_own_parts : Define → Sorted Tree → List ℕ → Option (List ℕ × List ℕ) → Draft → Answer Draft
by_own_parts define local term None draft = by_term term draft
by_own_parts define local term (Some p) draft =
    first define local p.0 draft.made >>= (λ made. give (with_mapping (Some (joined_or term p.1 (def_of made.context p.0))) (record draft { made = made })))

abbrev pub by_own : Define → Sorted Tree → List ℕ → Draft → Answer Draft
by_own define local term draft = by_own_parts define local term (parts term) draft

-- ---- 14: an @id unlike the term

-- 14.2.5: a simple term may be a prefix where its mapping ends in a gen-delim (RFC 3986, 2.2) or is a blank node identifier
abbrev pub is_gen_delim : ℕ → Bool
is_gen_delim b = list_any (λ d. d == b) (codes ":/?#[]@")

abbrev pub ends_in_gen_delim : List ℕ → Bool
ends_in_gen_delim [] = false
ends_in_gen_delim (b ∷ []) = is_gen_delim b
ends_in_gen_delim (b ∷ c ∷ rest) = ends_in_gen_delim (c ∷ rest)

abbrev pub is_prefix_of : Bool → List ℕ → List ℕ → Bool
is_prefix_of is_simple term iri = is_simple && not (has_colon_or_slash term) && (ends_in_gen_delim iri || is_blank iri)

-- 14.2.4: a colon that is neither the first nor the last character, or a slash
abbrev pub without_last : List ℕ → List ℕ
without_last [] = []
without_last (b ∷ []) = []
without_last (b ∷ c ∷ rest) = b ∷ without_last (c ∷ rest)

abbrev pub is_compound : List ℕ → Bool
is_compound term = has_inner_colon (without_last term) || has_slash term

-- 14.2.4.1 and 14.2.4.2: such a term counts as defined, and must mean its mapping by itself
abbrev pub if_means : List ℕ → List ℕ → Draft → Answer Draft
if_means term iri draft = if same_text (meaning_in draft.made term) (Some iri) then give draft else fails code.InvalidIriMapping

abbrev pub must_mean : Define → Sorted Tree → List ℕ → List ℕ → Draft → Answer Draft
must_mean define local term iri draft =
    if is_compound term then first_all define local term (marked term true draft.made) >>= (λ made. if_means term iri (record draft { made = made }))
    else give draft

abbrev pub with_iri : Bool → List ℕ → List ℕ → Draft → Draft
with_iri is_simple term iri draft = record draft { def = record draft.def { mapping = Some iri; prefix = is_prefix_of is_simple term iri } }

-- 14.2.3: a keyword, an IRI or a blank node identifier, and not @context
abbrev pub by_iri : Define → Sorted Tree → List ℕ → Bool → Option (List ℕ) → Draft → Answer Draft
by_iri define local term is_simple None draft = fails code.InvalidIriMapping
by_iri define local term is_simple (Some iri) draft =
    if not (is_keyword iri || is_iri_or_blank iri) then fails code.InvalidIriMapping
    else if bytes_eq iri (codes "@context") then fails code.InvalidKeywordAlias
    else must_mean define local term iri (with_iri is_simple term iri draft)

-- what comes of a term's IRI mapping: the term is ignored, or its draft has one
abbrev pub Mapped : Type 0
Mapped = Option Draft

abbrev pub some_draft : Draft → Answer Mapped
some_draft draft = give (Some draft)

-- 14.2.2: what has only the form of a keyword ignores the term
abbrev pub by_text : Define → Sorted Tree → List ℕ → Bool → List ℕ → Draft → Answer Mapped
by_text define local term is_simple value draft =
    if is_keyword_form value && not (is_keyword value) then give None
    else first_all define local value draft.made >>= (λ made. by_iri define local term is_simple (meaning_in made value) (record draft { made = made })) >>= some_draft

-- 14.1 and 14.2.1
abbrev pub by_id_value : Define → Sorted Tree → List ℕ → Bool → Tree-F Tree → Draft → Answer Mapped
by_id_value define local term is_simple (Tree-F.Text value) draft =
    if bytes_eq value term then by_own define local term draft >>= some_draft else by_text define local term is_simple value draft
by_id_value define local term is_simple Tree-F.Null draft = some_draft draft
by_id_value define local term is_simple _ draft = fails code.InvalidIriMapping

abbrev pub by_id : Define → Sorted Tree → List ℕ → Bool → Option (Tree-F Tree) → Draft → Answer Mapped
by_id define local term is_simple (Some value) draft = by_id_value define local term is_simple value draft
by_id define local term is_simple None draft = by_own define local term draft >>= some_draft

abbrev pub mapped_or_ignored : Check → Rest → List ℕ → Sorted Tree → Option Def → Made → Mapped → Answer Made
mapped_or_ignored check rest term entries previous made (Some draft) = mapped check rest term entries previous draft
mapped_or_ignored check rest term entries previous made None = ignored term made

abbrev pub forward : Check → Define → Rest → Sorted Tree → List ℕ → Bool → Sorted Tree → Option Def → Draft → Answer Made
forward check define rest local term is_simple entries previous draft =
    by_id define local term is_simple (opened (find entries (codes "@id"))) draft >>= mapped_or_ignored check rest term entries previous draft.made

-- ---- 13: a reverse property

-- 13.5: absent, null, @set or @index
abbrev pub reverse_container : Option (Tree-F Tree) → Option Containers
reverse_container None = Some no_containers
reverse_container (Some Tree-F.Null) = Some no_containers
reverse_container (Some (Tree-F.Text text)) =
    if bytes_eq text (codes "@set") then Some (record no_containers { set = true })
    else if bytes_eq text (codes "@index") then Some (record no_containers { index = true })
    else None
reverse_container (Some _) = None

-- 13.6 and 13.7; own: what protects a former definition holds here too (27)
abbrev pub reversed : Rest → List ℕ → Option Def → List ℕ → Draft → Option Containers → Answer Made
reversed rest term previous iri draft None = fails code.InvalidReverseProperty
reversed rest term previous iri draft (Some containers) =
    finished rest term previous (record draft { def = record draft.def { mapping = Some iri; reverse = true; containers = containers } })

-- 13.4: an IRI or a blank node identifier
abbrev pub reversed_to : Rest → List ℕ → Sorted Tree → Option Def → Option (List ℕ) → Draft → Answer Made
reversed_to rest term entries previous None draft = fails code.InvalidIriMapping
reversed_to rest term entries previous (Some iri) draft =
    if is_iri_or_blank iri then reversed rest term previous iri draft (reverse_container (opened (find entries (codes "@container")))) else fails code.InvalidIriMapping

-- 13.2 and 13.3
abbrev pub backward_to : Define → Rest → Sorted Tree → List ℕ → Sorted Tree → Option Def → Option (List ℕ) → Draft → Answer Made
backward_to define rest local term entries previous None draft = fails code.InvalidIriMapping
backward_to define rest local term entries previous (Some value) draft =
    if is_keyword_form value then ignored term draft.made
    else first_all define local value draft.made >>= (λ made. reversed_to rest term entries previous (meaning_in made value) (record draft { made = made }))

-- 13.1
abbrev pub backward : Define → Rest → Sorted Tree → List ℕ → Sorted Tree → Option Def → Tree → Draft → Answer Made
backward define rest local term entries previous value draft =
    if has entries (codes "@id") || has entries (codes "@nest") then fails code.InvalidReverseProperty
    else backward_to define rest local term entries previous (text_of value) draft

abbrev pub either_way : Check → Define → Rest → Sorted Tree → List ℕ → Bool → Sorted Tree → Option Def → Option Tree → Draft → Answer Made
either_way check define rest local term is_simple entries previous (Some value) draft = backward define rest local term entries previous value draft
either_way check define rest local term is_simple entries previous None draft = forward check define rest local term is_simple entries previous draft

-- ---- 11 and 12

-- 12.4 and 12.5: @id, @json, @none, @vocab or an IRI
abbrev pub is_type_mapping : List ℕ → Bool
is_type_mapping iri = is_among (codes "@id" ∷ codes "@json" ∷ codes "@none" ∷ codes "@vocab" ∷ []) iri || is_iri iri

abbrev pub with_type : Option (List ℕ) → Draft → Answer Draft
with_type None draft = fails code.InvalidTypeMapping
with_type (Some iri) draft = if is_type_mapping iri then give (record draft { def = record draft.def { typed = Some iri } }) else fails code.InvalidTypeMapping

abbrev pub type_in : Define → Sorted Tree → Option (Tree-F Tree) → Draft → Answer Draft
type_in define local None draft = give draft
type_in define local (Some (Tree-F.Text value)) draft = first_all define local value draft.made >>= (λ made. with_type (meaning_in made value) (record draft { made = made }))
type_in define local (Some _) draft = fails code.InvalidTypeMapping

-- 11: the term's own @protected, or the item's
abbrev pub protected_in : Bool → Option (Tree-F Tree) → Answer Bool
protected_in protected None = give protected
protected_in protected (Some (Tree-F.Bool b)) = give b
protected_in protected (Some _) = fails code.InvalidProtectedValue

abbrev pub drafted : Check → Define → Rest → Sorted Tree → List ℕ → Bool → Sorted Tree → Option Def → Made → Answer Made
drafted check define rest local term is_simple entries previous made =
    protected_in rest.protected (opened (find entries (codes "@protected"))) >>= (λ protected.
    type_in define local (opened (find entries (codes "@type"))) (record { def = new_def protected; made = made }))
    >>= either_way check define rest local term is_simple entries previous (find entries (codes "@reverse"))

-- ---- 1 to 9

-- 7 to 9: a value that is null or a text stands for its @id, and a text is a simple term
abbrev pub only_id : Tree-F Tree → Sorted Tree
only_id value = put empty (codes "@id") (roll-Tree value)

abbrev pub by_value : Check → Define → Rest → Sorted Tree → List ℕ → Tree-F Tree → Option Def → Made → Answer Made
by_value check define rest local term Tree-F.Null previous made = drafted check define rest local term false (only_id Tree-F.Null) previous made
by_value check define rest local term (Tree-F.Text value) previous made = drafted check define rest local term true (only_id (Tree-F.Text value)) previous made
by_value check define rest local term (Tree-F.Map entries) previous made = drafted check define rest local term false entries previous made
by_value check define rest local term _ previous made = fails code.InvalidTermDefinition

-- 2 and 6: the table takes false, and the previous definition is taken out
abbrev pub begun : List ℕ → Made → Made
begun term made = marked term false (record made { context = with_terms made.context (take_out made.context.own.terms term) })

abbrev pub begin : Check → Define → Rest → Sorted Tree → List ℕ → Tree → Made → Answer Made
begin check define rest local term value made = by_value check define rest local term (out-Tree value) (def_of made.context term) (begun term made)

-- 4: @type may only get the container @set, and protection
abbrev pub is_set : Option (List ℕ) → Bool
is_set (Some text) = bytes_eq text (codes "@set")
is_set None = false

abbrev pub is_type_entry : List ℕ × Tree → Bool
is_type_entry e = (bytes_eq e.0 (codes "@container") && is_set (text_of e.1)) || bytes_eq e.0 (codes "@protected")

abbrev pub is_type_definition : Tree-F Tree → Bool
is_type_definition (Tree-F.Map entries) = not (length entries.0 == 0) && list_all is_type_entry entries.0
is_type_definition _ = false

-- 4 and 5: no other keyword, and what has the form of one is ignored
abbrev pub by_name : Check → Define → Rest → Sorted Tree → List ℕ → Tree → Made → Answer Made
by_name check define rest local term value made =
    if bytes_eq term (codes "@type") then (if is_type_definition (out-Tree value) then begin check define rest local term value made else fails code.KeywordRedefinition)
    else if is_keyword term then fails code.KeywordRedefinition
    else if is_keyword_form term then ignored term made
    else begin check define rest local term value made

-- 2 and 3: only terms of the local context are asked for
abbrev pub by_entry : Check → Define → Rest → Sorted Tree → List ℕ → Option Tree → Made → Answer Made
by_entry check define rest local term None made = fails code.InvalidTermDefinition
by_entry check define rest local term (Some value) made =
    if length term == 0 then fails code.InvalidTermDefinition else by_name check define rest local term value made

-- 1
abbrev pub by_table : Check → Define → Rest → Sorted Tree → List ℕ → Option Bool → Made → Answer Made
by_table check define rest local term (Some true) made = give made
by_table check define rest local term (Some false) made = fails code.CyclicIriMapping
by_table check define rest local term None made = by_entry check define rest local term (find local term) made

-- a term that is defined on the way gets the same base URL, protection, leave and remote contexts (own)
abbrev pub define_step : Check → Define → Rest → Sorted Tree → Define
define_step check define rest local term made = by_table check define rest local term (find made.table term) made

-- Each term on the way is another name of the local context, so there are no more on the way than it has names:
-- room 0 is never asked.
unfoldable pub nested : Check → Rest → Sorted Tree → ℕ → Define
nested check rest local zero term made = fails code.CyclicIriMapping
nested check rest local (suc room) term made = define_step check (nested check rest local room) rest local term made

-- a term of the local context is defined
abbrev pub defined : Check → Rest → Sorted Tree → Define
defined check rest local = define_step check (nested check rest local (length local.0)) rest local
