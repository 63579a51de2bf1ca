-- What comes of a map has the expanded form, where what comes of its values has.
use Rattle.std.proofs.Common.{◌≡◌, ◌∙◌, refl, sym, subst, ℕ, List, Bool, true, false, Option, Some, None, Ok, Err}
use Rattle.std.specs.Prelude.{codes, ◌&&◌, ◌||◌, Result}
use Rattle.std.specs.List.{list_all, list_any}
use Rattle.std.specs.Str.{bytes_eq}
use Rattle.ld_codes.specs.declared.code.Code.TheVariants as code
use Rattle.ld_codes.specs.declared.keyword.Keyword.{Keyword}
use Rattle.ld_codes.specs.declared.keyword.Keyword.TheVariants as keyword
use Rattle.ld_tree.specs.Maps.{put}
use Rattle.ld_tree.specs.Names.{Sorted}
use Rattle.ld_tree.specs.declared.tree.Tree.{Tree}
use Rattle.ld_rec.specs.declared.def.Def.{Def}
use Rattle.ld_rec.specs.declared.def.Containers.{Containers}
use Rattle.ld_rec.specs.declared.stop.Stop.{Stop}
use Rattle.ld_rec.specs.declared.way.Way.TheVariants.{Plain, AsMap}
use Rattle.ld_rec.specs.Iris.{or_else}
use Rattle.ld_rec.specs.Outcome.{Answer, ◌>>=◌, give, fails}
use Rattle.ld_rec.specs.Records.{Context, def_of, same_text}
use Rattle.ld_rec.specs.Words.{items_of, text_of}
use Rattle.ld_rec.specs.Kinds.{null, list_of, map_of, is_map, is_text, is_null, is_scalar, entries_of}
use Rattle.ld_rec.specs.Places.{Place, Element, Entry, expand_as, expand_under, held_by, containers_of, type_mapping_of, is_reverse, name_iri}
use Rattle.ld_rec.specs.Values.{is_language_map, language_items}
use Rattle.ld_rec.specs.Expansion.{Node, has_colon, items_in, as_list, add_items, add_reverse, add_subjects, is_no_subject, add_types, add_graph, included, add_included, add_value, add_list, add_set, add_reversed, add_reverses, by_keyword, is_in_reverse, collides, add_keyword, json_value, language_list, is_keyed, map_or_value, is_json, property_value, listed, graphed, add_property, add_unless_null, by_property, keyword_of, by_iri, by_expanded, by_entry, is_plain}
use Rattle.ld_rec.proofs.FormedHolding.{Holds, HoldsOf, holds_bind, holds_if}
use Rattle.ld_rec.proofs.FormedMaps.{Given, list_fit, item_given, list_given, insert_all, true_not_false}
use Rattle.ld_rec.proofs.FormedValues.{good_json, good_language_items, good_listed, good_graphed}
use Rattle.ld_rec.proofs.FormedRules.{Building, put_way, good_add_items, good_id_rule, good_types, good_included_rule, good_language_rule, good_index_rule, good_set}
use Rattle.ld_rec.proofs.FormedReverse.{good_subjects, good_reversed, is_reverse_name, ReverseNames}

-- ---- what comes of an element

-- a map that came back from under `@reverse`
abbrev pub ReverseGiven : Option Tree → Type 0
ReverseGiven None = Unit {0}
ReverseGiven (Some t) = (m : Sorted Tree) × (t ≡ map_of m) × Building m × ReverseNames m

abbrev pub is_under_reverse : Place → Bool
is_under_reverse place = same_text place.property (Some (codes "@reverse"))

abbrev pub Becoming : Tree → Place → Option Tree → Type 0
Becoming value place o = Given o × (is_map value ≡ true → is_under_reverse place ≡ true → is_plain place.way ≡ true → ReverseGiven o)

abbrev pub GoodElement : Element → Type 0
GoodElement value = (place : Place) → Holds (Becoming value.0 place) (value.1 place)

pub holds_so : {A : Type 0} (Q R : A → Type 0) → ((a : A) → Q a → R a) → (o : Answer A) → Holds Q o → Holds R o
holds_so {A} Q R so o h = λ stock. at (o.run stock).result (h stock)
  where
    at : (r : Result A Stop) → HoldsOf Q r → HoldsOf R r
    at (Ok a) k = so a k
    at (Err e) k = tt

pub holds_both : {A : Type 0} (Q R : A → Type 0) (o : Answer A) → Holds Q o → Holds R o → Holds (λ (a : A). Q a × R a) o
holds_both {A} Q R o h g = λ stock. at (o.run stock).result (h stock) (g stock)
  where
    at : (r : Result A Stop) → HoldsOf Q r → HoldsOf R r → HoldsOf (λ (a : A). Q a × R a) r
    at (Ok a) k l = (k, l)
    at (Err e) k l = tt

pub given_by : (value : Element) → GoodElement value → (place : Place) → Holds Given (value.1 place)
given_by value good place = holds_so (Becoming value.0 place) Given (λ o k. k.0) (value.1 place) (good place)

-- ---- keywords

abbrev under_reverse : Context → Place
under_reverse context = record { context = context; property = Some (codes "@reverse"); way = Plain }

good_back : (o : Option Tree) → ReverseGiven o → (r : Sorted Tree) → Building r → Holds Building (add_reversed o r)
good_back None k r h = λ _. h
good_back (Some t) k r h = subst (λ (u : Tree). Holds Building (add_reversed (Some u) r)) (sym k.1) (good_reversed k.0 k.3 k.2 r h)

good_reverses : (node : Node) (value : Element) → GoodElement value → (r : Sorted Tree) → Building r → Holds Building (add_reverses node value r)
good_reverses node value good r h =
    holds_if Building (is_map value.0) (expand_under value node.context (codes "@reverse") >>= (λ (tree : Option Tree). add_reversed tree r)) (fails code.InvalidReverseValue)
    (λ is. holds_bind (Becoming value.0 (under_reverse node.context)) Building (value.1 (under_reverse node.context)) (λ (tree : Option Tree). add_reversed tree r) (good (under_reverse node.context))
    (λ o k. good_back o (k.1 is refl refl) r h))
    (λ _. λ _. tt)

good_graph : (node : Node) (value : Element) → GoodElement value → (r : Sorted Tree) → Building r → Holds Building (add_graph node value r)
good_graph node value good r h =
    holds_bind Given Building (expand_under value node.context (codes "@graph")) (λ (tree : Option Tree). give (put r (codes "@graph") (as_list tree))) (given_by value good _)
    (λ o k. λ _. put_way (codes "@graph") (as_list o) r (list_fit (items_in o) k) h)

good_list : (node : Node) (property : Option (List ℕ)) (value : Element) → GoodElement value → (r : Sorted Tree) → Building r → Holds Building (add_list node property value r)
good_list node None value good r h = λ _. h
good_list node (Some property) value good r h =
    holds_bind Given Building (expand_under value node.context property) (λ (tree : Option Tree). give (put r (codes "@list") (as_list tree))) (given_by value good _)
    (λ o k. λ _. put_way (codes "@list") (as_list o) r (list_fit (items_in o) k) h)

good_included_entry : (node : Node) (value : Element) → GoodElement value → (r : Sorted Tree) → Building r → Holds Building (add_included node value r)
good_included_entry node value good r h =
    holds_bind Given Building (expand_as Plain value node.context None) (λ (tree : Option Tree). included tree r) (given_by value good _) (λ o k. good_included_rule o k r h)

good_set_entry : (node : Node) (value : Element) → GoodElement value → (r : Sorted Tree) → Building r → Holds Building (add_set node value r)
good_set_entry node value good r h =
    holds_bind Given Building (expand_as Plain value node.context node.property) (λ (tree : Option Tree). give (put r (codes "@set") (or_else tree null))) (given_by value good _) (λ o k. λ _. good_set o k r h)

good_types_entry : (node : Node) (value : Tree) (r : Sorted Tree) → Building r → Holds Building (add_types node value r)
good_types_entry node value r h = holds_if Building (list_all is_text (items_of value)) _ (fails code.InvalidTypeValue) (λ _. λ _. good_types node.type_context value r h) (λ _. λ _. tt)

good_value_entry : (node : Node) (value : Tree) (r : Sorted Tree) → Building r → Holds Building (add_value node value r)
good_value_entry node value r h =
    holds_if Building (node.json || is_scalar value || is_null value) (give (put r (codes "@value") value)) (fails code.InvalidValueObjectValue) (λ _. λ _. put_way (codes "@value") value r refl h) (λ _. λ _. tt)

good_keyword : (node : Node) (k : Keyword) (value : Element) → GoodElement value → (r : Sorted Tree) → Building r → Holds Building (by_keyword node k value r)
good_keyword node keyword.Id value good r h = good_id_rule node (text_of value.0) r h
good_keyword node keyword.Typed value good r h = good_types_entry node value.0 r h
good_keyword node keyword.Graph value good r h = good_graph node value good r h
good_keyword node keyword.Included value good r h = good_included_entry node value good r h
good_keyword node keyword.Value value good r h = good_value_entry node value.0 r h
good_keyword node keyword.Language value good r h = good_language_rule (text_of value.0) r h
good_keyword node keyword.Index value good r h = good_index_rule (text_of value.0) r h
good_keyword node keyword.List value good r h = good_list node (held_by node.property) value good r h
good_keyword node keyword.Set value good r h = good_set_entry node value good r h
good_keyword node keyword.Reverse value good r h = good_reverses node value good r h
good_keyword node keyword.Direction value good r h = λ _. tt
good_keyword node keyword.Nest value good r h = λ _. tt
good_keyword node _ value good r h = λ _. h

-- ---- properties

good_languages : (context : Context) (entries : Sorted Tree) → Holds Given (language_list context entries)
good_languages context entries =
    holds_if Given (is_language_map entries) (give (Some (list_of (language_items context entries)))) (fails code.InvalidLanguageMapValue)
    (λ _. λ _. list_given (language_items context entries) (good_language_items context entries)) (λ _. λ _. tt)

good_map_or_value : (node : Node) (name : List ℕ) (containers : Containers) (value : Element) → GoodElement value → Holds Given (map_or_value node name containers value)
good_map_or_value node name containers value good =
    holds_if Given (containers.language && is_map value.0) (language_list node.context (entries_of value.0)) _ (λ _. good_languages node.context (entries_of value.0))
    (λ _. holds_if Given (is_keyed containers && is_map value.0) (expand_as AsMap value node.context (Some name)) (expand_under value node.context name) (λ _. given_by value good _) (λ _. given_by value good _))

good_property_value : (node : Node) (name : List ℕ) (def : Option Def) (value : Element) → GoodElement value → Holds Given (property_value node name def value)
good_property_value node name def value good =
    holds_if Given (is_json (type_mapping_of def)) (give (Some (json_value value.0))) (map_or_value node name (containers_of def) value)
    (λ _. λ _. item_given (json_value value.0) (good_json value.0)) (λ _. good_map_or_value node name (containers_of def) value good)

good_add_property : (iri : List ℕ) → has_colon iri ≡ true → (def : Option Def) (t : Tree) → Given (Some t) → (r : Sorted Tree) → Building r → Holds Building (add_property iri def t r)
good_add_property iri colon def t given r h =
    holds_if Building (is_reverse def) (add_subjects iri (items_of t) r) (give (add_items iri (items_of t) r))
    (λ _. good_subjects iri colon (items_of t) given r h) (λ _. λ _. good_add_items iri colon (items_of t) given r h)

good_unless_null : (iri : List ℕ) → has_colon iri ≡ true → (def : Option Def) (o : Option Tree) → Given o → (r : Sorted Tree) → Building r → Holds Building (add_unless_null iri def o r)
good_unless_null iri colon def None given r h = λ _. h
good_unless_null iri colon def (Some t) given r h =
    good_add_property iri colon def (graphed (containers_of def) (listed (containers_of def) t)) (good_graphed (containers_of def) (listed (containers_of def) t) (good_listed (containers_of def) t given)) r h

good_property : (node : Node) (iri : List ℕ) → has_colon iri ≡ true → (name : List ℕ) (def : Option Def) (value : Element) → GoodElement value → (r : Sorted Tree) → Building r → Holds Building (by_property node iri name def value r)
good_property node iri colon name def value good r h =
    holds_bind Given Building (property_value node name def value) (λ (tree : Option Tree). add_unless_null iri def tree r) (good_property_value node name def value good) (λ o k. good_unless_null iri colon def o k r h)

-- the names of what is under `@reverse`

put_name : (name : List ℕ) (value : Tree) (r : Sorted Tree) → is_reverse_name (name, value) ≡ true → ReverseNames r → ReverseNames (put r name value)
put_name name value r is h = insert_all is_reverse_name name value is r.0 h

or_second : (a b : Bool) → b ≡ true → a || b ≡ true
or_second true b h = refl
or_second false b h = h

names_property : (iri : List ℕ) → has_colon iri ≡ true → (def : Option Def) (t : Tree) (r : Sorted Tree) → ReverseNames r → Holds ReverseNames (add_property iri def t r)
names_property iri colon def t r h =
    holds_if ReverseNames (is_reverse def) (add_subjects iri (items_of t) r) (give (add_items iri (items_of t) r))
    (λ _. holds_if ReverseNames (list_any is_no_subject (items_of t)) (fails code.InvalidReversePropertyValue) (give (add_reverse iri (items_of t) r)) (λ _. λ _. tt) (λ _. λ _. put_name (codes "@reverse") _ r refl h))
    (λ _. λ _. put_name iri _ r (or_second (bytes_eq iri (codes "@reverse")) (has_colon iri) colon) h)

names_unless_null : (iri : List ℕ) → has_colon iri ≡ true → (def : Option Def) (o : Option Tree) (r : Sorted Tree) → ReverseNames r → Holds ReverseNames (add_unless_null iri def o r)
names_unless_null iri colon def None r h = λ _. h
names_unless_null iri colon def (Some t) r h = names_property iri colon def (graphed (containers_of def) (listed (containers_of def) t)) r h

-- ---- an entry

abbrev pub State : Node → Sorted Tree → Type 0
State node r = Building r × (is_in_reverse node ≡ true → ReverseNames r)

state_property : (node : Node) (iri : List ℕ) → has_colon iri ≡ true → (name : List ℕ) (def : Option Def) (value : Element) → GoodElement value → (r : Sorted Tree) → State node r → Holds (State node) (by_property node iri name def value r)
state_property node iri colon name def value good r h =
    holds_bind Given (State node) (property_value node name def value) (λ (tree : Option Tree). add_unless_null iri def tree r) (good_property_value node name def value good)
    (λ o k. with_names (add_unless_null iri def o r) (good_unless_null iri colon def o k r h.0) (λ is. names_unless_null iri colon def o r (h.1 is)) (is_in_reverse node) refl)
  where
    with_names : (o : Answer (Sorted Tree)) → Holds Building o → (is_in_reverse node ≡ true → Holds ReverseNames o) → (b : Bool) → is_in_reverse node ≡ b → Holds (State node) o
    with_names o k l true is = holds_so (λ (s : Sorted Tree). Building s × ReverseNames s) (State node) (λ s m. (m.0, λ _. m.1)) o (holds_both Building ReverseNames o k (l is))
    with_names o k l false is = holds_so Building (State node) (λ s m. (m, λ wrong. absurd (true_not_false (sym wrong ∙ is)))) o k

state_keyword : (node : Node) (iri : List ℕ) (k : Keyword) (value : Element) → GoodElement value → (r : Sorted Tree) → State node r → Holds (State node) (add_keyword node iri k value r)
state_keyword node iri k value good r h =
    holds_if (State node) (is_in_reverse node) (fails code.InvalidReversePropertyMap) _ (λ _. λ _. tt)
    (λ out. holds_if (State node) (collides iri r) (fails code.CollidingKeywords) (by_keyword node k value r) (λ _. λ _. tt)
    (λ _. holds_so Building (State node) (λ s m. (m, λ wrong. absurd (true_not_false (sym wrong ∙ out)))) (by_keyword node k value r) (good_keyword node k value good r h.0)))

state_iri : (node : Node) (iri : List ℕ) (k : Option Keyword) (e : Entry) → GoodElement e.1 → (r : Sorted Tree) → State node r → Holds (State node) (by_iri node iri k e r)
state_iri node iri (Some k) e good r h = state_keyword node iri k e.1 good r h
state_iri node iri None e good r h =
    holds_if (State node) (has_colon iri) (by_property node iri e.0 (def_of node.context e.0) e.1 r) (give r) (λ colon. state_property node iri colon e.0 (def_of node.context e.0) e.1 good r h) (λ _. λ _. h)

state_expanded : (node : Node) (iri : Option (List ℕ)) (e : Entry) → GoodElement e.1 → (r : Sorted Tree) → State node r → Holds (State node) (by_expanded node iri e r)
state_expanded node None e good r h = λ _. h
state_expanded node (Some iri) e good r h = state_iri node iri (keyword_of iri) e good r h

pub state_entry : (node : Node) (e : Entry) → GoodElement e.1 → (r : Sorted Tree) → State node r → Holds (State node) (by_entry node e r)
state_entry node e good r h =
    holds_if (State node) (bytes_eq e.0 (codes "@context")) (give r) (by_expanded node (name_iri node.context e.0) e r) (λ _. λ _. h) (λ _. state_expanded node (name_iri node.context e.0) e good r h)
