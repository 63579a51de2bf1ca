-- The rules for the entries of a map keep the result on the way in shape.
use Rattle.std.proofs.Common.{◌≡◌, ◌∙◌, refl, ap, sym, ℕ, List, [], ◌∷◌, ◌++◌, Bool, true, false, Option, Some, None}
use Rattle.std.specs.Prelude.{codes, ◌&&◌, ◌||◌, if◌then◌else◌, filter_map, option_map, option_and_then}
use Rattle.std.specs.List.{list_all, cons_option}
use Rattle.std.specs.Str.{bytes_eq}
use Rattle.std.specs.Cmp.{first_so, second_so}
use Rattle.std.specs.Cmp.Lexicographic.{same_text}
use Rattle.ld_codes.specs.declared.code.Code.TheVariants as code
use Rattle.ld_tree.specs.Maps.{find, put}
use Rattle.ld_tree.specs.Names.{Sorted}
use Rattle.ld_tree.specs.declared.tree.Tree.{Tree, out-Tree}
use Rattle.ld_tree.specs.declared.tree.Tree.TheOpen.{Tree-F}
use Rattle.ld_tree.specs.declared.tree.Tree.TheViews as W
use Rattle.ld_tree.specs.declared.tree.Tree.TheViews.{roll-Tree}
use Rattle.ld_rec.specs.Iris.{or_else}
use Rattle.ld_rec.specs.Outcome.{give, fails}
use Rattle.ld_rec.specs.Records.{Context}
use Rattle.ld_rec.specs.Words.{is_among, items_of, text_of, lowered}
use Rattle.ld_rec.specs.Kinds.{null, list_of, text_tree, is_text, is_null, is_null_in, is_node_object}
use Rattle.ld_rec.specs.Places.{type_iri, id_iri}
use Rattle.ld_rec.specs.Expansion.{Node, has_colon, items_in, put_some, add_items, add_id, type_in, unless_emptied, types_of, join_types, put_types, included, unless_null, add_language, add_index}
use Rattle.ld_rec.specs.Form.{has_form, is_formed_list}
use Rattle.ld_rec.proofs.FormedHolding.{Holds, holds_if}
use Rattle.ld_rec.proofs.FormedMaps.{Items, Given, fits, is_item, both, all_append, is_text_text, items_of_list, list_fit, formed_items, find_all, insert_all, true_not_false}
use Rattle.ld_rec.proofs.FormedValues.{item_with}

-- ---- the result on the way: `@set` isn't taken out yet, and one type is no list yet

abbrev pub on_way : List ℕ × Tree → Bool
on_way e = if bytes_eq e.0 (codes "@set") then list_all is_item (items_in (unless_null e.1)) else fits e

abbrev pub Building : Sorted Tree → Type 0
Building r = list_all on_way r.0 ≡ true

pub put_way : (name : List ℕ) (value : Tree) (r : Sorted Tree) → on_way (name, value) ≡ true → Building r → Building (put r name value)
put_way name value r fit h = insert_all on_way name value fit r.0 h

pub way_found : (name : List ℕ) (v : Tree) (r : Sorted Tree) → Building r → find r name ≡ Some v → on_way (name, v) ≡ true
way_found name v r h e = find_all on_way name v r.0 h e

-- ---- properties

pub not_colon : (k : List ℕ) → has_colon k ≡ false → (iri : List ℕ) → has_colon iri ≡ true → bytes_eq iri k ≡ false
not_colon k none iri colon = elim (bytes_eq iri k) as (λ b. bytes_eq iri k ≡ b → b ≡ false) [
  | true ↦ λ e. absurd (true_not_false (sym colon ∙ ap has_colon (same_text iri k (sym e)) ∙ none))
  | false ↦ λ e. refl
] refl

pub colon_not : (k : List ℕ) → has_colon k ≡ false → (iri : List ℕ) → has_colon iri ≡ true → bytes_eq k iri ≡ false
colon_not k none iri colon = elim (bytes_eq k iri) as (λ b. bytes_eq k iri ≡ b → b ≡ false) [
  | true ↦ λ e. absurd (true_not_false (sym colon ∙ ap has_colon (sym (same_text k iri (sym e))) ∙ none))
  | false ↦ λ e. refl
] refl

skip : {A : Type 0} (b : Bool) (x y z : A) → b ≡ false → y ≡ z → (if b then x else y) ≡ z
skip true x y z wrong h = absurd (true_not_false wrong)
skip false x y z none h = h

none_of_three : (a b c : Bool) → a ≡ false → b ≡ false → c ≡ false → a || (b || (c || false)) ≡ false
none_of_three true b c wrong k l = absurd (true_not_false wrong)
none_of_three false true c h wrong l = absurd (true_not_false wrong)
none_of_three false false true h k wrong = absurd (true_not_false wrong)
none_of_three false false false h k l = refl

or_colon : (a b c : Bool) → b ≡ true → (a || b) && c ≡ c
or_colon true b c h = refl
or_colon false b c h = ap (λ (x : Bool). x && c) h

-- under a property stands a list that has the form
pub property_way : (iri : List ℕ) → has_colon iri ≡ true → (v : Tree) → on_way (iri, v) ≡ is_formed_list (v, has_form v)
property_way iri colon v =
    skip (bytes_eq iri (codes "@set")) _ _ _ (not_colon (codes "@set") refl iri colon)
    (skip (is_among (codes "@id" ∷ codes "@index" ∷ codes "@language" ∷ []) iri) _ _ _
    (none_of_three _ _ _ (not_colon (codes "@id") refl iri colon) (not_colon (codes "@index") refl iri colon) (not_colon (codes "@language") refl iri colon))
    (skip (bytes_eq iri (codes "@type")) _ _ _ (not_colon (codes "@type") refl iri colon)
    (skip (bytes_eq iri (codes "@value")) _ _ _ (not_colon (codes "@value") refl iri colon)
    (skip (bytes_eq iri (codes "@reverse")) _ _ _ (not_colon (codes "@reverse") refl iri colon)
    (skip (bytes_eq iri (codes "@included")) _ _ _ (not_colon (codes "@included") refl iri colon)
    (or_colon (is_among (codes "@graph" ∷ codes "@included" ∷ codes "@list" ∷ []) iri) (has_colon iri) (is_formed_list (v, has_form v)) colon))))))

pub property_items : (iri : List ℕ) → has_colon iri ≡ true → (v : Tree) → on_way (iri, v) ≡ true → Items (items_of v)
property_items iri colon v h = formed_items v (sym (property_way iri colon v) ∙ h)

former_items : (iri : List ℕ) → has_colon iri ≡ true → (r : Sorted Tree) → Building r → Items (items_in (find r iri))
former_items iri colon r h = elim (find r iri) as (λ o. find r iri ≡ o → Items (items_in o)) [
  | None ↦ λ _. refl
  | Some v ↦ λ e. property_items iri colon v (way_found iri v r h e)
] refl

pub good_add_items : (iri : List ℕ) → has_colon iri ≡ true → (items : List Tree) → Items items → (r : Sorted Tree) → Building r → Building (add_items iri items r)
good_add_items iri colon items good r h =
    put_way iri (list_of (items_in (find r iri) ++ items)) r
    (property_way iri colon (list_of (items_in (find r iri) ++ items)) ∙ list_fit (items_in (find r iri) ++ items) (all_append is_item (items_in (find r iri)) items (former_items iri colon r h) good)) h

-- ---- keywords

pub good_id_rule : (node : Node) (text : Option (List ℕ)) (r : Sorted Tree) → Building r → Holds Building (add_id node text r)
good_id_rule node None r h = λ _. tt
good_id_rule node (Some text) r h = λ _. at (id_iri node.context text)
  where
    at : (iri : Option (List ℕ)) → Building (put_some (codes "@id") (option_map text_tree iri) r)
    at None = h
    at (Some iri) = put_way (codes "@id") (text_tree iri) r (is_text_text iri) h

-- texts under `@type`
abbrev Texts : List Tree → Type 0
Texts ts = list_all is_text ts ≡ true

abbrev TextsIn : Option Tree → Type 0
TextsIn None = Unit {0}
TextsIn (Some t) = Texts (items_of t)

abbrev TextIn : Option Tree → Type 0
TextIn None = Unit {0}
TextIn (Some t) = is_text t ≡ true

type_text : (context : Context) (text : Option (List ℕ)) → TextIn (option_and_then (λ text. option_map text_tree (type_iri context text)) text)
type_text context None = tt
type_text context (Some text) = at (type_iri context text)
  where
    at : (iri : Option (List ℕ)) → TextIn (option_map text_tree iri)
    at None = tt
    at (Some iri) = is_text_text iri

one_type : (context : Context) (text : Option (List ℕ)) → TextsIn (option_and_then (λ text. option_map text_tree (type_iri context text)) text)
one_type context None = tt
one_type context (Some text) = at (type_iri context text)
  where
    at : (iri : Option (List ℕ)) → TextsIn (option_map text_tree iri)
    at None = tt
    at (Some iri) = item_with iri

next_text : (o : Option Tree) (rest : List Tree) → TextIn o → Texts rest → Texts (cons_option o rest)
next_text None rest h k = k
next_text (Some t) rest h k = both (is_text t) (list_all is_text rest) h k

type_texts : (context : Context) (ts : List Tree) → Texts (filter_map (type_in context) ts)
type_texts context [] = refl
type_texts context (t ∷ ts) = next_text (type_in context t) (filter_map (type_in context) ts) (type_text context (text_of t)) (type_texts context ts)

unless_emptied_texts : (ts types : List Tree) → Texts types → TextsIn (unless_emptied ts types)
unless_emptied_texts [] types h = ap (list_all is_text) (items_of_list types) ∙ h
unless_emptied_texts (t ∷ ts) [] h = tt
unless_emptied_texts (t ∷ ts) (u ∷ us) h = ap (list_all is_text) (items_of_list (u ∷ us)) ∙ h

types_texts : (context : Context) (value : Tree) (y : Tree-F Tree) → TextsIn (types_of context value y)
types_texts context value (Tree-F.List ts) = unless_emptied_texts ts (filter_map (type_in context) ts) (type_texts context ts)
types_texts context value _ = one_type context (text_of value)

joined_types : (former : Option Tree) → TextsIn former → (types : Tree) → Texts (items_of types) → Texts (items_of (join_types former types))
joined_types None h types k = k
joined_types (Some t) h types k = ap (list_all is_text) (items_of_list (items_of t ++ items_of types)) ∙ all_append is_text (items_of t) (items_of types) h k

former_types : (r : Sorted Tree) → Building r → TextsIn (find r (codes "@type"))
former_types r h = elim (find r (codes "@type")) as (λ o. find r (codes "@type") ≡ o → TextsIn o) [
  | None ↦ λ _. tt
  | Some v ↦ λ e. way_found (codes "@type") v r h e
] refl

pub good_put_types : (types : Option Tree) → TextsIn types → (r : Sorted Tree) → Building r → Building (put_types types r)
good_put_types None k r h = h
good_put_types (Some types) k r h = put_way (codes "@type") (join_types (find r (codes "@type")) types) r (joined_types (find r (codes "@type")) (former_types r h) types k) h

pub good_types : (context : Context) (value : Tree) (r : Sorted Tree) → Building r → Building (put_types (types_of context value (out-Tree value)) r)
good_types context value r h = good_put_types (types_of context value (out-Tree value)) (types_texts context value (out-Tree value)) r h

-- nodes that are included
former_included : (r : Sorted Tree) → Building r → (Items (items_in (find r (codes "@included")))) × (list_all is_node_object (items_in (find r (codes "@included"))) ≡ true)
former_included r h = elim (find r (codes "@included")) as (λ o. find r (codes "@included") ≡ o → (Items (items_in o)) × (list_all is_node_object (items_in o) ≡ true)) [
  | None ↦ λ _. (refl, refl)
  | Some v ↦ λ e. (formed_items v (first_so _ _ (way_found (codes "@included") v r h e)), second_so (is_formed_list (v, has_form v)) _ (way_found (codes "@included") v r h e))
] refl

pub good_included : (items : List Tree) → Items items → list_all is_node_object items ≡ true → (r : Sorted Tree) → Building r → Building (add_items (codes "@included") items r)
good_included items good nodes r h =
    put_way (codes "@included") (list_of (items_in (find r (codes "@included")) ++ items)) r
    (both (is_formed_list (list_of (items_in (find r (codes "@included")) ++ items), has_form (list_of (items_in (find r (codes "@included")) ++ items)))) _
    (list_fit (items_in (find r (codes "@included")) ++ items) (all_append is_item (items_in (find r (codes "@included"))) items (former_included r h).0 good))
    (ap (list_all is_node_object) (items_of_list (items_in (find r (codes "@included")) ++ items)) ∙ all_append is_node_object (items_in (find r (codes "@included"))) items (former_included r h).1 nodes)) h

pub good_included_rule : (o : Option Tree) → Given o → (r : Sorted Tree) → Building r → Holds Building (included o r)
good_included_rule None given r h = λ _. tt
good_included_rule (Some t) given r h =
    holds_if Building (list_all is_node_object (items_of t)) (give (add_items (codes "@included") (items_of t) r)) (fails code.InvalidIncludedValue)
    (λ nodes. λ _. good_included (items_of t) given nodes r h) (λ _. λ _. tt)

pub good_language_rule : (tag : Option (List ℕ)) (r : Sorted Tree) → Building r → Holds Building (add_language tag r)
good_language_rule None r h = λ _. tt
good_language_rule (Some tag) r h = λ _. put_way (codes "@language") (text_tree (lowered tag)) r (is_text_text (lowered tag)) h

pub good_index_rule : (text : Option (List ℕ)) (r : Sorted Tree) → Building r → Holds Building (add_index text r)
good_index_rule None r h = λ _. tt
good_index_rule (Some text) r h = λ _. put_way (codes "@index") (text_tree text) r (is_text_text text) h

unless_null_given : (b : Bool) (t : Tree) → Given (Some t) → Given (if b then None else Some t)
unless_null_given true t h = refl
unless_null_given false t h = h

null_given : Given (unless_null null)
null_given = ap (λ (y : Tree-F Tree). list_all is_item (items_in (if is_null_in y then None else Some null))) (W.out-roll-Tree Tree-F.Null)

pub good_set : (o : Option Tree) → Given o → (r : Sorted Tree) → Building r → Building (put r (codes "@set") (or_else o null))
good_set None given r h = put_way (codes "@set") null r null_given h
good_set (Some t) given r h = put_way (codes "@set") t r (unless_null_given (is_null t) t given) h
