-- The stages of the cycle, over plain variables: of the call that comes next, the stock and the place are those of the
-- stage, or equal to them.
use Rattle.std.proofs.Common.{◌≡◌, ◌∙◌, refl, sym, ap, subst, ℕ, ◌+◌, ◌<◌, List, [], ◌∷◌, length, drop, get_or, map, Bool, true, false, cond, Option, Some, None, Ok}
use Rattle.std.specs.Prelude.{Result, codes, is_some, ◌||◌, ◌&&◌, if◌then◌else◌}
use Rattle.std.specs.BTreeMap.{is_at}
use Rattle.std.specs.Str.{bytes_eq}
use Rattle.std.proofs.lemmas.Map.Text.{is_eq-slice_cmp}
use Rattle.ld_tree.specs.Names.{Sorted, name_cmp}
use Rattle.ld_tree.specs.Trees.{member, member_at}
use Rattle.ld_tree.specs.declared.tree.Tree.{Tree, out-Tree}
use Rattle.ld_tree.specs.declared.tree.Tree.TheOpen.{Tree-F}
use Rattle.ld_tree.specs.declared.tree.Tree.TheFolds.{map-Tree}
use Rattle.ld_rec.specs.declared.def.Def.{Def}
use Rattle.ld_rec.specs.declared.stop.Stop.{Stop}
use Rattle.ld_rec.specs.Kinds.{entries_of, entries_in, is_list_object, is_graph_object}
use Rattle.ld_rec.specs.Outcome.{Answer, Stock, give, ◌>>=◌, Gives, GivesAs, Refuses}
use Rattle.ld_rec.specs.Places.{with_scoped}
use Rattle.ld_rec.specs.Records.{Context}
use Rattle.ld_rec.specs.Words.{is_among, names_are_among}
use Rattle.ld_compact.specs.Adding.{items_at}
use Rattle.ld_compact.specs.Elements.{Whole, Content, Place, Becomes, Value, Entry, Item, value_at, items_in, def_at, compact_whole}
use Rattle.ld_compact.specs.Compaction.{Node, Property, entry_rule, id_rule, type_rule, reverse_rule, index_rule, put_under, items_rule, item_rule, item_under, item_by_kind, list_item, graph_item, node_item, compact_name, property_of, value_or_map, given_or_needed, add_item, unless_null, element, compaction_step, reverted, map_becomes, map_within, full_becomes, compacted_types, typed_becomes, with_types, node_becomes, needed_map, content_of, content_becomes, way_of}
use Rattle.ld_compact.specs.Steps.{place_of, node_of, beside, entry_beside, all_beside, within_becomes}
use Rattle.ld_compact.proofs.Stages.{then_result, then_refuses, then_gives, gives_same, next_item}
use Rattle.ld_compact.proofs.Levels.{element_level}

-- ---- from one stage to the next

-- what the next call answers, at the stage's own stock, option and property
moved : {A B : Type 0} (stock later : Stock) (same : later ≡ stock) (arrays now : Bool) (alike : now ≡ arrays) (property p : Option (List ℕ)) (at : p ≡ property) (view : A → B) (given : Result A Stop) (next : Bool → Option (List ℕ) → Answer B)
    → GivesAs view given ((next now p).run later).result → GivesAs view given ((next arrays property).run stock).result
moved stock later same arrays now alike property p at view given next h =
    subst (λ (q : Option (List ℕ)). GivesAs view given ((next arrays q).run stock).result) at
    (subst (λ (b : Bool). GivesAs view given ((next b p).run stock).result) alike
    (subst (λ (s : Stock). GivesAs view given ((next now p).run s).result) same h))

abbrev pub itself : Tree → Tree
itself t = t

module _ (stock : Stock) (arrays : Bool) (tree : Tree) (entries : Bool → List Entry) (entry before : Context) (property : Option (List ℕ)) (def : Option Def) (same_def : def ≡ def_at entry property) (same_before : before ≡ reverted entry tree) where
  abbrev scoped : Answer Context
  scoped = with_scoped (def_at entry property) true true (reverted entry tree)

  by_parts : ((with_scoped def true true before).run stock).result ≡ (scoped.run stock).result
  by_parts = ap (λ (d : Option Def). ((with_scoped d true true before).run stock).result) same_def ∙ ap (λ (c : Context). ((with_scoped (def_at entry property) true true c).run stock).result) same_before

  -- 5 and 6
  pub map_gives : (later : Stock) (now : Bool) (p : Option (List ℕ)) (made : Context) (given : Result Tree Stop) → later ≡ stock → now ≡ arrays → p ≡ property → ((with_scoped def true true before).run stock).result ≡ Ok made
      → Gives given ((map_within now tree (entries now) entry (place_of made p Whole)).run later).result → Gives given ((map_becomes arrays tree (entries arrays) (place_of entry property Whole)).run stock).result
  map_gives later now p made given same alike at e h =
      then_gives stock scoped (λ context. map_within arrays tree (entries arrays) entry (place_of context property Whole)) itself given made (sym by_parts ∙ e)
      (moved stock later same arrays now alike property p at itself given (λ b q. map_within b tree (entries b) entry (place_of made q Whole)) h)

module _ (stock : Stock) (arrays : Bool) (tree : Tree) (entries : Bool → List Entry) (entry context : Context) (property : Option (List ℕ)) (types : List (List ℕ))
    (are : ((compacted_types entry (items_at (member (codes "@type") tree))).run stock).result ≡ Ok types) where
  abbrev asked_types : Answer (List (List ℕ))
  asked_types = compacted_types entry (items_at (member (codes "@type") tree))

  abbrev then_typed : List (List ℕ) → Answer Tree
  then_typed = typed_becomes arrays (entries arrays) entry (place_of context property Whole)

  abbrev then_node : Context → Answer Tree
  then_node made = node_becomes arrays (entries arrays) (node_of made property types)

  -- 11
  pub full_gives : (later : Stock) (now : Bool) (p : Option (List ℕ)) (made : Context) (given : Result Tree Stop) → later ≡ stock → now ≡ arrays → p ≡ property → ((with_types entry types context).run stock).result ≡ Ok made
      → Gives given ((node_becomes now (entries now) (node_of made p types)).run later).result → Gives given ((full_becomes arrays tree (entries arrays) entry (place_of context property Whole)).run stock).result
  full_gives later now p made given same alike at e h =
      then_gives stock asked_types then_typed itself given types are
      (then_gives stock (with_types entry types context) then_node itself given made e
      (moved stock later same arrays now alike property p at itself given (λ b q. node_becomes b (entries b) (node_of made q types)) h))

-- ---- the value under a name

at_name : (name key : List ℕ) (b : Bool) → bytes_eq name key ≡ b → is_at (name_cmp name) key ≡ b
at_name name key b e = is_eq-slice_cmp name key ∙ e

abbrev head_or : (arrays : Bool) → List ℕ × Tree → List (List ℕ × Tree) → List ℕ → Bool → Option Value
head_or arrays e es name b = cond b (Some (beside arrays e.1)) (value_at name (map (entry_beside arrays) es))

value_here : (arrays : Bool) (name : List ℕ) (e : List ℕ × Tree) (es : List (List ℕ × Tree)) (b : Bool) → bytes_eq name e.0 ≡ b → value_at name (map (entry_beside arrays) (e ∷ es)) ≡ head_or arrays e es name b
value_here arrays name e es b is = ap (head_or arrays e es name) (at_name name e.0 b is)

-- a step of the search for it
module _ (arrays : Bool) (name : List ℕ) (entries items : List (List ℕ × Tree)) (i : ℕ) (e : List ℕ × Tree) (key : List ℕ) (within : i < length items) (is : e ≡ get_or items i e) (named : key ≡ e.0)
    (so : value_at name (map (entry_beside arrays) entries) ≡ value_at name (map (entry_beside arrays) (drop i items))) where
  at_head : (b : Bool) → bytes_eq name key ≡ b → value_at name (map (entry_beside arrays) entries) ≡ head_or arrays e (drop (i + 1) items) name b
  at_head b h =
      so ∙ ap (λ (l : List (List ℕ × Tree)). value_at name (map (entry_beside arrays) l)) (next_item items i e within is)
      ∙ value_here arrays name e (drop (i + 1) items) b (ap (λ (k : List ℕ). bytes_eq name k) (sym named) ∙ h)

  pub found_later : bytes_eq name key ≡ false → value_at name (map (entry_beside arrays) entries) ≡ value_at name (map (entry_beside arrays) (drop (i + 1) items))
  found_later h = at_head false h

  module _ (stock later : Stock) (same : later ≡ stock) (context : Context) (property : Option (List ℕ)) (here : bytes_eq name key ≡ true) where
    abbrev compacts : Answer Tree
    compacts = compact_whole (beside arrays e.1) context property

    found_is_it : ((within_becomes (value_at name (map (entry_beside arrays) entries)) (place_of context property Whole)).run stock).result ≡ ((compacts >>= (λ tree. give (Some tree))).run stock).result
    found_is_it = ap (λ (o : Option Value). ((within_becomes o (place_of context property Whole)).run stock).result) (at_head true here)

    pub found_gives : (tree : Tree) → (compacts.run later).result ≡ Ok tree → ((within_becomes (value_at name (map (entry_beside arrays) entries)) (place_of context property Whole)).run stock).result ≡ Ok (Some tree)
    found_gives tree h = found_is_it ∙ then_result stock compacts (λ tree. give (Some tree)) tree (ap (λ (s : Stock). (compacts.run s).result) (sym same) ∙ h)

    pub found_refuses : (stop : Stop) → Refuses stop (compacts.run later).result → Refuses stop ((within_becomes (value_at name (map (entry_beside arrays) entries)) (place_of context property Whole)).run stock).result
    found_refuses stop h =
        subst (λ (r : Result (Option Tree) Stop). Refuses stop r) (sym found_is_it)
        (then_refuses stock compacts (λ tree. give (Some tree)) stop (subst (λ (s : Stock). Refuses stop (compacts.run s).result) same h))

-- ---- a list or graph object is taken by what it holds

module _ (arrays : Bool) (context : Context) (property : Option (List ℕ)) where
  abbrev holds : Tree-F Tree → Bool
  holds y = is_some (member_at (codes "@list") y) || (is_some (member_at (codes "@graph") y) && names_are_among (codes "@graph" ∷ codes "@id" ∷ codes "@index" ∷ []) (entries_in y))

  true_or_false : {A : Type 0} → true ≡ false → A
  true_or_false e = absurd (let wrong : ⊥ = cc in wrong)

  same_place : (held : Option Value) → content_becomes held (place_of context property Content) ≡ content_becomes held (place_of context property Whole)
  same_place None = refl
  same_place (Some value) = refl

  by_content : (y : Tree-F Tree) → holds y ≡ true
      → (compaction_step arrays (map-Tree Tree Value (beside arrays) y)).0 (place_of context property Content) ≡ content_becomes (content_of (all_beside arrays (entries_in y))) (place_of context property Whole)
  by_content (Tree-F.Map es) e = same_place (content_of (all_beside arrays es))
  by_content (Tree-F.List ts) e = true_or_false (sym e)
  by_content (Tree-F.Text text) e = true_or_false (sym e)
  by_content (Tree-F.Num n) e = true_or_false (sym e)
  by_content (Tree-F.Bool b) e = true_or_false (sym e)
  by_content Tree-F.Null e = true_or_false (sym e)

  content_at : (item : Tree) → holds (out-Tree item) ≡ true → (element arrays item).0 (place_of context property Content) ≡ content_becomes (content_of (all_beside arrays (entries_of item))) (place_of context property Whole)
  content_at item e = ap (λ (b : Becomes × List Item). b.0 (place_of context property Content)) (element_level arrays item) ∙ by_content (out-Tree item) e

  abbrev by_kind : Tree → Bool → Answer Tree
  by_kind item b = (element arrays item).0 (place_of context property (if b then Content else Whole))

  module _ (stock : Stock) (item : Tree) (given : Result Tree Stop) where
    pub content_gives : is_list_object item || is_graph_object item ≡ true → Gives given ((content_becomes (content_of (all_beside arrays (entries_of item))) (place_of context property Whole)).run stock).result
        → Gives given (((element arrays item).0 (place_of context property (way_of item))).run stock).result
    content_gives e h = subst (λ (o : Answer Tree). Gives given (o.run stock).result) (sym (ap (by_kind item) e ∙ content_at item e)) h

-- ---- an entry, and an item by its kind

pub index_entry : (stock : Stock) (arrays : Bool) (node : Node) (e : Entry) (result : Sorted Tree) → bytes_eq e.0 (codes "@id") ≡ false → bytes_eq e.0 (codes "@type") ≡ false → bytes_eq e.0 (codes "@reverse") ≡ false
    → bytes_eq e.0 (codes "@index") ≡ true → ((entry_rule arrays node e result).run stock).result ≡ ((index_rule node e.1.0 result).run stock).result
index_entry stock arrays node e result no_id no_type no_reverse is =
    let last : Answer (Sorted Tree) = if is_among (codes "@language" ∷ codes "@value" ∷ []) e.0 then put_under node.context e.0 (Some e.1.0) result else items_rule arrays node e.0 (items_in e.1) result in
    let by_index : Bool → Answer (Sorted Tree) = λ b. if b then index_rule node e.1.0 result else last in
    let by_reverse : Bool → Answer (Sorted Tree) = λ b. if b then reverse_rule arrays node e.1 result else by_index (bytes_eq e.0 (codes "@index")) in
    let by_types : Bool → Answer (Sorted Tree) = λ b. if b then type_rule arrays node result else by_reverse (bytes_eq e.0 (codes "@reverse")) in
    let by_id : Bool → Answer (Sorted Tree) = λ b. if b then id_rule node.context e.1.0 result else by_types (bytes_eq e.0 (codes "@type")) in
    ap (λ (b : Bool). ((by_id b).run stock).result) no_id
    ∙ ap (λ (b : Bool). ((by_types b).run stock).result) no_type
    ∙ ap (λ (b : Bool). ((by_reverse b).run stock).result) no_reverse
    ∙ ap (λ (b : Bool). ((by_index b).run stock).result) is

module _ (stock : Stock) (context : Context) (property : Property) (item : Item) (compacted : Tree) (old : Sorted Tree) where
  abbrev outcome_of : Answer (Sorted Tree) → Result (Sorted Tree) Stop
  outcome_of o = (o.run stock).result

  abbrev no_list : Answer (Sorted Tree)
  no_list = if is_graph_object item.0 then graph_item context property item.0 compacted old else node_item context property item compacted old

  pub kind_is_list : is_list_object item.0 ≡ true → outcome_of (item_by_kind context property item compacted old) ≡ outcome_of (list_item context property item.0 compacted old)
  kind_is_list list = ap (λ (b : Bool). outcome_of (if b then list_item context property item.0 compacted old else no_list)) list

  pub kind_is_graph : is_list_object item.0 ≡ false → is_graph_object item.0 ≡ true → outcome_of (item_by_kind context property item compacted old) ≡ outcome_of (graph_item context property item.0 compacted old)
  kind_is_graph list graph =
      ap (λ (b : Bool). outcome_of (if b then list_item context property item.0 compacted old else no_list)) list
      ∙ ap (λ (b : Bool). outcome_of (if b then graph_item context property item.0 compacted old else node_item context property item compacted old)) graph

-- under the name that it gets
pub item_gives : (stock : Stock) (arrays : Bool) (node : Node) (expanded : List ℕ) (item : Item) (name text : List ℕ) (property : Property) (old new : Sorted Tree) (given : Result (Unit {0}) Stop)
    → ((compact_name node item.0 expanded).run stock).result ≡ Ok name → text ≡ name → property ≡ property_of arrays node.context expanded text
    → GivesAs (λ done. new) given ((item_under node.context property item old).run stock).result → GivesAs (λ done. new) given ((item_rule arrays node expanded item old).run stock).result
item_gives stock arrays node expanded item name text property old new given h same is k =
    then_gives stock (compact_name node item.0 expanded) (λ (n : List ℕ). item_under node.context (property_of arrays node.context expanded n) item old) (λ done. new) given name h
    (gives_same (λ done. new) given ((item_under node.context property item old).run stock).result ((item_under node.context (property_of arrays node.context expanded name) item old).run stock).result
    (ap (λ (p : Property). ((item_under node.context p item old).run stock).result) (sym (is ∙ ap (λ (n : List ℕ). property_of arrays node.context expanded n) same))) k)

-- ---- a value that needs no map, or the map

module _ (stock : Stock) (arrays : Bool) (tree : Tree) (entries : List Entry) (entry context : Context) (property : Option (List ℕ)) where
  abbrev asked_value : Answer (Option Tree)
  asked_value = value_or_map tree context property

  abbrev then_needed : Option Tree → Answer Tree
  then_needed = given_or_needed arrays tree entries entry (place_of context property Whole)

  pub within_refuses : (e : Stop) → Refuses e (asked_value.run stock).result → Refuses e ((map_within arrays tree entries entry (place_of context property Whole)).run stock).result
  within_refuses e h = then_refuses stock asked_value then_needed e h

  pub within_value : (value : Tree) → (asked_value.run stock).result ≡ Ok (Some value) → ((map_within arrays tree entries entry (place_of context property Whole)).run stock).result ≡ Ok value
  within_value value h = then_result stock asked_value then_needed (Some value) h

  pub within_needed : (given : Result Tree Stop) → (asked_value.run stock).result ≡ Ok None → Gives given ((needed_map arrays tree entries entry (place_of context property Whole)).run stock).result
      → Gives given ((map_within arrays tree entries entry (place_of context property Whole)).run stock).result
  within_needed given h k = then_gives stock asked_value then_needed itself given None h k

-- ---- an item of a list

pub listed_gives : (stock : Stock) (place : Place) (item : Item) (tree : Tree) (old new : List Tree) (given : Result (Unit {0}) Stop) → ((item.1 (place_of place.context place.property Whole)).run stock).result ≡ Ok tree
    → GivesAs (λ done. new) given ((give (unless_null tree old)).run stock).result → GivesAs (λ done. new) given ((add_item place item old).run stock).result
listed_gives stock place item tree old new given h k = then_gives stock (item.1 (place_of place.context place.property Whole)) (λ (t : Tree). give (unless_null t old)) (λ done. new) given tree h k
