-- The rules for entries, by the parts that the code takes them in.
use Rattle.std.proofs.Common.{◌≡◌, ◌∙◌, refl, sym, ap, subst, ℕ, Bool, true, false, List, [], length, Option, Some, None, Ok}
use Rattle.std.specs.Borrow.{Bor}
use Rattle.std.specs.Prelude.{Result, nat_lt, not, if◌then◌else◌, is_some, option_copied, codes}
use Rattle.ld_tree.specs.Maps.{empty, put}
use Rattle.ld_tree.specs.Names.{Sorted}
use Rattle.ld_tree.specs.Trees.{member}
use Rattle.ld_tree.specs.declared.tree.Tree.{Tree}
use Rattle.ld_tree.specs.declared.tree.Tree.TheVariants as V
use Rattle.ld_rec.specs.declared.stop.Stop.{Stop}
use Rattle.ld_rec.specs.Kinds.{list_of, map_of}
use Rattle.ld_rec.specs.Outcome.{Answer, Stock, give, ◌>>=◌, GivesAs, Refuses}
use Rattle.ld_rec.specs.Records.{Context}
use Rattle.ld_rec.specs.Words.{items_of}
use Rattle.ld_compact.specs.Adding.{add_value}
use Rattle.ld_compact.specs.Compaction.{Node, Property, compact_name, empty_rule, put_under, labelled_list, as_list, list_item, add_to, id_tree, text_at, text_in, labelled_graph, whole_graph, simple_graph, included_if_several, graph_by_id, graph_by_index, graph_in, graph_item, is_simple}
use Rattle.ld_compact.proofs.Stages.{then_result, then_refuses, then_gives, gives_same}

-- a property without values
module _ (stock : Stock) (node : Node) (expanded : List ℕ) (items : List Tree) (none : items ≡ []) where
  none_listed : V.List items ≡ list_of []
  none_listed = ap (λ (l : List Tree). V.List l) none ∙ sym (V.rolls-List [])

  pub empty_refuses : (old : Sorted Tree) (e : Stop) → Refuses e ((compact_name node (V.List items) expanded).run stock).result → Refuses e ((empty_rule node expanded old).run stock).result
  empty_refuses old e h =
      then_refuses stock (compact_name node (list_of []) expanded) (λ name. give (add_value name true (list_of []) old)) e
      (subst (λ (t : Tree). Refuses e ((compact_name node t expanded).run stock).result) none_listed h)

  pub empty_gives : (old new : Sorted Tree) (name at : List ℕ) → ((compact_name node (V.List items) expanded).run stock).result ≡ Ok name → at ≡ name → new ≡ add_value at true (V.List items) old
      → ((empty_rule node expanded old).run stock).result ≡ Ok new
  empty_gives old new name at h same e =
      then_result stock (compact_name node (list_of []) expanded) (λ name. give (add_value name true (list_of []) old)) name
      (ap (λ (t : Tree). ((compact_name node t expanded).run stock).result) (sym none_listed) ∙ h)
      ∙ ap (λ (m : Sorted Tree). Ok m) (ap (λ (t : Tree). add_value name true t old) (sym none_listed) ∙ ap (λ (n : List ℕ). add_value n true (V.List items) old) (sym same) ∙ sym e)

-- ---- list and graph objects

module _ (stock : Stock) (context : Context) where
  abbrev result_of : Answer (Sorted Tree) → Result (Sorted Tree) Stop
  result_of o = (o.run stock).result

  -- a map that is begun with one entry
  from_none : (keyword : List ℕ) (value : Option Tree) (start : Sorted Tree) → start ≡ empty → result_of (put_under context keyword value start) ≡ result_of (put_under context keyword value empty)
  from_none keyword value start none = ap (λ (s : Sorted Tree). result_of (put_under context keyword value s)) none

  refused_from_none : (keyword : List ℕ) (value : Option Tree) (start : Sorted Tree) → start ≡ empty → (e : Stop) → Refuses e (result_of (put_under context keyword value start)) → Refuses e (result_of (put_under context keyword value empty))
  refused_from_none keyword value start none e h = subst (λ (r : Result (Sorted Tree) Stop). Refuses e r) (from_none keyword value start none) h

  -- a list object's map
  module _ (item list : Tree) (start : Sorted Tree) (none : start ≡ empty) where
    pub list_refuses : (e : Stop) → Refuses e (result_of (put_under context (codes "@list") (Some list) start)) → Refuses e (result_of (labelled_list context item list))
    list_refuses e h =
        then_refuses stock (put_under context (codes "@list") (Some list) empty) (put_under context (codes "@index") (member (codes "@index") item)) e (refused_from_none (codes "@list") (Some list) start none e h)

    list_goes : (first : Sorted Tree) (index : Option Tree) → result_of (put_under context (codes "@list") (Some list) start) ≡ Ok first → index ≡ member (codes "@index") item
        → result_of (labelled_list context item list) ≡ result_of (put_under context (codes "@index") index first)
    list_goes first index h is =
        then_result stock (put_under context (codes "@list") (Some list) empty) (put_under context (codes "@index") (member (codes "@index") item)) first (sym (from_none (codes "@list") (Some list) start none) ∙ h)
        ∙ ap (λ (o : Option Tree). result_of (put_under context (codes "@index") o first)) (sym is)

    pub list_index_refuses : (first : Sorted Tree) (index : Option Tree) (e : Stop) → result_of (put_under context (codes "@list") (Some list) start) ≡ Ok first → index ≡ member (codes "@index") item
        → Refuses e (result_of (put_under context (codes "@index") index first)) → Refuses e (result_of (labelled_list context item list))
    list_index_refuses first index e h is k = subst (λ (r : Result (Sorted Tree) Stop). Refuses e r) (sym (list_goes first index h is)) k

    pub list_gives : (first last : Sorted Tree) (index : Option Tree) → result_of (put_under context (codes "@list") (Some list) start) ≡ Ok first → index ≡ member (codes "@index") item
        → result_of (put_under context (codes "@index") index first) ≡ Ok last → result_of (labelled_list context item list) ≡ Ok last
    list_gives first last index h is k = list_goes first index h is ∙ k

  -- a graph object's map
  module _ (item compacted : Tree) (start : Sorted Tree) (none : start ≡ empty) where
    abbrev labelled_with : Sorted Tree → Option Tree → Answer (Sorted Tree)
    labelled_with entries id = put_under context (codes "@id") id entries >>= put_under context (codes "@index") (member (codes "@index") item)

    abbrev identified : Sorted Tree → Answer (Sorted Tree)
    identified entries = id_tree context (text_at (codes "@id") item) >>= labelled_with entries

    pub graph_refuses : (e : Stop) → Refuses e (result_of (put_under context (codes "@graph") (Some compacted) start)) → Refuses e (result_of (labelled_graph context item compacted))
    graph_refuses e h = then_refuses stock (put_under context (codes "@graph") (Some compacted) empty) identified e (refused_from_none (codes "@graph") (Some compacted) start none e h)

    module _ (first : Sorted Tree) (begun : result_of (put_under context (codes "@graph") (Some compacted) start) ≡ Ok first) (text : Option Tree) (at : text ≡ member (codes "@id") item) where
      graph_goes : result_of (labelled_graph context item compacted) ≡ result_of (id_tree context (text_in text) >>= labelled_with first)
      graph_goes =
          then_result stock (put_under context (codes "@graph") (Some compacted) empty) identified first (sym (from_none (codes "@graph") (Some compacted) start none) ∙ begun)
          ∙ ap (λ (o : Option Tree). result_of (id_tree context (text_in o) >>= labelled_with first)) (sym at)

      pub graph_id_refuses : (e : Stop) → Refuses e ((id_tree context (text_in text)).run stock).result → Refuses e (result_of (labelled_graph context item compacted))
      graph_id_refuses e h = subst (λ (r : Result (Sorted Tree) Stop). Refuses e r) (sym graph_goes) (then_refuses stock (id_tree context (text_in text)) (labelled_with first) e h)

      module _ (id : Option Tree) (id_is : ((id_tree context (text_in text)).run stock).result ≡ Ok id) where
        named_goes : result_of (labelled_graph context item compacted) ≡ result_of (labelled_with first id)
        named_goes = graph_goes ∙ then_result stock (id_tree context (text_in text)) (labelled_with first) id id_is

        pub graph_name_refuses : (e : Stop) → Refuses e (result_of (put_under context (codes "@id") id first)) → Refuses e (result_of (labelled_graph context item compacted))
        graph_name_refuses e h =
            subst (λ (r : Result (Sorted Tree) Stop). Refuses e r) (sym named_goes) (then_refuses stock (put_under context (codes "@id") id first) (put_under context (codes "@index") (member (codes "@index") item)) e h)

        module _ (second : Sorted Tree) (index : Option Tree) (id_put : result_of (put_under context (codes "@id") id first) ≡ Ok second) (is : index ≡ member (codes "@index") item) where
          last_goes : result_of (labelled_graph context item compacted) ≡ result_of (put_under context (codes "@index") index second)
          last_goes =
              named_goes ∙ then_result stock (put_under context (codes "@id") id first) (put_under context (codes "@index") (member (codes "@index") item)) second id_put
              ∙ ap (λ (o : Option Tree). result_of (put_under context (codes "@index") o second)) (sym is)

          pub graph_index_refuses : (e : Stop) → Refuses e (result_of (put_under context (codes "@index") index second)) → Refuses e (result_of (labelled_graph context item compacted))
          graph_index_refuses e h = subst (λ (r : Result (Sorted Tree) Stop). Refuses e r) (sym last_goes) h

          pub graph_gives : (last : Sorted Tree) → result_of (put_under context (codes "@index") index second) ≡ Ok last → result_of (labelled_graph context item compacted) ≡ Ok last
          graph_gives last h = last_goes ∙ h

  -- several nodes in one
  module _ (compacted : Tree) (several : nat_lt 1 (length (items_of compacted)) ≡ true) (start : Sorted Tree) (none : start ≡ empty) where
    abbrev as_map : Sorted Tree → Answer Tree
    as_map entries = give (map_of entries)

    included_is : ((included_if_several context compacted).run stock).result ≡ ((put_under context (codes "@included") (Some compacted) empty >>= as_map).run stock).result
    included_is = ap (λ (b : Bool). ((if b then put_under context (codes "@included") (Some compacted) empty >>= as_map else give compacted).run stock).result) several

    pub included_refuses : (e : Stop) → Refuses e (result_of (put_under context (codes "@included") (Some compacted) start)) → Refuses e ((included_if_several context compacted).run stock).result
    included_refuses e h =
        subst (λ (r : Result Tree Stop). Refuses e r) (sym included_is)
        (then_refuses stock (put_under context (codes "@included") (Some compacted) empty) as_map e (refused_from_none (codes "@included") (Some compacted) start none e h))

    pub included_gives : (made : Sorted Tree) (tree : Tree) → result_of (put_under context (codes "@included") (Some compacted) start) ≡ Ok made → tree ≡ V.Map made → ((included_if_several context compacted).run stock).result ≡ Ok tree
    included_gives made tree h is =
        included_is ∙ then_result stock (put_under context (codes "@included") (Some compacted) empty) as_map made (sym (from_none (codes "@included") (Some compacted) start none) ∙ h)
        ∙ ap (λ (t : Tree). Ok t) (V.rolls-Map made ∙ sym is)

  -- by the containers
  module _ (property : Property) (item compacted : Tree) (old : Sorted Tree) where
    pub list_item_is : property.containers.list ≡ false → (list : Tree) → list ≡ as_list compacted
        → result_of (list_item context property item compacted old) ≡ result_of (labelled_list context item list >>= (λ entries. give (add_to property (map_of entries) old)))
    list_item_is other list is =
        ap (λ (b : Bool). result_of (if b then give (put old property.name (as_list compacted)) else labelled_list context item (as_list compacted) >>= (λ entries. give (add_to property (map_of entries) old)))) other
        ∙ ap (λ (t : Tree). result_of (labelled_list context item t >>= (λ entries. give (add_to property (map_of entries) old)))) (sym is)

    abbrev added : Sorted Tree → Answer (Sorted Tree)
    added entries = give (add_to property (map_of entries) old)

    pub list_item_refuses : property.containers.list ≡ false → (list : Tree) → list ≡ as_list compacted → (e : Stop) → Refuses e (result_of (labelled_list context item list)) → Refuses e (result_of (list_item context property item compacted old))
    list_item_refuses other list is e h = subst (λ (r : Result (Sorted Tree) Stop). Refuses e r) (sym (list_item_is other list is)) (then_refuses stock (labelled_list context item list) added e h)

    pub list_item_gives : property.containers.list ≡ false → (list : Tree) → list ≡ as_list compacted → (entries new : Sorted Tree) (given : Result (Unit {0}) Stop) → result_of (labelled_list context item list) ≡ Ok entries
        → GivesAs (λ done. new) given (result_of (added entries)) → GivesAs (λ done. new) given (result_of (list_item context property item compacted old))
    list_item_gives other list is entries new given h k =
        gives_same (λ done. new) given (result_of (labelled_list context item list >>= added)) (result_of (list_item context property item compacted old)) (list_item_is other list is)
        (then_gives stock (labelled_list context item list) added (λ done. new) given entries h k)

    pub whole_refuses : (e : Stop) → Refuses e (result_of (labelled_graph context item compacted)) → Refuses e (result_of (whole_graph context property item compacted old))
    whole_refuses e h = then_refuses stock (labelled_graph context item compacted) added e h

    pub whole_gives : (entries new : Sorted Tree) (given : Result (Unit {0}) Stop) → result_of (labelled_graph context item compacted) ≡ Ok entries
        → GivesAs (λ done. new) given (result_of (added entries)) → GivesAs (λ done. new) given (result_of (whole_graph context property item compacted old))
    whole_gives entries new given h k = then_gives stock (labelled_graph context item compacted) added (λ done. new) given entries h k

    pub simple_refuses : (e : Stop) → Refuses e ((included_if_several context compacted).run stock).result → Refuses e (result_of (simple_graph context property compacted old))
    simple_refuses e h = then_refuses stock (included_if_several context compacted) (λ tree. give (add_to property tree old)) e h

    pub simple_gives : (tree : Tree) (new : Sorted Tree) → ((included_if_several context compacted).run stock).result ≡ Ok tree → new ≡ add_to property tree old → result_of (simple_graph context property compacted old) ≡ Ok new
    simple_gives tree new h e = then_result stock (included_if_several context compacted) (λ tree. give (add_to property tree old)) tree h ∙ ap (λ (m : Sorted Tree). Ok m) (sym e)

    pub graph_item_within : property.containers.graph ≡ true → result_of (graph_item context property item compacted old) ≡ result_of (graph_in context property item compacted old)
    graph_item_within is = ap (λ (b : Bool). result_of (if b then graph_in context property item compacted old else whole_graph context property item compacted old)) is

    pub graph_item_whole : property.containers.graph ≡ false → result_of (graph_item context property item compacted old) ≡ result_of (whole_graph context property item compacted old)
    graph_item_whole is = ap (λ (b : Bool). result_of (if b then graph_in context property item compacted old else whole_graph context property item compacted old)) is

    abbrev in_place : (id simple index : Bool) → Answer (Sorted Tree)
    in_place id simple index =
        if id then graph_by_id context property item compacted old
        else if simple then (if index then graph_by_index context property item compacted old else simple_graph context property compacted old) else whole_graph context property item compacted old

    pub graph_in_whole : property.containers.id ≡ false → is_simple item ≡ false → result_of (graph_in context property item compacted old) ≡ result_of (whole_graph context property item compacted old)
    graph_in_whole id simple = ap (λ (b : Bool). result_of (in_place b (is_simple item) property.containers.index)) id ∙ ap (λ (b : Bool). result_of (in_place false b property.containers.index)) simple

    pub graph_in_simple : property.containers.id ≡ false → is_simple item ≡ true → property.containers.index ≡ false → result_of (graph_in context property item compacted old) ≡ result_of (simple_graph context property compacted old)
    graph_in_simple id simple index =
        ap (λ (b : Bool). result_of (in_place b (is_simple item) property.containers.index)) id ∙ ap (λ (b : Bool). result_of (in_place false b property.containers.index)) simple
        ∙ ap (λ (b : Bool). result_of (in_place false true b)) index

same_some : (got : Option (Bor Tree)) → is_some (option_copied got) ≡ is_some got
same_some None = refl
same_some (Some tree) = refl

pub simple_by : (item : Tree) (got : Option (Bor Tree)) (b : Bool) → option_copied got ≡ member (codes "@id") item → is_some got ≡ b → is_simple item ≡ not b
simple_by item got b e is = ap not (ap is_some (sym e) ∙ same_some got ∙ is)
