-- The end of a map gives what has the expanded form.
use Rattle.std.proofs.Common.{◌≡◌, ◌∙◌, refl, ap, ap₂, sym, subst, ℕ, List, [], ◌∷◌, Bool, true, false, Option, Some, None}
use Rattle.std.specs.Prelude.{codes, ◌&&◌, ◌||◌, not, is_some, if◌then◌else◌, option_map, option_and_then}
use Rattle.std.specs.List.{list_all}
use Rattle.std.specs.Map.{keys_of}
use Rattle.std.specs.Str.{bytes_eq}
use Rattle.std.specs.Cmp.{first_so, second_so}
use Rattle.std.specs.Cmp.Lexicographic.{same_text as same_bytes}
use Rattle.ld_codes.specs.declared.code.Code.TheVariants as code
use Rattle.ld_tree.specs.Maps.{find, empty}
use Rattle.ld_tree.specs.Names.{Sorted}
use Rattle.ld_tree.specs.declared.tree.Tree.{Tree}
use Rattle.ld_rec.specs.Outcome.{Answer, ◌>>=◌, give, fails, each}
use Rattle.ld_rec.specs.Words.{is_among, items_of, has, names_are_among}
use Rattle.ld_rec.specs.Kinds.{list_of, map_of, is_null, is_text}
use Rattle.ld_rec.specs.Places.{Entry}
use Rattle.ld_rec.specs.Expansion.{Node, items_in, put_some, by_entry, is_in_reverse, value_names, is_mixed, is_json_literal, is_typed_well, plain_value, value_object, listed_types, unless_null, set_value, list_value, set_or_list, object_of, is_dropped, unless_dropped, ended, node_becomes}
use Rattle.ld_rec.specs.Form.{is_of_a_kind, are_among, value_object_names, list_object_names}
use Rattle.ld_rec.proofs.FormedHolding.{Holds, AllOf, holds_bind, holds_if, holds_each}
use Rattle.ld_rec.proofs.FormedMaps.{Item, Given, fits, is_item, is_formed, is_listed, has_listed, at_name, has_among, both, list_is_list, item_map, item_given, found_new, insert_any, find_all, true_not_false}
use Rattle.ld_rec.proofs.FormedValues.{texts_fit}
use Rattle.ld_rec.proofs.FormedRules.{on_way, Building, put_way, way_found}
use Rattle.ld_rec.proofs.FormedReverse.{is_reverse_name, ReverseNames, all_so}
use Rattle.ld_rec.proofs.FormedNodes.{ReverseGiven, GoodElement, State, state_entry, holds_so, holds_both}

-- ---- names

flipped : (a b : List ℕ) → bytes_eq a b ≡ false → bytes_eq b a ≡ false
flipped a b h = elim (bytes_eq b a) as (λ x. bytes_eq b a ≡ x → x ≡ false) [
  | true ↦ λ e. let same : b ≡ a = same_bytes b a (sym e) in
      absurd (true_not_false (sym (subst (λ (n : List ℕ). bytes_eq b n ≡ true) (sym same) e) ∙ subst (λ (n : List ℕ). bytes_eq n b ≡ false) (sym same) h))
  | false ↦ λ e. refl
] refl

not_among : (names : List (List ℕ)) (k n : List ℕ) → is_among names k ≡ false → is_among names n ≡ true → bytes_eq n k ≡ false
not_among names k n none is = elim (bytes_eq n k) as (λ b. bytes_eq n k ≡ b → b ≡ false) [
  | true ↦ λ e. absurd (true_not_false (sym is ∙ ap (is_among names) (same_bytes n k (sym e)) ∙ none))
  | false ↦ λ e. refl
] refl

first_none : (a b : Bool) → a || b ≡ false → a ≡ false
first_none true b h = h
first_none false b h = refl

second_none : (a b : Bool) → a || b ≡ false → b ≡ false
second_none true b h = absurd (true_not_false h)
second_none false b h = h

or_second : (a b : Bool) → b ≡ true → a || b ≡ true
or_second true b h = refl
or_second false b h = h

-- all names are among others, so one that isn't among these isn't there
none_among : (allowed : List (List ℕ)) (k : List ℕ) → is_among allowed k ≡ false → (names : List (List ℕ)) → list_all (is_among allowed) names ≡ true → is_among names k ≡ false
none_among allowed k none [] h = refl
none_among allowed k none (n ∷ ns) h =
    ap (λ (b : Bool). b || is_among ns k) (flipped n k (not_among allowed k n none (first_so (is_among allowed n) (list_all (is_among allowed) ns) h)))
    ∙ none_among allowed k none ns (second_so (is_among allowed n) (list_all (is_among allowed) ns) h)

way_is_fit : (e : List ℕ × Tree) → bytes_eq e.0 (codes "@set") ≡ false → on_way e ≡ fits e
way_is_fit e other = ap (λ (b : Bool). if b then list_all is_item (items_in (unless_null e.1)) else fits e) other

-- without `@set` the result is as it stays
no_set_fits : (es : List (List ℕ × Tree)) → is_among (keys_of es) (codes "@set") ≡ false → list_all on_way es ≡ true → list_all fits es ≡ true
no_set_fits [] none h = refl
no_set_fits (e ∷ es) none h =
    both (fits e) (list_all fits es) (sym (way_is_fit e (flipped (codes "@set") e.0 (first_none (bytes_eq (codes "@set") e.0) (is_among (keys_of es) (codes "@set")) none))) ∙ first_so (on_way e) (list_all on_way es) h)
    (no_set_fits es (second_none (bytes_eq (codes "@set") e.0) (is_among (keys_of es) (codes "@set")) none) (second_so (on_way e) (list_all on_way es) h))

formed_of : (es : List (List ℕ × Tree)) → list_all fits es ≡ true → is_of_a_kind (keys_of es) ≡ true → has_listed es ≡ true → is_formed es ≡ true
formed_of es h k l = both (list_all fits es && is_of_a_kind (keys_of es)) (has_listed es) (both (list_all fits es) (is_of_a_kind (keys_of es)) h k) l

kind_by : (names : List (List ℕ)) (a b : Bool) → is_among names (codes "@value") ≡ a → is_among names (codes "@list") ≡ b
    → is_of_a_kind names ≡ (if a then are_among value_object_names names else if b then are_among list_object_names names else true)
kind_by names a b e f = ap₂ (λ (x y : Bool). if x then are_among value_object_names names else if y then are_among list_object_names names else true) e f

-- ---- value objects

names_of : (a b : Bool) → not a || b ≡ false → a ≡ true
names_of true b h = refl
names_of false b h = absurd (true_not_false h)

module _ (r : Sorted Tree) (h : Building r) where
  good_value_map : names_are_among value_names r ≡ true → (value : Tree) → find r (codes "@value") ≡ Some value → Item (map_of r)
  good_value_map names value found =
      let valued : is_among (keys_of r.0) (codes "@value") ≡ true = sym (has_among (codes "@value") r.0) ∙ ap is_some found in
      item_map r (formed_of r.0 (no_set_fits r.0 (none_among value_names (codes "@set") refl (keys_of r.0) names) h)
      (kind_by (keys_of r.0) true _ valued refl
      ∙ all_so (is_among value_names) (is_among value_object_names) (λ n is. or_second (bytes_eq n (codes "@id")) (is_among value_names n) is) (keys_of r.0) names)
      (ap (λ (b : Bool). b || is_listed (at_name (codes "@type") r.0)) valued))

  good_plain : Item (map_of r) → (value : Tree) → Holds Given (plain_value value r)
  good_plain item value =
      holds_if Given (is_null value) (give None) _ (λ _. λ _. refl) (λ _.
      holds_if Given (has r (codes "@language") && not (is_text value)) (fails code.InvalidLanguageTaggedValue) _ (λ _. λ _. tt) (λ _.
      holds_if Given (is_typed_well (find r (codes "@type"))) (give (Some (map_of r))) (fails code.InvalidTypedValue) (λ _. λ _. item_given (map_of r) item) (λ _. λ _. tt)))

  good_value_object : (value : Tree) → find r (codes "@value") ≡ Some value → Holds Given (value_object value r)
  good_value_object value found =
      holds_if Given (is_mixed r) (fails code.InvalidValueObject) _ (λ _. λ _. tt) (λ mixed.
      let item : Item (map_of r) = good_value_map (names_of (names_are_among value_names r) _ mixed) value found in
      holds_if Given (is_json_literal r) (give (Some (map_of r))) (plain_value value r) (λ _. λ _. item_given (map_of r) item) (λ _. good_plain item value))

-- ---- listed types

-- types are listed, and the other names are as they were
abbrev IsListed : Sorted Tree → Sorted Tree → Type 0
IsListed r s = Building s × (is_listed (at_name (codes "@type") s.0) ≡ true) × ((k : List ℕ) → bytes_eq k (codes "@type") ≡ false → is_among (keys_of s.0) k ≡ is_among (keys_of r.0) k)

good_listed_types : (r : Sorted Tree) → Building r → IsListed r (listed_types r)
good_listed_types r h =
    elim (find r (codes "@type")) as (λ o. find r (codes "@type") ≡ o → IsListed r (put_some (codes "@type") (option_map (λ types. list_of (items_of types)) o) r)) [
      | None ↦ λ e. (h, ap is_listed e, λ k other. refl)
      | Some types ↦ λ e. (
        put_way (codes "@type") (list_of (items_of types)) r (texts_fit (items_of types) (way_found (codes "@type") types r h e)) h,
        ap is_listed (found_new (codes "@type") (list_of (items_of types)) r.0 refl) ∙ list_is_list (items_of types),
        λ k other. insert_any (bytes_eq k) (codes "@type") (list_of (items_of types)) r.0 ∙ ap (λ (b : Bool). b || is_among (keys_of r.0) k) other,
      )
    ] refl

-- ---- list objects and node objects

widened : (a b c d : Bool) → b || (c || false) ≡ true → a || (b || (c || (d || false))) ≡ true
widened true b c d h = refl
widened false true c d h = refl
widened false false true d h = refl
widened false false false d h = absurd (true_not_false (sym h))

module _ (s : Sorted Tree) (h : Building s) (listed : is_listed (at_name (codes "@type") s.0) ≡ true) where
  listed_by : has_listed s.0 ≡ true
  listed_by = or_second (is_among (keys_of s.0) (codes "@value")) (is_listed (at_name (codes "@type") s.0)) listed

  good_list_value : has s (codes "@list") ≡ true → Holds Given (list_value s)
  good_list_value has_list =
      holds_if Given (names_are_among (codes "@index" ∷ codes "@list" ∷ []) s) (give (Some (map_of s))) (fails code.InvalidSetOrListObject)
      (λ names. λ _. item_given (map_of s) (item_map s (formed_of s.0
      (no_set_fits s.0 (none_among (codes "@index" ∷ codes "@list" ∷ []) (codes "@set") refl (keys_of s.0) names) h)
      (kind_by (keys_of s.0) false true (none_among (codes "@index" ∷ codes "@list" ∷ []) (codes "@value") refl (keys_of s.0) names) (sym (has_among (codes "@list") s.0) ∙ has_list)
      ∙ all_so (is_among (codes "@index" ∷ codes "@list" ∷ [])) (is_among list_object_names) (λ n is. widened (bytes_eq n (codes "@id")) (bytes_eq n (codes "@index")) (bytes_eq n (codes "@list")) (bytes_eq n (codes "@type")) is) (keys_of s.0) names)
      listed_by)))
      (λ _. λ _. tt)

  good_node_map : is_among (keys_of s.0) (codes "@value") ≡ false → is_among (keys_of s.0) (codes "@set") ≡ false → has s (codes "@list") ≡ false → Item (map_of s)
  good_node_map no_value no_set no_list =
      item_map s (formed_of s.0 (no_set_fits s.0 no_set h) (kind_by (keys_of s.0) false false no_value (sym (has_among (codes "@list") s.0) ∙ no_list)) listed_by)

  good_list_or_node : is_among (keys_of s.0) (codes "@value") ≡ false → is_among (keys_of s.0) (codes "@set") ≡ false → Holds Given (set_or_list None s)
  good_list_or_node no_value no_set =
      holds_if Given (has s (codes "@list")) (list_value s) (give (Some (map_of s))) good_list_value (λ no_list. λ _. item_given (map_of s) (good_node_map no_value no_set no_list))

-- ---- the end of a map

lacks_name : (k : List ℕ) (r : Sorted Tree) → find r k ≡ None → is_among (keys_of r.0) k ≡ false
lacks_name k r e = sym (has_among k r.0) ∙ ap is_some e

module _ (r : Sorted Tree) (h : Building r) where
  good_set_value : (value : Tree) → find r (codes "@set") ≡ Some value → (s : Sorted Tree) → Holds Given (set_value value s)
  good_set_value value found s =
      holds_if Given (names_are_among (codes "@index" ∷ codes "@set" ∷ []) s) (give (unless_null value)) (fails code.InvalidSetOrListObject) (λ _. λ _. way_found (codes "@set") value r h found) (λ _. λ _. tt)

  good_set_or_list : find r (codes "@value") ≡ None → Holds Given (set_or_list (find r (codes "@set")) (listed_types r))
  good_set_or_list no_value =
      elim (find r (codes "@set")) as (λ o. find r (codes "@set") ≡ o → Holds Given (set_or_list o (listed_types r))) [
        | Some value ↦ λ e. good_set_value value e (listed_types r)
        | None ↦ λ e. let l : IsListed r (listed_types r) = good_listed_types r h in
            good_list_or_node (listed_types r) l.0 l.1 (l.2 (codes "@value") refl ∙ lacks_name (codes "@value") r no_value) (l.2 (codes "@set") refl ∙ lacks_name (codes "@set") r e)
      ] refl

  good_object : Holds Given (object_of (find r (codes "@value")) r)
  good_object =
      elim (find r (codes "@value")) as (λ o. find r (codes "@value") ≡ o → Holds Given (object_of o r)) [
        | Some value ↦ λ e. good_value_object r h value e
        | None ↦ λ e. good_set_or_list e
      ] refl

dropped_or : (b : Bool) (t : Tree) → Given (Some t) → Given (if b then None else Some t)
dropped_or true t h = refl
dropped_or false t h = h

good_drop : (property : Option (List ℕ)) (o : Option Tree) → Given o → Given (option_and_then (unless_dropped property) o)
good_drop property None h = refl
good_drop property (Some t) h = dropped_or (is_dropped property t) t h

good_ended : (property : Option (List ℕ)) (r : Sorted Tree) → Building r → Holds Given (ended property r)
good_ended property r h =
    holds_bind Given Given (object_of (find r (codes "@value")) r) (λ (tree : Option Tree). give (option_and_then (unless_dropped property) tree)) (good_object r h) (λ o k. λ _. good_drop property o k)

-- ---- under `@reverse`

lacks : (k : List ℕ) → ((v : Tree) → is_reverse_name (k, v) ≡ false) → (r : Sorted Tree) → ReverseNames r → find r k ≡ None
lacks k none r names = elim (find r k) as (λ o. find r k ≡ o → o ≡ None) [
  | None ↦ λ e. refl
  | Some v ↦ λ e. absurd (true_not_false (sym (find_all is_reverse_name k v r.0 names e) ∙ none v))
] refl

node_alone : (r : Sorted Tree) → ReverseNames r → object_of (find r (codes "@value")) r ≡ give (Some (map_of r))
node_alone r names =
    ap (λ (o : Option Tree). object_of o r) (lacks (codes "@value") (λ v. refl) r names)
    ∙ ap₂ (λ (o : Option Tree) (s : Sorted Tree). set_or_list o s) (lacks (codes "@set") (λ v. refl) r names)
    (ap (λ (o : Option Tree). put_some (codes "@type") (option_map (λ types. list_of (items_of types)) o) r) (lacks (codes "@type") (λ v. refl) r names))
    ∙ ap (λ (o : Option Tree). if is_some o then list_value r else give (Some (map_of r))) (lacks (codes "@list") (λ v. refl) r names)

reverse_or : (b : Bool) (r : Sorted Tree) → Building r → ReverseNames r → ReverseGiven (if b then None else Some (map_of r))
reverse_or true r h names = tt
reverse_or false r h names = (r, refl, h, names)

reverse_ended : (property : Option (List ℕ)) (r : Sorted Tree) → Building r → ReverseNames r → Holds ReverseGiven (ended property r)
reverse_ended property r h names =
    subst (λ (o : Answer (Option Tree)). Holds ReverseGiven (o >>= (λ (tree : Option Tree). give (option_and_then (unless_dropped property) tree)))) (sym (node_alone r names))
    (λ _. reverse_or (is_dropped property (map_of r)) r h names)

-- ---- a map

abbrev pub NodeGiven : Node → Option Tree → Type 0
NodeGiven node o = Given o × (is_in_reverse node ≡ true → ReverseGiven o)

node_ended : (node : Node) (r : Sorted Tree) → State node r → Holds (NodeGiven node) (ended node.property r)
node_ended node r h = by (is_in_reverse node) refl
  where
    by : (b : Bool) → is_in_reverse node ≡ b → Holds (NodeGiven node) (ended node.property r)
    by true is = holds_so (λ (o : Option Tree). Given o × ReverseGiven o) (NodeGiven node) (λ o k. (k.0, λ _. k.1)) (ended node.property r)
        (holds_both Given ReverseGiven (ended node.property r) (good_ended node.property r h.0) (reverse_ended node.property r h.0 (h.1 is)))
    by false is = holds_so Given (NodeGiven node) (λ o k. (k, λ wrong. absurd (true_not_false (sym wrong ∙ is)))) (ended node.property r) (good_ended node.property r h.0)

pub good_node : (node : Node) (entries : List Entry) → AllOf (λ (e : Entry). GoodElement e.1) entries → Holds (NodeGiven node) (node_becomes entries node)
good_node node entries good =
    holds_bind (State node) (NodeGiven node) (each (by_entry node) entries empty) (ended node.property)
    (holds_each (λ (e : Entry). GoodElement e.1) (State node) (by_entry node) (λ e k s h. state_entry node e k s h) entries good empty (refl, λ _. refl)) (λ r h. node_ended node r h)
