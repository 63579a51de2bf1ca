-- Reverse properties keep the result on the way in shape.
use Rattle.std.proofs.Common.{◌≡◌, ◌∙◌, refl, ap, ap₂, sym, subst, ℕ, List, [], ◌∷◌, ◌++◌, Bool, true, false, Option, Some, None}
use Rattle.std.specs.Prelude.{codes, ◌&&◌, ◌||◌, not, is_some, if◌then◌else◌}
use Rattle.std.specs.List.{list_all, list_any}
use Rattle.std.specs.Map.{keys_of}
use Rattle.std.specs.Str.{bytes_eq}
use Rattle.std.specs.Cmp.{first_so, second_so}
use Rattle.std.proofs.lemmas.List.Folds.{list_any-append}
use Rattle.ld_codes.specs.declared.code.Code.TheVariants as code
use Rattle.ld_tree.specs.Maps.{find}
use Rattle.ld_tree.specs.Names.{Sorted}
use Rattle.ld_tree.specs.Trees.{member, member_at}
use Rattle.ld_tree.specs.declared.tree.Tree.{Tree, out-Tree}
use Rattle.ld_tree.specs.declared.tree.Tree.TheOpen.{Tree-F}
use Rattle.ld_tree.specs.declared.tree.Tree.TheViews as W
use Rattle.ld_tree.specs.declared.tree.Tree.TheViews.{roll-Tree}
use Rattle.ld_rec.specs.Outcome.{◌>>=◌, give, fails, each}
use Rattle.ld_rec.specs.Words.{is_among, items_of}
use Rattle.ld_rec.specs.Kinds.{list_of, map_of, is_map, is_map_in, entries_of, entries_in}
use Rattle.ld_rec.specs.Expansion.{has_colon, is_no_subject, items_in, add_items, reverse_map_in, add_reverse, add_subjects, add_forward, add_backward, add_reversed}
use Rattle.ld_rec.specs.Form.{has_form, is_formed_list, is_reverse_entry, is_of_a_kind, are_among, value_object_names, list_object_names}
use Rattle.ld_rec.proofs.FormedHolding.{Holds, AllOf, holds_bind, holds_if, holds_each}
use Rattle.ld_rec.proofs.FormedMaps.{Item, Items, Fit, fits, is_item, is_formed, is_listed, has_listed, at_name, has_among, both, all_append, items_of_list, entries_of_map, list_fit, formed_items, item_map, map_item, find_all, insert_all, true_not_false}
use Rattle.ld_rec.proofs.FormedRules.{on_way, Building, put_way, way_found, property_way, property_items, good_add_items, not_colon, colon_not}

-- ---- reverse maps

abbrev pub is_backward : List ℕ × Tree → Bool
is_backward e = has_colon e.0 && is_formed_list (e.1, has_form e.1) && not (list_any is_no_subject (items_of e.1))

abbrev pub Backward : Sorted Tree → Type 0
Backward m = list_all is_backward m.0 ≡ true

pub all_so : {X : Type 0} (p q : X → Bool) → ((x : X) → p x ≡ true → q x ≡ true) → (xs : List X) → list_all p xs ≡ true → list_all q xs ≡ true
all_so p q so [] h = refl
all_so p q so (x ∷ xs) h = both (q x) (list_all q xs) (so x (first_so (p x) (list_all p xs) h)) (all_so p q so xs (second_so (p x) (list_all p xs) h))

abbrev colon_of : (e : List ℕ × Tree) → is_backward e ≡ true → has_colon e.0 ≡ true
colon_of e h = first_so _ _ (first_so _ _ h)

abbrev list_in : (e : List ℕ × Tree) → is_backward e ≡ true → is_formed_list (e.1, has_form e.1) ≡ true
list_in e h = second_so (has_colon e.0) _ (first_so _ _ h)

abbrev subjects_in : (e : List ℕ × Tree) → is_backward e ≡ true → not (list_any is_no_subject (items_of e.1)) ≡ true
subjects_in e h = second_so (has_colon e.0 && is_formed_list (e.1, has_form e.1)) _ h

-- outside a result, a property's list is fit
fit_way : (e : List ℕ × Tree) → has_colon e.0 ≡ true → on_way e ≡ fits e
fit_way e colon = ap (λ (b : Bool). if b then on_way (codes "@set", e.1) else fits e) (not_colon (codes "@set") refl e.0 colon)

backward_fits : (e : List ℕ × Tree) → is_backward e ≡ true → fits e ≡ true
backward_fits e h = sym (fit_way e (colon_of e h)) ∙ property_way e.0 (colon_of e h) e.1 ∙ list_in e h

none_either : (a b : Bool) → a ≡ false → b ≡ false → a || b ≡ false
none_either true b wrong k = absurd (true_not_false wrong)
none_either false b h k = k

no_keyword : (k : List ℕ) → has_colon k ≡ false → (es : List (List ℕ × Tree)) → list_all is_backward es ≡ true → is_among (keys_of es) k ≡ false
no_keyword k none [] h = refl
no_keyword k none (e ∷ es) h =
    none_either (bytes_eq k e.0) (is_among (keys_of es) k) (colon_not k none e.0 (colon_of e (first_so (is_backward e) (list_all is_backward es) h))) (no_keyword k none es (second_so (is_backward e) (list_all is_backward es) h))

not_true : (b : Bool) → b ≡ false → not b ≡ true
not_true true wrong = absurd (true_not_false wrong)
not_true false h = refl

not_false : (b : Bool) → not b ≡ true → b ≡ false
not_false true wrong = absurd (true_not_false (sym wrong))
not_false false h = refl

or_true : (a b c : Bool) → a ≡ true → b || (a || c) ≡ true
or_true a true c h = refl
or_true a false c h = ap (λ (x : Bool). x || c) h

pub none_listed : (o : Option Tree) → is_some o ≡ false → is_listed o ≡ true
none_listed None h = refl
none_listed (Some t) wrong = absurd (true_not_false wrong)

formed_backward : (m : Sorted Tree) → Backward m → is_formed m.0 ≡ true
formed_backward m h =
    both (list_all fits m.0 && is_of_a_kind (keys_of m.0)) (has_listed m.0)
    (both (list_all fits m.0) (is_of_a_kind (keys_of m.0)) (all_so is_backward fits backward_fits m.0 h)
    (ap₂ (λ (a b : Bool). if a then are_among value_object_names (keys_of m.0) else if b then are_among list_object_names (keys_of m.0) else true) (no_keyword (codes "@value") refl m.0 h) (no_keyword (codes "@list") refl m.0 h)))
    (ap (λ (b : Bool). b || is_listed (at_name (codes "@type") m.0)) (no_keyword (codes "@value") refl m.0 h) ∙ none_listed (at_name (codes "@type") m.0) (has_among (codes "@type") m.0 ∙ no_keyword (codes "@type") refl m.0 h))

backward_entry : (e : List ℕ × Tree) → is_backward e ≡ true → is_reverse_entry e ≡ true
backward_entry e h = both (has_colon e.0) _ (colon_of e h) (subjects_in e h)

-- a map of such entries may stand under `@reverse`
pub backward_fit : (m : Sorted Tree) → Backward m → Fit (codes "@reverse") (map_of m)
backward_fit m h =
    both (is_map (map_of m) && has_form (map_of m)) _ (item_map m (formed_backward m h))
    (ap (λ (es : Sorted Tree). list_all is_reverse_entry es.0) (entries_of_map m) ∙ all_so is_backward is_reverse_entry backward_entry m.0 h)

-- and what stands there has such entries
entry_backward : (e : List ℕ × Tree) → fits e && is_reverse_entry e ≡ true → is_backward e ≡ true
entry_backward e h =
    let colon : has_colon e.0 ≡ true = first_so _ _ (second_so (fits e) (is_reverse_entry e) h) in
    both (has_colon e.0 && is_formed_list (e.1, has_form e.1)) _
    (both (has_colon e.0) _ colon (sym (property_way e.0 colon e.1) ∙ fit_way e colon ∙ first_so (fits e) (is_reverse_entry e) h))
    (second_so (has_colon e.0) _ (second_so (fits e) (is_reverse_entry e) h))

all_both : {X : Type 0} (p q : X → Bool) (xs : List X) → list_all p xs ≡ true → list_all q xs ≡ true → list_all (λ (x : X). p x && q x) xs ≡ true
all_both p q [] h k = refl
all_both p q (x ∷ xs) h k =
    both (p x && q x) _ (both (p x) (q x) (first_so (p x) (list_all p xs) h) (first_so (q x) (list_all q xs) k)) (all_both p q xs (second_so (p x) (list_all p xs) h) (second_so (q x) (list_all q xs) k))

fit_at : (t : Tree) (y : Tree-F Tree) → t ≡ roll-Tree y → is_map_in y ≡ true → Item t → list_all is_reverse_entry (entries_in y).0 ≡ true → Backward (entries_in y)
fit_at t (Tree-F.Map es) is _ item entries =
    all_so (λ (e : List ℕ × Tree). fits e && is_reverse_entry e) is_backward entry_backward es.0
    (all_both fits is_reverse_entry es.0 (first_so _ _ (first_so _ _ (map_item es (subst Item is item)))) entries)
fit_at t _ is wrong item entries = absurd (true_not_false (sym wrong))

pub fit_backward : (t : Tree) → Fit (codes "@reverse") t → Backward (entries_of t)
fit_backward t h =
    fit_at t (out-Tree t) (sym (W.roll-out-Tree t)) (first_so (is_map t) (has_form t) (first_so (is_map t && has_form t) _ h)) (first_so (is_map t && has_form t) _ h) (second_so (is_map t && has_form t) _ h)

pub reverse_found : (r : Sorted Tree) → Building r → Backward (reverse_map_in (find r (codes "@reverse")))
reverse_found r h = elim (find r (codes "@reverse")) as (λ o. find r (codes "@reverse") ≡ o → Backward (reverse_map_in o)) [
  | None ↦ λ _. refl
  | Some t ↦ λ e. fit_backward t (way_found (codes "@reverse") t r h e)
] refl

-- ---- items that are added

former_backward : (iri : List ℕ) (m : Sorted Tree) → Backward m → (Items (items_in (find m iri))) × (list_any is_no_subject (items_in (find m iri)) ≡ false)
former_backward iri m h = elim (find m iri) as (λ o. find m iri ≡ o → (Items (items_in o)) × (list_any is_no_subject (items_in o) ≡ false)) [
  | None ↦ λ _. (refl, refl)
  | Some v ↦ λ e. let is : is_backward (iri, v) ≡ true = find_all is_backward iri v m.0 h e in (formed_items v (list_in (iri, v) is), not_false _ (subjects_in (iri, v) is))
] refl

more_backward : (iri : List ℕ) → has_colon iri ≡ true → (items : List Tree) → Items items → list_any is_no_subject items ≡ false → (m : Sorted Tree) → Backward m → Backward (add_items iri items m)
more_backward iri colon items good subjects m h =
    let all : List Tree = items_in (find m iri) ++ items in
    insert_all is_backward iri (list_of all)
    (both (has_colon iri && is_formed_list (list_of all, has_form (list_of all))) _
    (both (has_colon iri) _ colon (list_fit all (all_append is_item (items_in (find m iri)) items (former_backward iri m h).0 good)))
    (not_true _ (ap (list_any is_no_subject) (items_of_list all) ∙ list_any-append is_no_subject (items_in (find m iri)) items
    ∙ none_either _ _ (former_backward iri m h).1 subjects))) m.0 h

pub good_reverse : (iri : List ℕ) → has_colon iri ≡ true → (items : List Tree) → Items items → list_any is_no_subject items ≡ false → (r : Sorted Tree) → Building r → Building (add_reverse iri items r)
good_reverse iri colon items good subjects r h =
    put_way (codes "@reverse") (map_of (add_items iri items (reverse_map_in (find r (codes "@reverse"))))) r
    (backward_fit (add_items iri items (reverse_map_in (find r (codes "@reverse")))) (more_backward iri colon items good subjects (reverse_map_in (find r (codes "@reverse"))) (reverse_found r h))) h

pub good_subjects : (iri : List ℕ) → has_colon iri ≡ true → (items : List Tree) → Items items → (r : Sorted Tree) → Building r → Holds Building (add_subjects iri items r)
good_subjects iri colon items good r h =
    holds_if Building (list_any is_no_subject items) (fails code.InvalidReversePropertyValue) (give (add_reverse iri items r))
    (λ _. λ _. tt) (λ subjects. λ _. good_reverse iri colon items good subjects r h)

-- ---- what comes back from under `@reverse`

-- there, only properties and `@reverse` are put
abbrev pub is_reverse_name : List ℕ × Tree → Bool
is_reverse_name e = bytes_eq e.0 (codes "@reverse") || has_colon e.0

abbrev pub ReverseNames : Sorted Tree → Type 0
ReverseNames r = list_all is_reverse_name r.0 ≡ true

pub of_each : {X : Type 0} (p : X → Bool) (xs : List X) → list_all p xs ≡ true → AllOf (λ (x : X). p x ≡ true) xs
of_each p [] h = tt
of_each p (x ∷ xs) h = (first_so (p x) (list_all p xs) h, of_each p xs (second_so (p x) (list_all p xs) h))

good_forward : (m : Sorted Tree) → Backward m → (r : Sorted Tree) → Building r → Holds Building (each add_forward m.0 r)
good_forward m back r h =
    holds_each (λ (e : List ℕ × Tree). is_backward e ≡ true) Building add_forward (λ e k s g. λ _. good_add_items e.0 (colon_of e k) (items_of e.1) (formed_items e.1 (list_in e k)) s g) m.0 (of_each is_backward m.0 back) r h

name_colon : (a b : Bool) → a || b ≡ true → a ≡ false → b ≡ true
name_colon true b h wrong = absurd (true_not_false wrong)
name_colon false b h k = h

good_backward : (e : List ℕ × Tree) → is_reverse_name e && on_way e ≡ true → (r : Sorted Tree) → Building r → Holds Building (add_backward e r)
good_backward e k r h =
    holds_if Building (bytes_eq e.0 (codes "@reverse")) (give r) (add_subjects e.0 (items_of e.1) r) (λ _. λ _. h)
    (λ other. let colon : has_colon e.0 ≡ true = name_colon (bytes_eq e.0 (codes "@reverse")) (has_colon e.0) (first_so _ _ k) other in
    good_subjects e.0 colon (items_of e.1) (property_items e.0 colon e.1 (second_so (is_reverse_name e) (on_way e) k)) r h)

member_found : (name : List ℕ) (m : Sorted Tree) → member name (map_of m) ≡ find m name
member_found name m = ap (member_at name) (W.out-roll-Tree (Tree-F.Map m))

pub good_reversed : (m : Sorted Tree) → ReverseNames m → Building m → (r : Sorted Tree) → Building r → Holds Building (add_reversed (Some (map_of m)) r)
good_reversed m names made r h =
    subst (λ (o : Option Tree). Holds Building (each add_forward (reverse_map_in o).0 r >>= each add_backward (entries_of (map_of m)).0)) (sym (member_found (codes "@reverse") m))
    (subst (λ (es : Sorted Tree). Holds Building (each add_forward (reverse_map_in (find m (codes "@reverse"))).0 r >>= each add_backward es.0)) (sym (entries_of_map m))
    (holds_bind Building Building (each add_forward (reverse_map_in (find m (codes "@reverse"))).0 r) (each add_backward m.0)
    (good_forward (reverse_map_in (find m (codes "@reverse"))) (reverse_found m made) r h)
    (λ s g. holds_each (λ (e : List ℕ × Tree). is_reverse_name e && on_way e ≡ true) Building add_backward good_backward m.0 (of_each (λ (e : List ℕ × Tree). is_reverse_name e && on_way e) m.0 (all_both is_reverse_name on_way m.0 names made)) s g)))
