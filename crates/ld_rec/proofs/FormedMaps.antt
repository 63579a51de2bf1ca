-- Lists and maps that have the expanded form.
use Rattle.std.proofs.Common.{◌≡◌, ◌∙◌, refl, ap, ap₂, sym, subst, ℕ, List, [], ◌∷◌, ◌++◌, map, Bool, true, false, Option, Some, None}
use Rattle.std.specs.Prelude.{codes, ◌&&◌, ◌||◌, is_some, if◌then◌else◌, cond}
use Rattle.std.specs.List.{list_all, list_any}
use Rattle.std.specs.Map.{lookup, keys_of}
use Rattle.std.specs.Str.{bytes_eq}
use Rattle.std.specs.Cmp.{first_so, second_so}
use Rattle.std.specs.Cmp.Lexicographic.{same_text}
use Rattle.std.specs.Ordering.{is_eq, match_ordering}
use Rattle.std.specs.declared.cmp.Ordering.{Ordering}
use Rattle.std.specs.declared.cmp.Ordering.TheVariants.{Less, Equal, Greater}
use Rattle.std.specs.BTreeMap.{insert_entry, is_at}
use Rattle.std.proofs.lemmas.Map.Text.{is_eq-slice_cmp}
use Rattle.ld_tree.specs.Maps.{put}
use Rattle.ld_tree.specs.Names.{Sorted, name_cmp}
use Rattle.ld_tree.specs.declared.tree.Tree.{Tree, out-Tree}
use Rattle.ld_tree.specs.declared.tree.Tree.TheOpen.{Tree-F}
use Rattle.ld_tree.specs.declared.tree.Tree.TheViews as W
use Rattle.ld_tree.specs.declared.tree.Tree.TheViews.{roll-Tree}
use Rattle.ld_tree.proofs.Recursion.{para-roll}
use Rattle.ld_rec.specs.Words.{is_among, items_of, text_of, text_in}
use Rattle.ld_rec.specs.Words.{items_in as level_items}
use Rattle.ld_rec.specs.Kinds.{list_of, map_of, text_tree, is_list, is_list_in, is_map, is_map_in, is_text, entries_of, entries_in}
use Rattle.ld_rec.specs.Expansion.{items_in}
use Rattle.ld_rec.specs.Form.{has_form, form_step, is_fit, is_fit_entry, is_formed_list, is_formed_map, is_of_a_kind, is_listed_in, are_among, value_object_names, list_object_names}

-- ---- truth values and lists

pub all_map : {X Y : Type 0} (p : Y → Bool) (h : X → Y) (xs : List X) → list_all p (map h xs) ≡ list_all (λ (x : X). p (h x)) xs
all_map p h [] = refl
all_map p h (x ∷ xs) = ap (λ (b : Bool). p (h x) && b) (all_map p h xs)

pub all_append : {X : Type 0} (p : X → Bool) (xs ys : List X) → list_all p xs ≡ true → list_all p ys ≡ true → list_all p (xs ++ ys) ≡ true
all_append p [] ys h k = k
all_append p (x ∷ xs) ys h k = ap (λ (b : Bool). b && list_all p (xs ++ ys)) (first_so _ _ h) ∙ all_append p xs ys (second_so _ _ h) k

pub both : (a b : Bool) → a ≡ true → b ≡ true → a && b ≡ true
both a b h k = ap (λ (x : Bool). x && b) h ∙ k

pub true_not_false : true ≡ false → ⊥
true_not_false e = subst (λ (b : Bool). elim b as (λ _. Type 0) [ true ↦ Unit {0} | false ↦ ⊥ ]) e tt

-- ---- one level

-- a map with its form, as an item of a list
abbrev pub is_item : Tree → Bool
is_item t = is_map t && has_form t

abbrev pub Item : Tree → Type 0
Item t = is_item t ≡ true

abbrev pub Items : List Tree → Type 0
Items ts = list_all is_item ts ≡ true

-- what an expansion gives adds items
abbrev pub Given : Option Tree → Type 0
Given o = Items (items_in o)

abbrev pub Fit : List ℕ → Tree → Type 0
Fit name t = is_fit name (t, has_form t) ≡ true

abbrev pub fits : List ℕ × Tree → Bool
fits e = is_fit e.0 (e.1, has_form e.1)

abbrev pub is_listed : Option Tree → Bool
is_listed None = true
is_listed (Some types) = is_list types

-- what stands under the name
abbrev pub at_name : List ℕ → List (List ℕ × Tree) → Option Tree
at_name name es = lookup (is_at (name_cmp name)) es

abbrev pub has_listed : List (List ℕ × Tree) → Bool
has_listed es = is_among (keys_of es) (codes "@value") || is_listed (at_name (codes "@type") es)

abbrev pub is_formed : List (List ℕ × Tree) → Bool
is_formed es = list_all fits es && is_of_a_kind (keys_of es) && has_listed es

abbrev pub formed_entry : List ℕ × Tree → List ℕ × (Tree × Bool)
formed_entry e = (e.0, (e.1, has_form e.1))

same_names : (es : List (List ℕ × Tree)) → keys_of (map formed_entry es) ≡ keys_of es
same_names [] = refl
same_names (e ∷ es) = ap (λ (ks : List (List ℕ)). e.0 ∷ ks) (same_names es)

listed_first : (b : Bool) (t : Tree) (rest : Option (Tree × Bool)) (others : Option Tree) → is_listed_in rest ≡ is_listed others → is_listed_in (cond b (Some (t, has_form t)) rest) ≡ is_listed (cond b (Some t) others)
listed_first true t rest others h = refl
listed_first false t rest others h = h

same_listed : (p : List ℕ → Bool) (es : List (List ℕ × Tree)) → is_listed_in (lookup p (map formed_entry es)) ≡ is_listed (lookup p es)
same_listed p [] = refl
same_listed p (e ∷ es) = listed_first (p e.0) e.1 (lookup p (map formed_entry es)) (lookup p es) (same_listed p es)

form_list : (ts : List Tree) → has_form (list_of ts) ≡ list_all is_item ts
unfolding has_form
form_list ts = para-roll Bool form_step (Tree-F.List ts) ∙ all_map is_formed_map (λ (t : Tree). (t, has_form t)) ts

form_map : (es : Sorted Tree) → has_form (map_of es) ≡ is_formed es.0
unfolding has_form
form_map es =
    para-roll Bool form_step (Tree-F.Map es)
    ∙ ap₂ (λ (a b : Bool). a && b)
    (ap₂ (λ (a b : Bool). a && b) (all_map is_fit_entry formed_entry es.0) (ap is_of_a_kind (same_names es.0)))
    (ap₂ (λ (a b : Bool). a || b) (ap (λ (ks : List (List ℕ)). is_among ks (codes "@value")) (same_names es.0)) (same_listed (is_at (name_cmp (codes "@type"))) es.0))

pub list_is_list : (ts : List Tree) → is_list (list_of ts) ≡ true
list_is_list ts = ap is_list_in (W.out-roll-Tree (Tree-F.List ts))

pub map_is_map : (es : Sorted Tree) → is_map (map_of es) ≡ true
map_is_map es = ap is_map_in (W.out-roll-Tree (Tree-F.Map es))

text_is_text : (text : List ℕ) → text_of (text_tree text) ≡ Some text
text_is_text text = ap text_in (W.out-roll-Tree (Tree-F.Text text))

pub is_text_text : (text : List ℕ) → is_text (text_tree text) ≡ true
is_text_text text = ap is_some (text_is_text text)

pub items_of_list : (ts : List Tree) → items_of (list_of ts) ≡ ts
items_of_list ts = ap (λ (y : Tree-F Tree). level_items (list_of ts) y) (W.out-roll-Tree (Tree-F.List ts))

pub entries_of_map : (es : Sorted Tree) → entries_of (map_of es) ≡ es
entries_of_map es = ap entries_in (W.out-roll-Tree (Tree-F.Map es))

-- ---- between items and their lists and maps

pub list_fit : (ts : List Tree) → Items ts → is_formed_list (list_of ts, has_form (list_of ts)) ≡ true
list_fit ts h = both (is_list (list_of ts)) (has_form (list_of ts)) (list_is_list ts) (form_list ts ∙ h)

pub item_map : (es : Sorted Tree) → is_formed es.0 ≡ true → Item (map_of es)
item_map es h = both (is_map (map_of es)) (has_form (map_of es)) (map_is_map es) (form_map es ∙ h)

pub map_item : (es : Sorted Tree) → Item (map_of es) → is_formed es.0 ≡ true
map_item es h = sym (form_map es) ∙ second_so (is_map (map_of es)) (has_form (map_of es)) h

items_at : (t : Tree) (y : Tree-F Tree) → t ≡ roll-Tree y → is_list_in y ≡ true → has_form t ≡ true → Items (level_items t y)
items_at t (Tree-F.List ts) is _ h = sym (form_list ts) ∙ ap has_form (sym is) ∙ h
items_at t _ is wrong h = absurd (true_not_false (sym wrong))

pub formed_items : (t : Tree) → is_formed_list (t, has_form t) ≡ true → Items (items_of t)
formed_items t h = items_at t (out-Tree t) (sym (W.roll-out-Tree t)) (first_so (is_list t) (has_form t) h) (second_so (is_list t) (has_form t) h)

pub one_item : (t : Tree) → Item t → Items (t ∷ [])
one_item t h = both (is_item t) true h refl

single_at : (t : Tree) (y : Tree-F Tree) → t ≡ roll-Tree y → Item t → Items (level_items t y)
single_at t (Tree-F.List ts) is h =
    absurd (true_not_false (sym (sym (ap is_map_in (W.out-roll-Tree (Tree-F.List ts))) ∙ ap is_map (sym is) ∙ first_so (is_map t) (has_form t) h)))
single_at t _ is h = one_item t h

-- a map that is an item gives itself
pub item_given : (t : Tree) → Item t → Given (Some t)
item_given t h = single_at t (out-Tree t) (sym (W.roll-out-Tree t)) h

-- a list of items gives them
pub list_given : (ts : List Tree) → Items ts → Given (Some (list_of ts))
list_given ts h = ap (list_all is_item) (items_of_list ts) ∙ h

-- ---- entries

same_key : (a b : List ℕ) → name_cmp a b ≡ Equal → a ≡ b
same_key a b is = same_text a b (sym (sym (is_eq-slice_cmp a b) ∙ ap is_eq is))

-- what holds of each entry and of the new one holds with the new one
pub insert_all : (p : List ℕ × Tree → Bool) (name : List ℕ) (value : Tree) → p (name, value) ≡ true → (es : List (List ℕ × Tree)) → list_all p es ≡ true → list_all p (insert_entry name_cmp es name value) ≡ true
insert_all p name value new [] h = both (p (name, value)) true new refl
insert_all p name value new (x ∷ xs) h =
    elim (name_cmp name x.0) as (λ o. name_cmp name x.0 ≡ o → list_all p (match_ordering o ((name, value) ∷ x ∷ xs) ((x.0, value) ∷ xs) (x ∷ insert_entry name_cmp xs name value)) ≡ true) [
      | Less ↦ λ e. both (p (name, value)) (p x && list_all p xs) new h
      | Equal ↦ λ e. both (p (x.0, value)) (list_all p xs) (subst (λ (n : List ℕ). p (n, value) ≡ true) (same_key name x.0 e) new) (second_so (p x) (list_all p xs) h)
      | Greater ↦ λ e. both (p x) (list_all p (insert_entry name_cmp xs name value)) (first_so (p x) (list_all p xs) h) (insert_all p name value new xs (second_so (p x) (list_all p xs) h))
    ] refl

twice : (a b : Bool) → a || b ≡ a || (a || b)
twice true b = refl
twice false b = refl

swapped : (a b c : Bool) → a || (b || c) ≡ b || (a || c)
swapped true true c = refl
swapped true false c = refl
swapped false true c = refl
swapped false false c = refl

-- the names are those of before and the new one
pub insert_any : (p : List ℕ → Bool) (name : List ℕ) (value : Tree) (es : List (List ℕ × Tree)) → list_any p (keys_of (insert_entry name_cmp es name value)) ≡ p name || list_any p (keys_of es)
insert_any p name value [] = refl
insert_any p name value (x ∷ xs) =
    elim (name_cmp name x.0) as (λ o. name_cmp name x.0 ≡ o → list_any p (keys_of (match_ordering o ((name, value) ∷ x ∷ xs) ((x.0, value) ∷ xs) (x ∷ insert_entry name_cmp xs name value))) ≡ p name || (p x.0 || list_any p (keys_of xs))) [
      | Less ↦ λ e. refl
      | Equal ↦ λ e. twice (p x.0) (list_any p (keys_of xs)) ∙ ap (λ (n : List ℕ). p n || (p x.0 || list_any p (keys_of xs))) (sym (same_key name x.0 e))
      | Greater ↦ λ e. ap (λ (b : Bool). p x.0 || b) (insert_any p name value xs) ∙ swapped (p x.0) (p name) (list_any p (keys_of xs))
    ] refl

-- what stands under a name is as its entry is
pub find_all : (p : List ℕ × Tree → Bool) (name : List ℕ) (v : Tree) (es : List (List ℕ × Tree)) → list_all p es ≡ true → lookup (is_at (name_cmp name)) es ≡ Some v → p (name, v) ≡ true
find_all p name v [] h = λ e. cc
find_all p name v (x ∷ xs) h =
    elim (name_cmp name x.0) as (λ o. name_cmp name x.0 ≡ o → cond (is_eq o) (Some x.1) (lookup (is_at (name_cmp name)) xs) ≡ Some v → p (name, v) ≡ true) [
      | Less ↦ λ _ e. find_all p name v xs (second_so (p x) (list_all p xs) h) e
      | Equal ↦ λ is e. let same : x.1 ≡ v = cc in
          subst (λ (n : List ℕ). p (n, v) ≡ true) (sym (same_key name x.0 is)) (subst (λ (t : Tree). p (x.0, t) ≡ true) same (first_so (p x) (list_all p xs) h))
      | Greater ↦ λ _ e. find_all p name v xs (second_so (p x) (list_all p xs) h) e
    ] refl

has_at : (b : Bool) (v : Tree) (rest : Option Tree) (others : Bool) → is_some rest ≡ others → is_some (cond b (Some v) rest) ≡ b || others
has_at true v rest others e = refl
has_at false v rest others e = e

-- a name that is there is among the names
pub has_among : (name : List ℕ) (es : List (List ℕ × Tree)) → is_some (lookup (is_at (name_cmp name)) es) ≡ is_among (keys_of es) name
has_among name [] = refl
has_among name (x ∷ xs) =
    ap (λ (b : Bool). is_some (cond b (Some x.1) (lookup (is_at (name_cmp name)) xs))) (is_eq-slice_cmp name x.0)
    ∙ has_at (bytes_eq name x.0) x.1 (lookup (is_at (name_cmp name)) xs) (is_among (keys_of xs) name) (has_among name xs)

-- ---- a map that stays formed

kind_with : (a b v v' l l' : Bool) → (v ≡ true → v' ≡ true) → (l ≡ true → l' ≡ true) → (if a then v else if b then l else true) ≡ true → (if a then v' else if b then l' else true) ≡ true
kind_with true b v v' l l' f g h = f h
kind_with false true v v' l l' f g h = g h
kind_with false false v v' l l' f g h = refl

either : (a b b' : Bool) → (b ≡ true → b' ≡ true) → a || b ≡ true → a || b' ≡ true
either true b b' f h = refl
either false b b' f h = f h

all_keys : (p : List ℕ → Bool) (es : List (List ℕ × Tree)) → list_all p (keys_of es) ≡ list_all (λ (e : List ℕ × Tree). p e.0) es
all_keys p [] = refl
all_keys p (e ∷ es) = ap (λ (b : Bool). p e.0 && b) (all_keys p es)

-- what is put is found, and what stands under other names stays
pub found_new : (name : List ℕ) (value : Tree) (es : List (List ℕ × Tree)) → bytes_eq name name ≡ true → at_name name (insert_entry name_cmp es name value) ≡ Some value
found_new name value [] same = ap (λ (b : Bool). cond b (Some value) None) (is_eq-slice_cmp name name ∙ same)
found_new name value (x ∷ xs) same =
    elim (name_cmp name x.0) as (λ o. name_cmp name x.0 ≡ o → at_name name (match_ordering o ((name, value) ∷ x ∷ xs) ((x.0, value) ∷ xs) (x ∷ insert_entry name_cmp xs name value)) ≡ Some value) [
      | Less ↦ λ e. ap (λ (b : Bool). cond b (Some value) (at_name name (x ∷ xs))) (is_eq-slice_cmp name name ∙ same)
      | Equal ↦ λ e. ap (λ (o : Ordering). cond (is_eq o) (Some value) (at_name name xs)) e
      | Greater ↦ λ e. ap (λ (o : Ordering). cond (is_eq o) (Some x.1) (at_name name (insert_entry name_cmp xs name value))) e ∙ found_new name value xs same
    ] refl

pub found_other : (text name : List ℕ) (value : Tree) → bytes_eq text name ≡ false → (es : List (List ℕ × Tree)) → at_name text (insert_entry name_cmp es name value) ≡ at_name text es
found_other text name value other [] = ap (λ (b : Bool). cond b (Some value) None) (is_eq-slice_cmp text name ∙ other)
found_other text name value other (x ∷ xs) =
    elim (name_cmp name x.0) as (λ o. name_cmp name x.0 ≡ o → at_name text (match_ordering o ((name, value) ∷ x ∷ xs) ((x.0, value) ∷ xs) (x ∷ insert_entry name_cmp xs name value)) ≡ at_name text (x ∷ xs)) [
      | Less ↦ λ e. ap (λ (b : Bool). cond b (Some value) (at_name text (x ∷ xs))) (is_eq-slice_cmp text name ∙ other)
      | Equal ↦ λ e. let none : is_eq (name_cmp text x.0) ≡ false = ap (λ (n : List ℕ). is_eq (name_cmp text n)) (sym (same_key name x.0 e)) ∙ is_eq-slice_cmp text name ∙ other in
          ap (λ (b : Bool). cond b (Some value) (at_name text xs)) none ∙ sym (ap (λ (b : Bool). cond b (Some x.1) (at_name text xs)) none)
      | Greater ↦ λ e. ap (λ (o : Option Tree). cond (is_eq (name_cmp text x.0)) (Some x.1) o) (found_other text name value other xs)
    ] refl

-- with a name that may stand beside anything
module _ (name : List ℕ) (value : Tree) (fit : Fit name value) (no_value : bytes_eq (codes "@value") name ≡ false) (no_list : bytes_eq (codes "@list") name ≡ false)
    (in_values : is_among value_object_names name ≡ true) (in_lists : is_among list_object_names name ≡ true)
    (listed : (es : List (List ℕ × Tree)) → is_listed (at_name (codes "@type") es) ≡ true → is_listed (at_name (codes "@type") (insert_entry name_cmp es name value)) ≡ true) where
  among_kept : (allowed : List (List ℕ)) → is_among allowed name ≡ true → (es : List (List ℕ × Tree)) → are_among allowed (keys_of es) ≡ true → are_among allowed (keys_of (insert_entry name_cmp es name value)) ≡ true
  among_kept allowed new es h =
      all_keys (is_among allowed) (insert_entry name_cmp es name value)
      ∙ insert_all (λ (e : List ℕ × Tree). is_among allowed e.0) name value new es (sym (all_keys (is_among allowed) es) ∙ h)

  same_any : (text : List ℕ) → bytes_eq text name ≡ false → (es : List (List ℕ × Tree)) → is_among (keys_of (insert_entry name_cmp es name value)) text ≡ is_among (keys_of es) text
  same_any text other es = insert_any (bytes_eq text) name value es ∙ ap (λ (b : Bool). b || is_among (keys_of es) text) other

  kind_kept : (es : List (List ℕ × Tree)) → is_of_a_kind (keys_of es) ≡ true → is_of_a_kind (keys_of (insert_entry name_cmp es name value)) ≡ true
  kind_kept es h =
      ap₂ (λ (a b : Bool). if a then are_among value_object_names (keys_of (insert_entry name_cmp es name value)) else if b then are_among list_object_names (keys_of (insert_entry name_cmp es name value)) else true)
      (same_any (codes "@value") no_value es) (same_any (codes "@list") no_list es)
      ∙ kind_with (is_among (keys_of es) (codes "@value")) (is_among (keys_of es) (codes "@list")) (are_among value_object_names (keys_of es)) _ (are_among list_object_names (keys_of es)) _
      (among_kept value_object_names in_values es) (among_kept list_object_names in_lists es) h

  listed_kept : (es : List (List ℕ × Tree)) → has_listed es ≡ true → has_listed (insert_entry name_cmp es name value) ≡ true
  listed_kept es h =
      ap (λ (b : Bool). b || is_listed (at_name (codes "@type") (insert_entry name_cmp es name value))) (same_any (codes "@value") no_value es)
      ∙ either (is_among (keys_of es) (codes "@value")) (is_listed (at_name (codes "@type") es)) (is_listed (at_name (codes "@type") (insert_entry name_cmp es name value))) (listed es) h

  pub formed_with : (es : Sorted Tree) → is_formed es.0 ≡ true → is_formed (put es name value).0 ≡ true
  formed_with es h =
      both (list_all fits (put es name value).0 && is_of_a_kind (keys_of (put es name value).0)) (has_listed (put es name value).0)
      (both (list_all fits (put es name value).0) (is_of_a_kind (keys_of (put es name value).0))
      (insert_all fits name value fit es.0 (first_so (list_all fits es.0) (is_of_a_kind (keys_of es.0)) (first_so (list_all fits es.0 && is_of_a_kind (keys_of es.0)) (has_listed es.0) h)))
      (kind_kept es.0 (second_so (list_all fits es.0) (is_of_a_kind (keys_of es.0)) (first_so (list_all fits es.0 && is_of_a_kind (keys_of es.0)) (has_listed es.0) h))))
      (listed_kept es.0 (second_so (list_all fits es.0 && is_of_a_kind (keys_of es.0)) (has_listed es.0) h))
