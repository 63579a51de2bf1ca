-- What holds of each kind of value, and of what is made of such values, holds of each tree that bytes read as.
use Rattle.std.proofs.Common.{◌≡◌, ◌∙◌, refl, sym, subst, Bool, true, false, ℕ, zero, suc, ◌+◌, ◌^◌, ◌≤◌, List, [], ◌∷◌, map, cond, arith, lt-ltb, leb-true}
use Rattle.std.specs.Prelude.{Result, Ok, Err}
use Rattle.std.specs.Str.{IsUtf8, is_utf8}
use Rattle.std.proofs.lemmas.Str.{is_utf8-from_IsUtf8}
use Rattle.std.specs.declared.cmp.Ordering.{Ordering}
use Rattle.std.specs.declared.cmp.Ordering.TheVariants.{Less, Equal, Greater}
use Rattle.std.specs.Ordering.{match_ordering}
use Rattle.std.specs.List.{AllByRecursion}
use Rattle.std.specs.Map.{keys_of, values_of}
use Rattle.std.specs.BTreeMap.{insert_entry}
use Rattle.ld_tree.specs.Names.{Sorted, name_cmp}
use Rattle.ld_tree.specs.Trees.{depth_of, depth_step, greatest}
use Rattle.ld_tree.specs.Bounds.{fits, fits_step, in_64_bits, spelled, spelled_step, all_true, all_utf8}
use Rattle.ld_tree.specs.Reading.{IsNumber, put_all, IsValue, a_null, a_true, a_false, a_number, a_text, a_list, a_map, IsItems, no_items, items, IsMoreItems, end_items, more_items, IsMember, member, IsMembers, no_members, members, IsMoreMembers, end_members, more_members, reads}
use Rattle.ld_tree.specs.Numbers.{Decimal, exact, num_of, whole_num, is_whole, is_one_one, is_held, size, signed}
use Rattle.ld_tree.specs.declared.number.NumFault.TheVariants.{Fraction, TooLarge}
use Rattle.ld_tree.specs.declared.tree.Num.{Num}
use Rattle.ld_tree.specs.declared.tree.Num.TheVariants as n
use Rattle.ld_tree.specs.declared.tree.Tree as t
use Rattle.ld_tree.specs.declared.tree.Tree.{Tree}
use Rattle.ld_tree.specs.declared.tree.Tree.TheOpen.{Tree-F}
use Rattle.ld_tree.specs.declared.tree.Tree.TheFolds.{fold-roll-Tree}
use Rattle.ld_tree.proofs.Once.{all_so}
use Rattle.ld_tree.proofs.Rolled.{rolled_null, rolled_bool, rolled_num, rolled_text, rolled_list, rolled_map}

-- a member whose name is UTF-8 and whose value is so
abbrev pub EntryIs : (Tree → Type 0) → List ℕ × Tree → Type 0
EntryIs P e = IsUtf8 e.0 × P e.1

-- P d holds of a tree of at most d levels, if P of one level less holds of all within
pub record IsKept (P : ℕ → Tree → Type 0) : Type 0 where
  pub of_null : (d : ℕ) → P d t.Null
  pub of_bool : (d : ℕ) (b : Bool) → P d (t.Bool b)
  pub of_number : (d : ℕ) {b r : List ℕ} {v : Num} → IsNumber b v r → P d (t.Num v)
  pub of_text : (d : ℕ) (x : List ℕ) → IsUtf8 x → P d (t.Text x)
  pub of_list : (d : ℕ) (ts : List Tree) → AllByRecursion (P d) ts → P (suc d) (t.List ts)
  pub of_map : (d : ℕ) (es : Sorted Tree) → AllByRecursion (EntryIs (P d)) es.0 → P (suc d) (t.Map es)

module _ (P : Tree → Type 0) where
  put_kept : (es : List (List ℕ × Tree)) (k : List ℕ) (v : Tree) → AllByRecursion (EntryIs P) es → EntryIs P (k, v) → AllByRecursion (EntryIs P) (insert_entry name_cmp es k v)
  put_kept [] k v h w = (w, tt)
  put_kept (e ∷ es) k v h w = go (put_kept es k v h.1 w) (name_cmp k e.0)
    where
      go : AllByRecursion (EntryIs P) (insert_entry name_cmp es k v) → (o : Ordering) → AllByRecursion (EntryIs P) (match_ordering o ((k, v) ∷ e ∷ es) ((e.0, v) ∷ es) (e ∷ insert_entry name_cmp es k v))
      go ih Less = (w, h)
      go ih Equal = ((h.0.0, w.1), h.1)
      go ih Greater = (h.0, ih)

  pub put_all_kept : (es ms : List (List ℕ × Tree)) → AllByRecursion (EntryIs P) es → AllByRecursion (EntryIs P) ms → AllByRecursion (EntryIs P) (put_all es ms)
  put_all_kept es [] h w = h
  put_all_kept es (m ∷ ms) h w = put_all_kept (insert_entry name_cmp es m.0 m.1) ms (put_kept es m.0 m.1 h w.0) w.1

module _ (P : ℕ → Tree → Type 0) (k : IsKept P) where
  mutual
    pub value_kept : {d : ℕ} {b r : List ℕ} {x : Tree} → IsValue d b x r → P d x
    value_kept {d} a_null = k.of_null d
    value_kept {d} a_true = k.of_bool d true
    value_kept {d} a_false = k.of_bool d false
    value_kept {d} (a_number h) = k.of_number d h
    value_kept {d} (a_text {text = text} h) = k.of_text d text h.1
    value_kept (a_list {d = d} {ts = ts} h) = k.of_list d ts (items_kept h)
    value_kept (a_map {d = d} ms es h is) = k.of_map d es (subst (AllByRecursion (EntryIs (P d))) (sym is) (put_all_kept (P d) [] ms tt (members_kept h)))

    items_kept : {d : ℕ} {b r : List ℕ} {ts : List Tree} → IsItems d b ts r → AllByRecursion (P d) ts
    items_kept (no_items e) = tt
    items_kept (items v h) = (value_kept v, more_kept h)

    more_kept : {d : ℕ} {b r : List ℕ} {ts : List Tree} → IsMoreItems d b ts r → AllByRecursion (P d) ts
    more_kept (end_items e) = tt
    more_kept (more_items e v h) = (value_kept v, more_kept h)

    member_kept : {d : ℕ} {b r : List ℕ} {m : List ℕ × Tree} → IsMember d b m r → EntryIs (P d) m
    member_kept (member s e v) = (s.1, value_kept v)

    members_kept : {d : ℕ} {b r : List ℕ} {ms : List (List ℕ × Tree)} → IsMembers d b ms r → AllByRecursion (EntryIs (P d)) ms
    members_kept (no_members e) = tt
    members_kept (members v h) = (member_kept v, mores_kept h)

    mores_kept : {d : ℕ} {b r : List ℕ} {ms : List (List ℕ × Tree)} → IsMoreMembers d b ms r → AllByRecursion (EntryIs (P d)) ms
    mores_kept (end_members e) = tt
    mores_kept (more_members e v h) = (member_kept v, mores_kept h)

  pub read_kept : (bytes : List ℕ) (x : Tree) → reads bytes x → P 128 x
  read_kept bytes x (r, h, e) = value_kept h

-- each whole number has 64 bits
ok_is : {A E : Type 0} (x y : A) → ◌≡◌ {A = Result A E} (Ok x) (Ok y) → x ≡ y
ok_is x y e = cc

err_ok : {A E : Type 0} (e : E) (x : A) → ◌≡◌ {A = Result A E} (Err e) (Ok x) → ⊥
err_ok e x is = cc

abbrev Fits : Num → Type 0
Fits v = fits_step (Tree-F.Num v) ≡ true

signed_fits : (negative : Bool) (k : ℕ) → is_held negative k ≡ true → in_64_bits (signed negative k) ≡ true
signed_fits false k h = h
signed_fits true zero h = refl
signed_fits true (suc k) h = let le = leb-true (suc k) (2 ^ 63) h in lt-ltb k (2 ^ 63) (omega (arith, le))

whole_fits : (negative : Bool) (k : ℕ) (v : Num) → whole_num negative k ≡ Ok v → Fits v
whole_fits negative k v e = go (is_held negative k) refl e
  where
    go : (h : Bool) → is_held negative k ≡ h → cond h (Ok (n.Whole (signed negative k))) (Err TooLarge) ≡ Ok v → Fits v
    go true h e = subst Fits (ok_is (n.Whole (signed negative k)) v e) (signed_fits negative k h)
    go false h e = absurd (err_ok TooLarge v e)

num_fits : (x : Decimal) (v : Num) → num_of x ≡ Ok v → Fits v
num_fits x v e = go (is_whole x) (is_one_one x) e
  where
    go : (a b : Bool) → cond a (whole_num x.negative (size x)) (cond b (Ok n.OneOne) (Err Fraction)) ≡ Ok v → Fits v
    go true b e = whole_fits x.negative (size x) v e
    go false true e = subst Fits (ok_is n.OneOne v e) refl
    go false false e = absurd (err_ok Fraction v e)

number_fits : {b r : List ℕ} {v : Num} → IsNumber b v r → Fits v
number_fits {v = v} h = num_fits (exact h.token) v h.value

all_are : (f : Tree → Bool) (ts : List Tree) → AllByRecursion (λ x. f x ≡ true) ts → all_true (map f ts) ≡ true
all_are f [] h = refl
all_are f (x ∷ ts) h = all_so (f x) (all_true (map f ts)) h.0 (all_are f ts h.1)

values_are : (f : Tree → Bool) (es : List (List ℕ × Tree)) → AllByRecursion (EntryIs (λ x. f x ≡ true)) es → all_true (values_of (map (λ e. (e.0, f e.1)) es)) ≡ true
values_are f [] h = refl
values_are f (e ∷ es) h = all_so (f e.1) (all_true (values_of (map (λ e. (e.0, f e.1)) es))) h.0.1 (values_are f es h.1)

names_are : (f : Tree → Bool) (es : List (List ℕ × Tree)) → AllByRecursion (EntryIs (λ x. f x ≡ true)) es → all_utf8 (keys_of (map (λ e. (e.0, f e.1)) es)) ≡ true
names_are f [] h = refl
names_are f (e ∷ es) h = all_so (is_utf8 e.0) (all_utf8 (keys_of (map (λ e. (e.0, f e.1)) es))) (is_utf8-from_IsUtf8 e.0 h.0.0) (names_are f es h.1)

fits_kept : IsKept (λ d x. fits x ≡ true)
fits_kept = record {
  of_null = λ d. rw rolled_null (fold-roll-Tree Bool fits_step Tree-F.Null);
  of_bool = λ d b. rw (rolled_bool b) (fold-roll-Tree Bool fits_step (Tree-F.Bool b));
  of_number = λ d {b} {r} {v} h. rw (rolled_num v) (fold-roll-Tree Bool fits_step (Tree-F.Num v) ∙ number_fits h);
  of_text = λ d x h. rw (rolled_text x) (fold-roll-Tree Bool fits_step (Tree-F.Text x));
  of_list = λ d ts h. rw (rolled_list ts) (fold-roll-Tree Bool fits_step (Tree-F.List ts) ∙ all_are fits ts h);
  of_map = λ d es h. rw (rolled_map es) (fold-roll-Tree Bool fits_step (Tree-F.Map es) ∙ values_are fits es.0 h);
}

pub read_fits : (bytes : List ℕ) (x : Tree) → reads bytes x → fits x ≡ true
read_fits bytes x h = read_kept (λ d x. fits x ≡ true) fits_kept bytes x h

-- each text and each name is UTF-8
spelled_kept : IsKept (λ d x. spelled x ≡ true)
spelled_kept = record {
  of_null = λ d. rw rolled_null (fold-roll-Tree Bool spelled_step Tree-F.Null);
  of_bool = λ d b. rw (rolled_bool b) (fold-roll-Tree Bool spelled_step (Tree-F.Bool b));
  of_number = λ d {b} {r} {v} h. rw (rolled_num v) (fold-roll-Tree Bool spelled_step (Tree-F.Num v));
  of_text = λ d x h. rw (rolled_text x) (fold-roll-Tree Bool spelled_step (Tree-F.Text x) ∙ is_utf8-from_IsUtf8 x h);
  of_list = λ d ts h. rw (rolled_list ts) (fold-roll-Tree Bool spelled_step (Tree-F.List ts) ∙ all_are spelled ts h);
  of_map = λ d es h. rw (rolled_map es) (fold-roll-Tree Bool spelled_step (Tree-F.Map es) ∙ all_so (all_utf8 (keys_of (map (λ e. (e.0, spelled e.1)) es.0))) (all_true (values_of (map (λ e. (e.0, spelled e.1)) es.0))) (names_are spelled es.0 h) (values_are spelled es.0 h));
}

pub read_spelled : (bytes : List ℕ) (x : Tree) → reads bytes x → spelled x ≡ true
read_spelled bytes x h = read_kept (λ d x. spelled x ≡ true) spelled_kept bytes x h

-- it has at most 128 levels
greatest_under : (d : ℕ) (ts : List Tree) → AllByRecursion (λ x. depth_of x ≤ d) ts → greatest (map depth_of ts) ≤ d
greatest_under d [] h = omega arith
greatest_under d (x ∷ ts) h = omega (arith, h.0, greatest_under d ts h.1)

greatest_value : (d : ℕ) (es : List (List ℕ × Tree)) → AllByRecursion (EntryIs (λ x. depth_of x ≤ d)) es → greatest (values_of (map (λ e. (e.0, depth_of e.1)) es)) ≤ d
greatest_value d [] h = omega arith
greatest_value d (e ∷ es) h = omega (arith, h.0.1, greatest_value d es h.1)

flat : (d v : ℕ) → v ≡ 0 → v ≤ d
flat d v e = omega arith

under : (d g v : ℕ) → v ≡ g + 1 → g ≤ d → v ≤ suc d
under d g v e h = omega arith

depth_kept : IsKept (λ d x. depth_of x ≤ d)
depth_kept = record {
  of_null = λ d. rw rolled_null (flat d _ (fold-roll-Tree ℕ depth_step Tree-F.Null));
  of_bool = λ d b. rw (rolled_bool b) (flat d _ (fold-roll-Tree ℕ depth_step (Tree-F.Bool b)));
  of_number = λ d {b} {r} {v} h. rw (rolled_num v) (flat d _ (fold-roll-Tree ℕ depth_step (Tree-F.Num v)));
  of_text = λ d x h. rw (rolled_text x) (flat d _ (fold-roll-Tree ℕ depth_step (Tree-F.Text x)));
  of_list = λ d ts h. rw (rolled_list ts) (under d (greatest (map depth_of ts)) _ (fold-roll-Tree ℕ depth_step (Tree-F.List ts)) (greatest_under d ts h));
  of_map = λ d es h. rw (rolled_map es) (under d (greatest (values_of (map (λ e. (e.0, depth_of e.1)) es.0))) _ (fold-roll-Tree ℕ depth_step (Tree-F.Map es)) (greatest_value d es.0 h));
}

pub read_depth : (bytes : List ℕ) (x : Tree) → reads bytes x → depth_of x ≤ 128
read_depth bytes x h = read_kept (λ d x. depth_of x ≤ d) depth_kept bytes x h
