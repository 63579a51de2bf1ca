-- The table grows, and fewer names are left.
use Rattle.std.proofs.Common.{◌≡◌, refl, sym, ap, ◌∙◌, subst, ℕ, ◌+◌, ◌≤◌, List, [], ◌∷◌, Option, Some, None, Bool, true, false, cond, arith, is_none, Result, Ok, Err, ◌*◌}
use Rattle.std.specs.Prelude.{OnOk, IfOk}
use Rattle.ld_rec.specs.declared.stop.Stop.{Stop}
use Rattle.std.specs.declared.cmp.Ordering.TheVariants.{Less, Equal, Greater}
use Rattle.std.specs.declared.cmp.Ordering.{Ordering}
use Rattle.std.specs.Ordering.{is_eq, match_ordering}
use Rattle.std.specs.Map.{lookup}
use Rattle.std.specs.BTreeMap.{insert_entry, is_at}
use Rattle.std.specs.Cmp.Lexicographic.{nat_list_cmp_total}
use Rattle.ld_tree.specs.Names.{Sorted, name_cmp}
use Rattle.ld_tree.specs.Maps.{find, put}
use Rattle.ld_tree.specs.declared.tree.Tree.{Tree}
use Rattle.std.proofs.lemmas.Map.Lookups.{exact_bytes}
use Rattle.std.proofs.lemmas.Cmp.{tied_itself}
use Rattle.ld_term.specs.declared.half.Step.{Step}
use Rattle.ld_term.specs.declared.half.Step.TheVariants.{Done, Need, Check as ToCheck}
use Rattle.ld_term.specs.Sizes.{Grows, Enters, names_left, halves_of, weight}

module _ {T : Type 0} (name : List ℕ) (value : T) (q : List ℕ) where
  tail_none : (b : Bool) (x : T) (o : Option T) → cond b (Some x) o ≡ None → o ≡ None
  tail_none true x o h = absurd cc
  tail_none false x o h = h

  put_more : (b : Bool) (x : T) (o o' : Option T) → (o ≡ None → o' ≡ None) → cond b (Some x) o ≡ None → cond b (Some x) o' ≡ None
  put_more true x o o' f h = absurd cc
  put_more false x o o' f h = f h

  put_none : (es : List (List ℕ × T)) → lookup (is_at (name_cmp q)) (insert_entry name_cmp es name value) ≡ None → lookup (is_at (name_cmp q)) es ≡ None
  put_none [] h = refl
  put_none (x ∷ xs) h = go (name_cmp name x.0) (λ k. put_none xs k) h
    where
      go : (o : Ordering) → (lookup (is_at (name_cmp q)) (insert_entry name_cmp xs name value) ≡ None → lookup (is_at (name_cmp q)) xs ≡ None) → lookup (is_at (name_cmp q)) (match_ordering o ((name, value) ∷ x ∷ xs) ((x.0, value) ∷ xs) (x ∷ insert_entry name_cmp xs name value)) ≡ None → lookup (is_at (name_cmp q)) (x ∷ xs) ≡ None
      go Less more g = tail_none (is_at (name_cmp q) name) value _ g
      go Equal more g = same (is_at (name_cmp q) x.0) g
        where
          same : (b : Bool) → cond b (Some value) (lookup (is_at (name_cmp q)) xs) ≡ None → cond b (Some x.1) (lookup (is_at (name_cmp q)) xs) ≡ None
          same true k = absurd cc
          same false k = k
      go Greater more g = put_more (is_at (name_cmp q) x.0) x.1 (lookup (is_at (name_cmp q)) (insert_entry name_cmp xs name value)) (lookup (is_at (name_cmp q)) xs) more g

pub grows_put : {T : Type 0} (s : Sorted T) (name : List ℕ) (value : T) (q : List ℕ) → find (put s name value) q ≡ None → find s q ≡ None
grows_put s name value q h = put_none name value q s.0 h

pub left_grows : (es : List (List ℕ × Tree)) (old new : Sorted Bool) → Grows old new → names_left es new ≤ names_left es old
left_grows [] old new g = omega arith
left_grows (e ∷ es) old new g = both (find new e.0) (find old e.0) (g e.0) (left_grows es old new g)
  where
    both : (a b : Option Bool) → (a ≡ None → b ≡ None) → names_left es new ≤ names_left es old → cond (is_none a) 1 0 + names_left es new ≤ cond (is_none b) 1 0 + names_left es old
    both (Some a) (Some b) h le = omega arith
    both (Some a) None h le = omega arith
    both None (Some b) h le = let no = h refl in absurd cc
    both None None h le = omega arith

module _ {T : Type 0} (name : List ℕ) (value : T) where
  put_here : (es : List (List ℕ × T)) → lookup (is_at (name_cmp name)) (insert_entry name_cmp es name value) ≡ Some value
  put_here [] = ap (λ o. cond (is_eq o) (Some value) None) (tied_itself nat_list_cmp_total name)
  put_here (x ∷ xs) = go (name_cmp name x.0) refl (put_here xs)
    where
      go : (o : Ordering) → name_cmp name x.0 ≡ o → lookup (is_at (name_cmp name)) (insert_entry name_cmp xs name value) ≡ Some value
          → lookup (is_at (name_cmp name)) (match_ordering o ((name, value) ∷ x ∷ xs) ((x.0, value) ∷ xs) (x ∷ insert_entry name_cmp xs name value)) ≡ Some value
      go Less e more = ap (λ o. cond (is_eq o) (Some value) (lookup (is_at (name_cmp name)) (x ∷ xs))) (tied_itself nat_list_cmp_total name)
      go Equal e more = ap (λ o. cond (is_eq o) (Some value) (lookup (is_at (name_cmp name)) xs)) e
      go Greater e more = ap (λ o. cond (is_eq o) (Some x.1) (lookup (is_at (name_cmp name)) (insert_entry name_cmp xs name value))) e ∙ more

-- a name of the local context that comes into the table is one name less
pub left_falls : (es : List (List ℕ × Tree)) (old new : Sorted Bool) (name : List ℕ) (x : Tree) (b : Bool) → Grows old new
    → lookup (is_at (name_cmp name)) es ≡ Some x → find old name ≡ None → find new name ≡ Some b → names_left es new + 1 ≤ names_left es old
left_falls [] old new name x b g has was is = absurd cc
left_falls (e ∷ es) old new name x b g has was is = go (name_cmp name e.0) refl has (left_falls es old new name x b g) (left_grows es old new g)
  where
    here : (o o' : Option Bool) → o ≡ None → o' ≡ Some b → names_left es new ≤ names_left es old → cond (is_none o') 1 0 + names_left es new + 1 ≤ cond (is_none o) 1 0 + names_left es old
    here None (Some c) p q le = omega arith
    here (Some c) o' p q le = absurd cc
    here None None p q le = absurd cc

    past : (o o' : Option Bool) → (o' ≡ None → o ≡ None) → names_left es new + 1 ≤ names_left es old → cond (is_none o') 1 0 + names_left es new + 1 ≤ cond (is_none o) 1 0 + names_left es old
    past (Some c) (Some d) h le = omega arith
    past None (Some d) h le = omega arith
    past None None h le = omega arith
    past (Some c) None h le = let no = h refl in absurd cc

    at_name : name ≡ e.0 → names_left es new ≤ names_left es old → names_left (e ∷ es) new + 1 ≤ names_left (e ∷ es) old
    at_name same le = here (find old e.0) (find new e.0) (ap (find old) (sym same) ∙ was) (ap (find new) (sym same) ∙ is) le

    go : (o : Ordering) → name_cmp name e.0 ≡ o → cond (is_eq o) (Some e.1) (lookup (is_at (name_cmp name)) es) ≡ Some x
        → (lookup (is_at (name_cmp name)) es ≡ Some x → find old name ≡ None → find new name ≡ Some b → names_left es new + 1 ≤ names_left es old)
        → names_left es new ≤ names_left es old → names_left (e ∷ es) new + 1 ≤ names_left (e ∷ es) old
    go Less c h rec le = past (find old e.0) (find new e.0) (g e.0) (rec h was is)
    go Equal c h rec le = at_name (exact_bytes name e.0 c) le
    go Greater c h rec le = past (find old e.0) (find new e.0) (g e.0) (rec h was is)

pub find_put : {T : Type 0} (s : Sorted T) (name : List ℕ) (value : T) → find (put s name value) name ≡ Some value
find_put s name value = put_here name value s.0

pub begun_falls : (local : Sorted Tree) (old new : Sorted Bool) (name : List ℕ) (x : Tree) → find local name ≡ Some x → find old name ≡ None → Enters old name new
    → names_left local.0 new + 1 ≤ names_left local.0 old
begun_falls local old new name x has was g =
    let first : names_left local.0 (put old name g.0) + 1 ≤ names_left local.0 old = left_falls local.0 old (put old name g.0) name x g.0 (grows_put old name g.0) has was (find_put old name g.0) in
    omega (arith, first, left_grows local.0 (put old name g.0) new g.1)

pub few_halves : (step : Step) → halves_of step ≤ 1
few_halves Done = omega arith
few_halves (Need half name) = omega arith
few_halves (ToCheck ready) = omega arith

-- what holds anyhow holds of a call that answers
pub anyhow : {A E : Type 0} (r : Result A E) (P : Type 0) → P → OnOk r P
anyhow (Ok a) P p = p
anyhow (Err e) P p = tt

pub enters_by : {A E : Type 0} (r : Result A E) (old new : Sorted Bool) (name : List ℕ) (b : Bool) → OnOk r (new ≡ put old name b) → OnOk r (Enters old name new)
enters_by (Ok a) old new name b e = (b, λ q h. subst (λ t. find t q ≡ None) e h)
enters_by (Err x) old new name b e = tt

module _ (local : Sorted Tree) (old new : Sorted Bool) (name : List ℕ) (x : Tree) (has : find local name ≡ Some x) (was : find old name ≡ None) where
  pub sized : (r : Result Step Stop) → OnOk r (Enters old name new) → IfOk r (λ step. weight step ≤ 13) → IfOk r (λ step. 13 * names_left local.0 new + weight step ≤ 13 * names_left local.0 old)
  sized (Ok step) g h = omega (arith, begun_falls local old new name x has was g)
  sized (Err e) g h = tt

  pub fitting : (r : Result Step Stop) → OnOk r (Enters old name new) → IfOk r (λ step. names_left local.0 new + halves_of step ≤ names_left local.0 old)
  fitting (Ok step) g = omega (arith, begun_falls local old new name x has was g, few_halves step)
  fitting (Err e) g = tt

pub looser : {E : Type 0} (r : Result Step E) (a b : ℕ) → a ≤ b → IfOk r (λ step. weight step ≤ a) → IfOk r (λ step. weight step ≤ b)
looser (Ok step) a b le h = omega arith
looser (Err e) a b le h = tt
