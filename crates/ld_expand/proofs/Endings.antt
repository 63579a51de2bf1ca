-- The end of a map, by the parts that the code takes it in.
use Rattle.std.proofs.Common.{◌≡◌, ◌∙◌, refl, sym, ap, subst, ℕ, List, [], ◌∷◌, Bool, true, false, cond, Option, Some, None, Ok}
use Rattle.std.specs.Prelude.{Result, codes, option_map, option_and_then, if◌then◌else◌}
use Rattle.std.specs.Map.{lookup}
use Rattle.std.specs.BTreeMap.{insert_entry, is_at}
use Rattle.std.specs.Ordering.{is_eq, match_ordering}
use Rattle.std.specs.Cmp.Lexicographic.{same_text}
use Rattle.std.specs.declared.cmp.Ordering.{Ordering}
use Rattle.std.specs.declared.cmp.Ordering.TheVariants.{Less, Equal, Greater}
use Rattle.std.proofs.lemmas.Map.Text.{is_eq-slice_cmp}
use Rattle.ld_tree.specs.Names.{Sorted, name_cmp}
use Rattle.ld_tree.specs.Maps.{find, put}
use Rattle.ld_tree.specs.declared.tree.Tree.{Tree}
use Rattle.ld_tree.specs.declared.tree.Tree.TheVariants as V
use Rattle.ld_rec.specs.declared.stop.Stop.{Stop}
use Rattle.ld_rec.specs.Outcome.{Answer, Stock, give, ◌>>=◌, Gives, GivesAs, Refuses}
use Rattle.ld_rec.specs.Words.{items_of}
use Rattle.ld_rec.specs.Kinds.{list_of, map_of}
use Rattle.ld_rec.specs.Expansion.{ended, object_of, value_object, set_or_list, listed_types, put_some, unless_dropped}
use Rattle.ld_expand_value.proofs.Maps.{map_is, put_twice}
use Rattle.ld_expand.proofs.Stages.{then_result, then_refuses, gives_same}

-- ---- 16: types in a list

abbrev list_from : Tree → Tree
list_from types = list_of (items_of types)

pub types_listed : (start moved made : Sorted Tree) (types : Tree) (items : List Tree) → moved ≡ put start (codes "@type") V.Null → find start (codes "@type") ≡ Some types → items ≡ items_of types
    → made ≡ put moved (codes "@type") (V.List items) → made ≡ listed_types start
types_listed start moved made types items e there are last =
    last ∙ ap (λ (m : Sorted Tree). put m (codes "@type") (V.List items)) e ∙ put_twice start (codes "@type") V.Null (V.List items)
    ∙ ap (put start (codes "@type")) (sym (V.rolls-List items) ∙ ap list_of are)
    ∙ sym (ap (λ (o : Option Tree). put_some (codes "@type") (option_map list_from o) start) there)

-- ---- what stands under another name

module _ {T : Type 0} (test : List ℕ → Bool) (name : List ℕ) (value : T) (other : test name ≡ false) where
  same_at : (key : List ℕ) → name_cmp name key ≡ Equal → test key ≡ false
  same_at key e = ap test (sym (same_text name key (sym (sym (is_eq-slice_cmp name key) ∙ ap is_eq e)))) ∙ other

  lookup_other : (es : List (List ℕ × T)) → lookup test (insert_entry name_cmp es name value) ≡ lookup test es
  lookup_other [] = ap (λ b. cond b (Some value) None) other
  lookup_other (x ∷ xs) =
      elim (name_cmp name x.0) as (λ o. name_cmp name x.0 ≡ o → lookup test (match_ordering o ((name, value) ∷ x ∷ xs) ((x.0, value) ∷ xs) (x ∷ insert_entry name_cmp xs name value)) ≡ lookup test (x ∷ xs)) [
        | Less ↦ λ e. ap (λ b. cond b (Some value) (lookup test (x ∷ xs))) other
        | Equal ↦ λ e. ap (λ b. cond b (Some value) (lookup test xs)) (same_at x.0 e) ∙ sym (ap (λ b. cond b (Some x.1) (lookup test xs)) (same_at x.0 e))
        | Greater ↦ λ e. ap (λ (o : Option T). cond (test x.0) (Some x.1) o) (lookup_other xs)
      ] refl

listed_by : (types : Option Tree) (entries : Sorted Tree) → find (put_some (codes "@type") (option_map list_from types) entries) (codes "@set") ≡ find entries (codes "@set")
listed_by None entries = refl
listed_by (Some types) entries = lookup_other (is_at (name_cmp (codes "@set"))) (codes "@type") (list_from types) refl entries.0

module _ (stock : Stock) where
  -- 17: the set is that of the entries whose types are listed
  pub set_kept : (start listed : Sorted Tree) (given : Result (Option Tree) Stop) → listed ≡ listed_types start → Gives given ((set_or_list (find listed (codes "@set")) listed).run stock).result
      → Gives given ((set_or_list (find start (codes "@set")) (listed_types start)).run stock).result
  set_kept start listed given e h =
      gives_same (λ t. t) given ((set_or_list (find listed (codes "@set")) listed).run stock).result _
      (ap (λ (o : Option Tree). ((set_or_list o (listed_types start)).run stock).result) (sym (listed_by (find start (codes "@type")) start))
      ∙ ap (λ (m : Sorted Tree). ((set_or_list (find m (codes "@set")) m).run stock).result) (sym e)) h

  -- ---- 15: a value object
  module _ (entries : Sorted Tree) (value : Tree) (there : find entries (codes "@value") ≡ Some value) where
    is_value : ((object_of (find entries (codes "@value")) entries).run stock).result ≡ ((value_object value entries).run stock).result
    is_value = ap (λ (o : Option Tree). ((object_of o entries).run stock).result) there

    pub value_stays : (keeps : Bool) → keeps ≡ true → ((value_object value entries).run stock).result ≡ Ok (if keeps then Some (map_of entries) else None)
        → ((object_of (find entries (codes "@value")) entries).run stock).result ≡ Ok (Some (V.Map entries))
    value_stays keeps is h = is_value ∙ h ∙ ap (λ b. Ok (if b then Some (map_of entries) else None)) is ∙ ap (λ t. Ok (Some t)) (sym (map_is entries))

    pub value_is_null : (keeps : Bool) → keeps ≡ false → ((value_object value entries).run stock).result ≡ Ok (if keeps then Some (map_of entries) else None)
        → ((object_of (find entries (codes "@value")) entries).run stock).result ≡ Ok None
    value_is_null keeps is h = is_value ∙ h ∙ ap (λ b. Ok (if b then Some (map_of entries) else None)) is

    pub value_refuses : (e : Stop) → Refuses e ((value_object value entries).run stock).result → Refuses e ((object_of (find entries (codes "@value")) entries).run stock).result
    value_refuses e h = subst (λ r. Refuses e r) (sym is_value) h

  -- ---- the whole
  module _ (property : Option (List ℕ)) (entries made : Sorted Tree) (same : entries ≡ made) where
    its_object : ((object_of (find made (codes "@value")) made).run stock).result ≡ ((object_of (find entries (codes "@value")) entries).run stock).result
    its_object = sym (ap (λ (m : Sorted Tree). ((object_of (find m (codes "@value")) m).run stock).result) same)

    abbrev dropping : Option Tree → Answer (Option Tree)
    dropping tree = give (option_and_then (unless_dropped property) tree)

    pub ended_refuses : (e : Stop) → Refuses e ((object_of (find entries (codes "@value")) entries).run stock).result → Refuses e ((ended property made).run stock).result
    ended_refuses e h = then_refuses stock (object_of (find made (codes "@value")) made) dropping e (subst (λ r. Refuses e r) (sym its_object) h)

    pub ended_gives : (tree : Option Tree) → ((object_of (find entries (codes "@value")) entries).run stock).result ≡ Ok tree
        → ((ended property made).run stock).result ≡ Ok (option_and_then (unless_dropped property) tree)
    ended_gives tree h = then_result stock (object_of (find made (codes "@value")) made) dropping tree (its_object ∙ h)
