-- The rules of keywords and properties, by the parts that the code takes them in.
use Rattle.std.proofs.Common.{◌≡◌, ◌∙◌, refl, sym, ap, subst, ℕ, List, [], ◌∷◌, Bool, true, false, cond, Option, Some, None, Ok}
use Rattle.std.specs.Prelude.{Result, codes, if◌then◌else◌}
use Rattle.std.specs.List.{list_all}
use Rattle.std.specs.Map.{remove_entry}
use Rattle.std.specs.BTreeMap.{is_at}
use Rattle.std.specs.Str.{bytes_eq}
use Rattle.std.specs.Cmp.Lexicographic.{same_text}
use Rattle.std.proofs.lemmas.Map.Text.{is_eq-slice_cmp}
use Rattle.ld_tree.specs.Names.{Sorted, name_cmp}
use Rattle.ld_tree.specs.Maps.{find, take_out}
use Rattle.ld_tree.specs.declared.tree.Tree.{Tree, out-Tree}
use Rattle.ld_tree.specs.declared.tree.Tree.TheVariants as V
use Rattle.ld_tree.specs.declared.tree.Tree.TheOpen.{Tree-F}
use Rattle.ld_tree.specs.declared.tree.Tree.TheViews as W
use Rattle.ld_tree.specs.Trees.{member_at}
use Rattle.ld_codes.specs.declared.code.Code.TheVariants as code
use Rattle.ld_rec.specs.declared.def.Def.{Def}
use Rattle.ld_rec.specs.declared.stop.Stop.{Stop}
use Rattle.ld_rec.specs.Outcome.{Answer, Stock, give, fails, each, ◌>>=◌, GivesAs, Refuses}
use Rattle.ld_rec.specs.Words.{items_of}
use Rattle.ld_rec.specs.Kinds.{map_of, is_node_object, entries_of, entries_in}
use Rattle.ld_rec.specs.Places.{is_reverse}
use Rattle.ld_rec.specs.Expansion.{add_backward, add_forward, add_reversed, add_subjects, add_items, add_property, included, reverse_map_in}
use Rattle.ld_expand.proofs.Stages.{then_result, then_refuses, then_same, each_goes, gives_same}

module _ (stock : Stock) (new old : Sorted Tree) where
  pub backward_gives : (name : List ℕ) (value : Tree) (items : List Tree) (given : Result (Unit {0}) Stop) → bytes_eq name (codes "@reverse") ≡ false → items ≡ items_of value
      → GivesAs (λ _. new) given ((add_subjects name items old).run stock).result → GivesAs (λ _. new) given ((add_backward (name, value) old).run stock).result
  backward_gives name value items given other are h =
      gives_same (λ _. new) given ((add_subjects name items old).run stock).result _
      (ap (λ (b : Bool). ((if b then give old else add_subjects name (items_of value) old).run stock).result) other ∙ ap (λ (l : List Tree). ((add_subjects name l old).run stock).result) (sym are)) h

  pub included_gives : (tree : Tree) (items : List Tree) (name : List ℕ) → items ≡ items_of tree → list_all is_node_object items ≡ true → name ≡ codes "@included" → new ≡ add_items name items old
      → ((included (Some tree) old).run stock).result ≡ Ok new
  included_gives tree items name are fit is e =
      ap (λ (b : Bool). ((if b then give (add_items (codes "@included") (items_of tree) old) else fails code.InvalidIncludedValue).run stock).result) (ap (list_all is_node_object) (sym are) ∙ fit)
      ∙ ap (λ (m : Sorted Tree). Ok m) (ap (λ (l : List Tree). add_items (codes "@included") l old) (sym are) ∙ ap (λ (n : List ℕ). add_items n items old) (sym is) ∙ sym e)

  pub property_reversed : (iri : List ℕ) (def : Option Def) (tree made : Tree) (items : List Tree) (given : Result (Unit {0}) Stop) → is_reverse def ≡ true → items ≡ items_of made → made ≡ tree
      → GivesAs (λ _. new) given ((add_subjects iri items old).run stock).result → GivesAs (λ _. new) given ((add_property iri def tree old).run stock).result
  property_reversed iri def tree made items given is are e h =
      gives_same (λ _. new) given ((add_subjects iri items old).run stock).result _
      (ap (λ (b : Bool). ((if b then add_subjects iri (items_of tree) old else give (add_items iri (items_of tree) old)).run stock).result) is
      ∙ ap (λ (l : List Tree). ((add_subjects iri l old).run stock).result) (ap items_of (sym e) ∙ sym are)) h

-- ---- what is reversed

abbrev is_reverse_name : List ℕ → Bool
is_reverse_name = is_at (name_cmp (codes "@reverse"))

is_skipped : (name : List ℕ) → is_reverse_name name ≡ true → bytes_eq name (codes "@reverse") ≡ true
is_skipped name e = ap (λ n. bytes_eq n (codes "@reverse")) (sym (same_text (codes "@reverse") name (sym (sym (is_eq-slice_cmp (codes "@reverse") name) ∙ e))))

module _ (stock : Stock) where
  skips : (e : List ℕ × Tree) (s : Sorted Tree) → is_reverse_name e.0 ≡ true → ((add_backward e s).run stock).result ≡ Ok s
  skips e s is = ap (λ (b : Bool). ((if b then give s else add_subjects e.0 (items_of e.1) s).run stock).result) (is_skipped e.0 is)

  -- the name itself changes nothing there
  without_it : (es : List (List ℕ × Tree)) (s : Sorted Tree) → ((each add_backward (remove_entry is_reverse_name es) s).run stock).result ≡ ((each add_backward es s).run stock).result
  without_it [] s = refl
  without_it (e ∷ es) s =
      elim (is_reverse_name e.0) as (λ b. is_reverse_name e.0 ≡ b → ((each add_backward (cond b es (e ∷ remove_entry is_reverse_name es)) s).run stock).result ≡ ((each add_backward (e ∷ es) s).run stock).result) [
        | true ↦ λ is. sym (each_goes stock add_backward e es s s (skips e s is))
        | false ↦ λ _. then_same stock (add_backward e s) (each add_backward (remove_entry is_reverse_name es)) (each add_backward es) (without_it es)
      ] refl

  entries_are : (es : Sorted Tree) → entries_of (map_of es) ≡ es
  entries_are es = ap entries_in (W.out-roll-Tree (Tree-F.Map es))

  reversed_are : (es : Sorted Tree) → member_at (codes "@reverse") (out-Tree (map_of es)) ≡ find es (codes "@reverse")
  reversed_are es = ap (member_at (codes "@reverse")) (W.out-roll-Tree (Tree-F.Map es))

  forward_first : (es : Sorted Tree) (reversed : Option Tree) (old : Sorted Tree) → reversed ≡ find es (codes "@reverse")
      → ((each add_forward (reverse_map_in (member_at (codes "@reverse") (out-Tree (map_of es)))).0 old).run stock).result ≡ ((each add_forward (reverse_map_in reversed).0 old).run stock).result
  forward_first es reversed old is = ap (λ (o : Option Tree). ((each add_forward (reverse_map_in o).0 old).run stock).result) (reversed_are es ∙ sym is)

  pub reversed_gives : (es rest : Sorted Tree) (reversed : Option Tree) (old between new : Sorted Tree) (given : Result (Unit {0}) Stop) → reversed ≡ find es (codes "@reverse")
      → rest ≡ take_out es (codes "@reverse") → ((each add_forward (reverse_map_in reversed).0 old).run stock).result ≡ Ok between
      → GivesAs (λ _. new) given ((each add_backward rest.0 between).run stock).result → GivesAs (λ _. new) given ((add_reversed (Some (map_of es)) old).run stock).result
  reversed_gives es rest reversed old between new given is left first h =
      gives_same (λ _. new) given ((each add_backward rest.0 between).run stock).result _
      (then_result stock (each add_forward (reverse_map_in (member_at (codes "@reverse") (out-Tree (map_of es)))).0 old) (each add_backward (entries_of (map_of es)).0) between
      (forward_first es reversed old is ∙ first)
      ∙ ap (λ (s : Sorted Tree). ((each add_backward s.0 between).run stock).result) (entries_are es)
      ∙ sym (without_it es.0 between) ∙ ap (λ (s : Sorted Tree). ((each add_backward s.0 between).run stock).result) (sym left)) h

  pub reversed_refuses : (es : Sorted Tree) (reversed : Option Tree) (old : Sorted Tree) (e : Stop) → reversed ≡ find es (codes "@reverse")
      → Refuses e ((each add_forward (reverse_map_in reversed).0 old).run stock).result → Refuses e ((add_reversed (Some (map_of es)) old).run stock).result
  reversed_refuses es reversed old e is h =
      then_refuses stock (each add_forward (reverse_map_in (member_at (codes "@reverse") (out-Tree (map_of es)))).0 old) (each add_backward (entries_of (map_of es)).0) e
      (subst (λ r. Refuses e r) (sym (forward_first es reversed old is)) h)
