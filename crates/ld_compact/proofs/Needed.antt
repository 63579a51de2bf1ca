-- A node that needs a map: nothing of Value Compaction is asked but whether it refuses.
use Rattle.std.proofs.Common.{◌≡◌, ◌∙◌, sym, refl, ap, subst, ℕ, Bool, true, false, List, Option, Some, None, Ok, Err}
use Rattle.std.specs.Prelude.{Result, if◌then◌else◌, codes, ◌||◌}
use Rattle.ld_codes.specs.declared.code.Code.{Code}
use Rattle.ld_tree.specs.declared.tree.Tree.{Tree}
use Rattle.ld_rec.specs.declared.stop.Stop.{Stop}
use Rattle.ld_rec.specs.declared.stop.Stop.TheVariants as stop
use Rattle.ld_rec.specs.Compacting.{compact_value}
use Rattle.ld_rec.specs.Expansion.{is_json}
use Rattle.ld_rec.specs.Kinds.{has_entry, is_scalar}
use Rattle.ld_rec.specs.Outcome.{Stock, GivesAs, Gives, give, ◌>>=◌}
use Rattle.ld_rec.specs.Places.{type_mapping_of}
use Rattle.ld_rec.specs.Records.{Context}
use Rattle.ld_compact.specs.Elements.{def_at}
use Rattle.ld_compact.specs.Compaction.{told, value_compaction, value_or_map, if_no_map, text_or_empty}
use Rattle.ld_compact.specs.Renaming.{is_full, check_node}
use Rattle.ld_compact.proofs.Renaming.{forgotten, NoScalar, compact_value_is}
use Rattle.ld_compact.proofs.Told.{OnlyCodes, value_codes}

module _ {B : Type 0} (b : B) where
  gives_value : (given : Result (Unit {0}) Stop) → Gives given (Ok tt) → GivesAs (λ done. b) given (Ok b)
  gives_value (Ok done) h = refl
  gives_value (Err stop.NoMemory) h = tt
  gives_value (Err (stop.Code code)) h = cc
  gives_value (Err (stop.Own own)) h = cc
  gives_value (Err (stop.Missing iri)) h = cc

  gives_code : (code : Code) (given : Result (Unit {0}) Stop) → Gives given (Err (stop.Code code)) → GivesAs (λ done. b) given (Err (stop.Code code))
  gives_code code (Ok done) h = cc
  gives_code code (Err stop.NoMemory) h = tt
  gives_code code (Err (stop.Code other)) h = cc
  gives_code code (Err (stop.Own own)) h = cc
  gives_code code (Err (stop.Missing iri)) h = cc

-- the result is no scalar
module _ (context : Context) (property : Option (List ℕ)) (json : is_json (type_mapping_of (def_at context property)) ≡ false) where
  needed : (tree : Tree) → is_scalar tree ≡ false → if_no_map context property tree ≡ None
  needed tree h =
      ap (λ (b : Bool). if b || is_json (type_mapping_of (def_at context property)) then Some tree else None) h ∙ ap (λ (b : Bool). if b then Some tree else None) json

  told_needed : (stock : Stock) (r : Result Tree Stop) → OnlyCodes r → NoScalar r → (checks given : Result (Unit {0}) Stop) → forgotten r ≡ checks → Gives given checks
      → GivesAs {B = Option Tree} (λ done. None) given ((told r >>= (λ value. give (if_no_map context property value))).run stock).result
  told_needed stock (Ok tree) codes is checks given e h =
      subst (λ (o : Option Tree). GivesAs {B = Option Tree} (λ done. None) given (Ok o)) (sym (needed tree is)) (gives_value None given (subst (λ (c : Result (Unit {0}) Stop). Gives given c) (sym e) h))
  told_needed stock (Err (stop.Code code)) codes is checks given e h = gives_code None code given (subst (λ (c : Result (Unit {0}) Stop). Gives given c) (sym e) h)
  told_needed stock (Err (stop.Own own)) codes is checks given e h = absurd codes
  told_needed stock (Err (stop.Missing iri)) codes is checks given e h = absurd codes
  told_needed stock (Err stop.NoMemory) codes is checks given e h = absurd codes

  pub full_needed : (stock : Stock) (tree : Tree) (given : Result (Unit {0}) Stop) → (has_entry (codes "@id") tree || has_entry (codes "@value") tree) ≡ true → is_full tree ≡ true → Gives given (check_node context tree)
      → GivesAs {B = Option Tree} (λ done. None) given ((value_or_map tree context property).run stock).result
  full_needed stock tree given asks full h =
      let is = compact_value_is context (text_or_empty property) tree full in
      subst (λ (b : Bool). GivesAs {B = Option Tree} (λ done. None) given ((if b then value_compaction context property tree >>= (λ value. give (if_no_map context property value)) else give None).run stock).result) (sym asks)
      (told_needed stock (compact_value context (text_or_empty property) tree) (value_codes context (text_or_empty property) tree) is.0 (check_node context tree) given is.1 h)
