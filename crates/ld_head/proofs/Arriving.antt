-- A head that comes in pieces.
use Rattle.std.proofs.Common.{◌≡◌, ℕ, ◌+◌, ◌<◌, List, [], ◌++◌, length, take, drop, sym, refl, ap, ◌∙◌, subst, append_assoc, arith}
use Rattle.std.proofs.lemmas.Bool.{lt-leb, cond-false}
use Rattle.std.proofs.lemmas.List.{length-append, append-nil}
use Rattle.ld_head.specs.declared.finding.Place.{Place}
use Rattle.ld_head.specs.declared.finding.Place.TheVariants.{Before}
use Rattle.ld_head.specs.declared.finding.Searched.TheVariants.{Ended, Full, Goes}
use Rattle.ld_head.specs.Dialogues.{front, Whole, TooLong, Unfinished, OpensAt, Opens, Stops, ends_at}
use Rattle.ld_head.specs.Searching.{Finds, IsSearched}

pub searched_none : IsSearched [] Before
searched_none = record { few = omega arith; goes_on = λ more. refl }

module _ (seen : List ℕ) (place : Place) (is : IsSearched seen place) where
  pub searched_more : (piece : List ℕ) (later : Place) → length seen + length piece < 16384 → Finds seen place piece (Goes later) → IsSearched (seen ++ piece) later
  searched_more piece later few finds = record {
    few = let count = length-append seen piece in omega arith;
    goes_on = λ more. ap front (append_assoc seen piece more) ∙ (is.goes_on (piece ++ more) ∙ finds more);
  }

  unfinished : front seen ≡ Unfinished place
  unfinished = ap front (sym (append-nil seen)) ∙ (is.goes_on [] ∙ cond-false _ _ _ (lt-leb _ _ is.few))

  pub stops_there : (n : ℕ) → Opens n seen (Stops (ends_at place))
  stops_there n = subst (λ f. OpensAt n f (Stops (ends_at place))) (sym unfinished) refl

-- bytes that were searched from their start
module _ (bytes : List ℕ) where
  pub stops_in : (n : ℕ) (later : Place) → length bytes < 16384 → Finds [] Before bytes (Goes later) → Opens n bytes (Stops (ends_at later))
  stops_in n later few finds = stops_there bytes later (searched_more [] Before searched_none bytes later (omega arith) finds) n

  pub too_long_in : Finds [] Before bytes Full → front bytes ≡ TooLong
  too_long_in finds = ap front (sym (append-nil bytes)) ∙ finds []

  pub whole_in : (end : ℕ) (block after : List ℕ) → block ≡ take end bytes → after ≡ drop end bytes → Finds [] Before bytes (Ended end) → front bytes ≡ Whole block after
  whole_in end block after b a finds = ap front (sym (append-nil bytes)) ∙ (finds [] ∙ (λ i. Whole (sym b i) ((append-nil (drop end bytes) ∙ sym a) i)))
