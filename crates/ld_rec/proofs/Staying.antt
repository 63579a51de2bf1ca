-- What each answer's two laws give.
use Rattle.std.proofs.Common.{◌≡◌, ℕ, List, [], ◌∷◌, Ok, Err, sym, subst, ◌∙◌}
use Rattle.std.specs.Prelude.{Result}
use Rattle.ld_rec.specs.declared.stop.Stop.{Stop}
use Rattle.ld_rec.specs.declared.stop.Stop.TheVariants as stop
use Rattle.ld_rec.specs.Outcome.{Answer, Stock, AreAlike, AreThere, IsAskedRight, IsMissingLast, IsNotMissing, IsWithin}

module _ (stock more : Stock) (within : IsWithin stock more) where
  alike_there : (reads : List (List ℕ)) → AreThere stock reads → AreAlike stock more reads
  alike_there [] h = tt
  alike_there (iri ∷ iris) h = (within iri h.0.0 h.0.1 ∙ sym h.0.1, alike_there iris h.1)

  alike_unless_missing : {A : Type 0} (reads : List (List ℕ)) (r : Result A Stop) → IsAskedRight stock reads r → IsNotMissing r → AreAlike stock more reads
  alike_unless_missing reads (Ok a) h n = alike_there reads h
  alike_unless_missing reads (Err (stop.Missing iri)) h n = absurd n
  alike_unless_missing reads (Err (stop.Code code)) h n = alike_there reads h
  alike_unless_missing reads (Err (stop.Own own)) h n = alike_there reads h
  alike_unless_missing reads (Err stop.NoMemory) h n = alike_there reads h

  pub stays : {A : Type 0} (o : Answer A) → IsNotMissing (o.run stock).result → o.run more ≡ o.run stock
  stays o n = o.rests stock more (alike_unless_missing (o.run stock).reads (o.run stock).result (o.asked stock) n)

pub missing_last : {A : Type 0} (stock : Stock) (o : Answer A) (iri : List ℕ) → (o.run stock).result ≡ Err (stop.Missing iri) → IsMissingLast stock (o.run stock).reads iri
missing_last {A} stock o iri is = subst (λ (r : Result A Stop). IsAskedRight stock (o.run stock).reads r) is (o.asked stock)
