-- One question after another: what comes of the whole, by what came of the first.
use Rattle.std.proofs.Common.{◌≡◌, ◌∙◌, refl, sym, ap, subst, ℕ, suc, ◌+◌, ◌<◌, List, ◌∷◌, length, drop, get_or, Ok, Err, add-one, drop-cons}
use Rattle.std.specs.Prelude.{Result}
use Rattle.ld_rec.specs.declared.stop.Stop.{Stop}
use Rattle.ld_rec.specs.declared.stop.Stop.TheVariants as stop
use Rattle.ld_rec.specs.Outcome.{Answer, Stock, ◌>>=◌, with_value, each, Refuses, GivesAs}

module _ {A B : Type 0} (stock : Stock) (o : Answer A) (f : A → Answer B) where
  pub then_result : (a : A) → (o.run stock).result ≡ Ok a → ((o >>= f).run stock).result ≡ ((f a).run stock).result
  then_result a h = ap (λ (r : Result A Stop). (with_value (o.run stock).runs (o.run stock).reads r (λ (x : A). (f x).run stock)).result) h

  pub then_stops : (e : Stop) → (o.run stock).result ≡ Err e → ((o >>= f).run stock).result ≡ Err e
  then_stops e h = ap (λ (r : Result A Stop). (with_value (o.run stock).runs (o.run stock).reads r (λ (x : A). (f x).run stock)).result) h

module _ {X S : Type 0} (stock : Stock) (step : X → S → Answer S) (x : X) (xs : List X) (s : S) where
  pub each_goes : (t : S) → ((step x s).run stock).result ≡ Ok t → ((each step (x ∷ xs) s).run stock).result ≡ ((each step xs t).run stock).result
  each_goes t h = then_result stock (step x s) (each step xs) t h

  pub each_stops : (e : Stop) → ((step x s).run stock).result ≡ Err e → ((each step (x ∷ xs) s).run stock).result ≡ Err e
  each_stops e h = then_stops stock (step x s) (each step xs) e h

-- the same where a refusal may be want of memory
module _ {A B : Type 0} (stock : Stock) (o : Answer A) (f : A → Answer B) where
  pub then_refuses : (e : Stop) → Refuses e (o.run stock).result → Refuses e ((o >>= f).run stock).result
  then_refuses stop.NoMemory h = tt
  then_refuses (stop.Code code) h = then_stops stock o f (stop.Code code) h
  then_refuses (stop.Own own) h = then_stops stock o f (stop.Own own) h
  then_refuses (stop.Missing iri) h = then_stops stock o f (stop.Missing iri) h

  pub then_same : (g : A → Answer B) → ((a : A) → ((f a).run stock).result ≡ ((g a).run stock).result) → ((o >>= f).run stock).result ≡ ((o >>= g).run stock).result
  then_same g h =
      elim (o.run stock).result as (λ r. (with_value (o.run stock).runs (o.run stock).reads r (λ (x : A). (f x).run stock)).result ≡ (with_value (o.run stock).runs (o.run stock).reads r (λ (x : A). (g x).run stock)).result) [
        | Ok a ↦ h a
        | Err e ↦ refl
      ]

-- a step of a loop, asked over a stock that is the same: it goes on over what is left, or it ends
module _ {X S : Type 0} (stock later : Stock) (same : later ≡ stock) (step : X → S → Answer S) (all now rest : List X) (x : X) (start s : S) (comes : now ≡ x ∷ rest)
    (so : ((each step all start).run stock).result ≡ ((each step now s).run stock).result) where
  pub loop_goes : (t : S) → ((step x s).run later).result ≡ Ok t → ((each step all start).run stock).result ≡ ((each step rest t).run stock).result
  loop_goes t h =
      so ∙ ap (λ (l : List X). ((each step l s).run stock).result) comes
      ∙ each_goes stock step x rest s t (sym (ap (λ (k : Stock). ((step x s).run k).result) same) ∙ h)

  pub loop_refuses : (e : Stop) → Refuses e ((step x s).run later).result → Refuses e ((each step all start).run stock).result
  loop_refuses e h =
      subst (λ (r : Result S Stop). Refuses e r) (sym (so ∙ ap (λ (l : List X). ((each step l s).run stock).result) comes))
      (then_refuses stock (step x s) (each step rest) e (subst (λ (k : Stock). Refuses e ((step x s).run k).result) same h))

-- the item at a place, and those behind it
pub next_item : {X : Type 0} (xs : List X) (i : ℕ) (x : X) → i < length xs → x ≡ get_or xs i x → drop i xs ≡ x ∷ drop (i + 1) xs
next_item xs i x h e = rw (add-one, drop-cons xs i x) (ap (λ y. y ∷ drop (suc i) xs) (sym e))

-- what is given over one question is given over the same one
pub gives_same : {A B : Type 0} (view : A → B) (given : Result A Stop) (r s : Result B Stop) → s ≡ r → GivesAs view given r → GivesAs view given s
gives_same view given r s e h = subst (λ t. GivesAs view given t) (sym e) h

-- the second question's answer is that of both, where the first's value is known
pub then_gives : {A B C : Type 0} (stock : Stock) (o : Answer A) (f : A → Answer B) (view : C → B) (given : Result C Stop) (a : A) → (o.run stock).result ≡ Ok a
    → GivesAs view given ((f a).run stock).result → GivesAs view given ((o >>= f).run stock).result
then_gives stock o f view given a e h = gives_same view given ((f a).run stock).result ((o >>= f).run stock).result (then_result stock o f a e) h

pub ruleset stages = (then_result, then_stops, each_goes, each_stops, then_refuses)
