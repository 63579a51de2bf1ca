-- What calls tell, one after the other.
use Rattle.std.proofs.Common.{◌≡◌, ℕ, zero, suc, ◌+◌, ◌-◌, ◌^◌, min, sym, ap, ap₂, ◌∙◌, subst, List, [], ◌∷◌, ◌++◌, Result, Ok, Err, zero-add, add-zero, add-one, append_assoc, append-nil, arith, ◌<◌, length, drop, get_or, drop-cons}
use Rattle.std.specs.Result.{IsErrAnd}
use Rattle.ld_rec.specs.declared.stop.Stop.{Stop}
use Rattle.ld_rec.specs.declared.stop.Stop.TheVariants as stop
use Rattle.ld_rec.specs.Outcome.{Outcome, Answer, Stock, after, with_value, continued, one_more, each}
use Rattle.ld_term.specs.Comes as comes
use Rattle.ld_term.specs.Comes.{Stops, refused}
use Rattle.ld_term.proofs.Along.{value, given, stops_first}
use Rattle.ld_context.specs.declared.runs.Runs.{Runs}
use Rattle.ld_context.specs.Counts.{UnlessNoMemory}
use Rattle.ld_context.specs.Tells.{raised, grown, Tally, tallied, Tells}

-- ---- counts

min_more : (c a b m : ℕ) → min (min (c + a) m + b) m ≡ min (c + (a + b)) m
min_more c a b m = omega arith

pub raised_more : (count a b : ℕ) → raised (raised count a) b ≡ raised count (a + b)
raised_more count zero b = ap (raised count) (sym (zero-add b))
raised_more count (suc a) zero = ap (raised count) (sym (add-zero (suc a)))
raised_more count (suc a) (suc b) =
    let e : suc a + suc b ≡ suc (a + suc b) = omega arith in
    min_more count (suc a) (suc b) (2 ^ 64 - 1) ∙ ap (λ n. min (count + n) (2 ^ 64 - 1)) e ∙ ap (raised count) (sym e)

pub grown_more : (runs : Runs) (a b : ℕ) (xs ys : List (List ℕ)) → grown (grown runs a xs) b ys ≡ grown runs (a + b) (xs ++ ys)
grown_more runs a b xs ys = ap₂ (λ n l. record { count = n; read = l }) (raised_more runs.count a b) (append_assoc runs.read xs ys)

pub grown_none : (runs : Runs) → grown runs 0 [] ≡ runs
grown_none runs = ap (λ l. record { count = runs.count; read = l }) (append-nil runs.read)

-- ---- one part after another

pub tallied_after : {A : Type 0} (runs : Runs) (r : ℕ) (xs : List (List ℕ)) (o : Outcome A) → tallied runs (after r xs o) ≡ tallied (grown runs r xs) o
tallied_after runs r xs o = ap (λ g. record { runs = g; result = o.result }) (sym (grown_more runs r o.runs xs o.reads))

pub tallied_value : {A : Type 0} (runs : Runs) (a : A) → tallied runs (value a) ≡ record { runs = runs; result = Ok a }
tallied_value runs a = ap (λ g. record { runs = g; result = Ok a }) (grown_none runs)

pub tallied_refused : {A : Type 0} (runs : Runs) (e : Stop) → tallied {A = A} runs (refused e) ≡ record { runs = runs; result = Err e }
tallied_refused runs e = ap (λ g. record { runs = g; result = Err e }) (grown_none runs)

module _ {A B : Type 0} (old mid : Runs) (o : Outcome A) (f : A → Outcome B) where
  pub then_ok : (a : A) → tallied old o ≡ record { runs = mid; result = Ok a } → tallied old (continued o f) ≡ tallied mid (f a)
  then_ok a h =
      ap (λ r. tallied old (with_value o.runs o.reads r f)) (ap (λ (t : Tally A). t.result) h) ∙ tallied_after old o.runs o.reads (f a)
      ∙ ap (λ g. tallied g (f a)) (ap (λ (t : Tally A). t.runs) h)

  pub then_err : (e : Stop) → tallied old o ≡ record { runs = mid; result = Err e } → tallied old (continued o f) ≡ record { runs = mid; result = Err e }
  then_err e h =
      ap (λ r. tallied old (with_value o.runs o.reads r f)) (ap (λ (t : Tally A). t.result) h)
      ∙ ap (λ g. record { runs = g; result = Err e }) (ap (λ (t : Tally A). t.runs) h)

-- a last part that only looks at the value
pub then_value : {A B : Type 0} (old new : Runs) (o : Outcome A) (g : A → B) (a : A) → tallied old o ≡ record { runs = new; result = Ok a }
    → tallied old (continued o (λ x. value (g x))) ≡ record { runs = new; result = Ok (g a) }
then_value old new o g a h = then_ok old new o (λ x. value (g x)) a h ∙ tallied_value new (g a)

-- ---- what a call tells

module _ {A B : Type 0} (view : A → B) (new : Runs) where
  pub tells_along : (r : Result A Stop) (s t : Tally B) → s ≡ t → Tells view new r t → Tells view new r s
  tells_along (Ok a) s t e h = e ∙ h
  tells_along (Err stop.NoMemory) s t e h = tt
  tells_along (Err (stop.Code code)) s t e h = e ∙ h
  tells_along (Err (stop.Own own)) s t e h = e ∙ h
  tells_along (Err (stop.Missing iri)) s t e h = e ∙ h

  -- an error that stays
  pub tells_err : {C D : Type 0} (seen : C → D) (old : Runs) (o : Outcome D) (f : D → Outcome B) (e : Stop) → Tells seen new (Err e) (tallied old o) → Tells view new (Err e) (tallied old (continued o f))
  tells_err seen old o f stop.NoMemory h = tt
  tells_err seen old o f (stop.Code code) h = then_err old new o f (stop.Code code) h
  tells_err seen old o f (stop.Own own) h = then_err old new o f (stop.Own own) h
  tells_err seen old o f (stop.Missing iri) h = then_err old new o f (stop.Missing iri) h

  -- another view of what is answered doesn't matter to an error
  pub tells_same_err : {C : Type 0} (seen : C → B) (t : Tally B) (e : Stop) → Tells seen new (Err e) t → Tells view new (Err e) t
  tells_same_err seen t stop.NoMemory h = tt
  tells_same_err seen t (stop.Code code) h = h
  tells_same_err seen t (stop.Own own) h = h
  tells_same_err seen t (stop.Missing iri) h = h

  -- after a first part that is done
  pub tells_then : {C : Type 0} (r : Result A Stop) (old mid : Runs) (o : Outcome C) (f : C → Outcome B) (c : C) → tallied old o ≡ record { runs = mid; result = Ok c }
      → Tells view new r (tallied mid (f c)) → Tells view new r (tallied old (continued o f))
  tells_then r old mid o f c h k = tells_along r (tallied old (continued o f)) (tallied mid (f c)) (then_ok old mid o f c h) k

  -- after a first part that asks for nothing
  pub tells_given : {C : Type 0} (r : Result A Stop) (old : Runs) (o : comes.Runs C) (f : C → comes.Runs B) (stock : Stock) (c : C) → ((stock : Stock) → o stock ≡ value c)
      → Tells view new r (tallied old (f c stock)) → Tells view new r (tallied old (continued (o stock) (λ a. f a stock)))
  tells_given r old o f stock c h k = tells_along r (tallied old (continued (o stock) (λ a. f a stock))) (tallied old (f c stock)) (ap (tallied old) (given o c f h stock)) k

module _ {A B : Type 0} (view : A → B) (runs : Runs) where
  -- a refusal without a question
  pub tells_stop : (e : Stop) (o : comes.Runs B) (stock : Stock) → Stops e o → Tells view runs (Err e) (tallied runs (o stock))
  tells_stop stop.NoMemory o stock h = tt
  tells_stop (stop.Code code) o stock h = ap (tallied runs) (h stock) ∙ tallied_refused runs (stop.Code code)
  tells_stop (stop.Own own) o stock h = ap (tallied runs) (h stock) ∙ tallied_refused runs (stop.Own own)
  tells_stop (stop.Missing iri) o stock h = ap (tallied runs) (h stock) ∙ tallied_refused runs (stop.Missing iri)

  -- an error that `?` passes, of a first part that asks for nothing
  pub tells_passed : {C : Type 0} (r : Result A Stop) (e : Stop) (o : comes.Runs C) (f : C → comes.Runs B) (stock : Stock) → IsErrAnd r (λ e'. e' ≡ e) → Stops e o
      → Tells view runs r (tallied runs (continued (o stock) (λ a. f a stock)))
  tells_passed (Ok a) e o f stock h k = absurd h
  tells_passed (Err e') e o f stock h k = subst (λ x. Tells view runs (Err x) (tallied runs (continued (o stock) (λ a. f a stock)))) (sym h) (tells_stop e (λ s. continued (o s) (λ a. f a s)) stock (stops_first e o f k))

  -- what comes of a call that asks for nothing
  pub tells_comes : (r : Result A Stop) (f : A → Answer B) (o : comes.Runs B) (stock : Stock) → ((a : A) → (f a).run stock ≡ value (view a)) → comes.ComesOf (λ a. (f a).run) r o → Tells view runs r (tallied runs (o stock))
  tells_comes (Ok a) f o stock e h = ap (tallied runs) (h stock ∙ e a) ∙ tallied_value runs (view a)
  tells_comes (Err e') f o stock e h = tells_stop e' o stock h

-- ---- lists

pub drop_next : {A : Type 0} (xs : List A) (i : ℕ) (x : A) → i < length xs → x ≡ get_or xs i x → drop i xs ≡ x ∷ drop (i + 1) xs
drop_next xs i x lt is = drop-cons xs i x lt ∙ ap₂ (λ y n. y ∷ drop n xs) (sym is) (sym (add-one i))

module _ {X S : Type 0} (step : X → S → Answer S) (stock : Stock) where
  pub each_next : (old mid : Runs) (x : X) (xs : List X) (s t : S) → tallied old ((step x s).run stock) ≡ record { runs = mid; result = Ok t }
      → tallied old ((each step (x ∷ xs) s).run stock) ≡ tallied mid ((each step xs t).run stock)
  each_next old mid x xs s t h = then_ok old mid ((step x s).run stock) (λ a. (each step xs a).run stock) t h

-- ---- counted invocations

pub tallied_counted : {A : Type 0} (old mid : Runs) (o : Outcome A) → mid ≡ record old { count = min (old.count + 1) (2 ^ 64 - 1) } → tallied old (one_more o) ≡ tallied mid o
tallied_counted old mid o e =
    let turned : o.runs + 1 ≡ 1 + o.runs = omega arith in
    ap (λ n. record { runs = record { count = n; read = old.read ++ o.reads }; result = o.result }) (ap (raised old.count) turned ∙ sym (raised_more old.count 1 o.runs))
    ∙ ap (λ g. tallied g o) (sym e)

-- ---- what is told of a whole call

module _ {A B : Type 0} (view : A → B) (old new : Runs) (o : Outcome B) where
  pub told_count : (r : Result A Stop) (n : ℕ) → o.runs ≡ suc n → Tells view new r (tallied old o) → UnlessNoMemory r (new.count ≡ min (old.count + o.runs) (2 ^ 64 - 1))
  told_count r n is = go r
    where
      here : new.count ≡ raised old.count o.runs → new.count ≡ min (old.count + o.runs) (2 ^ 64 - 1)
      here h = h ∙ ap (raised old.count) is ∙ ap (λ k. min (old.count + k) (2 ^ 64 - 1)) (sym is)

      go : (r : Result A Stop) → Tells view new r (tallied old o) → UnlessNoMemory r (new.count ≡ min (old.count + o.runs) (2 ^ 64 - 1))
      go (Ok a) h = here (ap (λ (t : Tally B). t.runs.count) (sym h))
      go (Err stop.NoMemory) h = tt
      go (Err (stop.Code code)) h = here (ap (λ (t : Tally B). t.runs.count) (sym h))
      go (Err (stop.Own own)) h = here (ap (λ (t : Tally B). t.runs.count) (sym h))
      go (Err (stop.Missing iri)) h = here (ap (λ (t : Tally B). t.runs.count) (sym h))

  pub told_read : (r : Result A Stop) → Tells view new r (tallied old o) → UnlessNoMemory r (new.read ≡ old.read ++ o.reads)
  told_read (Ok a) h = ap (λ (t : Tally B). t.runs.read) (sym h)
  told_read (Err stop.NoMemory) h = tt
  told_read (Err (stop.Code code)) h = ap (λ (t : Tally B). t.runs.read) (sym h)
  told_read (Err (stop.Own own)) h = ap (λ (t : Tally B). t.runs.read) (sym h)
  told_read (Err (stop.Missing iri)) h = ap (λ (t : Tally B). t.runs.read) (sym h)
