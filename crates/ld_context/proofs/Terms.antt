-- A term on the way to be defined, with the scoped contexts that it waits for.
use Rattle.std.proofs.Common.{◌≡◌, refl, sym, ap, subst, ◌∙◌, ℕ, List, Bool, false, Result, Ok, Err}
use Rattle.std.specs.Prelude.{if◌then◌else◌}
use Rattle.ld_tree.specs.Names.{Sorted}
use Rattle.ld_tree.specs.declared.tree.Tree.{Tree}
use Rattle.ld_rec.specs.declared.stop.Stop.{Stop}
use Rattle.ld_rec.specs.declared.stop.Stop.TheVariants as stop
use Rattle.ld_codes.specs.declared.code.Code.TheVariants.{InvalidScopedContext}
use Rattle.ld_rec.specs.Outcome.{Outcome, Stock, Refuses, give, after}
use Rattle.ld_rec.specs.Processing.{unless_keyword, context_keywords}
use Rattle.ld_rec.specs.Records.{Context}
use Rattle.ld_rec.specs.Terms as terms
use Rattle.ld_rec.specs.Terms.{Made, Check, defined}
use Rattle.ld_rec.specs.Words.{is_among}
use Rattle.ld_term.specs.Comes as comes
use Rattle.ld_term.specs.declared.run.Next.{Next}
use Rattle.ld_term.specs.declared.run.Next.TheVariants as next
use Rattle.ld_term.specs.declared.run.Waiting.{Waiting}
use Rattle.ld_term.specs.NextSizes.{NextFits}
use Rattle.ld_term.specs.Runs.{from_next, from_waiting, Resumes, scoped_stop}
use Rattle.ld_term.proofs.Along.{value}
use Rattle.ld_term.proofs.Resuming.{resumes_told}
use Rattle.ld_context.specs.Counts.{UnlessNoMemory}
use Rattle.ld_context.specs.declared.runs.Runs.{Runs}
use Rattle.ld_context.specs.Starts.{term_outcome, left_outcome, Starts}
use Rattle.ld_context.specs.Tells.{Tally, tallied, grown, Tells}
use Rattle.ld_context.proofs.Telling.{tallied_after, tallied_value, tallied_refused}

-- what is left comes to the same as the whole, and the half-made definitions fit
pub record Defining (check : Check) (rest : terms.Rest) (local : Sorted Tree) (stock : Stock) (whole : Tally Made) (runs : Runs) (next : Next) (made : Made) : Type 0 where
  pub same : whole ≡ tallied runs (left_outcome check rest local next made stock)
  pub fits : NextFits local.0 made.table next

module _ (check : Check) (rest : terms.Rest) (local : Sorted Tree) (stock : Stock) where
  pub term_is : (term : List ℕ) (made : Made) → term_outcome check rest local term made stock ≡ (defined check rest local term made).run stock
  unfolding term_outcome
  term_is term made = refl

  pub left_is : (n : Next) (made : Made) → left_outcome check rest local n made stock ≡ (from_next check rest local n made).run stock
  unfolding left_outcome
  left_is n made = refl

  left_done : (made : Made) → left_outcome check rest local next.Done made stock ≡ value made
  unfolding left_outcome
  left_done made = refl

  -- nothing is left
  pub tells_done : (whole : Tally Made) (runs : Runs) (n : Next) (made : Made) → n ≡ next.Done → Defining check rest local stock whole runs n made → whole ≡ record { runs = runs; result = Ok made }
  tells_done whole runs n made is h = h.same ∙ ap (λ k. tallied runs (left_outcome check rest local k made stock)) is ∙ ap (tallied runs) (left_done made) ∙ tallied_value runs made

  -- a name that is no keyword of a context
  pub not_keyword : (runs : Runs) (e : List ℕ × Tree) (made : Made) → is_among context_keywords e.0 ≡ false
      → tallied runs ((unless_keyword check rest local e made).run stock) ≡ tallied runs (term_outcome check rest local e.0 made stock)
  not_keyword runs e made is = ap (λ b. tallied runs ((if b then give made else defined check rest local e.0 made).run stock)) is ∙ ap (tallied runs) (sym (term_is e.0 made))

  module _ (old mid : Runs) (made n : Made) (waiting : Waiting) (tree : Tree) (whole : Tally Made) (checked : Outcome Context) (counted : mid ≡ grown old checked.runs checked.reads) (before : Next)
      (is : before ≡ next.Check waiting) (same : whole ≡ tallied old (left_outcome check rest local before made stock)) where
    here : whole ≡ tallied old (left_outcome check rest local (next.Check waiting) made stock)
    here = same ∙ ap (λ k. tallied old (left_outcome check rest local k made stock)) is

    -- a scoped context was tried, and the definition goes on
    pub resumed_ok : (later : Next) → left_outcome check rest local (next.Check waiting) made stock ≡ after checked.runs checked.reads (left_outcome check rest local later n stock)
        → whole ≡ tallied mid (left_outcome check rest local later n stock)
    resumed_ok later k =
        here ∙ ap (tallied old) k ∙ tallied_after old checked.runs checked.reads (left_outcome check rest local later n stock) ∙ ap (λ g. tallied g (left_outcome check rest local later n stock)) (sym counted)

    failed : (e : Stop) → left_outcome check rest local (next.Check waiting) made stock ≡ record { runs = checked.runs; reads = checked.reads; result = Err e } → whole ≡ record { runs = mid; result = Err e }
    failed e k = here ∙ ap (tallied old) k ∙ ap (λ g. record { runs = g; result = Err e }) (sym counted)

    -- or it fails
    pub resumed_err : {A B : Type 0} (view : B → Made) (rest' : A → Outcome Made) (e : Stop) → Resumes rest' (Err e) checked (left_outcome check rest local (next.Check waiting) made stock) → Tells view mid (Err e) whole
    resumed_err view rest' stop.NoMemory k = tt
    resumed_err view rest' (stop.Code code) k = failed (stop.Code code) k
    resumed_err view rest' (stop.Own own) k = failed (stop.Own own) k
    resumed_err view rest' (stop.Missing iri) k = failed (stop.Missing iri) k

  -- ---- a scoped context is tried

  abbrev pub outcome_on : Context → Waiting → Outcome Context
  outcome_on context waiting = (check context waiting.ready.scoped).run stock

  -- over the context as it was
  pub moved : (a b : Context) (table : Sorted Bool) (waiting : Waiting) (result : Result Next Stop) (g : Next → Outcome Made) → a ≡ b
      → ((c : Context) → (outcome_on a waiting).result ≡ Ok c → Resumes g result (outcome_on a waiting) (left_outcome check rest local (next.Check waiting) (record { context = a; table = table }) stock))
      → (c : Context) → (outcome_on b waiting).result ≡ Ok c → Resumes g result (outcome_on b waiting) (left_outcome check rest local (next.Check waiting) (record { context = b; table = table }) stock)
  moved a b table waiting result g e h =
      subst (λ x. (c : Context) → (outcome_on x waiting).result ≡ Ok c → Resumes g result (outcome_on x waiting) (left_outcome check rest local (next.Check waiting) (record { context = x; table = table }) stock)) e h

  -- it fails, and so does the definition
  module _ (old mid : Runs) (made : Made) (waiting : Waiting) (whole : Tally Made) (before : Next) (is : before ≡ next.Check waiting) (same : whole ≡ tallied old (left_outcome check rest local before made stock)) where
    scoped_fails : (e e' : Stop) → mid ≡ grown old (outcome_on made.context waiting).runs (outcome_on made.context waiting).reads
        → (from_waiting check rest local waiting made).run stock ≡ record { runs = (outcome_on made.context waiting).runs; reads = (outcome_on made.context waiting).reads; result = Err e' } → whole ≡ record { runs = mid; result = Err e' }
    scoped_fails e e' counted k = failed old mid made made waiting waiting.ready.scoped whole (outcome_on made.context waiting) counted before is same e' (left_is (next.Check waiting) made ∙ k)

    g : Next → Outcome Made
    g n = left_outcome check rest local n made stock

    pub refused_scoped : {B : Type 0} (view : B → Made) (e : Stop) → UnlessNoMemory {A = Unit {0}} (Err e) (mid ≡ grown old (outcome_on made.context waiting).runs (outcome_on made.context waiting).reads)
        → Refuses e (outcome_on made.context waiting).result → Tells view mid (Err (scoped_stop e)) whole
    refused_scoped view stop.NoMemory counted refuses = tt
    refused_scoped view (stop.Code code) counted refuses = scoped_fails (stop.Code code) (stop.Code InvalidScopedContext) counted (resumes_told check rest local waiting made stock g (stop.Code code) refuses)
    refused_scoped view (stop.Own own) counted refuses = scoped_fails (stop.Own own) (stop.Own own) counted (resumes_told check rest local waiting made stock g (stop.Own own) refuses)
    refused_scoped view (stop.Missing iri) counted refuses = scoped_fails (stop.Missing iri) (stop.Missing iri) counted (resumes_told check rest local waiting made stock g (stop.Missing iri) refuses)

-- ---- the two calls, over one stock

pub starts : {A B : Type 0} (f : A → comes.Runs B) (g : A → Outcome B) (o : comes.Runs B) (p : Outcome B) (stock : Stock) (r : Result A Stop) → ((a : A) → g a ≡ f a stock) → p ≡ o stock → comes.ComesOf f r o → Starts g r p
starts f g o p stock (Ok a) same is h = is ∙ h stock ∙ sym (same a)
starts f g o p stock (Err stop.NoMemory) same is h = tt
starts f g o p stock (Err (stop.Code code)) same is h = is ∙ h stock
starts f g o p stock (Err (stop.Own own)) same is h = is ∙ h stock
starts f g o p stock (Err (stop.Missing iri)) same is h = is ∙ h stock

pub resumes : {A : Type 0} (f g : A → Outcome Made) (checked : Outcome Context) (o p : Outcome Made) (r : Result A Stop) → ((a : A) → g a ≡ f a) → p ≡ o → Resumes f r checked o → Resumes g r checked p
resumes f g checked o p (Ok a) same is h = is ∙ h ∙ ap (after checked.runs checked.reads) (sym (same a))
resumes f g checked o p (Err stop.NoMemory) same is h = tt
resumes f g checked o p (Err (stop.Code code)) same is h = is ∙ h
resumes f g checked o p (Err (stop.Own own)) same is h = is ∙ h
resumes f g checked o p (Err (stop.Missing iri)) same is h = is ∙ h

-- a refusal at the start
pub tells_start : {A B : Type 0} (view : B → Made) (rest : A → Outcome Made) (runs : Runs) (e : Stop) (o : Outcome Made) → Starts rest (Err e) o → Tells view runs (Err e) (tallied runs o)
tells_start view rest runs stop.NoMemory o h = tt
tells_start view rest runs (stop.Code code) o h = ap (tallied runs) h ∙ tallied_refused runs (stop.Code code)
tells_start view rest runs (stop.Own own) o h = ap (tallied runs) h ∙ tallied_refused runs (stop.Own own)
tells_start view rest runs (stop.Missing iri) o h = ap (tallied runs) h ∙ tallied_refused runs (stop.Missing iri)
