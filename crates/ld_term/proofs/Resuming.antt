-- What is left of a definition, once its scoped context was checked.
use Rattle.std.proofs.Common.{◌≡◌, refl, sym, ap, ap₂, ◌∙◌, ℕ, List, [], ◌∷◌, ◌++◌, length, Ok, Err, Result, add-zero, append-nil, ◌+◌}
use Rattle.ld_tree.specs.Names.{Sorted}
use Rattle.ld_tree.specs.declared.tree.Tree.{Tree}
use Rattle.ld_codes.specs.declared.code.Code.TheVariants.{InvalidScopedContext}
use Rattle.ld_rec.specs.declared.stop.Stop.{Stop}
use Rattle.ld_rec.specs.declared.stop.Stop.TheVariants as stop
use Rattle.ld_rec.specs.Outcome.{Answer, Outcome, Stock, Refuses, give, after, scoped_result, continued, with_value}
use Rattle.ld_rec.specs.Records.{Context}
use Rattle.ld_rec.specs.Terms as terms
use Rattle.ld_rec.specs.Terms.{Made, Check, Define, nested, with_scoped}
use Rattle.ld_term.specs.declared.run.Waiting.{Waiting}
use Rattle.ld_term.specs.declared.half.Half.{Half}
use Rattle.ld_term.specs.declared.half.Step.{Step}
use Rattle.ld_term.specs.declared.half.Step.TheVariants.{Done, Check as ToCheck}
use Rattle.ld_term.specs.Comes.{Runs, Same, Stops, ComesOf, refused}
use Rattle.ld_term.specs.Waits.{from_half, from_step, from_stack, before, closed_and_put, draft_of}
use Rattle.ld_term.specs.Runs.{from_waiting, Resumes, scoped_stop}
use Rattle.ld_term.proofs.Along.{inner}

-- a refusal after questions
abbrev pub refused_after : {A : Type 0} → ℕ → List (List ℕ) → Stop → Outcome A
refused_after r xs e = record { runs = r; reads = xs; result = Err e }

after_refused : {A : Type 0} (r : ℕ) (xs : List (List ℕ)) (e : Stop) → after {A = A} r xs (refused e) ≡ refused_after r xs e
after_refused r xs e = ap₂ (λ n l. record { runs = n; reads = l; result = Err e }) (add-zero r) (append-nil xs)

module _ (check : Check) (rest : terms.Rest) (local : Sorted Tree) (stock : Stock) (r : ℕ) (xs : List (List ℕ)) where
  -- what was asked for by the topmost definition comes before all
  lifted : (step next : Step) (m n : Made) → ((define : Define) → (from_step check define rest local step m).run stock ≡ after r xs ((from_step check define rest local next n).run stock))
      → (halves : List Half) (room : ℕ) → (from_stack check rest local room halves step m).run stock ≡ after r xs ((from_stack check rest local room halves next n).run stock)
  lifted step next m n h [] room = h (nested check rest local room)
  lifted step next m n h (f ∷ fs) room =
      ap (λ q. continued q (λ x. (from_half check (nested check rest local room) rest local f x).run stock)) (lifted step next m n h fs (before room))
      ∙ inner r ((from_stack check rest local (before room) fs next n).run stock).runs xs ((from_stack check rest local (before room) fs next n).run stock).reads ((from_stack check rest local (before room) fs next n).run stock).result
      (λ x. (from_half check (nested check rest local room) rest local f x).run stock)

  stopped : (step : Step) (m : Made) (e : Stop) → ((define : Define) → (from_step check define rest local step m).run stock ≡ refused_after r xs e)
      → (halves : List Half) (room : ℕ) → (from_stack check rest local room halves step m).run stock ≡ refused_after r xs e
  stopped step m e h [] room = h (nested check rest local room)
  stopped step m e h (f ∷ fs) room = ap (λ q. continued q (λ x. (from_half check (nested check rest local room) rest local f x).run stock)) (stopped step m e h fs (before room))

module _ (check : Check) (rest : terms.Rest) (local : Sorted Tree) (waiting : Waiting) (m : Made) (stock : Stock) where
  abbrev pub checked : Outcome Context
  checked = (check m.context waiting.ready.scoped).run stock

  abbrev pub following : Answer Made
  following = closed_and_put rest waiting.ready.task.term waiting.ready.entries waiting.ready.task.previous (with_scoped rest waiting.ready.scoped (draft_of waiting.ready.task m))

  went : (context : Context) → checked.result ≡ Ok context → (define : Define) → (from_step check define rest local (ToCheck waiting.ready) m).run stock ≡ after checked.runs checked.reads (following.run stock)
  went context e define = ap (λ q. with_value checked.runs checked.reads (scoped_result q) (λ _. following.run stock)) e

  module _ (context : Context) (told : checked.result ≡ Ok context) where
    pub resumes_ok : {A : Type 0} (g : A → Runs Made) (result : Result A Stop) (n : Made) → Same following (give n) → ComesOf g result (from_stack check rest local (length local.0) waiting.stack.items Done n).run
        → Resumes (λ x. g x stock) result checked ((from_waiting check rest local waiting m).run stock)
    resumes_ok {A = A} g result n put h = go result h
      where
        here : (from_waiting check rest local waiting m).run stock ≡ after checked.runs checked.reads ((from_stack check rest local (length local.0) waiting.stack.items Done n).run stock)
        here = lifted check rest local stock checked.runs checked.reads (ToCheck waiting.ready) Done m n (λ define. went context told define ∙ ap (after checked.runs checked.reads) (put stock)) waiting.stack.items (length local.0)

        err : (e : Stop) → (from_stack check rest local (length local.0) waiting.stack.items Done n).run stock ≡ refused e → (from_waiting check rest local waiting m).run stock ≡ refused_after checked.runs checked.reads e
        err e k = here ∙ ap (after checked.runs checked.reads) k ∙ after_refused checked.runs checked.reads e

        go : (result : Result A Stop) → ComesOf g result (from_stack check rest local (length local.0) waiting.stack.items Done n).run → Resumes (λ x. g x stock) result checked ((from_waiting check rest local waiting m).run stock)
        go (Ok a) k = here ∙ ap (after checked.runs checked.reads) (k stock)
        go (Err stop.NoMemory) k = tt
        go (Err (stop.Code code)) k = err (stop.Code code) (k stock)
        go (Err (stop.Own own)) k = err (stop.Own own) (k stock)
        go (Err (stop.Missing iri)) k = err (stop.Missing iri) (k stock)

    ends : (e : Stop) → following.run stock ≡ refused e → (from_waiting check rest local waiting m).run stock ≡ refused_after checked.runs checked.reads e
    ends e k = stopped check rest local stock checked.runs checked.reads (ToCheck waiting.ready) m e (λ define. went context told define ∙ ap (after checked.runs checked.reads) k ∙ after_refused checked.runs checked.reads e) waiting.stack.items (length local.0)

    -- what follows it fails
    pub resumes_err : {A : Type 0} (g : A → Outcome Made) (e : Stop) → Stops e following.run → Resumes g (Err e) checked ((from_waiting check rest local waiting m).run stock)
    resumes_err g stop.NoMemory k = tt
    resumes_err g (stop.Code code) k = ends (stop.Code code) (k stock)
    resumes_err g (stop.Own own) k = ends (stop.Own own) (k stock)
    resumes_err g (stop.Missing iri) k = ends (stop.Missing iri) (k stock)

  failed : (e e' : Stop) → checked.result ≡ Err e → scoped_result {A = Context} (Err e) ≡ Err e' → (from_waiting check rest local waiting m).run stock ≡ refused_after checked.runs checked.reads e'
  failed e e' k to = stopped check rest local stock checked.runs checked.reads (ToCheck waiting.ready) m e'
      (λ define. ap (λ q. with_value checked.runs checked.reads (scoped_result q) (λ _. following.run stock)) k ∙ ap (λ q. with_value checked.runs checked.reads q (λ _. following.run stock)) to) waiting.stack.items (length local.0)

  -- the scoped context fails
  pub resumes_told : {A : Type 0} (g : A → Outcome Made) (e : Stop) → Refuses e checked.result → Resumes g (Err (scoped_stop e)) checked ((from_waiting check rest local waiting m).run stock)
  resumes_told g stop.NoMemory k = tt
  resumes_told g (stop.Code code) k = failed (stop.Code code) (stop.Code InvalidScopedContext) k refl
  resumes_told g (stop.Own own) k = failed (stop.Own own) (stop.Own own) k refl
  resumes_told g (stop.Missing iri) k = failed (stop.Missing iri) (stop.Missing iri) k refl
