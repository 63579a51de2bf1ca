-- A step taken off the stack or put on it leaves what is left the same.
use Rattle.std.proofs.Common.{◌≡◌, refl, sym, ap, ◌∙◌, subst, ℕ, zero, suc, ◌+◌, ◌<◌, ◌≤◌, List, [], ◌∷◌, ◌++◌, length, Ok, Err, Result, Bool, true, false, cond, is_none, arith, length-append, ◌*◌, add-zero, append-nil}
use Rattle.ld_tree.specs.Names.{Sorted}
use Rattle.ld_tree.specs.Maps.{find}
use Rattle.ld_tree.specs.declared.tree.Tree.{Tree}
use Rattle.ld_codes.specs.declared.code.Code.TheVariants.{InvalidScopedContext}
use Rattle.ld_rec.specs.declared.stop.Stop.{Stop}
use Rattle.ld_rec.specs.declared.stop.Stop.TheVariants as stop
use Rattle.ld_rec.specs.Outcome.{Answer, Outcome, Stock, Refuses, give, after, as_scoped, scoped_result, scoped_outcome, continued, with_value, ◌>>=◌}
use Rattle.ld_rec.specs.Records.{Context}
use Rattle.ld_rec.specs.Terms as terms
use Rattle.ld_rec.specs.Terms.{Made, Check, Define, define_step, nested, with_scoped}
use Rattle.ld_term.specs.declared.run.Next.{Next}
use Rattle.ld_term.specs.declared.run.Waiting.{Waiting}
use Rattle.ld_term.specs.declared.half.Half.{Half}
use Rattle.ld_term.specs.declared.half.Step.{Step}
use Rattle.ld_term.specs.declared.half.Step.TheVariants.{Done, Need, Check as ToCheck}
use Rattle.ld_term.specs.Comes.{Runs, Alike, Same, Stops, ComesOf, Comes, refused}
use Rattle.ld_term.specs.Waits.{from_half, from_step, from_stack, before, closed_and_put, draft_of}
use Rattle.ld_term.specs.Runs.{from_waiting, from_next, Told, Resumes, scoped_stop}
use Rattle.ld_term.specs.Sizes.{halves_of, names_left, weight, weights, wait_weight, Grows}
use Rattle.ld_term.proofs.Along.{alike_first, alike_trans, stops_first, stops_along, after_none, then, assoc}
use Rattle.ld_term.proofs.Shrinking.{few_halves, left_grows}

module _ (check : Check) (rest : terms.Rest) (local : Sorted Tree) where
  module _ (half : Half) (name : List ℕ) (m : Made) where
    pub push : (step : Step) (n : Made) → ((define : Define) → Same (define_step check define rest local name m) (from_step check define rest local step n))
        → (halves : List Half) (room : ℕ) → length halves < room → Same (from_stack check rest local room halves (Need half name) m) (from_stack check rest local room (halves ++ half ∷ []) step n)
    unfolding nested
    push step n h halves zero lt = absurd (omega arith)
    push step n h [] (suc room) lt = alike_first (define_step check (nested check rest local room) rest local name m).run (from_step check (nested check rest local room) rest local step n).run (λ x. (from_half check (nested check rest local (suc room)) rest local half x).run) (h (nested check rest local room))
    push step n h (f ∷ fs) (suc room) lt = alike_first (from_stack check rest local room fs (Need half name) m).run (from_stack check rest local room (fs ++ half ∷ []) step n).run (λ x. (from_half check (nested check rest local (suc room)) rest local f x).run) (push step n h fs room (omega arith))

    pub push_err : (e : Stop) → ((define : Define) → Stops e (define_step check define rest local name m).run)
        → (halves : List Half) (room : ℕ) → length halves < room → Stops e (from_stack check rest local room halves (Need half name) m).run
    unfolding nested
    push_err e h halves zero lt = absurd (omega arith)
    push_err e h [] (suc room) lt = stops_first e (define_step check (nested check rest local room) rest local name m).run (λ x. (from_half check (nested check rest local (suc room)) rest local half x).run) (h (nested check rest local room))
    push_err e h (f ∷ fs) (suc room) lt = stops_first e (from_stack check rest local room fs (Need half name) m).run (λ x. (from_half check (nested check rest local (suc room)) rest local f x).run) (push_err e h fs room (omega arith))

  module _ (half : Half) (m : Made) where
    pub pop : (step : Step) (n : Made) → ((define : Define) → Same (from_half check define rest local half m) (from_step check define rest local step n))
        → (halves : List Half) (room : ℕ) → Same (from_stack check rest local room (halves ++ half ∷ []) Done m) (from_stack check rest local room halves step n)
    pop step n h [] room = λ stock. after_none ((from_half check (nested check rest local room) rest local half m).run stock) ∙ h (nested check rest local room) stock
    pop step n h (f ∷ fs) room = alike_first (from_stack check rest local (before room) (fs ++ half ∷ []) Done m).run (from_stack check rest local (before room) fs step n).run (λ x. (from_half check (nested check rest local room) rest local f x).run) (pop step n h fs (before room))

    pub pop_err : (e : Stop) → ((define : Define) → Stops e (from_half check define rest local half m).run)
        → (halves : List Half) (room : ℕ) → Stops e (from_stack check rest local room (halves ++ half ∷ []) Done m).run
    pop_err e h [] room = stops_along e (from_stack check rest local room (half ∷ []) Done m).run (from_half check (nested check rest local room) rest local half m).run (λ stock. after_none ((from_half check (nested check rest local room) rest local half m).run stock)) (h (nested check rest local room))
    pop_err e h (f ∷ fs) room = stops_first e (from_stack check rest local (before room) (fs ++ half ∷ []) Done m).run (λ x. (from_half check (nested check rest local room) rest local f x).run) (pop_err e h fs (before room))

weights-append : (halves : List Half) (half : Half) → weights (halves ++ half ∷ []) ≡ weights halves + wait_weight half.wait
weights-append [] half = omega arith
weights-append (f ∷ fs) half = omega (arith, weights-append fs half)

-- a run that gives o, with so much left to do at most
pub record Run (rest : terms.Rest) (local : Sorted Tree) (o : Check → Answer Made) (halves : List Half) (step : Step) (m : Made) (most : ℕ) : Type 0 where
  pub same : (check : Check) → Same (o check) (from_stack check rest local (length local.0) halves step m)
  pub fits : length halves + halves_of step + names_left local.0 m.table ≤ length local.0
  pub size : 13 * names_left local.0 m.table + weights halves + weight step ≤ most

module _ (rest : terms.Rest) (local : Sorted Tree) (o : Check → Answer Made) (halves : List Half) (half : Half) (m : Made) (most : ℕ) where
  module _ (all : List Half) (is : all ≡ halves ++ half ∷ []) (start : Step) (done : start ≡ Done) (r : Run rest local o all start m most) where
    at : Run rest local o (halves ++ half ∷ []) Done m most
    at = subst (λ hs. Run rest local o hs Done m most) is (subst (λ s. Run rest local o all s m most) done r)

    pub popped : (step : Step) (n : Made) → ((check : Check) (define : Define) → Same (from_half check define rest local half m) (from_step check define rest local step n))
        → Grows m.table n.table → weight step < wait_weight half.wait → Run rest local o halves step n most
    popped step n h g lt = record {
      same = λ check. alike_trans (at.same check) (pop check rest local half m step n (h check) halves (length local.0));
      fits = omega (arith, at.fits, few_halves step, left_grows local.0 m.table n.table g, length-append halves (half ∷ []));
      size = omega (arith, at.size, left_grows local.0 m.table n.table g, weights-append halves half);
    }

    pub popped_less : (step : Step) (n : Made) → Grows m.table n.table → weight step < wait_weight half.wait
        → 13 * names_left local.0 n.table + weights halves + weight step < 13 * names_left local.0 m.table + weights all + weight start
    popped_less step n g lt = rw (is, done) (omega (arith, left_grows local.0 m.table n.table g, weights-append halves half))

    pub pop_refuses : (e : Stop) (check : Check) → ((define : Define) → Stops e (from_half check define rest local half m).run) → Stops e (o check).run
    pop_refuses e check h = stops_along e (o check).run (from_stack check rest local (length local.0) (halves ++ half ∷ []) Done m).run (at.same check) (pop_err check rest local half m e h halves (length local.0))

  module _ (name : List ℕ) (start : Step) (need : start ≡ Need half name) (run : Run rest local o halves start m most) where
    r : Run rest local o halves (Need half name) m most
    r = subst (λ s. Run rest local o halves s m most) need run

    pub pushed : (all : List Half) → all ≡ halves ++ half ∷ [] → (step : Step) (n : Made) → ((check : Check) (define : Define) → Same (define_step check define rest local name m) (from_step check define rest local step n))
        → 13 * names_left local.0 n.table + weight step ≤ 13 * names_left local.0 m.table → names_left local.0 n.table + halves_of step ≤ names_left local.0 m.table → Run rest local o all step n most
    pushed all is step n h size fits = subst (λ hs. Run rest local o hs step n most) (sym is) (record {
      same = λ check. alike_trans (r.same check) (push check rest local half name m step n (h check) halves (length local.0) (omega (arith, r.fits)));
      fits = omega (arith, r.fits, fits, length-append halves (half ∷ []));
      size = omega (arith, r.size, size, weights-append halves half);
    })

    pub pushed_less : (all : List Half) → all ≡ halves ++ half ∷ [] → (step : Step) (n : Made) → 13 * names_left local.0 n.table + weight step ≤ 13 * names_left local.0 m.table
        → 13 * names_left local.0 n.table + weights all + weight step < 13 * names_left local.0 m.table + weights halves + weight start
    pushed_less all is step n size = rw (is, need) (omega (arith, size, weights-append halves half))

    pub push_refuses : (e : Stop) (check : Check) → ((define : Define) → Stops e (define_step check define rest local name m).run) → Stops e (o check).run
    push_refuses e check h = stops_along e (o check).run (from_stack check rest local (length local.0) halves (Need half name) m).run (r.same check) (push_err check rest local half name m e h halves (length local.0) (omega (arith, r.fits)))

pub left_most : (es : List (List ℕ × Tree)) (table : Sorted Bool) → names_left es table ≤ length es
left_most [] table = omega arith
left_most (e ∷ es) table = go (is_none (find table e.0)) (left_most es table)
  where
    go : (b : Bool) → names_left es table ≤ length es → cond b 1 0 + names_left es table ≤ suc (length es)
    go true h = omega arith
    go false h = omega arith
