-- The seats are those that were made, over each step.
use Rattle.std.proofs.Common.{◌≡◌, ◌≢◌, ◌⊎◌, ◌==◌, ℕ, cond, ◌+◌, ◌<◌, ◌≤◌, min, Bool, true, false, List, [], ◌∷◌, ◌++◌, set, sym, refl, ap, ◌∙◌, subst, ⊎_elim, arith}
use Rattle.std.specs.List.{sum_by}
use Rattle.std.proofs.lemmas.List.Sums.{sum_by-cons, sum_by_push}
use mathlib.Core.Logic.{dite}
use mathlib.Core.Option.{some}
use native.Mathlib.Decide.{ℕ_discrete}
use lib.ListN.{get_elem?}
use Rattle.ld_turn.specs.declared.rule.View.{View}
use Rattle.ld_turn.specs.declared.rule.Stage.{Stage}
use Rattle.ld_turn.specs.declared.rule.Stage.TheVariants.{Idle, Asking, Giving}
use Rattle.ld_turn.specs.Views.{tickets, tickets_at, giving_at, asking_at, unless_asking, seats, asking, settled_at, cut_left, cut_right, merged, spent, first_view}
use Rattle.ld_turn.specs.Rule.{Fine, Counts}
use Rattle.ld_turn.proofs.Small.{sum_set, sum_le, sum_le_at, each_set, each_push, each_one}
use Rattle.ld_turn.proofs.Stages.{IsPlain, seats_plain, asking_plain, settled_plain, settled_not, settled_le, settled_asking}

module _ {E : Type 0} where
  more : (m m' : ℕ) (d : View E) → m ≤ m' → Fine m d → Fine m' d
  more m m' d le f = record { ticket = f.ticket; asks = f.asks; made_is = omega (arith, f.made_is) }

  pub counts_start : (log : List E) → Counts 1 (first_view log ∷ [])
  counts_start log = record {
    total = refl;
    asks = omega arith;
    each = each_one (λ _. Fine 1) (first_view log) record { ticket = omega arith; asks = omega arith; made_is = omega arith };
    whole = λ k pos le. dite (ℕ_discrete 1 k) (λ e. e) (λ ne. absurd (omega (arith, one k ne)));
  }
    where
      one : (k : ℕ) → 1 ≢ k → sum_by (settled_at k) (first_view log ∷ []) ≡ 0
      one k ne = sum_by-cons (settled_at k) (first_view log) [] ∙ omega (arith, settled_not k (first_view log) ne)

  -- a step that neither asks nor gives
  pub counts_stay : (m : ℕ) (vs : List (View E)) (id : ℕ) (v w : View E) → Counts m vs → get_elem? vs id ≡ some v → IsPlain v.stage → IsPlain w.stage → w.seats ≡ v.seats → w.made ≡ v.made → tickets w ≤ w.seats → Counts m (set vs id w)
  counts_stay m vs id v w c at old new same made fits = let f = c.each id v at in record {
    total = omega (arith, c.total, sum_set seats vs id v w at, seats_plain v old, seats_plain w new);
    asks = omega (arith, c.asks, sum_set asking vs id v w at, asking_plain v old, asking_plain w new);
    each = each_set (λ _. Fine m) (λ _. Fine m) vs id w record { ticket = fits; asks = omega (arith, asking_plain w new); made_is = omega (arith, f.made_is) } (λ j d _ k. k) c.each;
    whole = λ k pos le. c.whole k pos (omega (arith, sum_set (settled_at k) vs id v w at, stays k));
  }
    where
      stays : (k : ℕ) → settled_at k w ≡ settled_at k v
      stays k = settled_plain k w new ∙ (ap (λ (x : ℕ). cond (x == k) w.seats 0) made ∙ (ap (λ (x : ℕ). cond (v.made == k) x 0) same ∙ sym (settled_plain k v old)))

  pub counts_ask : (m : ℕ) (vs : List (View E)) (id : ℕ) (v : View E) → Counts m vs → get_elem? vs id ≡ some v → m < 256 → IsPlain v.stage → tickets v ≡ 0 → v.seats ≡ 1 → Counts m (set vs id (record v { stage = Asking; made = m }))
  counts_ask m vs id v c at low old none one =
      let w : View E = record v { stage = Asking; made = m } in
      let each : (j : ℕ) (d : View E) → get_elem? (set vs id w) j ≡ some d → Fine m d = each_set (λ _. Fine m) (λ _. Fine m) vs id w record { ticket = omega arith; asks = omega arith; made_is = omega arith } (λ j d _ k. k) c.each in
      let total : sum_by seats (set vs id w) ≡ min m 256 = omega (arith, c.total, sum_set seats vs id v w at, seats_plain v old) in
      record {
        total = total;
        asks = omega (arith, total, sum_le asking seats (set vs id w) (λ j d p. omega (arith, (each j d p).asks)));
        each = each;
        whole = λ k pos le. c.whole k pos (omega (arith, sum_set (settled_at k) vs id v w at, settled_asking k w refl));
      }

  -- a view that finds all made is settled there
  pub counts_look : (m : ℕ) (vs : List (View E)) (id : ℕ) (v : View E) → Counts m vs → get_elem? vs id ≡ some v → IsPlain v.stage → Counts m (set vs id (record v { made = min m 256 }))
  counts_look m vs id v c at old =
      let w : View E = record v { made = min m 256 } in
      let f = c.each id v at in
      record {
        total = omega (arith, c.total, sum_set seats vs id v w at);
        asks = omega (arith, c.asks, sum_set asking vs id v w at);
        each = each_set (λ _. Fine m) (λ _. Fine m) vs id w record { ticket = f.ticket; asks = f.asks; made_is = omega arith } (λ j d _ k. k) c.each;
        whole = λ k pos le. dite (ℕ_discrete (min m 256) k) (λ e. e) (λ ne. c.whole k pos (omega (arith, sum_set (settled_at k) vs id v w at, settled_not k w ne)));
      }

  pub counts_number : (m : ℕ) (vs : List (View E)) (id : ℕ) (v : View E) → Counts m vs → get_elem? vs id ≡ some v → m < 256 → v.stage ≡ Asking → v.seats ≡ 1 → Counts (m + 1) (set vs id (record v { stage = Giving m; made = m + 1 }))
  counts_number m vs id v c at low asks one =
      let w : View E = record v { stage = Giving m; made = m + 1 } in
      let none : giving_at v.stage ≡ 0 = ap giving_at asks in
      let had : asking v ≡ 1 = ap asking_at asks in
      record {
        total = omega (arith, c.total, sum_set seats vs id v w at);
        asks = omega (arith, c.asks, sum_set asking vs id v w at);
        each = each_set (λ _. Fine m) (λ _. Fine (m + 1)) vs id w record { ticket = omega arith; asks = omega arith; made_is = omega arith } (λ j d _ k. more m (m + 1) d (omega arith) k) c.each;
        whole = λ k pos le. dite (ℕ_discrete (m + 1) k) (λ e. omega (arith, e)) (λ ne.
            let off : settled_at k v ≡ 0 = settled_asking k v asks in
            let sum = sum_set (settled_at k) vs id v w at in
            let none_new : settled_at k w ≡ 0 = settled_not k w ne in
            let old : min m 256 ≡ k = c.whole k pos (omega arith) in
            let less = sum_le_at (settled_at k) seats vs id v at (λ j d _. settled_le k d) in
            absurd (omega (arith, c.total)));
      }

  pub counts_over : (m : ℕ) (vs : List (View E)) (id : ℕ) (v : View E) → Counts m vs → get_elem? vs id ≡ some v → 256 ≤ m → v.stage ≡ Asking → Counts (m + 1) (set vs id (record v { stage = Idle; made = 256 }))
  counts_over m vs id v c at high asks =
      let w : View E = record v { stage = Idle; made = 256 } in
      let none : giving_at v.stage ≡ 0 = ap giving_at asks in
      let had : asking v ≡ 1 = ap asking_at asks in
      record {
        total = omega (arith, c.total, sum_set seats vs id v w at);
        asks = omega (arith, c.asks, sum_set asking vs id v w at);
        each = each_set (λ _. Fine m) (λ _. Fine (m + 1)) vs id w record { ticket = omega arith; asks = omega arith; made_is = omega arith } (λ j d _ k. more m (m + 1) d (omega arith) k) c.each;
        whole = λ k pos le. dite (ℕ_discrete 256 k) (λ e. omega (arith, e)) (λ ne. let old : min m 256 ≡ k = c.whole k pos (omega (arith, sum_set (settled_at k) vs id v w at, settled_not k w ne)) in omega arith);
      }

  pub counts_cut : (m : ℕ) (vs : List (View E)) (id : ℕ) (d : View E) (n : ℕ) → Counts m vs → get_elem? vs id ≡ some d → d.stage ≡ Giving n → Counts m (set vs id (cut_left d) ++ cut_right d ∷ [])
  counts_cut m vs id d n c at gives =
      let w : View E = cut_left d in
      let o : View E = cut_right d in
      let l : List (View E) = set vs id w in
      let f = c.each id d at in
      let one : giving_at d.stage ≡ 1 = ap giving_at gives in
      let none : asking d ≡ 0 = ap asking_at gives in
      record {
        total = omega (arith, c.total, sum_set seats vs id d w at, sum_by_push seats l o);
        asks = omega (arith, c.asks, sum_set asking vs id d w at, sum_by_push asking l o);
        each = each_push (λ _. Fine m) l o record { ticket = omega arith; asks = omega arith; made_is = f.made_is }
            (each_set (λ _. Fine m) (λ _. Fine m) vs id w record { ticket = omega arith; asks = omega arith; made_is = f.made_is } (λ j x _ k. k) c.each);
        whole = λ k pos le. c.whole k pos (omega (arith, sum_set (settled_at k) vs id d w at, sum_by_push (settled_at k) l o, parts k));
      }
    where
      by : (b : Bool) (x : ℕ) → cond b (x + 1) 0 ≡ cond b (x + 0) 0 + cond b 1 0
      by true x = omega arith
      by false x = refl

      parts : (k : ℕ) → settled_at k d ≡ settled_at k (cut_left d) + settled_at k (cut_right d)
      parts k = ap (λ (st : Stage). cond (d.made == k) (unless_asking st (d.seats + giving_at st)) 0) gives ∙ by (d.made == k) d.seats

  pub counts_merge : (m : ℕ) (vs : List (View E)) (id : ℕ) (d : View E) (other : ℕ) (e : View E) → Counts m vs → get_elem? vs id ≡ some d → get_elem? (set vs id (merged d e)) other ≡ some e
      → d.stage ≡ Idle → e.stage ≡ Idle → (d.made ≡ e.made) ⊎ (e.seats ≡ 0) → Counts m (set (set vs id (merged d e)) other spent)
  counts_merge m vs id d other e c at there idle rests same =
      let w : View E = merged d e in
      let o : View E = spent in
      let l : List (View E) = set vs id w in
      let f = c.each id d at in
      record {
        total = omega (arith, c.total, sum_set seats vs id d w at, sum_set seats l other e o there, ap giving_at idle, ap giving_at rests);
        asks = omega (arith, c.asks, sum_set asking vs id d w at, sum_set asking l other e o there, ap asking_at rests);
        each = each_set (λ _. Fine m) (λ _. Fine m) l other o record { ticket = omega arith; asks = omega arith; made_is = omega arith } (λ i x _ k. k)
            (each_set (λ _. Fine m) (λ _. Fine m) vs id w record { ticket = omega (arith, ap tickets_at idle); asks = omega (arith, ap asking_at idle); made_is = f.made_is } (λ i x _ k. k) c.each);
        whole = λ k pos le. c.whole k pos (omega (arith, sum_set (settled_at k) vs id d w at, sum_set (settled_at k) l other e o there, settled_not k o (λ z. omega (arith, z)), both k));
      }
    where
      by : (b : Bool) (x y : ℕ) → cond b (x + y) 0 ≡ cond b x 0 + cond b y 0
      by true x y = refl
      by false x y = refl

      none : (b c : Bool) (x y : ℕ) → y ≡ 0 → cond b (x + y) 0 ≡ cond b x 0 + cond c y 0
      none true true x y e = refl
      none true false x y e = omega (arith, e)
      none false true x y e = omega (arith, e)
      none false false x y e = refl

      plain_d : IsPlain d.stage
      plain_d = subst IsPlain (sym idle) tt

      plain_e : IsPlain e.stage
      plain_e = subst IsPlain (sym rests) tt

      parts : (k : ℕ) → cond (d.made == k) (d.seats + e.seats) 0 ≡ cond (d.made == k) d.seats 0 + cond (e.made == k) e.seats 0
      parts k = ⊎_elim (λ (t : d.made ≡ e.made). by (d.made == k) d.seats e.seats ∙ ap (λ (x : ℕ). cond (d.made == k) d.seats 0 + cond (x == k) e.seats 0) t)
          (λ (t : e.seats ≡ 0). none (d.made == k) (e.made == k) d.seats e.seats t) same

      both : (k : ℕ) → settled_at k (merged d e) ≡ settled_at k d + settled_at k e
      both k = settled_plain k (merged d e) plain_d ∙ (parts k ∙ ap (λ (x : ℕ × ℕ). x.0 + x.1) (λ i. (sym (settled_plain k d plain_d) i, sym (settled_plain k e plain_e) i)))

  pub counts_note : (m : ℕ) (vs : List (View E)) (o : View E) → Counts m vs → o.seats ≡ 0 → o.stage ≡ Idle → o.made ≡ 0 → Counts m (vs ++ o ∷ [])
  counts_note m vs o c seats_is idle made =
      let plain : IsPlain o.stage = subst IsPlain (sym idle) tt in
      let t : tickets o ≡ 0 = ap tickets_at idle in
      record {
        total = omega (arith, c.total, sum_by_push seats vs o, seats_plain o plain);
        asks = omega (arith, c.asks, sum_by_push asking vs o, asking_plain o plain);
        each = each_push (λ _. Fine m) vs o record { ticket = omega arith; asks = omega (arith, asking_plain o plain); made_is = omega arith } c.each;
        whole = λ k pos le. c.whole k pos (omega (arith, sum_by_push (settled_at k) vs o, settled_not k o (λ e. omega (arith, e))));
      }
