-- Each seat's own entries are those that belong to it, over each step.
use Rattle.std.proofs.Common.{◌≡◌, ◌≢◌, ℕ, ◌+◌, ◌-◌, ◌<◌, ◌≤◌, List, [], ◌∷◌, ◌++◌, length, set, sym, refl, ap, ◌∙◌, subst, ⊎_elim, arith, Option, length-set, Contains}
use Rattle.std.specs.List.{range_with_len}
use Rattle.std.proofs.lemmas.List.Elements.{Contains-append_left, Contains-append_right, Contains-append_cases}
use mathlib.Core.Logic.{dite}
use mathlib.Core.Option.{some}
use mathlib.Core.List.{IsPrefix}
use native.Mathlib.Decide.{dec_le}
use lib.ListN.{get_elem?}
use Rattle.ld_turn.specs.declared.rule.View.{View}
use Rattle.ld_turn.specs.declared.rule.Stage.TheVariants.{Giving}
use Rattle.ld_turn.specs.History.{Owns, IsOwnFrom, IsNobodys, own_after}
use Rattle.ld_turn.specs.Views.{first_view, cut_left, cut_right, merged, spent, number_at, giving_at}
use Rattle.ld_turn.specs.Rule.{Lacks, Owned}
use Rattle.ld_turn.proofs.Small.{put, put_here, put_else, each_set, each_push, each_one, prefix_length, range_contains, contains_range}
use Rattle.ld_turn.proofs.Stages.{giving_not}

-- own places stay within a list that grows
pub own_within : {E : Type 0} (own : List ℕ) (front later : List E) → length front ≤ length later → ((i : ℕ) → Contains own i → i < length front) → (i : ℕ) → Contains (own_after own front later) i → i < length later
own_within own front later longer old i h = ⊎_elim (λ (t : Contains own i). omega (arith, old i t))
    (λ (t : Contains (range_with_len (length front) (length later - length front)) i). omega (arith, longer, (contains_range (length front) (length later - length front) i t).1))
    (Contains-append_cases own (range_with_len (length front) (length later - length front)) i h)

module _ {E : Type 0} (seat_of : List E → ℕ → Option ℕ) where
  -- a seat that stands for one has a number of its own, and owns what belongs to it
  abbrev Owner : List E → ℕ → (ℕ → ℕ) → ℕ → View E → Type 0
  Owner log m holder j d = 0 < d.seats → (d.number < m) × (holder d.number ≡ j) × Owns seat_of log d.number d.own

  -- a number that is given is free
  abbrev Giver : List E → ℕ → (ℕ → ℕ) → ℕ → View E → Type 0
  Giver log m holder j d = (k : ℕ) → d.stage ≡ Giving k → (k < m) × (holder k ≡ j) × (k ≢ d.number) × Lacks seat_of log k

  pub own_start : (log : List E) → IsNobodys seat_of log → Owned seat_of log 1 (first_view log ∷ [])
  own_start log none = record {
    holder = λ _. 0;
    each = each_one (Owner log 1 (λ _. 0)) (first_view log) (λ pos. (
      omega arith,
      refl,
      record {
        all = λ i lt e. let n = none i lt in absurd (cc (e, n));
        only = λ i k h. absurd (omega (arith, h.1));
        within = λ i h. absurd (omega (arith, h.1));
      },
    ));
    given = each_one (Giver log 1 (λ _. 0)) (first_view log) (λ k e. absurd (cc e));
    unborn = λ k le i lt e. let n = none i lt in cc (e, n);
  }

  pub own_stay : (log : List E) (m : ℕ) (vs : List (View E)) (id : ℕ) (v w : View E) → Owned seat_of log m vs → get_elem? vs id ≡ some v → giving_at w.stage ≡ 0 → w.seats ≡ v.seats → w.number ≡ v.number → w.own ≡ v.own → Owned seat_of log m (set vs id w)
  own_stay log m vs id v w o at plain seats number own = record {
    holder = o.holder;
    each = each_set (Owner log m o.holder) (Owner log m o.holder) vs id w (λ pos. let k = o.each id v at (omega (arith, seats)) in rw (number, own) k) (λ j d _ k. k) o.each;
    given = each_set (Giver log m o.holder) (Giver log m o.holder) vs id w (λ k e. absurd (giving_not w.stage plain k e)) (λ j d _ k. k) o.given;
    unborn = o.unborn;
  }

  pub own_tell : ((xs ys : List E) (i : ℕ) → i < length xs → seat_of (xs ++ ys) i ≡ seat_of xs i) → (log next : List E) (m : ℕ) (vs : List (View E)) (id : ℕ) (v w : View E) → Owned seat_of log m vs → get_elem? vs id ≡ some v → 0 < v.seats
      → IsPrefix log next → IsOwnFrom seat_of next (length log) v.number
      → giving_at w.stage ≡ 0 → w.seats ≡ v.seats → w.number ≡ v.number → w.own ≡ own_after v.own log next → Owned seat_of next m (set vs id w)
  own_tell stays log next m vs id v w o at pos grows added plain seats number own = record {
    holder = o.holder;
    each = each_set (Owner log m o.holder) (Owner next m o.holder) vs id w (λ _. rw (number, own) (known.0, known.1, mine)) (λ j d other k pos. let q = k pos in (q.0, q.1, others j d other q)) o.each;
    given = each_set (Giver log m o.holder) (Giver next m o.holder) vs id w (λ k e. absurd (giving_not w.stage plain k e))
        (λ j d other g k e. let q = g k e in (
          q.0,
          q.1,
          q.2,
          λ i lt is. dite (dec_le (length log) i)
              (λ le. let same = added i k le lt is in other (sym q.1 ∙ (ap o.holder same ∙ known.1)))
              (λ less. let lt' : i < length log = omega (arith, less) in q.3 i lt' (sym (old i lt') ∙ is)),
        )) o.given;
    unborn = λ k high i lt is. dite (dec_le (length log) i) (λ le. let same = added i k le lt is in let low = known.0 in absurd (omega (arith, same))) (λ less. let lt' : i < length log = omega (arith, less) in o.unborn k high i lt' (sym (old i lt') ∙ is));
  }
    where
      longer : length log ≤ length next
      longer = prefix_length log next grows

      old : (i : ℕ) → i < length log → seat_of next i ≡ seat_of log i
      old i lt = ap (λ (l : List E). seat_of l i) (sym grows.1) ∙ stays log grows.0 i lt

      known : (v.number < m) × (o.holder v.number ≡ id) × Owns seat_of log v.number v.own
      known = o.each id v at pos

      new : List ℕ
      new = range_with_len (length log) (length next - length log)

      mine : Owns seat_of next v.number (own_after v.own log next)
      mine = record {
        all = λ i lt e. dite (dec_le (length log) i)
            (λ le. Contains-append_right v.own new i (range_contains (length log) (length next - length log) i le (omega (arith, longer))))
            (λ less. let lt' : i < length log = omega (arith, less) in Contains-append_left v.own new i (known.2.all i lt' (sym (old i lt') ∙ e)));
        only = λ i k h e. ⊎_elim (λ (t : Contains v.own i). let lt = known.2.within i t in known.2.only i k t (sym (old i lt) ∙ e))
            (λ (t : Contains new i). let r = contains_range (length log) (length next - length log) i t in let lt = r.1 in added i k r.0 (omega (arith, longer)) e)
            (Contains-append_cases v.own new i h);
        within = own_within v.own log next longer known.2.within;
      }

      others : (j : ℕ) (d : View E) → j ≢ id → (d.number < m) × (o.holder d.number ≡ j) × Owns seat_of log d.number d.own → Owns seat_of next d.number d.own
      others j d other k = record {
        all = λ i lt e. dite (dec_le (length log) i)
            (λ le. let same = added i d.number le lt e in absurd (other (sym k.1 ∙ (ap o.holder same ∙ known.1))))
            (λ less. let lt' : i < length log = omega (arith, less) in k.2.all i lt' (sym (old i lt') ∙ e));
        only = λ i q h e. k.2.only i q h (sym (old i (k.2.within i h)) ∙ e);
        within = λ i h. omega (arith, longer, k.2.within i h);
      }

  pub own_more : (log : List E) (m : ℕ) (vs : List (View E)) → Owned seat_of log m vs → Owned seat_of log (m + 1) vs
  own_more log m vs o = record {
    holder = o.holder;
    each = λ j d p pos. let k = o.each j d p pos in let low = k.0 in (omega arith, k.1, k.2);
    given = λ j d p k e. let g = o.given j d p k e in let low = g.0 in (omega arith, g.1, g.2, g.3);
    unborn = λ k le. o.unborn k (omega arith);
  }

  pub own_number : (log : List E) (m : ℕ) (vs : List (View E)) (id : ℕ) (v w : View E) → Owned seat_of log m vs → get_elem? vs id ≡ some v → 0 < v.seats → w.stage ≡ Giving m → w.seats ≡ v.seats → w.number ≡ v.number → w.own ≡ v.own
      → Owned seat_of log (m + 1) (set vs id w)
  own_number log m vs id v w o at pos gives seats number own = record {
    holder = new;
    each = each_set (Owner log m o.holder) (Owner log (m + 1) new) vs id w (λ _. rw (number, own) (more id v (o.each id v at) pos)) (λ j d _ k. more j d k) o.each;
    given = each_set (Giver log m o.holder) (Giver log (m + 1) new) vs id w
        (λ k e. let same : m ≡ k = cc (gives, e) in subst (λ (z : ℕ). (z < m + 1) × (new z ≡ id) × (z ≢ w.number) × Lacks seat_of log z) same
        (omega arith, put_here o.holder m id, (λ z. let low = (o.each id v at pos).0 in absurd (omega (arith, number, z))), o.unborn m (omega arith)))
        (λ j d _ g k e. let q = g k e in let low = q.0 in (omega arith, put_else o.holder m id k (λ z. absurd (omega (arith, z))) ∙ q.1, q.2, q.3)) o.given;
    unborn = λ k le. o.unborn k (omega arith);
  }
    where
      new : ℕ → ℕ
      new = put o.holder m id

      more : (j : ℕ) (d : View E) → Owner log m o.holder j d → Owner log (m + 1) new j d
      more j d old q = let k = old q in let low = k.0 in (omega arith, put_else o.holder m id d.number (λ z. absurd (omega (arith, z))) ∙ k.1, k.2)

  pub own_cut : (log : List E) (m : ℕ) (vs : List (View E)) (id : ℕ) (d : View E) (k : ℕ) → Owned seat_of log m vs → get_elem? vs id ≡ some d → d.stage ≡ Giving k → Owned seat_of log m (set vs id (cut_left d) ++ cut_right d ∷ [])
  own_cut log m vs id d k o at is = record {
    holder = new;
    each = each_push (Owner log m new) l (cut_right d)
        (λ _. subst (λ (z : ℕ). (z < m) × (new z ≡ length l) × Owns seat_of log z []) (sym num) (
          g.0,
          put_here o.holder k (length vs) ∙ sym (length-set vs id (cut_left d)),
          record {
            all = λ i lt e. absurd (g.3 i lt e);
            only = λ i q h. absurd (omega (arith, h.1));
            within = λ i h. absurd (omega (arith, h.1));
          },
        ))
        (each_set (Owner log m o.holder) (Owner log m new) vs id (cut_left d)
        (λ pos. let b = o.each id d at pos in (b.0, put_else o.holder k (length vs) d.number (λ z. g.2 (sym z)) ∙ b.1, b.2))
        (λ i x other f q. let b = f q in (b.0, put_else o.holder k (length vs) x.number (λ z. other (sym b.1 ∙ (ap o.holder z ∙ g.1))) ∙ b.1, b.2)) o.each);
    given = each_push (Giver log m new) l (cut_right d) (λ q z. absurd (cc z))
        (each_set (Giver log m o.holder) (Giver log m new) vs id (cut_left d) (λ q z. absurd (cc z))
        (λ i x other f q z. let b = f q z in (b.0, put_else o.holder k (length vs) q (λ y. other (sym b.1 ∙ (ap o.holder y ∙ g.1))) ∙ b.1, b.2, b.3)) o.given);
    unborn = o.unborn;
  }
    where
      l : List (View E)
      l = set vs id (cut_left d)

      new : ℕ → ℕ
      new = put o.holder k (length vs)

      g : (k < m) × (o.holder k ≡ id) × (k ≢ d.number) × Lacks seat_of log k
      g = o.given id d at k is

      num : number_at d.stage ≡ k
      num = ap number_at is

  pub own_merge : (log : List E) (m : ℕ) (vs : List (View E)) (id : ℕ) (d : View E) (other : ℕ) (e : View E) → Owned seat_of log m vs → get_elem? vs id ≡ some d → 0 < d.seats → Owned seat_of log m (set (set vs id (merged d e)) other spent)
  own_merge log m vs id d other e o at pos = record {
    holder = o.holder;
    each = each_set (Owner log m o.holder) (Owner log m o.holder) (set vs id (merged d e)) other spent (λ z. absurd (omega (arith, z))) (λ j x _ k. k)
        (each_set (Owner log m o.holder) (Owner log m o.holder) vs id (merged d e) (λ _. o.each id d at pos) (λ j x _ k. k) o.each);
    given = each_set (Giver log m o.holder) (Giver log m o.holder) (set vs id (merged d e)) other spent (λ q z. absurd (cc z)) (λ j x _ k. k)
        (each_set (Giver log m o.holder) (Giver log m o.holder) vs id (merged d e) (o.given id d at) (λ j x _ k. k) o.given);
    unborn = o.unborn;
  }

  pub own_note : (log : List E) (m : ℕ) (vs : List (View E)) (o : View E) → Owned seat_of log m vs → o.seats ≡ 0 → giving_at o.stage ≡ 0 → Owned seat_of log m (vs ++ o ∷ [])
  own_note log m vs o own none plain = record {
    holder = own.holder;
    each = each_push (Owner log m own.holder) vs o (λ pos. absurd (omega (arith, none))) own.each;
    given = each_push (Giver log m own.holder) vs o (λ k e. absurd (giving_not o.stage plain k e)) own.given;
    unborn = own.unborn;
  }
