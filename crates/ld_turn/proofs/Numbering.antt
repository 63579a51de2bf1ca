-- The steps beside a turn keep the rule: the lock's start, numbers, cuts and joins, notes and meetings. What is left at its close.
use Rattle.std.proofs.Common.{◌≡◌, ◌≢◌, ◌⊎◌, ℕ, ◌+◌, ◌%◌, ◌^◌, ◌<◌, ◌≤◌, min, Bool, true, false, List, [], ◌∷◌, ◌++◌, length, get_or, set, sym, refl, ap, ◌∙◌, subst, arith, Option, Some, get_or-set_same}
use Rattle.std.proofs.lemmas.List.Sums.{sum_by_push}
use mathlib.Core.Logic.{dite}
use mathlib.Core.Option.{none, some}
use mathlib.Core.List.{IsPrefix}
use native.Mathlib.Decide.{dec_le}
use lib.ListN.{get_elem?}
use lib.Seq.{set-get_or}
use Rattle.atomic_table.specs.Table
use Rattle.atomic_table.specs.Table.{State, Me, step, keeps, Allows, Splits, Joins, opening}
use Rattle.atomic_table.proofs.Lists.{set_else, set_again, at_longer}
use Rattle.ld_turn.specs.declared.rule.View.{View}
use Rattle.ld_turn.specs.declared.rule.Stage.{Stage}
use Rattle.ld_turn.specs.declared.rule.Stage.TheVariants.{Idle, Asking, Giving}
use Rattle.ld_turn.specs.History.{IsNobodys}
use Rattle.ld_turn.specs.Views.{tickets, tickets_at, seats, is_holding, settled_at, unless_asking, first_view, cut_left, cut_right, merged, noted, spent, AllBegin, Begins, giving_at}
use Rattle.ld_turn.specs.Rule.{Reads, Knows, Counts, Owned, Kept}
use Rattle.ld_turn.specs.Steps.{asked, numbered, counted, met, IsLast}
use Rattle.ld_turn.proofs.Small.{prefix_self, sum_set, one_le, two_le, each_set, each_push, each_one}
use Rattle.ld_turn.proofs.Stages.{IsPlain, begin_both, settled_is}
use Rattle.ld_turn.proofs.Counting.{counts_start, counts_stay, counts_ask, counts_look, counts_number, counts_over, counts_cut, counts_merge, counts_note}
use Rattle.ld_turn.proofs.Owning.{own_start, own_stay, own_more, own_number, own_cut, own_merge, own_note}
use Rattle.ld_turn.proofs.Keeping.{IsFree, not_holder, reads_else, aside}

module _ {V E : Type 0} (list : V → List E) (seat_of : List E → ℕ → Option ℕ) where
  abbrev St : Type 0
  St = State (Option V) (View E)

  abbrev Sat : Type 0
  Sat = Me (Option V) (View E)

  abbrev Rule : St → Type 0
  Rule = Kept list seat_of

  pub starts : (v : V) (words : List ℕ) → Reads 0 0 (length (list v)) words → get_or words 3 0 ≡ 1 → IsNobodys seat_of (list v) → Rule (opening words (Some v ∷ []) (first_view (list v)))
  starts v words reads made nobodys = record {
    low = 0;
    n = 0;
    owner = λ _. 0;
    log = list v;
    out = false;
    reads = reads;
    deep = refl;
    count = refl;
    own = subst (λ (m : ℕ). Owned seat_of (list v) m (first_view (list v) ∷ [])) (sym made) (own_start seat_of (list v) nobodys);
    made = subst (λ (m : ℕ). Counts m (first_view (list v) ∷ [])) (sym made) (counts_start (list v));
    stage = each_one (λ j d. Knows 0 0 (λ _. 0) (list v) false j d.front d.stage) (first_view (list v)) tt;
    front = each_one (λ _. Begins (list v)) (first_view (list v)) (prefix_self (list v), tt);
    home = λ _. (v, refl, refl);
    held = λ e. absurd (cc e);
  }

  -- a step on the count of seats
  numbers_step : (s : St) (r : Rule s) (id m' : ℕ) (v w : View E) → get_elem? s.views id ≡ some v → IsFree v.stage → IsFree w.stage → w.front ≡ v.front → w.olds ≡ v.olds → Owned seat_of r.log m' (set s.views id w) → Counts m' (set s.views id w)
      → Rule record { words = set s.words 3 m'; homes = s.homes; views = set s.views id w }
  numbers_step s r id m' v w at was is front olds own counts =
      let wide = r.reads.wide in
      let same : get_or (set s.words 3 m') 3 0 ≡ m' = get_or-set_same s.words 3 m' 0 (omega arith) in
      aside list seat_of s r (set s.words 3 m') id v w at (reads_else r.low r.n (length r.log) s.words 3 m' r.reads (omega arith)) was is
      (subst (λ (l : List E). IsPrefix l r.log) (sym front) (r.front id v at).0, subst (AllBegin r.log) (sym olds) (r.front id v at).1)
      (subst (λ (m : ℕ). Owned seat_of r.log m (set s.views id w)) (sym same) own) (subst (λ (m : ℕ). Counts m (set s.views id w)) (sym same) counts)

  pub asks : (slots id : ℕ) (me : Sat) → me.0.stage ≡ Idle → me.0.seats ≡ 1 → Allows Rule slots id me 3 (λ n. n) (asked (step slots 3 0 0 none) me)
  asks slots id me idle one s r deep at _ =
      let m : ℕ = get_or s.words 3 0 in
      let free : IsFree me.0.stage = subst IsFree (sym idle) tt in
      let plain : IsPlain me.0.stage = subst IsPlain (sym idle) tt in
      let had : me.0.made ≤ m = omega (arith, (r.made.each id me.0 at).made_is) in
      dite (dec_le 256 m)
      (λ high. let w : View E = record me.0 { made = 256 } in (
        w,
        keeps,
        tt,
        numbers_step s r id m me.0 w at free free refl refl (own_stay seat_of r.log m s.views id me.0 w r.own at (ap giving_at idle) refl refl refl)
            (subst (λ (z : ℕ). Counts m (set s.views id (record me.0 { made = z }))) (omega arith) (counts_look m s.views id me.0 r.made at plain)),
        (refl, had, (λ low. absurd (omega arith)), λ _. refl),
      ))
      (λ low. let less : m < 256 = omega arith in let w : View E = record me.0 { stage = Asking; made = m } in (
        w,
        keeps,
        tt,
        numbers_step s r id m me.0 w at free tt refl refl (own_stay seat_of r.log m s.views id me.0 w r.own at refl refl refl refl) (counts_ask m s.views id me.0 r.made at less plain (ap tickets_at idle) one),
        (refl, had, (λ _. refl), λ high. absurd (omega arith)),
      ))

  pub numbers : (slots id : ℕ) (me : Sat) → me.0.stage ≡ Asking → me.0.seats ≡ 1 → Allows Rule slots id me 3 (λ n. (n + 1) % 2 ^ 64) (numbered (step slots 3 1 0 none) me)
  numbers slots id me asks one s r deep at _ =
      let m : ℕ = get_or s.words 3 0 in let small = r.made.asks in
      let y : (m + 1) % 18446744073709551616 ≡ m + 1 = omega arith in
      let free : IsFree me.0.stage = subst IsFree (sym asks) tt in
      let had : me.0.made ≤ m = omega (arith, (r.made.each id me.0 at).made_is) in
      dite (dec_le 256 m)
      (λ high. let w : View E = record me.0 { stage = Idle; made = 256 } in (
        w,
        keeps,
        tt,
        numbers_step s r id ((m + 1) % 18446744073709551616) me.0 w at free tt refl refl
            (subst (λ (z : ℕ). Owned seat_of r.log z (set s.views id w)) (sym y) (own_more seat_of r.log m (set s.views id w) (own_stay seat_of r.log m s.views id me.0 w r.own at refl refl refl refl)))
            (subst (λ (z : ℕ). Counts z (set s.views id w)) (sym y) (counts_over m s.views id me.0 r.made at high asks)),
        (refl, had, (λ low. absurd (omega arith)), λ _. refl),
      ))
      (λ low. let less : m < 256 = omega arith in let w : View E = record me.0 { stage = Giving m; made = m + 1 } in (
        w,
        keeps,
        tt,
        numbers_step s r id ((m + 1) % 18446744073709551616) me.0 w at free tt refl refl
            (subst (λ (z : ℕ). Owned seat_of r.log z (set s.views id w)) (sym y) (own_number seat_of r.log m s.views id me.0 w r.own at (omega arith) refl refl refl refl))
            (subst (λ (z : ℕ). Counts z (set s.views id w)) (sym y) (counts_number m s.views id me.0 r.made at less asks one)),
        (refl, had, (λ _. refl), λ high. absurd (omega arith)),
      ))

  pub counts : (slots id : ℕ) (me : Sat) → me.0.stage ≡ Idle → Allows Rule slots id me 3 (λ n. n) (counted (step slots 3 0 0 none) me)
  counts slots id me idle s r deep at _ =
      let m : ℕ = get_or s.words 3 0 in let w : View E = record me.0 { made = min m 256 } in
      let free : IsFree me.0.stage = subst IsFree (sym idle) tt in (
        w,
        keeps,
        tt,
        numbers_step s r id m me.0 w at free free refl refl (own_stay seat_of r.log m s.views id me.0 w r.own at (ap giving_at idle) refl refl refl) (counts_look m s.views id me.0 r.made at (subst IsPlain (sym idle) tt)),
        (refl, omega (arith, (r.made.each id me.0 at).made_is), refl),
      )

  pub meets : (slots id : ℕ) (me : Sat) → me.0.stage ≡ Idle → Allows Rule slots id me 2 (λ n. n) (met (step slots 2 0 0 none) me)
  meets slots id me idle s r deep at _ =
      let w : View E = record me.0 { front = r.log } in
      let free : IsFree me.0.stage = subst IsFree (sym idle) tt in
      let plain : IsPlain me.0.stage = subst IsPlain (sym idle) tt in (
        w,
        keeps,
        tt,
        subst (λ (ws : List ℕ). Rule record { words = ws; homes = s.homes; views = set s.views id w }) (sym (set-get_or s.words 2 0))
            (aside list seat_of s r s.words id me.0 w at r.reads free free (prefix_self r.log, (r.front id me.0 at).1)
            (own_stay seat_of r.log (get_or s.words 3 0) s.views id me.0 w r.own at (ap giving_at idle) refl refl refl)
            (counts_stay (get_or s.words 3 0) s.views id me.0 w r.made at plain plain refl refl (r.made.each id me.0 at).ticket)),
        (refl, refl, sym r.reads.told_is, (r.front id me.0 at).0, (r.front id me.0 at).1),
      )

  pub cuts : (id : ℕ) (d : View E) (k : ℕ) → d.stage ≡ Giving k → Splits Rule id d (cut_left d) (cut_right d)
  cuts id d k gives s r at =
      let w : View E = cut_left d in
      let o : View E = cut_right d in
      let vs : List (View E) = set s.views id w in record {
        low = r.low;
        n = r.n;
        owner = r.owner;
        log = r.log;
        out = r.out;
        reads = r.reads;
        deep = r.deep;
        own = own_cut seat_of r.log (get_or s.words 3 0) s.views id d k r.own at gives;
        made = counts_cut (get_or s.words 3 0) s.views id d k r.made at gives;
        count = omega (arith, r.count, sum_set tickets s.views id d w at, sum_by_push tickets vs o, ap tickets_at gives);
        stage = each_push (λ j e. Knows r.low r.n r.owner r.log r.out j e.front e.stage) vs o tt
            (each_set (λ j e. Knows r.low r.n r.owner r.log r.out j e.front e.stage) (λ j e. Knows r.low r.n r.owner r.log r.out j e.front e.stage) s.views id w tt (λ j x _ k. k) r.stage);
        front = each_push (λ _. Begins r.log) vs o ((r.front id d at).0, tt) (each_set (λ _. Begins r.log) (λ _. Begins r.log) s.views id w (r.front id d at) (λ j x _ k. k) r.front);
        home = r.home;
        held = λ e. let h = r.held e in
            let apart : r.owner r.low ≢ id = not_holder s.views id d (r.owner r.low) h.0 r.low at h.1 (ap is_holding gives) h.2 in
            (h.0, at_longer vs (o ∷ []) (r.owner r.low) h.0 (set_else s.views id (r.owner r.low) w apart ∙ h.1), h.2);
      }

  pub merges : (id : ℕ) (d : View E) (other : ℕ) (e : View E) → 0 < d.seats → d.stage ≡ Idle → e.stage ≡ Idle → (d.made ≡ e.made) ⊎ (e.seats ≡ 0) → Joins Rule id d other e (merged d e) spent
  merges id d other e pos idle rests same s r at apart there =
      let w : View E = merged d e in
      let o : View E = spent in
      let vs : List (View E) = set s.views id w in
      let was : get_elem? s.views other ≡ some e = sym (set_else s.views id other w apart) ∙ there in record {
        low = r.low;
        n = r.n;
        owner = r.owner;
        log = r.log;
        out = r.out;
        reads = r.reads;
        deep = r.deep;
        own = own_merge seat_of r.log (get_or s.words 3 0) s.views id d other e r.own at pos;
        made = counts_merge (get_or s.words 3 0) s.views id d other e r.made at there idle rests same;
        count = omega (arith, r.count, sum_set tickets s.views id d w at, sum_set tickets vs other e o there, ap tickets_at idle, ap tickets_at rests);
        stage = each_set (λ j x. Knows r.low r.n r.owner r.log r.out j x.front x.stage) (λ j x. Knows r.low r.n r.owner r.log r.out j x.front x.stage) vs other o tt (λ j x _ k. k)
            (each_set (λ j x. Knows r.low r.n r.owner r.log r.out j x.front x.stage) (λ j x. Knows r.low r.n r.owner r.log r.out j x.front x.stage) s.views id w (r.stage id d at) (λ j x _ k. k) r.stage);
        front = each_set (λ _. Begins r.log) (λ _. Begins r.log) vs other o ((r.log, refl), tt) (λ j x _ k. k)
            (each_set (λ _. Begins r.log) (λ _. Begins r.log) s.views id w ((r.front id d at).0, ((r.front other e was).0, begin_both r.log e.olds d.olds (r.front other e was).1 (r.front id d at).1)) (λ j x _ k. k) r.front);
        home = r.home;
        held = λ z. let h = r.held z in
            let not_d : r.owner r.low ≢ id = not_holder s.views id d (r.owner r.low) h.0 r.low at h.1 (ap is_holding idle) h.2 in
            let not_e : r.owner r.low ≢ other = not_holder s.views other e (r.owner r.low) h.0 r.low was h.1 (ap is_holding rests) h.2 in
            (h.0, set_else vs other (r.owner r.low) o not_e ∙ (set_else s.views id (r.owner r.low) w not_d ∙ h.1), h.2);
      }

  pub notes : (id : ℕ) (d : View E) → Splits Rule id d d (noted d)
  notes id d s r at =
      let o : View E = noted d in
      let vs : List (View E) = s.views in
      subst (λ (l : List (View E)). Rule record { words = s.words; homes = s.homes; views = l ++ o ∷ [] }) (sym (set_again vs id d at)) record {
        low = r.low;
        n = r.n;
        owner = r.owner;
        log = r.log;
        out = r.out;
        reads = r.reads;
        deep = r.deep;
        made = counts_note (get_or s.words 3 0) vs o r.made refl refl refl;
        own = own_note seat_of r.log (get_or s.words 3 0) vs o r.own refl refl;
        count = omega (arith, r.count, sum_by_push tickets vs o);
        stage = each_push (λ j e. Knows r.low r.n r.owner r.log r.out j e.front e.stage) vs o tt r.stage;
        front = each_push (λ _. Begins r.log) vs o ((r.front id d at).0, tt) r.front;
        home = r.home;
        held = λ e. let h = r.held e in (h.0, at_longer vs (o ∷ []) (r.owner r.low) h.0 h.1, h.2);
      }

  -- a seat that stands for all seats finds the value at home
  pub last : (words : List ℕ) (slots : List (Option V)) (id : ℕ) (d : View E) → d.stage ≡ Idle → 0 < d.seats → d.made ≡ d.seats → Table.Final (Table.Seen Rule id d) words slots → IsLast list d slots
  last words slots id d idle pos all fin = go fin.1.0.out refl
    where
      go : (b : Bool) → fin.1.0.out ≡ b → IsLast list d slots
      go false out = let r = fin.1.0 in let h = r.home out in (h.0, fin.4 0 (Some h.0) h.1, subst (λ (l : List E). Begins l d) (sym h.2) (r.front id d fin.1.1))
      go true out = let r = fin.1.0 in let at = fin.1.1 in let h = r.held out in let vs = fin.0.views in
          let apart : r.owner r.low ≢ id = not_holder vs id d (r.owner r.low) h.0 r.low at h.1 (ap is_holding idle) h.2 in
          let settled : settled_at d.made d ≡ d.seats = settled_is d.made d refl ∙ ap (λ (st : Stage). unless_asking st (d.seats + giving_at st)) idle ∙ omega arith in
          let made : min (get_or fin.0.words 3 0) 256 ≡ d.made = r.made.whole d.made (omega arith) (omega (arith, one_le (settled_at d.made) vs id d at)) in
          let one : tickets h.0 ≡ 1 = ap tickets_at h.2 in
          absurd (omega (arith, r.made.total, two_le seats vs (r.owner r.low) id h.0 d apart h.1 at, (r.made.each (r.owner r.low) h.0 h.1).ticket))
