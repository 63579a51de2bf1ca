-- The steps of a turn keep the rule: draw, look, tell and pass.
use Rattle.std.proofs.Common.{◌≡◌, ◌≢◌, ℕ, ◌+◌, ◌-◌, ◌%◌, ◌^◌, ◌<◌, ◌≤◌, Bool, true, false, List, [], ◌∷◌, ◌++◌, length, get_or, set, sym, refl, ap, ◌∙◌, subst, arith, Option, Some, None, length-set, get_or-set_other, get_or-set_same}
use Rattle.std.proofs.Math.Nat.{mod-add-mod}
use mathlib.Core.Option.{none, some}
use mathlib.Core.List.{IsPrefix}
use native.Mathlib.Decide.{ℕ_discrete}
use lib.ListN.{get_elem?}
use lib.Seq.{set-get_or}
use Rattle.atomic_table.specs.Table
use Rattle.atomic_table.specs.Table.{State, Me, step, Act, keeps, takes, gives, stepped, Allows}
use Rattle.atomic_table.proofs.Lists.{set_here, set_else, one_turn}
use Rattle.ld_turn.specs.declared.rule.View.{View}
use Rattle.ld_turn.specs.declared.rule.Stage.{Stage}
use Rattle.ld_turn.specs.declared.rule.Stage.TheVariants.{Idle, Asking, Giving, Waiting, Holding}
use Rattle.ld_turn.specs.History.{Owns, IsOwnFrom, own_after}
use Rattle.ld_turn.specs.Views.{tickets, tickets_at, giving_at, seats, is_holding, Begins}
use Rattle.ld_turn.specs.Rule.{Reads, Knows, Counts, Owned, Kept}
use Rattle.ld_turn.specs.Steps.{drawn, looked, told, passed}
use Rattle.ld_turn.proofs.Small.{put, put_here, put_else, prefix_self, prefix_trans, sum_set, sum_le, each_set, within}
use Rattle.ld_turn.proofs.Stages.{IsPlain, waiting_is, begin_more}
use Rattle.ld_turn.proofs.Counting.{counts_stay}
use Rattle.ld_turn.proofs.Owning.{own_stay, own_tell}
use Rattle.ld_turn.proofs.Keeping.{made_else, not_holder, knows, holder, unchanged}

abbrev first_or : {V : Type 0} → V → List (ℕ × Option V) → V
first_or d [] = d
first_or d (x ∷ xs) = elim (x.1) [ None ↦ d | Some v ↦ v ]

first_is : {V : Type 0} → (a b : V) → (let l : List (ℕ × Option V) = (0, Some a) ∷ [] in l) ≡ (0, Some b) ∷ [] → a ≡ b
first_is a b e = ap (first_or a) e

module _ {V E : Type 0} (list : V → List E) (seat_of : List E → ℕ → Option ℕ) where
  abbrev St : Type 0
  St = State (Option V) (View E)

  abbrev Sat : Type 0
  Sat = Me (Option V) (View E)

  abbrev Rule : St → Type 0
  Rule = Kept list seat_of

  pub draws : (slots id : ℕ) (me : Sat) → me.0.stage ≡ Idle → me.0.seats ≡ 1 → Allows Rule slots id me 0 (λ n. (n + 1) % 2 ^ 64) (drawn (step slots 0 1 0 none) me)
  draws slots id me is one s r deep at _ =
      let t : ℕ = r.low + r.n in
      let w : View E = record me.0 { stage = Waiting t } in
      let y : ℕ = (get_or s.words 0 0 + 1) % 18446744073709551616 in
      let wide = r.reads.wide in
      let same = made_else s.words 0 y (λ e. omega (arith, e)) in (
        w,
        keeps,
        tt,
        record {
          low = r.low;
          n = r.n + 1;
          owner = put r.owner t id;
          log = r.log;
          out = r.out;
          reads = record {
            wide = length-set s.words 0 y ∙ wide;
            ticket = get_or-set_same s.words 0 y 0 (omega arith) ∙ (ap (λ (z : ℕ). (z + 1) % 18446744073709551616) r.reads.ticket ∙ (mod-add-mod (r.low + r.n) 18446744073709551616 1 ∙ ap (λ (z : ℕ). z % 18446744073709551616) (omega arith)));
            serving = get_or-set_other s.words 0 1 y 0 (λ e. omega (arith, e)) ∙ r.reads.serving;
            told_is = get_or-set_other s.words 0 2 y 0 (λ e. omega (arith, e)) ∙ r.reads.told_is;
          };
          deep = r.deep;
          count = omega (arith, r.count, sum_set tickets s.views id me.0 w at, ap tickets_at is);
          own = subst (λ (m : ℕ). Owned seat_of r.log m (set s.views id w)) (sym same) (own_stay seat_of r.log (get_or s.words 3 0) s.views id me.0 w r.own at refl refl refl refl);
          made = subst (λ (m : ℕ). Counts m (set s.views id w)) (sym same) (counts_stay (get_or s.words 3 0) s.views id me.0 w r.made at (subst IsPlain (sym is) tt) tt refl refl (omega arith));
          stage = each_set (λ j d. Knows r.low r.n r.owner r.log r.out j d.front d.stage) (λ j d. Knows r.low (r.n + 1) (put r.owner t id) r.log r.out j d.front d.stage) s.views id w (omega arith, omega arith, put_here r.owner t id)
              (λ j d _ k. more j d d.stage k) r.stage;
          front = each_set (λ _. Begins r.log) (λ _. Begins r.log) s.views id w (r.front id me.0 at) (λ j d _ k. k) r.front;
          home = r.home;
          held = λ e. let h = r.held e in let k = knows list seat_of s r (r.owner r.low) h.0 (Holding r.low) h.1 h.2 in let pos = k.1 in
              let same : put r.owner t id r.low ≡ r.owner r.low = put_else r.owner t id r.low (λ z. omega (arith, z)) in
              let apart : r.owner r.low ≢ id = not_holder s.views id me.0 (r.owner r.low) h.0 r.low at h.1 (ap is_holding is) h.2 in
              (h.0, subst (λ (z : ℕ). get_elem? (set s.views id w) z ≡ some h.0) (sym same) (set_else s.views id (r.owner r.low) w apart ∙ h.1), h.2);
        },
        (refl, (t, r.reads.ticket, refl)),
      )
    where
      more : (j : ℕ) (d : View E) (st : Stage) → Knows r.low r.n r.owner r.log r.out j d.front st → Knows r.low (r.n + 1) (put r.owner (r.low + r.n) id) r.log r.out j d.front st
      more j d Idle k = tt
      more j d Asking k = tt
      more j d (Giving u) k = tt
      more j d (Waiting u) k = let lt = k.1 in (k.0, omega arith, put_else r.owner (r.low + r.n) id u (λ e. omega (arith, e)) ∙ k.2)
      more j d (Holding u) k = let pos = k.1 in (k.0, omega arith, put_else r.owner (r.low + r.n) id r.low (λ e. omega (arith, e)) ∙ k.2, k.3, k.4)

  -- the state, with a seat at look
  looks_at : (slots id : ℕ) (me : Sat) (t : ℕ) → me.0.stage ≡ Waiting t → me.0.seats ≡ 1 → (s : St) (r : Rule s) → get_elem? s.views id ≡ some me.0 → (b : Bool) → r.out ≡ b → Dec (r.low ≡ t)
      → (w : View E) × (a : Act (Option V)) × Table.Valid s.homes me.1 a × Rule (stepped s 1 (get_or s.words 1 0) id me.1 w a) × looked list seat_of (step slots 1 0 0 none) me (get_or s.words 1 0) (w, Table.carried_after me.1 a)
  looks_at slots id me t is one s r at true out (yes e) =
      let h = r.held out in let k = knows list seat_of s r id me.0 (Waiting t) at is in
      let same : r.owner r.low ≡ id = ap r.owner e ∙ k.2 in
      absurd (not_holder s.views id me.0 (r.owner r.low) h.0 r.low at h.1 (ap is_holding is) h.2 same)
  looks_at slots id me t is one s r at false out (yes e) =
      let h = r.home out in let k = knows list seat_of s r id me.0 (Waiting t) at is in let lt = k.1 in let deep = r.deep in
      let v : V = h.0 in
      let w : View E = record me.0 { stage = Holding t; front = list v } in
      let had : tickets me.0 ≡ 1 = ap tickets_at is in
      let same : r.owner r.low ≡ id = ap r.owner e ∙ k.2 in (
        w,
        takes 0 (Some v),
        h.1,
        subst (λ (ws : List ℕ). Rule record { words = ws; homes = set s.homes 0 none; views = set s.views id w }) (sym (set-get_or s.words 1 0)) record {
          low = r.low;
          n = r.n;
          owner = r.owner;
          log = r.log;
          out = true;
          reads = r.reads;
          deep = length-set s.homes 0 none ∙ deep;
          count = omega (arith, r.count, sum_set tickets s.views id me.0 w at, had);
          own = own_stay seat_of r.log (get_or s.words 3 0) s.views id me.0 w r.own at refl refl refl refl;
          made = counts_stay (get_or s.words 3 0) s.views id me.0 w r.made at (subst IsPlain (sym is) tt) tt refl refl (omega arith);
          stage = each_set (λ j d. Knows r.low r.n r.owner r.log r.out j d.front d.stage) (λ j d. Knows r.low r.n r.owner r.log true j d.front d.stage) s.views id w (sym e, omega arith, same, refl, h.2) (λ j d _ k. now_out j d.front d.stage k) r.stage;
          front = each_set (λ _. Begins r.log) (λ _. Begins r.log) s.views id w (subst (λ (l : List E). IsPrefix l r.log) (sym h.2) (prefix_self r.log), (r.front id me.0 at).1) (λ j d _ k. k) r.front;
          home = λ z. absurd (cc z);
          held = λ _. (w, subst (λ (z : ℕ). get_elem? (set s.views id w) z ≡ some w) (sym same) (set_here s.views id w (within s.views id me.0 at)), ap (λ (z : ℕ). let q : Stage = Holding z in q) (sym e));
        },
        λ u is'. let same_t : t ≡ u = waiting_is t u (sym is ∙ is') in (
          (λ _. (v, refl, ap (λ (z : ℕ). let q : View E = record me.0 { stage = Holding z; front = list v } in q) same_t, subst (IsPrefix me.0.front) (sym h.2) (r.front id me.0 at).0, λ pos. subst (λ (l : List E). Owns seat_of l me.0.number me.0.own) (sym h.2) (r.own.each id me.0 at pos).2)),
          λ miss. absurd (miss (r.reads.serving ∙ ap (λ (z : ℕ). z % 18446744073709551616) (e ∙ same_t))),
        ),
      )
    where
      now_out : (j : ℕ) (front : List E) (st : Stage) → Knows r.low r.n r.owner r.log r.out j front st → Knows r.low r.n r.owner r.log true j front st
      now_out j front Idle k = tt
      now_out j front Asking k = tt
      now_out j front (Giving u) k = tt
      now_out j front (Waiting u) k = k
      now_out j front (Holding u) k = (k.0, k.1, k.2, refl, k.4)
  looks_at slots id me t is one s r at b out (no ne) =
      let k = knows list seat_of s r id me.0 (Waiting t) at is in let le = k.0 in let lt = k.1 in
      let few : r.n ≤ 256 = omega (arith, r.count, r.made.total, sum_le tickets seats s.views (λ j d p. omega (arith, (r.made.each j d p).ticket))) in
      let back = set-get_or s.words 1 0 in (
        me.0,
        keeps,
        tt,
        unchanged list seat_of s r id me.0 1 (get_or s.words 1 0) at (subst (Reads r.low r.n (length r.log)) (sym back) r.reads) (ap (λ (ws : List ℕ). get_or ws 3 0) back),
        λ u is'. let same_t : t ≡ u = waiting_is t u (sym is ∙ is') in (
          (λ hit. absurd (ne (one_turn r.low t 18446744073709551616 le (omega arith) (sym r.reads.serving ∙ (hit ∙ ap (λ (z : ℕ). z % 18446744073709551616) (sym same_t)))))),
          λ _. refl,
        ),
      )

  pub looks : (slots id : ℕ) (me : Sat) (t : ℕ) → me.0.stage ≡ Waiting t → me.0.seats ≡ 1 → Allows Rule slots id me 1 (λ n. n) (looked list seat_of (step slots 1 0 0 none) me)
  looks slots id me t is one s r deep at _ = looks_at slots id me t is one s r at r.out refl (ℕ_discrete r.low t)

  pub tells : ((xs ys : List E) (i : ℕ) → i < length xs → seat_of (xs ++ ys) i ≡ seat_of xs i) → (slots id : ℕ) (me : Sat) (v : V) (k : ℕ) → IsOwnFrom seat_of (list v) (length me.0.front) me.0.number → is_holding me.0.stage ≡ true → me.0.seats ≡ 1
      → me.1 ≡ (0, Some v) ∷ [] → IsPrefix me.0.front (list v) → length me.0.front + k ≡ length (list v) → length (list v) < 18446744073709551616 → Allows Rule slots id me 2 (λ n. (n + k) % 2 ^ 64) (told list (step slots 2 k 0 none) me)
  tells stays slots id me v k own holds one carried grows counted fits s r deep at _ =
      let h = holder list seat_of s r id me.0 at me.0.stage refl holds in
      let w : View E = record me.0 { front = list v; own = own_after me.0.own me.0.front (list v) } in
      let x : ℕ = get_or s.words 2 0 in
      let y : ℕ = (x + k) % 18446744073709551616 in
      let wide = r.reads.wide in
      let same = made_else s.words 2 y (λ e. omega (arith, e)) in
      let plain : IsPlain me.0.stage = subst IsPlain (sym h.4) tt in
      let more : IsPrefix r.log (list v) = subst (λ (l : List E). IsPrefix l (list v)) h.2 grows in
      let sum : x + k ≡ length (list v) = ap (λ (z : ℕ). z + k) (r.reads.told_is ∙ sym (ap length h.2)) ∙ counted in (
        w,
        keeps,
        tt,
        record {
          low = r.low;
          n = r.n;
          owner = r.owner;
          log = list v;
          out = r.out;
          reads = record {
            wide = length-set s.words 2 y ∙ wide;
            ticket = get_or-set_other s.words 2 0 y 0 (λ e. omega (arith, e)) ∙ r.reads.ticket;
            serving = get_or-set_other s.words 2 1 y 0 (λ e. omega (arith, e)) ∙ r.reads.serving;
            told_is = get_or-set_same s.words 2 y 0 (omega arith) ∙ omega arith;
          };
          deep = r.deep;
          count = omega (arith, r.count, sum_set tickets s.views id me.0 w at);
          own = subst (λ (m : ℕ). Owned seat_of (list v) m (set s.views id w)) (sym same)
              (own_tell seat_of stays r.log (list v) (get_or s.words 3 0) s.views id me.0 w r.own at (omega arith) more (subst (λ (l : List E). IsOwnFrom seat_of (list v) (length l) me.0.number) h.2 own)
              (ap giving_at h.4) refl refl (ap (λ (l : List E). own_after me.0.own l (list v)) h.2));
          made = subst (λ (m : ℕ). Counts m (set s.views id w)) (sym same) (counts_stay (get_or s.words 3 0) s.views id me.0 w r.made at plain plain refl refl (r.made.each id me.0 at).ticket);
          stage = each_set (λ j d. Knows r.low r.n r.owner r.log r.out j d.front d.stage) (λ j d. Knows r.low r.n r.owner (list v) r.out j d.front d.stage) s.views id w
              (subst (Knows r.low r.n r.owner (list v) r.out id (list v)) (sym h.4) (refl, h.1, h.0, h.3, refl))
              (λ j d other k. others j d.front d.stage (λ e. other (sym e ∙ h.0)) k) r.stage;
          front = each_set (λ _. Begins r.log) (λ _. Begins (list v)) s.views id w (prefix_self (list v), begin_more r.log (list v) me.0.olds more (r.front id me.0 at).1)
              (λ j d _ k. (prefix_trans d.front r.log (list v) k.0 more, begin_more r.log (list v) d.olds more k.1)) r.front;
          home = λ z. absurd (cc (z, h.3));
          held = λ _. (w, subst (λ (z : ℕ). get_elem? (set s.views id w) z ≡ some w) (sym h.0) (set_here s.views id w (within s.views id me.0 at)), h.4);
        },
        λ u is. let same : v ≡ u = first_is v u (sym carried ∙ is) in (refl, ap (λ (z : V). let q : View E = record me.0 { front = list z; own = own_after me.0.own me.0.front (list z) } in q) same),
      )
    where
      others : (j : ℕ) (front : List E) (st : Stage) → r.owner r.low ≢ j → Knows r.low r.n r.owner r.log r.out j front st → Knows r.low r.n r.owner (list v) r.out j front st
      others j front Idle ne k = tt
      others j front Asking ne k = tt
      others j front (Giving u) ne k = tt
      others j front (Waiting u) ne k = k
      others j front (Holding u) ne k = absurd (ne k.2)

  pub passes : (slots id : ℕ) (me : Sat) (v : V) → is_holding me.0.stage ≡ true → me.0.seats ≡ 1 → me.1 ≡ (0, Some v) ∷ [] → me.0.front ≡ list v
      → Allows Rule slots id me 1 (λ n. (n + 1) % 2 ^ 64) (passed (step slots 1 1 0 none) me)
  passes slots id me v holds one carried value s r deep at _ =
      let h = holder list seat_of s r id me.0 at me.0.stage refl holds in let pos = h.1 in
      let w : View E = record me.0 { stage = Idle } in
      let y : ℕ = (get_or s.words 1 0 + 1) % 18446744073709551616 in
      let wide = r.reads.wide in let one_slot = r.deep in
      let same = made_else s.words 1 y (λ e. omega (arith, e)) in
      let had : tickets me.0 ≡ 1 = ap tickets_at h.4 in (
        w,
        gives,
        tt,
        record {
          low = r.low + 1;
          n = r.n - 1;
          owner = r.owner;
          log = r.log;
          out = false;
          reads = record {
            wide = length-set s.words 1 y ∙ wide;
            ticket = get_or-set_other s.words 1 0 y 0 (λ e. omega (arith, e)) ∙ (r.reads.ticket ∙ ap (λ (z : ℕ). z % 18446744073709551616) (omega arith));
            serving = get_or-set_same s.words 1 y 0 (omega arith) ∙ (ap (λ (z : ℕ). (z + 1) % 18446744073709551616) r.reads.serving ∙ mod-add-mod r.low 18446744073709551616 1);
            told_is = get_or-set_other s.words 1 2 y 0 (λ e. omega (arith, e)) ∙ r.reads.told_is;
          };
          deep = ap (λ (c : List (ℕ × Option V)). length (Table.put_back s.homes c)) carried ∙ (length-set s.homes 0 (some (Some v)) ∙ one_slot);
          count = omega (arith, r.count, sum_set tickets s.views id me.0 w at, had);
          own = subst (λ (m : ℕ). Owned seat_of r.log m (set s.views id w)) (sym same) (own_stay seat_of r.log (get_or s.words 3 0) s.views id me.0 w r.own at refl refl refl refl);
          made = subst (λ (m : ℕ). Counts m (set s.views id w)) (sym same) (counts_stay (get_or s.words 3 0) s.views id me.0 w r.made at (subst IsPlain (sym h.4) tt) tt refl refl (omega arith));
          stage = each_set (λ j d. Knows r.low r.n r.owner r.log r.out j d.front d.stage) (λ j d. Knows (r.low + 1) (r.n - 1) r.owner r.log false j d.front d.stage) s.views id w tt
              (λ j d other k. others j d.front d.stage (λ e. other (sym e ∙ h.0)) pos k) r.stage;
          front = each_set (λ _. Begins r.log) (λ _. Begins r.log) s.views id w (r.front id me.0 at) (λ j d _ k. k) r.front;
          home = λ _. (v, ap (λ (c : List (ℕ × Option V)). get_elem? (Table.put_back s.homes c) 0) carried ∙ set_here s.homes 0 (some (Some v)) (omega arith), sym value ∙ h.2);
          held = λ z. absurd (cc z);
        },
        (ap Table.rest carried, refl),
      )
    where
      others : (j : ℕ) (front : List E) (st : Stage) → r.owner r.low ≢ j → 0 < r.n → Knows r.low r.n r.owner r.log r.out j front st → Knows (r.low + 1) (r.n - 1) r.owner r.log false j front st
      others j front Idle ne pos k = tt
      others j front Asking ne pos k = tt
      others j front (Giving u) ne pos k = tt
      others j front (Waiting u) ne pos k = let le = k.0 in let lt = k.1 in let differ : r.low ≢ u = λ e. ne (ap r.owner e ∙ k.2) in (omega arith, omega arith, k.2)
      others j front (Holding u) ne pos k = absurd (ne k.2)
