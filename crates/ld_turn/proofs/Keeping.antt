-- What the steps share: which steps leave the rule as it is, and who has the turn.
use Rattle.std.proofs.Common.{◌≡◌, ◌≢◌, ℕ, ◌<◌, ◌≤◌, Bool, true, false, List, length, get_or, set, sym, refl, ap, ◌∙◌, subst, arith, Option, length-set, get_or-set_other}
use mathlib.Core.Option.{none, some, some-injective}
use lib.ListN.{get_elem?}
use Rattle.atomic_table.specs.Table.{State, Me, step, keeps, Allows}
use Rattle.atomic_table.proofs.Lists.{set_else, set_again}
use Rattle.ld_turn.specs.declared.rule.View.{View}
use Rattle.ld_turn.specs.declared.rule.Stage.{Stage}
use Rattle.ld_turn.specs.declared.rule.Stage.TheVariants.{Idle, Asking, Giving, Waiting, Holding}
use Rattle.ld_turn.specs.Views.{tickets, tickets_at, is_holding, Begins}
use Rattle.ld_turn.specs.Rule.{Reads, Knows, Counts, Owned, Kept}
use Rattle.ld_turn.specs.Steps.{rang}
use Rattle.ld_turn.proofs.Small.{sum_set, each_set}

-- a word behind the third changes, and the three stay
pub reads_else : (low n told : ℕ) (words : List ℕ) (i y : ℕ) → Reads low n told words → 3 ≤ i → Reads low n told (set words i y)
reads_else low n told words i y r high = record {
  wide = length-set words i y ∙ r.wide;
  ticket = get_or-set_other words i 0 y 0 (λ e. omega (arith, e)) ∙ r.ticket;
  serving = get_or-set_other words i 1 y 0 (λ e. omega (arith, e)) ∙ r.serving;
  told_is = get_or-set_other words i 2 y 0 (λ e. omega (arith, e)) ∙ r.told_is;
}

pub made_else : (words : List ℕ) (i y : ℕ) → i ≢ 3 → get_or (set words i y) 3 0 ≡ get_or words 3 0
made_else words i y ne = get_or-set_other words i 3 y 0 (λ e. ne (sym e))

-- a seat at this stage has no ticket
abbrev pub IsFree : Stage → Type 0
IsFree Idle = Unit {0}
IsFree Asking = Unit {0}
IsFree (Giving k) = Unit {0}
IsFree (Waiting t) = ⊥
IsFree (Holding t) = ⊥

pub free_tickets : (st : Stage) → IsFree st → tickets_at st ≡ 0
free_tickets Idle p = refl
free_tickets Asking p = refl
free_tickets (Giving k) p = refl
free_tickets (Waiting t) p = absurd p
free_tickets (Holding t) p = absurd p

pub free_holding : (st : Stage) → IsFree st → is_holding st ≡ false
free_holding Idle p = refl
free_holding Asking p = refl
free_holding (Giving k) p = refl
free_holding (Waiting t) p = absurd p
free_holding (Holding t) p = absurd p

module _ {E : Type 0} where
  pub free_knows : (low n : ℕ) (owner : ℕ → ℕ) (log : List E) (out : Bool) (seat : ℕ) (front : List E) (st : Stage) → IsFree st → Knows low n owner log out seat front st
  free_knows low n owner log out seat front Idle p = tt
  free_knows low n owner log out seat front Asking p = tt
  free_knows low n owner log out seat front (Giving k) p = tt
  free_knows low n owner log out seat front (Waiting t) p = absurd p
  free_knows low n owner log out seat front (Holding t) p = absurd p

  -- of two places, one with a seat that has the turn and one without
  pub not_holder : (vs : List (View E)) (i : ℕ) (a : View E) (j : ℕ) (b : View E) (t : ℕ) → get_elem? vs i ≡ some a → get_elem? vs j ≡ some b → is_holding a.stage ≡ false → b.stage ≡ Holding t → j ≢ i
  not_holder vs i a j b t p q idle holds e =
      let same : a ≡ b = some-injective a b (sym p ∙ (ap (get_elem? vs) (sym e) ∙ q)) in
      let f : is_holding b.stage ≡ false = sym (ap (λ (d : View E). is_holding d.stage) same) ∙ idle in
      let g : is_holding b.stage ≡ true = ap is_holding holds in
      absurd (cc (f, g))

module _ {V E : Type 0} (list : V → List E) (seat_of : List E → ℕ → Option ℕ) where
  abbrev St : Type 0
  St = State (Option V) (View E)

  abbrev Rule : St → Type 0
  Rule = Kept list seat_of

  pub knows : (s : St) (r : Rule s) (id : ℕ) (d : View E) (st : Stage) → get_elem? s.views id ≡ some d → d.stage ≡ st → Knows r.low r.n r.owner r.log r.out id d.front st
  knows s r id d st at is = subst (Knows r.low r.n r.owner r.log r.out id d.front) is (r.stage id d at)

  -- the seat has the turn
  pub holder : (s : St) (r : Rule s) (id : ℕ) (d : View E) → get_elem? s.views id ≡ some d → (st : Stage) → d.stage ≡ st → is_holding st ≡ true → (r.owner r.low ≡ id) × (0 < r.n) × (d.front ≡ r.log) × (r.out ≡ true) × (d.stage ≡ Holding r.low)
  holder s r id d at Idle is h = absurd (cc h)
  holder s r id d at Asking is h = absurd (cc h)
  holder s r id d at (Giving k) is h = absurd (cc h)
  holder s r id d at (Waiting t) is h = absurd (cc h)
  holder s r id d at (Holding t) is h = let k = knows s r id d (Holding t) at is in (k.2, k.1, k.4, k.3, is ∙ ap (λ (z : ℕ). let q : Stage = Holding z in q) k.0)

  -- the words change where the rule doesn't read them
  pub rewords : (s : St) (r : Rule s) (words : List ℕ) → Reads r.low r.n (length r.log) words → get_or words 3 0 ≡ get_or s.words 3 0 → Rule record { words = words; homes = s.homes; views = s.views }
  rewords s r words reads made = record {
    low = r.low;
    n = r.n;
    owner = r.owner;
    log = r.log;
    out = r.out;
    reads = reads;
    deep = r.deep;
    made = subst (λ (m : ℕ). Counts m s.views) (sym made) r.made;
    own = subst (λ (m : ℕ). Owned seat_of r.log m s.views) (sym made) r.own;
    count = r.count;
    stage = r.stage;
    front = r.front;
    home = r.home;
    held = r.held;
  }

  -- nothing changes
  pub unchanged : (s : St) (r : Rule s) (id : ℕ) (d : View E) (i y : ℕ) → get_elem? s.views id ≡ some d → Reads r.low r.n (length r.log) (set s.words i y) → get_or (set s.words i y) 3 0 ≡ get_or s.words 3 0 → Rule record { words = set s.words i y; homes = s.homes; views = set s.views id d }
  unchanged s r id d i y at reads made =
      subst (λ (vs : List (View E)). Rule record { words = set s.words i y; homes = s.homes; views = vs }) (sym (set_again s.views id d at)) (rewords s r (set s.words i y) reads made)

  -- a step of a seat that has no ticket
  pub aside : (s : St) (r : Rule s) (words : List ℕ) (id : ℕ) (v w : View E) → get_elem? s.views id ≡ some v → Reads r.low r.n (length r.log) words → IsFree v.stage → IsFree w.stage → Begins r.log w
      → Owned seat_of r.log (get_or words 3 0) (set s.views id w) → Counts (get_or words 3 0) (set s.views id w) → Rule record { words = words; homes = s.homes; views = set s.views id w }
  aside s r words id v w at reads was is begins own counts = record {
    low = r.low;
    n = r.n;
    owner = r.owner;
    log = r.log;
    out = r.out;
    reads = reads;
    deep = r.deep;
    own = own;
    made = counts;
    count = omega (arith, r.count, sum_set tickets s.views id v w at, free_tickets v.stage was, free_tickets w.stage is);
    stage = each_set (λ j x. Knows r.low r.n r.owner r.log r.out j x.front x.stage) (λ j x. Knows r.low r.n r.owner r.log r.out j x.front x.stage) s.views id w
        (free_knows r.low r.n r.owner r.log r.out id w.front w.stage is) (λ j x _ k. k) r.stage;
    front = each_set (λ _. Begins r.log) (λ _. Begins r.log) s.views id w begins (λ j x _ k. k) r.front;
    home = r.home;
    held = λ z. let h = r.held z in
        let not_v : r.owner r.low ≢ id = not_holder s.views id v (r.owner r.low) h.0 r.low at h.1 (free_holding v.stage was) h.2 in
        (h.0, set_else s.views id (r.owner r.low) w not_v ∙ h.1, h.2);
  }

  -- a step on a bell
  pub rings : (slots id : ℕ) (me : Me (Option V) (View E)) (i first : ℕ) (f : ℕ → ℕ) → 3 < i → Allows Rule slots id me i f (rang (step slots i first 0 none) me)
  rings slots id me i first f bell s r deep at _ = let y : ℕ = f (get_or s.words i 0) in (
    me.0,
    keeps,
    tt,
    unchanged s r id me.0 i y at (reads_else r.low r.n (length r.log) s.words i y r.reads (omega arith)) (made_else s.words i y (λ e. omega (arith, e))),
    refl,
  )
