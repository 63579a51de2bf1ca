-- Where the store is full and some stored IRI may go, one of them is the next to go out.
use Rattle.std.proofs.Common.{◌≡◌, ℕ, zero, suc, ◌+◌, length, ◌≤◌, List, [], ◌∷◌, refl, ap, ◌∙◌, arith, Option, Some, None, Bool, true, false, not, cond, ◌&&◌, ◌||◌, inl, inr}
use Rattle.std.specs.Prelude.{is_some, if◌then◌else◌, nat_lt, nat_le, ◌==◌, slice_get, option_map}
use Rattle.std.specs.List.{find, list_all}
use Rattle.std.specs.Map.{keys_of}
use Rattle.std.specs.Cmp.{eq_by_cmp_equiv}
use Rattle.std.specs.Cmp.Lexicographic.{nat_list_cmp_total}
use Rattle.std.proofs.lemmas.Bool.{cases_Bool, and_from, or_left, or_right}
use Rattle.std.proofs.lemmas.Bool.Decides.{nat_tests}
use Rattle.std.proofs.lemmas.Map.Entries.{lookup_from_place}
use Rattle.std.proofs.lemmas.Map.Keys.{IsDistinct-from_sorted}
use Rattle.ld_tree.specs.Names.{name_cmp}
use Rattle.ld_history.specs.declared.limits.Limits.{Limits}
use Rattle.ld_history.specs.declared.event.Event.TheVariants as event
use Rattle.ld_history.specs.declared.event.How.TheVariants as how
use Rattle.ld_history.specs.declared.answers.LackAnswer.TheVariants as lack_answer
use Rattle.ld_history.specs.declared.session.Flying.{Flying}
use Rattle.ld_history.specs.declared.session.Session.{Session}
use Rattle.ld_history.specs.declared.session.Stored.{Stored}
use Rattle.ld_history.specs.Store.{Store}
use Rattle.ld_history.specs.Words.{at_iri, is_some_and, is_stored, places, archive_has_room, may_go, none_before, is_next_out}
use Rattle.ld_history.specs.Rules.{none_may_go, is_full}
use Rattle.ld_history.specs.Legal.{state, Entries}
use Rattle.ld_history.specs.ByTurns.{Legal}
use Rattle.ld_history.specs.Steps.{taken, plain, ending, led, led_after, joining, missing, next_out}
use Rattle.ld_history.proofs.LawReads.{both}
use Rattle.ld_history.proofs.LawSound.{sound}

abbrev Stock : Type 0
Stock = List (List ℕ × Stored)

module _ (goes : List ℕ → Bool) where
  -- no entry that goes is of a lesser version
  abbrev least : ℕ → Stock → Bool
  least version es = list_all (λ e. not (goes e.0) || nat_le version e.1.version) es

  pub record Least (es : Stock) : Type 0 where
    pub place : ℕ
    pub e : List ℕ × Stored
    pub is : slice_get es place ≡ Some e
    pub free : goes e.0 ≡ true
    pub first : least e.1.version es ≡ true

  not_later : (g : Bool) (a b n : ℕ) → a ≤ b → (not g || nat_le b n) ≡ true → (not g || nat_le a n) ≡ true
  not_later true a b n le h = grind (arith, nat_tests)
  not_later false a b n le h = refl

  all_later : (a b : ℕ) (es : Stock) → a ≤ b → least b es ≡ true → least a es ≡ true
  all_later a b [] le h = refl
  all_later a b (e ∷ es) le h =
      let parts = both h in
      and_from _ _ (not_later (goes e.0) a b e.1.version le parts.0) (all_later a b es le parts.1)

  none_goes : (version : ℕ) (es : Stock) → list_all (λ iri. not (goes iri)) (keys_of es) ≡ true → least version es ≡ true
  none_goes version [] h = refl
  none_goes version (e ∷ es) h = let parts = both h in and_from _ _ (or_left _ _ parts.0) (none_goes version es parts.1)

  itself : (g : Bool) (n : ℕ) → (not g || nat_le n n) ≡ true
  itself true n = grind (arith, nat_tests)
  itself false n = refl

  stays : (g : Bool) → g ≡ false → (n m : ℕ) → (not g || nat_le n m) ≡ true
  stays true not_free n m = cc
  stays false not_free n m = refl

  kept_first : (e : List ℕ × Stored) (es : Stock) (l : Least es) → (not (goes e.0) || nat_le l.e.1.version e.1.version) ≡ true → Least (e ∷ es)
  kept_first e es l h = record { place = suc l.place; e = l.e; is = l.is; free = l.free; first = and_from _ _ h l.first }

  new_first : (e : List ℕ × Stored) (es : Stock) → goes e.0 ≡ true → least e.1.version es ≡ true → Least (e ∷ es)
  new_first e es free h = record { place = 0; e = e; is = refl; free = free; first = and_from _ _ (itself (goes e.0) e.1.version) h }

  or_first : (e : List ℕ × Stored) (es : Stock) → goes e.0 ≡ true → (l : Least es) → (b : Bool) → nat_le l.e.1.version e.1.version ≡ b → Least (e ∷ es)
  or_first e es free l true le = kept_first e es l (or_right _ _ le)
  or_first e es free l false over = new_first e es free (let less : e.1.version ≤ l.e.1.version = grind (arith, nat_tests) in all_later e.1.version l.e.1.version es less l.first)

  pub some_least : (es : Stock) → list_all (λ iri. not (goes iri)) (keys_of es) ≡ false → Least es
  some_least [] h = cc
  some_least (e ∷ es) h =
      elim (goes e.0) as (λ b. goes e.0 ≡ b → (not b && list_all (λ iri. not (goes iri)) (keys_of es)) ≡ false → Least (e ∷ es)) [
        | false ↦ λ no rest. let l = some_least es rest in kept_first e es l (stays (goes e.0) no l.e.1.version e.1.version)
        | true ↦ λ free any. elim (cases_Bool (list_all (λ iri. not (goes iri)) (keys_of es))) [
          | inl none ↦ new_first e es free (none_goes e.1.version es none)
          | inr some ↦ let l = some_least es some in or_first e es free l (nat_le l.e.1.version e.1.version) refl
        ]
      ] refl h

pub found_some : {X : Type 0} (p : X → Bool) (xs : List X) (i : ℕ) (x : X) → slice_get xs i ≡ Some x → p x ≡ true → is_some (find p xs) ≡ true
found_some p [] i x is h = cc
found_some p (y ∷ ys) zero x is h = let same : y ≡ x = cc in ap (λ b. is_some (cond b (Some y) (find p ys))) (ap p same ∙ h)
found_some p (y ∷ ys) (suc i) x is h =
    elim (p y) as (λ b. is_some (cond b (Some y) (find p ys)) ≡ true) [ true ↦ refl | false ↦ found_some p ys i x is h ]

mapped_some : {X Y : Type 0} (g : X → Y) (o : Option X) → is_some o ≡ true → is_some (option_map g o) ≡ true
mapped_some g None h = cc
mapped_some g (Some x) h = refl

not_both : (a b : Bool) → a ≡ true → (a && b) ≡ false → b ≡ false
not_both true b h k = k
not_both false b h k = cc

pub next_goes : (limits : Limits) (entries : Entries) → Legal limits entries → (places (state entries) == limits.contexts) ≡ true → is_full limits (state entries) ≡ false → is_some (next_out (state entries)) ≡ true
next_goes limits entries legal full free =
    let l = some_least (may_go (state entries)) (state entries).stored (not_both _ (none_may_go (state entries)) full free) in
    let there : at_iri (state entries).stored l.e.0 ≡ Some l.e.1
    = lookup_from_place (eq_by_cmp_equiv nat_list_cmp_total) (state entries).stored l.place l.e.0 l.e.1
    (IsDistinct-from_sorted name_cmp (keys_of (state entries).stored) (sound limits entries legal).air.flights.stored_sorted) l.is in
    let next : is_next_out (state entries) l.e.0 ≡ true = ap (is_some_and (λ (out : Stored). may_go (state entries) l.e.0 && none_before (state entries) out.version)) there ∙ and_from _ _ l.free l.first in
    mapped_some (λ (e : List ℕ × Stored). e.0) (find (λ e. is_next_out (state entries) e.0) (state entries).stored)
    (found_some (λ e. is_next_out (state entries) e.0) (state entries).stored l.place l.e l.is next)

led_some : (store : Store) (session : ℕ) (iri : List ℕ) (o : Option (List ℕ)) → is_some o ≡ true → is_some (led_after store session iri o) ≡ true
led_some store session iri None h = cc
led_some store session iri (Some out) h = refl

-- so what a session may lack is always a step
module _ (limits : Limits) (entries : Entries) (legal : Legal limits entries) (session : ℕ) (iri : List ℕ) (s : Session) where
  placed_some : is_full limits (state entries) ≡ false → (b : Bool) → (places (state entries) == limits.contexts) ≡ b → is_some (if b then led_after (state entries) session iri (next_out (state entries))
      else Some (taken (lack_answer.Led (length (state entries).flights + 1) None) (plain (led (state entries) session iri) ∷ []))) ≡ true
  placed_some free false place = refl
  placed_some free true full = led_some (state entries) session iri (next_out (state entries)) (next_goes limits entries legal full free)

  roomy_some : is_full limits (state entries) ≡ false → (room : Bool) → is_some (if not room then Some (ending session s (lack_answer.ArchiveFull (state entries).bytes) (how.ArchiveFull (state entries).bytes))
      else if places (state entries) == limits.contexts then led_after (state entries) session iri (next_out (state entries))
      else Some (taken (lack_answer.Led (length (state entries).flights + 1) None) (plain (led (state entries) session iri) ∷ []))) ≡ true
  roomy_some free false = refl
  roomy_some free true = placed_some free (places (state entries) == limits.contexts) refl

  leading_some : (b : Bool) → is_full limits (state entries) ≡ b → is_some (if b then Some (ending session s lack_answer.StoreFull how.StoreFull)
      else if not (archive_has_room limits (state entries)) then Some (ending session s (lack_answer.ArchiveFull (state entries).bytes) (how.ArchiveFull (state entries).bytes))
      else if places (state entries) == limits.contexts then led_after (state entries) session iri (next_out (state entries))
      else Some (taken (lack_answer.Led (length (state entries).flights + 1) None) (plain (led (state entries) session iri) ∷ []))) ≡ true
  leading_some true full = refl
  leading_some false free = roomy_some free (archive_has_room limits (state entries))

  joining_some : (o : Option Flying) → is_some (joining limits (state entries) session iri s o) ≡ true
  joining_some None = leading_some (is_full limits (state entries)) refl
  joining_some (Some lead) = refl

  unstored_some : (stored : Bool) → is_some (if stored then Some (taken lack_answer.There (plain (event.Found session iri) ∷ []))
      else joining limits (state entries) session iri s (at_iri (state entries).leads iri)) ≡ true
  unstored_some true = refl
  unstored_some false = joining_some (at_iri (state entries).leads iri)

  missing_by : (fewer : Bool) → is_some (if not fewer then Some (ending session s (lack_answer.TooMany (length s.held)) (how.TooMany iri))
      else if is_stored (state entries) iri then Some (taken lack_answer.There (plain (event.Found session iri) ∷ []))
      else joining limits (state entries) session iri s (at_iri (state entries).leads iri)) ≡ true
  missing_by true = unstored_some (is_stored (state entries) iri)
  missing_by false = refl

  pub missing_some : is_some (missing limits (state entries) session iri s) ≡ true
  missing_some = missing_by (nat_lt (length s.held) limits.held)
