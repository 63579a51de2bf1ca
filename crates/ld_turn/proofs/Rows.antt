-- Lists of seats.
use Rattle.std.proofs.Common.{◌≡◌, ℕ, zero, suc, ◌+◌, ◌<◌, ◌≤◌, List, [], ◌∷◌, ◌++◌, length, get_or, set, refl, sym, ap, ◌∙◌, subst, arith, All, get_or-set_same, get_or-set_other, length-append, Option, Some, None, MatchOption, IsSome}
use Rattle.std.specs.List.{AllZip}
use Rattle.std.proofs.Math.Seq.{get_or-append_seam}
use Rattle.std.proofs.lemmas.List.{get_or_append_left}
use Rattle.std.proofs.lemmas.List.Elements.{AllZip-get_or, length_all_zip}
use mathlib.Core.List.{IsPrefix}
use mathlib.Core.Logic.{dite}
use native.Mathlib.Decide.{ℕ_discrete}
use Rattle.atomic_table.specs.Seated.{TableId}
use Rattle.atomic_table.specs.Table.{Me}
use Rattle.ld_turn.specs.declared.rule.View.{View}
use Rattle.ld_turn.specs.Known.{Known, AllSaw, IsRecounted}
use Rattle.ld_turn.specs.Views.{StandsFor, merged, Begins}
use Rattle.ld_turn.proofs.Stages.{begin_rest}

module _ {A : Type 0} where
  pub all_cons : (P : A → Type 0) (x : A) (xs : List A) → P x → All P xs → All P (x ∷ xs)
  all_cons P x xs p all zero d lt = p
  all_cons P x xs p all (suc k) d lt = all k d (omega (arith, lt))

  pub all_front : (P : A → Type 0) (xs : List A) (x : A) → All P (xs ++ x ∷ []) → All P xs
  all_front P xs x all k d lt = subst P (get_or_append_left xs (x ∷ []) d k lt) (all k d (omega (arith, length-append xs (x ∷ []))))

  pub all_last : (P : A → Type 0) (xs : List A) (x : A) → All P (xs ++ x ∷ []) → P x
  all_last P xs x all = subst P (get_or-append_seam xs x [] x) (all (length xs) x (omega (arith, length-append xs (x ∷ []))))

  pub zip_self : (R : A → A → Type 0) → ((x : A) → R x x) → (xs : List A) → AllZip R xs xs
  zip_self R self [] = tt
  zip_self R self (x ∷ xs) = (self x, zip_self R self xs)

  pub zip_set : (R : A → A → Type 0) (xs ys : List A) (i : ℕ) (y d : A) → AllZip R xs ys → i < length xs → R (get_or xs i d) y → AllZip R xs (set ys i y)
  zip_set R [] [] i y d z lt r = absurd (omega (arith, lt))
  zip_set R [] (b ∷ ys) i y d z lt r = absurd z
  zip_set R (a ∷ xs) [] i y d z lt r = absurd z
  zip_set R (a ∷ xs) (b ∷ ys) zero y d z lt r = (r, z.1)
  zip_set R (a ∷ xs) (b ∷ ys) (suc i) y d z lt r = (z.0, zip_set R xs ys i y d z.1 (omega (arith, lt)) r)

  pub zip_all : (R : A → A → Type 0) (P Q : A → Type 0) → ((x y : A) → R x y → P x → Q y) → (xs ys : List A) → AllZip R xs ys → All P xs → All Q ys
  zip_all R P Q step xs ys z all k d lt = let lt' : k < length xs = omega (arith, lt, length_all_zip R xs ys z) in step _ _ (AllZip-get_or R xs ys k d d z lt') (all k d lt')

  pub zip_back : (R : A → A → Type 0) (P Q : A → Type 0) → ((x y : A) → R x y → Q y → P x) → (xs ys : List A) → AllZip R xs ys → All Q ys → All P xs
  zip_back R P Q step xs ys z all k d lt = step _ _ (AllZip-get_or R xs ys k d d z lt) (all k d (omega (arith, lt, length_all_zip R xs ys z)))

module _ {E : Type 0} where
  pub recount : (a b c : Known E) → IsRecounted a b → IsRecounted b c → IsRecounted a c
  recount a b c p q = (q.0 ∙ ap (λ (k : Known E). record k { made = c.made }) p.0, omega (arith, p.1, q.1))

  pub found_more : (xs : List (Known E)) (i n : ℕ) (y : Known E) → i < length xs → ((k : ℕ) (d : Known E) → k < i → (get_or xs k d).made ≡ n) → y.made ≡ n → (k : ℕ) (d : Known E) → k < i + 1 → (get_or (set xs i y) k d).made ≡ n
  found_more xs i n y lt below here k d less = dite (ℕ_discrete k i)
      (λ e. ap (λ (s : Known E). s.made) (ap (λ (z : ℕ). get_or (set xs i y) z d) e ∙ get_or-set_same xs i y d lt) ∙ here)
      (λ ne. ap (λ (s : Known E). s.made) (get_or-set_other xs i k y d ne) ∙ below k d (omega (arith, less, ne)))

  pub recounted_by : (m : ℕ) (b c : Known E) → c ≡ record b { made = m } → b.made ≤ m → IsRecounted b c
  recounted_by m b c is le = (is ∙ ap (λ (n : ℕ). let k : Known E = record b { made = n } in k) (sym (ap (λ (k : Known E). k.made) is)), omega (arith, le, ap (λ (k : Known E). k.made) is))

  -- one of them has looked again
  pub zip_recount : (xs ys : List (Known E)) (i m : ℕ) (b c : Known E) → AllZip IsRecounted xs ys → i < length ys → b ≡ get_or ys i b → c ≡ record b { made = m } → b.made ≤ m → AllZip IsRecounted xs (set ys i c)
  zip_recount xs ys i m b c z lt at is le =
      let lt' : i < length xs = omega (arith, lt, length_all_zip IsRecounted xs ys z) in
      zip_set IsRecounted xs ys i c b z lt' (recount (get_or xs i b) b c (subst (IsRecounted (get_or xs i b)) (sym at) (AllZip-get_or IsRecounted xs ys i b b z lt')) (recounted_by m b c is le))

  pub locks_stay : (z : TableId) (xs ys : List (Known E)) → AllZip IsRecounted xs ys → All (λ (k : Known E). k.lock ≡ z) xs → All (λ (k : Known E). k.lock ≡ z) ys
  locks_stay z xs ys zip all = zip_all IsRecounted (λ (k : Known E). k.lock ≡ z) (λ (k : Known E). k.lock ≡ z) (λ x y r p. ap (λ (k : Known E). k.lock) r.0 ∙ p) xs ys zip all

  -- what was known before is no more than what was found
  pub found_before : (n : ℕ) (xs ys : List (Known E)) → AllZip IsRecounted xs ys → All (λ (k : Known E). k.made ≡ n) ys → All (λ (k : Known E). k.made ≤ n) xs
  found_before n xs ys zip all = zip_back IsRecounted (λ (k : Known E). k.made ≤ n) (λ (k : Known E). k.made ≡ n) (λ x y r p. omega (arith, r.1, p)) xs ys zip all

  -- the same fronts
  pub fronts_before : (log : List E) (xs ys : List (Known E)) → AllZip IsRecounted xs ys → AllSaw log ys → AllSaw log xs
  fronts_before log xs ys zip all = zip_back IsRecounted (λ (k : Known E). IsPrefix k.front log) (λ (k : Known E). IsPrefix k.front log) (λ x y r p. subst (λ (l : List E). IsPrefix l log) (ap (λ (k : Known E). k.front) r.0) p) xs ys zip all

module _ {V E : Type 0} where
  -- one seat more
  pub stands_more : (lock : TableId) (made : ℕ) (done : List (Known E)) (table table' : TableId) (me me' : Me (Option V) (View E)) (k : Known E) (d : View E) → StandsFor lock made done table me → table' ≡ table → me' ≡ (merged me.0 d, me.1) → d.seats ≡ 1 → d.front ≡ k.front
      → StandsFor lock made (k ∷ done) table' me'
  stands_more lock made done table table' me me' k d s at is one front = record {
    of_lock = at ∙ s.of_lock;
    empty = ap (λ m. m.1) is ∙ s.empty;
    idle = ap (λ m. m.0.stage) is ∙ s.idle;
    count = ap (λ m. m.0.seats) is ∙ omega (arith, s.count, one);
    found = ap (λ m. m.0.made) is ∙ s.found;
    fronts = λ log b. let b' = subst (Begins log) (ap (λ m. m.0) is) b in
        all_cons (λ (x : Known E). IsPrefix x.front log) k done (subst (λ (l : List E). IsPrefix l log) front b'.1.0) (s.fronts log (b'.0, begin_rest log d.olds me.0.olds b'.1.1));
  }

pub some_of : {A : Type 0} (P : Type 0) (Q : A → Type 0) (r : Option A) → MatchOption r P Q → (P → ⊥) → IsSome r
some_of P Q None m never = absurd (never m)
some_of P Q (Some x) m never = refl
