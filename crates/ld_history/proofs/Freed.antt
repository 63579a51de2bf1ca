-- Which versions may go, after an IRI came in or went out, or after it was looked up anew.
use Rattle.std.proofs.Common.{◌≡◌, ℕ, List, [], ◌∷◌, refl, sym, ap, ◌∙◌, subst, Option, Some, None, Bool, true, false, cond, inl, inr, ◌&&◌, ◌||◌, not, nat_cmp, is_some}
use Rattle.std.specs.Ordering.{is_eq}
use Rattle.std.specs.List.Sorted.{IsStrictlySortedBy}
use Rattle.std.specs.Map.{keys_of}
use Rattle.std.specs.BTreeMap.{is_at}
use Rattle.std.specs.Cmp.{nat_cmp_total, tied_itself}
use Rattle.std.specs.Cmp.Lexicographic.{nat_list_eq_equiv}
use Rattle.ld_tree.specs.Names.{name_cmp}
use Rattle.ld_history.specs.declared.session.Flying.{Flying}
use Rattle.ld_history.specs.Words.{at_number, at_iri, same_iri}
use Rattle.ld_history.specs.After.{put_number, take_number, put_iri, take_iri}
use Rattle.ld_history.specs.Holders.{Holders}
use Rattle.ld_history.specs.Order.{IsOrder, IsFree, IsHeldAlike, version_of, without, has, is_version, goes, is_among}
use Rattle.ld_history.proofs.LawFlights.{iri_cases, number_cases, apart_numbers, put_iri_other, take_iri_other, put_number_same, put_number_other, take_number_same, take_number_other}
use Rattle.ld_history.proofs.LawTables.{in_order-put}
use Rattle.ld_history.proofs.IndexHolders.{other_iri}
use Rattle.ld_history.proofs.Ordered.{Stock, Entries, take-put-number}

abbrev pub Revisions : Type 0
Revisions = List (List ℕ × Flying)

itself : (n : ℕ) → is_eq (nat_cmp n n) ≡ true
itself n = ap is_eq (tied_itself nat_cmp_total n)

same_some : {X : Type 0} (a b : X) → Some a ≡ Some b → a ≡ b
same_some a b h = cc

among_here : (iri : List ℕ) (but : List (List ℕ)) (q : List ℕ) → is_among (iri ∷ but) q ≡ false → q ≡ iri → ⊥
among_here iri but q none same =
    let here : same_iri iri q ≡ true = ap (same_iri iri) same ∙ nat_list_eq_equiv.refl iri in
    let bad : true ≡ false = sym (ap (λ b. b || is_among but q) here) ∙ none in cc

among_more : (iri : List ℕ) (but : List (List ℕ)) (q : List ℕ) → is_among but q ≡ false → (q ≡ iri → ⊥) → is_among (iri ∷ but) q ≡ false
among_more iri but q none apart = ap (λ b. b || is_among but q) (other_iri iri q apart) ∙ none

-- ---- an IRI is looked up anew
module _ (stored : Stock) (order : Entries) (h : IsOrder stored order) (iri : List ℕ) where
  pub known_at : (version : ℕ) → Some version ≡ version_of stored iri → is_some (at_number order version) ≡ true
  known_at version is = ap is_some (h.listed iri version (sym is))

  pub looked_up : (holders : Holders) (revisions : Revisions) (before after : List ℕ) (version : ℕ) (now : Bool) → Some version ≡ version_of stored iri → now ≡ goes holders revisions iri
      → ((q : ℕ) → has after q ≡ cond (is_at (nat_cmp version) q) now (has before q)) → (but : List (List ℕ)) → IsFree (iri ∷ but) order before holders revisions → IsFree but order after holders revisions
  looked_up holders revisions before after version now is is_now marked but free = record {
    each = λ n q at none. elim (number_cases version n) [
      | inl same ↦
          let one : q ≡ iri = same_some q iri (sym at ∙ ap (at_number order) (sym same) ∙ h.listed iri version (sym is)) in
          marked n ∙ ap (λ b. cond b now (has before n)) (ap (is_at (nat_cmp version)) (sym same) ∙ itself version) ∙ is_now ∙ ap (goes holders revisions) (sym one)
      | inr apart ↦
          let other : q ≡ iri → ⊥ = λ e. apart_numbers version n apart (same_some version n (is ∙ ap (version_of stored) (sym e) ∙ h.stands n q at)) in
          marked n ∙ ap (λ b. cond b now (has before n)) apart ∙ free.each n q at (among_more iri but q none other)
    ];
  }

  pub not_there : (holders : Holders) (revisions : Revisions) (free : List ℕ) → None ≡ version_of stored iri → (but : List (List ℕ)) → IsFree (iri ∷ but) order free holders revisions → IsFree but order free holders revisions
  not_there holders revisions versions is but free = record {
    each = λ n q at none. free.each n q at (among_more iri but q none (λ e. let bad : None ≡ Some n = is ∙ ap (version_of stored) (sym e) ∙ h.stands n q at in cc));
  }

-- ---- where holders and revisions of some IRIs changed
pub free_alike : (but : List (List ℕ)) (order : Entries) (free : List ℕ) (holders holders' : Holders) (revisions revisions' : Revisions) → IsFree [] order free holders revisions
    → ((q : List ℕ) → is_among but q ≡ false → goes holders' revisions' q ≡ goes holders revisions q) → IsFree but order free holders' revisions'
free_alike but order versions holders holders' revisions revisions' free alike = record { each = λ n q at none. free.each n q at refl ∙ sym (alike q none) }

pub free_held : (but : List (List ℕ)) (order : Entries) (free : List ℕ) (holders holders' : Holders) (revisions : Revisions) → IsFree [] order free holders revisions → IsHeldAlike but holders holders' → IsFree but order free holders' revisions
free_held but order versions holders holders' revisions free alike =
    free_alike but order versions holders holders' revisions revisions free (λ q none. ap (λ b. not b && not (is_some (at_iri revisions q))) (alike.each q none))

pub free_put : (iri : List ℕ) (x : Flying) (order : Entries) (free : List ℕ) (holders : Holders) (revisions after : Revisions) → after ≡ put_iri revisions iri x → IsFree [] order free holders revisions → IsFree (iri ∷ []) order free holders after
free_put iri x order versions holders revisions after is free =
    free_alike (iri ∷ []) order versions holders holders revisions after free (λ q none. ap (λ o. not (is_some (at_iri holders q)) && not (is_some o)) (ap (λ l. at_iri l q) is ∙ put_iri_other revisions iri x q (apart q none)))
  where
    apart : (q : List ℕ) → is_among (iri ∷ []) q ≡ false → is_eq (name_cmp q iri) ≡ false
    apart q none = elim (iri_cases q iri) [ inl same ↦ absurd (among_here iri [] q none same) | inr a ↦ a ]

pub free_take : (iri : List ℕ) (order : Entries) (free : List ℕ) (holders : Holders) (revisions after : Revisions) → after ≡ take_iri revisions iri → IsFree [] order free holders revisions → IsFree (iri ∷ []) order free holders after
free_take iri order versions holders revisions after is free =
    free_alike (iri ∷ []) order versions holders holders revisions after free (λ q none. ap (λ o. not (is_some (at_iri holders q)) && not (is_some o)) (ap (λ l. at_iri l q) is ∙ take_iri_other revisions iri q (apart q none)))
  where
    apart : (q : List ℕ) → is_among (iri ∷ []) q ≡ false → is_eq (name_cmp q iri) ≡ false
    apart q none = elim (iri_cases q iri) [ inl same ↦ absurd (among_here iri [] q none same) | inr a ↦ a ]

-- ---- an IRI comes in or goes out
left_at : (order : Entries) (sorted : (old : ℕ) → at_number (take_number order old) old ≡ None) (former : Option ℕ) (n : ℕ) (q : List ℕ) → at_number (without order former) n ≡ Some q → (at_number order n ≡ Some q) × (is_version former n ≡ false)
left_at order sorted None n q at = (at, refl)
left_at order sorted (Some old) n q at = elim (number_cases n old) [
  | inl same ↦ absurd (let bad : Some q ≡ None = sym at ∙ ap (at_number (take_number order old)) same ∙ sorted old in cc)
  | inr apart ↦ (sym (take_number_other order old n apart) ∙ at, turned old n apart)
]
  where
    turned : (a b : ℕ) → is_eq (nat_cmp b a) ≡ false → is_at (nat_cmp a) b ≡ false
    turned a b n = elim (number_cases a b) [ inl same ↦ absurd (apart_numbers b a n (sym same)) | inr m ↦ m ]

pub free_out : (stored : Stock) (order : Entries) → IsOrder stored order → (former : Option ℕ) (left : Entries) (before after : List ℕ) → left ≡ without order former → ((q : ℕ) → has after q ≡ (not (is_version former q) && has before q))
    → (holders : Holders) (revisions : Revisions) → IsFree [] order before holders revisions → IsFree [] left after holders revisions
free_out stored order h former left before after is dropped holders revisions free = record {
  each = λ n q at none.
      let p = left_at order (λ old. take_number_same order old h.sorted) former n q (sym (ap (λ l. at_number l n) is) ∙ at) in
      dropped n ∙ ap (λ b. not b && has before n) p.1 ∙ free.each n q p.0 none;
}

module _ (stored : Stock) (order : Entries) (h : IsOrder stored order) (iri : List ℕ) (version : ℕ) (new : at_number order version ≡ None) where
  pub free_in : (former : Option ℕ) (listed left : Entries) (before after : List ℕ) → listed ≡ put_number order version iri → left ≡ without listed former
      → ((q : ℕ) → has after q ≡ (not (is_version former q) && has before q))
      → (holders : Holders) (revisions : Revisions) → IsFree [] order before holders revisions → IsFree (iri ∷ []) left after holders revisions
  free_in former listed left before after is_listed is_left dropped holders revisions free = record {
    each = λ n q at none.
        let p = left_at listed (λ old. take_number_same listed old (subst (λ l. IsStrictlySortedBy nat_cmp (keys_of l)) (sym is_listed) (in_order-put nat_cmp_total version iri order h.sorted))) former n q (sym (ap (λ l. at_number l n) is_left) ∙ at) in
        let put : at_number (put_number order version iri) n ≡ Some q = sym (ap (λ l. at_number l n) is_listed) ∙ p.0 in
        dropped n ∙ ap (λ b. not b && has before n) p.1 ∙ elim (number_cases n version) [
          | inl same ↦ absurd (among_here iri [] q none (same_some q iri (sym put ∙ ap (at_number (put_number order version iri)) same ∙ put_number_same order version iri)))
          | inr apart ↦ free.each n q (sym (put_number_other order version iri n apart) ∙ put) refl
        ];
  }

  pub free_undone : (listed left : Entries) (before after : List ℕ) → listed ≡ put_number order version iri → left ≡ take_number listed version
      → ((q : ℕ) → has after q ≡ (not (is_version (Some version) q) && has before q))
      → (holders : Holders) (revisions : Revisions) → IsFree [] order before holders revisions → IsFree (iri ∷ []) left after holders revisions
  free_undone listed left before after is_listed is_left dropped holders revisions free = record {
    each = λ n q at none.
        let then : at_number order n ≡ Some q = sym (ap (λ l. at_number l n) (is_left ∙ ap (λ l. take_number l version) is_listed ∙ take-put-number order version iri new)) ∙ at in
        let apart : is_at (nat_cmp version) n ≡ false = elim (number_cases version n) [ inl same ↦ absurd (let bad : Some q ≡ None = sym then ∙ ap (at_number order) (sym same) ∙ new in cc) | inr a ↦ a ] in
        dropped n ∙ ap (λ b. not b && has before n) apart ∙ free.each n q then refl;
  }

pub free_more : (iri : List ℕ) (order left : Entries) (before after : List ℕ) → left ≡ order → after ≡ before → (holders : Holders) (revisions : Revisions) → IsFree [] order before holders revisions → IsFree (iri ∷ []) left after holders revisions
free_more iri order left before after is_left is_after holders revisions free = record {
  each = λ n q at none. ap (λ l. has l n) is_after ∙ free.each n q (sym (ap (λ l. at_number l n) is_left) ∙ at) refl;
}
