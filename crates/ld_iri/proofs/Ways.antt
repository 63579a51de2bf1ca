-- The way from a base's folders to a path.
use Rattle.std.proofs.Common.{◌≡◌, ◌∙◌, refl, sym, ap, subst, ℕ, true, false, List, [], ◌∷◌, ◌++◌}
use Rattle.std.specs.Str.{bytes_eq}
use Rattle.std.specs.List.{join_with_byte}
use Rattle.std.proofs.lemmas.List.Splits.{join_with_byte-slice_split}
use Rattle.std.proofs.lemmas.Slice.Eq.{bytes_eq-Decides}
use Rattle.ld_iri.specs.Resolution.{segments, folders, all_but_last}
use Rattle.ld_iri.specs.Relative.{way, steps_up}
use Rattle.ld_iri.proofs.Cuts.{Lacks}
use Rattle.ld_iri.proofs.Segments.{segments_one, segments_first, segments_some, folders_none}

-- the folders of a path with a slash
pub folders_first : (xs ys : List ℕ) → Lacks 47 xs → folders (xs ++ 47 ∷ ys) ≡ xs ∷ folders ys
folders_first xs ys l =
    let more = segments_some ys in
    ap all_but_last (segments_first xs ys l ∙ ap (λ t. xs ∷ t) more.2) ∙ sym (ap (λ t. xs ∷ all_but_last t) more.2)

-- where the way ends: what is left of the folders, and what is left of the path
abbrev pub EndsAt : List ℕ → List ℕ → Type 0
EndsAt base path = way (folders base) (segments path) ≡ steps_up (folders base) ++ path

pub ends_no_folder : (base path : List ℕ) → Lacks 47 base → EndsAt base path
ends_no_folder base path l = subst (λ f. way f (segments path) ≡ steps_up f ++ path) (sym (folders_none base l)) (join_with_byte-slice_split 47 path)

pub ends_one_segment : (base path : List ℕ) → Lacks 47 path → EndsAt base path
ends_one_segment base path l = subst (λ s. way (folders base) s ≡ steps_up (folders base) ++ path) (sym (segments_one path l)) (elim (folders base) as (λ f. way f (path ∷ []) ≡ steps_up f ++ path) [ [] ↦ refl | f ∷ fs ↦ refl ])

pub ends_unlike : (f b s p : List ℕ) → Lacks 47 f → Lacks 47 s → bytes_eq f s ≡ false → EndsAt (f ++ 47 ∷ b) (s ++ 47 ∷ p)
ends_unlike f b s p lf ls ne =
    let more = segments_some p in
    let whole = join_with_byte-slice_split 47 (s ++ 47 ∷ p) in
    let cut : segments (s ++ 47 ∷ p) ≡ s ∷ more.0 ∷ more.1 = segments_first s p ls ∙ ap (λ t. s ∷ t) more.2 in
    subst (λ t. way t (segments (s ++ 47 ∷ p)) ≡ steps_up t ++ (s ++ 47 ∷ p)) (sym (folders_first f b lf))
    (ap (way (f ∷ folders b)) cut ∙ rw ne (ap (λ t. steps_up (f ∷ folders b) ++ t) (ap (join_with_byte 47) (sym cut) ∙ whole)))

pub way_step : (f b p : List ℕ) → Lacks 47 f → way (folders (f ++ 47 ∷ b)) (segments (f ++ 47 ∷ p)) ≡ way (folders b) (segments p)
way_step f b p l =
    let more = segments_some p in
    let same : bytes_eq f f ≡ true = (bytes_eq-Decides f f).1 refl in
    ap (λ t. way t (segments (f ++ 47 ∷ p))) (folders_first f b l) ∙ ap (way (f ∷ folders b)) (segments_first f p l ∙ ap (λ t. f ∷ t) more.2) ∙ rw same (ap (way (folders b)) (sym more.2))
