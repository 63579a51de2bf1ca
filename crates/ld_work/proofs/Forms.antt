-- The words are of one form at most.
use Rattle.std.proofs.Common.{◌≡◌, ◌∙◌, ℕ, ◌≤◌, ◌<◌, ◌^◌, List, [], ◌∷◌, sym, arith}
use Rattle.std.proofs.lemmas.Fmt.{decimal_injective}
use Rattle.ld_work.specs.Forms.{IsFormOf}
use Rattle.ld_work.specs.declared.form.Form.{Form}

third : (a b c d e v w x y z : List ℕ) → a ∷ b ∷ c ∷ d ∷ e ∷ [] ≡ v ∷ w ∷ x ∷ y ∷ z ∷ [] → c ≡ x
third a b c d e v w x y z is = cc

pub same_workers : (word : List ℕ) (words : List (List ℕ)) (f h : Form) → IsFormOf word words f → IsFormOf word words h → f.workers ≡ h.workers
same_workers word words f h p q =
    let a = p.numbers.workers_are.1 in
    let b = q.numbers.workers_are.1 in
    let low = a.bounded in
    let low_too = b.bounded in
    let same = third word p.address p.workers p.connections p.every word q.address q.workers q.connections q.every (sym p.words_are ∙ q.words_are) in
    decimal_injective f.workers h.workers (omega (arith, low)) (omega (arith, low_too)) (sym a.spelled ∙ same ∙ b.spelled)
