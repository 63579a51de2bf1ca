-- A body is told from what comes after it.
use Rattle.std.proofs.Common.{◌≡◌, ℕ, ◌<◌, ◌≤◌, List, [], ◌∷◌, ◌++◌, length, take, drop, sym, refl, ap, ◌∙◌, subst, arith}
use Rattle.std.proofs.lemmas.Bool.{le-ltb, lt-ltb, cond-false, cond-true}
use Rattle.std.proofs.lemmas.List.{length-append}
use Rattle.ld_head.specs.declared.dialogue.Ending.TheVariants.{Inside}
use Rattle.ld_head.specs.declared.head.Head.{Head}
use Rattle.ld_head.specs.Heads.{Says, Accepts}
use Rattle.ld_head.specs.Dialogues.{Whole, front, OpensAt, Opens, Stops, opened, opened_by, good}

take_front : (xs ys : List ℕ) → take (length xs) (xs ++ ys) ≡ xs
take_front [] [] = refl
take_front [] (y ∷ ys) = refl
take_front (x ∷ xs) ys = ap (λ l. x ∷ l) (take_front xs ys)

drop_front : (xs ys : List ℕ) → drop (length xs) (xs ++ ys) ≡ ys
drop_front [] [] = refl
drop_front [] (y ∷ ys) = refl
drop_front (x ∷ xs) ys = drop_front xs ys

pub whole_body : (n : ℕ) (h : Head) (body more : List ℕ) → length body ≡ h.length → opened_by (good n h body) more ≡ opened n (Accepts h) (body ++ more)
whole_body n h body more e =
    let count = length-append body more in
    let enough : h.length ≤ length (body ++ more) = omega arith in
    let front = ap (λ k. take k (body ++ more)) (sym e) ∙ take_front body more in
    let rest = ap (λ k. drop k (body ++ more)) (sym e) ∙ drop_front body more in
    sym (cond-false _ _ _ (le-ltb (length (body ++ more)) h.length enough) ∙ (λ i. opened_by (good n h (front i)) (rest i)))

pub item_stays : (n : ℕ) (bytes head body more : List ℕ) (h : Head) → front bytes ≡ Whole head (body ++ more) → Says head (Accepts h) → length body ≡ h.length → Opens n bytes (opened_by (good n h body) more)
item_stays n bytes head body more h begins says e =
    subst (λ f. OpensAt n f (opened_by (good n h body) more)) (sym begins) (Accepts h, says, whole_body n h body more e)

pub body_is_cut : (n : ℕ) (bytes head part : List ℕ) (h : Head) → front bytes ≡ Whole head part → Says head (Accepts h) → length part < h.length → Opens n bytes (Stops (Inside h.interim))
body_is_cut n bytes head part h begins says short =
    subst (λ f. OpensAt n f (Stops (Inside h.interim))) (sym begins) (Accepts h, says, sym (cond-true _ _ _ (lt-ltb (length part) h.length short)))
