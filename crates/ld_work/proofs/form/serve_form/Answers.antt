use Rattle.std.proofs.Common.{◌≡◌, ◌≢◌, ◌∙◌, ℕ, ◌<◌, ◌≤◌, Bool, true, false, List, [], ◌∷◌, Option, Some, None, length, get_or, map, string_bytes, nat_eq, refl, sym, ap, subst, arith}
use Rattle.std.specs.Cmp.Lexicographic.{pointwise, same_text, nat_list_eq_equiv}
use Rattle.std.specs.Prelude.{MatchOption}
use Rattle.ld_work.specs.Forms.{AreNumbers, IsFormOf}
use Rattle.ld_work.specs.declared.form.Form.{Form}
use Rattle.ld_work.proofs.form.serve_form.Goals as goal

five_items : {A : Type 0} (xs : List A) (a c d e : A) → 5 ≤ length xs → length xs < 6 → a ≡ get_or xs 0 a → c ≡ get_or xs 2 c → d ≡ get_or xs 3 d → e ≡ get_or xs 4 e
    → (b : A) × (xs ≡ a ∷ b ∷ c ∷ d ∷ e ∷ [])
five_items [] a c d e some few is_a is_c is_d is_e = absurd (omega (arith, some))
five_items (x ∷ []) a c d e some few is_a is_c is_d is_e = absurd (omega (arith, some))
five_items (x ∷ y ∷ []) a c d e some few is_a is_c is_d is_e = absurd (omega (arith, some))
five_items (x ∷ y ∷ z ∷ []) a c d e some few is_a is_c is_d is_e = absurd (omega (arith, some))
five_items (x ∷ y ∷ z ∷ u ∷ []) a c d e some few is_a is_c is_d is_e = absurd (omega (arith, some))
five_items (x ∷ y ∷ z ∷ u ∷ v ∷ []) a c d e some few is_a is_c is_d is_e =
    (y, ap (λ n. n ∷ y ∷ z ∷ u ∷ v ∷ []) (sym is_a) ∙ ap (λ n. a ∷ y ∷ n ∷ u ∷ v ∷ []) (sym is_c) ∙ ap (λ n. a ∷ y ∷ c ∷ n ∷ v ∷ []) (sym is_d) ∙ ap (λ n. a ∷ y ∷ c ∷ d ∷ n ∷ []) (sym is_e))
five_items (x ∷ y ∷ z ∷ u ∷ v ∷ w ∷ ws) a c d e some few is_a is_c is_d is_e = absurd (omega (arith, few))

-- a list of five has these words at its ends
third : (a b c d e v w x y z : List ℕ) → a ∷ b ∷ c ∷ d ∷ e ∷ [] ≡ v ∷ w ∷ x ∷ y ∷ z ∷ [] → c ≡ x
third a b c d e v w x y z is = cc

fourth : (a b c d e v w x y z : List ℕ) → a ∷ b ∷ c ∷ d ∷ e ∷ [] ≡ v ∷ w ∷ x ∷ y ∷ z ∷ [] → d ≡ y
fourth a b c d e v w x y z is = cc

fifth : (a b c d e v w x y z : List ℕ) → a ∷ b ∷ c ∷ d ∷ e ∷ [] ≡ v ∷ w ∷ x ∷ y ∷ z ∷ [] → e ≡ z
fifth a b c d e v w x y z is = cc

formed : (word : List ℕ) (words : List (List ℕ)) (a b w c e : List ℕ) (found : Option Form) → words ≡ a ∷ b ∷ w ∷ c ∷ e ∷ [] → a ≡ word
    → MatchOption found ((form : Form) → AreNumbers w c e form → ⊥) (AreNumbers w c e) → MatchOption found ((form : Form) → IsFormOf word words form → ⊥) (IsFormOf word words)
formed word words a b w c e None are is h = λ form f.
    let same = sym f.words_are ∙ are in
    h form (subst (λ (n : List ℕ). AreNumbers n c e form) (third word f.address f.workers f.connections f.every a b w c e same)
    (subst (λ (n : List ℕ). AreNumbers f.workers n e form) (fourth word f.address f.workers f.connections f.every a b w c e same)
    (subst (λ (n : List ℕ). AreNumbers f.workers f.connections n form) (fifth word f.address f.workers f.connections f.every a b w c e same) f.numbers)))
formed word words a b w c e (Some form) are is h = record { address = b; workers = w; connections = c; every = e; words_are = are ∙ ap (λ (n : List ℕ). n ∷ b ∷ w ∷ c ∷ e ∷ []) is; numbers = h }

head_is : {S : Type 0} (bytes : S → List ℕ) (words : List S) (x : S) (word : List ℕ) (rest : List (List ℕ)) → 1 ≤ length words → x ≡ get_or words 0 x → map bytes words ≡ word ∷ rest → bytes x ≡ word
head_is bytes [] x word rest some is e = absurd (omega (arith, some))
head_is bytes (y ∷ ys) x word rest some is e = let here : bytes y ≡ word = cc in ap bytes is ∙ here

not_formed : {S : Type 0} (bytes : S → List ℕ) (words : List S) (x : S) (seen word : List ℕ) (test : Bool) → 1 ≤ length words → x ≡ get_or words 0 x → seen ≡ bytes x → test ≡ pointwise nat_eq seen word → test ≡ false
    → (form : Form) → IsFormOf word (map bytes words) form → ⊥
not_formed bytes words x seen word test some is same tests none form f =
    let here = head_is bytes words x word (f.address ∷ f.workers ∷ f.connections ∷ f.every ∷ []) some is f.words_are in
    let yes_it_is : test ≡ true = tests ∙ ap (λ w. pointwise nat_eq w word) (same ∙ here) ∙ nat_list_eq_equiv.refl word in
    cc

pub returns-in-len5 : goal.returns-in-len5
returns-in-len5 c =
    let five = five_items c.args.words.now c.first-item.result c.workers-item.result c.connections-item.result c.every-item.result c.in-len5.len_at_least c.in-len5.len_below c.first-item.is c.workers-item.is c.connections-item.is c.every-item.is in
    let w = c.as_str-in-len5.ensures.value in
    let x = c.as_str-in-len5-2.ensures.value in
    let e = c.as_str-in-len5-3.ensures.value in
    formed c.args.word.now (map (string_bytes) c.args.words.now) (string_bytes c.first-item.result) (string_bytes five.0) c.as_str-in-len5.result.now c.as_str-in-len5-2.result.now c.as_str-in-len5-3.result.now c.form_of.result
    (ap (map (string_bytes)) five.1 ∙ ap (λ (n : List ℕ). string_bytes c.first-item.result ∷ string_bytes five.0 ∷ n ∷ string_bytes c.connections-item.result ∷ string_bytes c.every-item.result ∷ []) (sym w)
    ∙ ap (λ (n : List ℕ). string_bytes c.first-item.result ∷ string_bytes five.0 ∷ c.as_str-in-len5.result.now ∷ n ∷ string_bytes c.every-item.result ∷ []) (sym x)
    ∙ ap (λ (n : List ℕ). string_bytes c.first-item.result ∷ string_bytes five.0 ∷ c.as_str-in-len5.result.now ∷ c.as_str-in-len5-2.result.now ∷ n ∷ []) (sym e))
    (sym c.as_str.ensures.value ∙ same_text c.as_str.result.now c.args.word.now (sym (sym c.eq.ensures ∙ c.if-eq.true))) c.form_of.ensures

pub returns-in_default-2 : goal.returns-in_default-2
returns-in_default-2 c =
    not_formed (string_bytes) c.args.words.now c.first-item.result c.as_str.result.now c.args.word.now c.eq.result (let n = c.in-len5.len_at_least in omega (arith, n)) c.first-item.is c.as_str.ensures.value c.eq.ensures c.if-eq.false
