-- How far the reading of a string has come.
use Rattle.std.proofs.Common.{◌≡◌, refl, sym, subst, Bool, true, false, ℕ, List, [], ◌∷◌, ◌++◌, drop, take, append_assoc, append-nil}
use Rattle.std.specs.List.{prefix_len}
use Rattle.std.specs.Str.{IsUtf8}
use Rattle.ld_tree.specs.Reading.{IsChar, unescaped, IsChars, closing, char, IsString, is_unescaped}
use Rattle.ld_tree_read.proofs.Words.{run_more, run_stops}

-- of the bytes b the text has been read, and bs are left
pub record Continues (b text bs : List ℕ) : Type 0 where
  pub found : (x r : List ℕ) → IsChars bs x r → IsChars b (text ++ x) r

pub continue_start : (b : List ℕ) → Continues b [] b
continue_start b = record { found = λ x r h. h }

pub continue_char : {b text bs : List ℕ} (m more : List ℕ) → IsChar bs m more → Continues b text bs → Continues b (text ++ m) more
continue_char {b} {text} {bs} m more h w = record { found = λ x r q. subst (λ t. IsChars b t r) (sym (append_assoc text m x)) (w.found (m ++ x) r (char h q)) }

abbrev pub run : List ℕ → ℕ
run bs = prefix_len is_unescaped bs

pub continue_run : {b text : List ℕ} (bs : List ℕ) → Continues b text bs → Continues b (text ++ take (run bs) bs) (drop (run bs) bs)
continue_run {b} {text} [] w = rw (append-nil text) w
continue_run {b} {text} (x ∷ bs) w = go (is_unescaped x) refl (λ h. continue_run bs (continue_char (x ∷ []) bs (unescaped x h) w))
  where
    go : (u : Bool) → is_unescaped x ≡ u → (is_unescaped x ≡ true → Continues b ((text ++ x ∷ []) ++ take (run bs) bs) (drop (run bs) bs)) → Continues b (text ++ take (run (x ∷ bs)) (x ∷ bs)) (drop (run (x ∷ bs)) (x ∷ bs))
    go true e ih = subst (λ n. Continues b (text ++ take n (x ∷ bs)) (drop n (x ∷ bs))) (sym (run_more is_unescaped x bs e)) (subst (λ t. Continues b t (drop (run bs) bs)) (append_assoc text (x ∷ []) (take (run bs) bs)) (ih e))
    go false e ih = subst (λ n. Continues b (text ++ take n (x ∷ bs)) (drop n (x ∷ bs))) (sym (run_stops is_unescaped x bs e)) (subst (λ t. Continues b t (x ∷ bs)) (sym (append-nil text)) w)

pub string_found : {b text r : List ℕ} → Continues b text (34 ∷ r) → IsUtf8 text → IsString b text r
string_found {b} {text} {r} w u = (subst (λ t. IsChars b t r) (append-nil text) (w.found [] r closing), u)

pub continue_here : {b text bs new rest : List ℕ} → Continues b text bs → new ≡ text ++ take (run bs) bs → rest ≡ drop (run bs) bs → Continues b new rest
continue_here {b} {text} {bs} {new} {rest} w e q = subst (λ t. Continues b t rest) (sym e) (subst (λ r. Continues b (text ++ take (run bs) bs) r) (sym q) (continue_run bs w))
