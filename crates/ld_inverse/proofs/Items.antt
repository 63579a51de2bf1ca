-- Items gathered by a loop.
use Rattle.std.proofs.Common.{◌≡◌, ◌<◌, ◌+◌, ℕ, zero, suc, List, [], ◌∷◌, ◌++◌, length, get_or, drop, Ok, Err, refl, sym, ap, ◌∙◌, append_assoc, add-one, arith}
use Rattle.ld_tree.specs.declared.tree.Tree.{Tree}
use Rattle.ld_rec.specs.Records.{Context}
use Rattle.ld_rec.specs.Words.{text_of}
use Rattle.ld_rec.specs.Compacting.{Outcome, ◌>>=◌, compact_items, compact_text}
use Rattle.ld_inverse.specs.Gathering.{onto}

pub onto_none : (r : Outcome (List Tree)) → r ≡ onto [] r
onto_none (Ok a) = refl
onto_none (Err e) = refl

onto_next : (made : List Tree) (name : Tree) (r : Outcome (List Tree)) → onto made (r >>= (λ names. Ok (name ∷ names))) ≡ onto (made ++ name ∷ []) r
onto_next made name (Ok names) = ap Ok (sym (append_assoc made (name ∷ []) names))
onto_next made name (Err e) = refl

at_item : (context : Context) (items : List Tree) (i : ℕ) (d : Tree) → i < length items
    → compact_items context (drop i items) ≡ (compact_text context (get_or items i d) (text_of (get_or items i d)) >>= (λ name. compact_items context (drop (suc i) items) >>= (λ names. Ok (name ∷ names))))
at_item context [] i d h = absurd (omega arith)
at_item context (x ∷ xs) zero d h = refl
at_item context (x ∷ xs) (suc i) d h = at_item context xs i d (omega arith)

-- an item is compacted
pub gather_next : (context : Context) (items made : List Tree) (i : ℕ) (d name : Tree) → i < length items → compact_text context (get_or items i d) (text_of (get_or items i d)) ≡ Ok name
    → onto made (compact_items context (drop i items)) ≡ onto (made ++ name ∷ []) (compact_items context (drop (i + 1) items))
gather_next context items made i d name h e =
    ap (onto made) (at_item context items i d h ∙ ap (λ r. r >>= (λ name. compact_items context (drop (suc i) items) >>= (λ names. Ok (name ∷ names)))) e)
    ∙ onto_next made name (compact_items context (drop (suc i) items))
    ∙ ap (λ n. onto (made ++ name ∷ []) (compact_items context (drop n items))) (sym (add-one i))
