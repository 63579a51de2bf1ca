-- The snapshot of a version is its stock.
use Rattle.std.proofs.Common.{◌≡◌, ◌∙◌, ℕ, List, [], ◌∷◌, ◌++◌, refl, sym, ap, subst, append_assoc}
use Rattle.std.specs.List.{fold}
use Rattle.std.specs.Map.{keys_of}
use Rattle.ld_tree.specs.Maps.{empty}
use Rattle.ld_tree.specs.Names.{AreInOrder, same_sorted}
use Rattle.ld_tree.proofs.Texts.{put_last}
use Rattle.ld_ctx.specs.Stocks.{stock_of, with_document}
use Rattle.ld_rec.specs.Outcome.{Stock}
use Rattle.ld_rec.specs.declared.doc.Doc.{Doc}
use Rattle.ld_store.specs.Snapshots.{Shot, stock_at}
use Rattle.ld_book.specs.Pages as book
use Rattle.ld_moves.specs.Stocks.{stocks}

-- documents that come in the order of their IRIs are put one after another
put_all : (before : Stock) (rest : List (List ℕ × Doc)) → AreInOrder (keys_of (before.0 ++ rest)) → (fold with_document before rest).0 ≡ before.0 ++ rest
put_all before [] order = sym (nothing before.0)
  where
    nothing : {A : Type 0} (xs : List A) → xs ++ [] ≡ xs
    nothing [] = refl
    nothing (x ∷ xs) = ap (λ l. x ∷ l) (nothing xs)
put_all before (e ∷ rest) order =
    let last : (with_document before e).0 ≡ before.0 ++ e ∷ [] = put_last e.0 e.1 before.0 rest order in
    let all : (with_document before e).0 ++ rest ≡ before.0 ++ e ∷ rest = ap (λ es. es ++ rest) last ∙ append_assoc before.0 (e ∷ []) rest in
    put_all (with_document before e) rest (subst (λ es. AreInOrder (keys_of es)) (sym all) order) ∙ all

sorted_is : (s : Stock) → stock_of s.0 ≡ s
sorted_is s = same_sorted (stock_of s.0) s (put_all empty s.0 s.1)

pub snapshot_is : (shot : Shot) (pages : book.Pages) (version : ℕ) → (stock_at shot).0 ≡ book.stock_of pages version → stock_at shot ≡ stocks pages version
snapshot_is shot pages version is = sym (sorted_is (stock_at shot)) ∙ ap stock_of is
