-- A soak (own): documents that all name one context, each expanded, compacted and flattened, and what is told of them.
use Rattle.std.specs.Prelude.{◌≡◌, ℕ, ◌+◌, ◌*◌, ◌≤◌, ◌^◌, true, List, [], ◌∷◌, ◌++◌, length, map, Some, None, Result, Ok, Err, codes, decimal}
use Rattle.std.specs.List.{range_with_len, sum}
use Rattle.ld_answer.specs.Answers.{answered_of}
use Rattle.ld_answer.specs.declared.op.Op.{Op}
use Rattle.ld_answer.specs.declared.op.Op.TheVariants.{Expand, Compact, Flatten}
use Rattle.ld_ctx.specs.Stocks.{stock_of}
use Rattle.ld_flight.specs.Loads.{IsDocument}
use Rattle.ld_rec.specs.Kinds.{map_of, text_tree, two_entries}
use Rattle.ld_rec.specs.Outcome.{Stock}
use Rattle.ld_rec.specs.declared.doc.Doc.{Doc}
use Rattle.ld_rec.specs.declared.stop.Stop.{Stop}
use Rattle.ld_tree.specs.CompactText.{text}
use Rattle.ld_tree.specs.Maps.{empty, put}
use Rattle.ld_tree.specs.declared.tree.Tree.{Tree}
use Rattle.ld_soak.specs.declared.sums.Sums.{Sums}

-- ---- the documents

-- the IRI of the context, which is its document's place too
abbrev pub context_iri : List ℕ
context_iri = codes "http://c/s"

-- the text of its document
abbrev pub context_text : List ℕ
context_text = codes "{\"@context\":{\"n\":\"http://e/n\",\"k\":\"http://e/k\"}}"

abbrev pub context_tree : Tree
context_tree = text_tree context_iri

abbrev pub node_iri : ℕ → List ℕ
node_iri number = codes "http://e/" ++ decimal number

-- the next node: {"@id":"http://e/<number>","n":"x"}
abbrev pub node : ℕ → Tree
node number = two_entries (codes "@id") (text_tree (node_iri number)) (codes "n") (text_tree (codes "x"))

-- the document of a number: {"@context":"http://c/s","@id":"http://e/<number>","n":"<number>","k":<the next node>}
abbrev pub document : ℕ → Tree
document number =
    map_of (put (put (put (put empty (codes "@context") context_tree) (codes "@id") (text_tree (node_iri number))) (codes "n") (text_tree (decimal number))) (codes "k") (node (number + 1)))

-- ---- what they come to

-- the stock of the context's document alone
abbrev pub IsStock : Stock → Type 0
IsStock stock = (doc : Doc) × IsDocument doc context_iri context_text × (stock ≡ stock_of ((context_iri, doc) ∷ []))

-- the length of a result's text; where there is no result, none
abbrev pub text_length : Result Tree Stop → ℕ
text_length (Ok tree) = length (text tree)
text_length (Err e) = 0

-- of what a document is answered, without a base, and compacted with the context and with arrays of one item as the item
abbrev pub answer_length : Stock → Op → (number : ℕ) → ℕ
answer_length stock op number = text_length (answered_of stock op (document number) (Some context_tree) None true)

-- over the documents 1 to `count`
abbrev pub total_length : Stock → Op → (count : ℕ) → ℕ
total_length stock op count = sum (map (answer_length stock op) (range_with_len 1 count))

abbrev pub AreLengths : Stock → Sums → Type 0
AreLengths stock sums =
    (sums.expanded ≡ total_length stock Expand sums.documents) × (sums.compacted ≡ total_length stock Compact sums.documents) × (sums.flattened ≡ total_length stock Flatten sums.documents)

-- the sums of a soak of so many documents, over one stock for them all, which took one load
pub record AreSums (count : ℕ) (sums : Sums) : Type 0 where
  pub documents : sums.documents ≡ count
  pub loads : sums.loads ≡ 1
  pub stock : Stock
  pub stock_is : IsStock stock
  pub lengths : AreLengths stock sums

-- ---- what is told

-- a word, and a number
abbrev pub counted : List ℕ → ℕ → List ℕ
counted word number = word ++ 32 ∷ decimal number

-- the numbers of a soak, each behind its word, with one space between
abbrev pub told : Sums → List ℕ
told sums =
    counted (codes "documents") sums.documents ++ (counted (codes " loads") sums.loads ++ (counted (codes " expanded") sums.expanded
    ++ (counted (codes " compacted") sums.compacted ++ (counted (codes " flattened") sums.flattened ++ counted (codes " runs") sums.runs))))
