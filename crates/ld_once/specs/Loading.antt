-- Contexts that a run loads: one after another, each the one that the answer over those before it asks for first and lacks.
use Rattle.std.specs.Prelude.{◌≡◌, ℕ, ◌+◌, ◌<◌, ◌⊎◌, List, [], ◌∷◌, ◌++◌, length, Option, Result, Err}
use Rattle.ld_answer.specs.Answers.{answered}
use Rattle.ld_answer.specs.declared.envelope.Envelope.{Envelope}
use Rattle.ld_answer.specs.declared.op.Op.{Op}
use Rattle.ld_ctx.specs.Stocks.{stock_of}
use Rattle.ld_flight.specs.Loads.{Answer, IsDocument, IsNext, Loading, entry_of}
use Rattle.ld_flight.specs.declared.given.Given.{Given}
use Rattle.ld_rec.specs.Outcome.{Stock}
use Rattle.ld_rec.specs.declared.doc.Doc.{Doc}
use Rattle.ld_rec.specs.declared.stop.Stop.{Stop}
use Rattle.ld_rec.specs.declared.stop.Stop.TheVariants as stop
use Rattle.ld_tree.specs.declared.tree.Tree.{Tree}

-- how many contexts one request holds at most
abbrev pub held_limit : ℕ
held_limit = 64

-- a document, with the IRI that asks for it
abbrev pub Held : Type 0
Held = List ℕ × Doc

-- what is answered over a stock
abbrev pub Answering : Type 0
Answering = Stock → Result Tree Stop

abbrev pub answering : Op → Envelope → Answering
answering op envelope stock = answered stock op envelope

-- over these documents the answer is that the IRI's is missing
abbrev pub Lacks : Answering → List Held → List ℕ → Type 0
Lacks answering documents iri = answering (stock_of documents) ≡ Err (stop.Missing iri)

-- the loader's entry is of this document, which was loaded as the flight of this number; where the loader tells its
-- answers, it is the first for the IRI
pub record IsLoad (told : Option (List Answer)) (number : ℕ) (entry : Given) (document : Held) : Type 0 where
  pub text : List ℕ
  pub entry_is : entry ≡ entry_of (record { number = number; iri = document.0 }) document.1.url text
  pub document_is : IsDocument document.1 document.1.url text
  pub first : IsNext told (document.1.url, text)

-- the loader's entries are of these documents, loaded in this order
pub data AreLoads (told : List ℕ → Option (List Answer)) (answering : Answering) : List Given → List Held → Type 0 where
  none : AreLoads told answering [] []
  more : (given : List Given) (documents : List Held) (entry : Given) (document : Held)
      → AreLoads told answering given documents → length given < held_limit → Lacks answering documents document.0
      → IsLoad (told document.0) (length given + 1) entry document
      → AreLoads told answering (given ++ entry ∷ []) (documents ++ document ∷ [])

-- what a run loaded: the documents, and the loader's new entries
pub record Loads (answering : Answering) (loader loader' : Loading) (given : List Given) (documents : List Held) : Type 0 where
  pub gained : loader'.given ≡ loader.given ++ given
  pub are_loads : AreLoads loader.held answering given documents

-- what a run loaded before memory was wanting: at last perhaps a text that wasn't read any more
pub record LoadsInPart (answering : Answering) (loader loader' : Loading) : Type 0 where
  pub given : List Given
  pub documents : List Held
  pub are_loads : AreLoads loader.held answering given documents
  pub gained : (loader'.given ≡ loader.given ++ given) ⊎ ((entry : Given) × (loader'.given ≡ loader.given ++ (given ++ entry ∷ [])) × Lacks answering documents entry.iri)
