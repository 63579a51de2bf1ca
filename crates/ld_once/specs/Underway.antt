-- A request whose contexts are being loaded.
use Rattle.std.specs.Prelude.{◌≡◌, ℕ, ◌+◌, ◌⊎◌, List, [], ◌∷◌, ◌++◌, length, None}
use Rattle.ld_edge.specs.Faults.{NeverFalls, Rose}
use Rattle.ld_edge.specs.declared.status.Status.{Status}
use Rattle.ld_edge.specs.declared.status.Status.TheVariants as statuses
use Rattle.ld_answer.specs.Bodies.{load_fault_body}
use Rattle.ld_ctx.specs.Stocks.{stock_of}
use Rattle.ld_flight.specs.Loads.{IsDocument, IsNext, Loading, entry_of, left_of}
use Rattle.ld_flight.specs.Passes.{Flight}
use Rattle.ld_flight.specs.declared.given.Given.{Given}
use Rattle.ld_flight.specs.declared.loader.Refused.{Refused}
use Rattle.ld_flight.specs.declared.loader.Why.TheVariants as why
use Rattle.ld_tree.specs.Maps.{find}
use Rattle.ld_once.specs.Loading.{Answering, AreLoads, Held}
use Rattle.ld_once.specs.Outcomes.{body_line}
use Rattle.ld_once.specs.declared.loading.LoadRefusal.{LoadRefusal}
use Rattle.ld_once.specs.declared.loading.LoadRefusal.TheVariants.{Fault, NoMemory}

-- what was loaded since the start, and that the answers to come for other IRIs are as they were
pub record IsUnderway (answering : Answering) (start now : Loading) (documents : List Held) : Type 0 where
  pub given : List Given
  pub gained : now.given ≡ start.given ++ given
  pub are_loads : AreLoads start.held answering given documents
  pub as_many : length given ≡ length documents
  pub held : (iri : List ℕ) → find (stock_of documents) iri ≡ None → now.held iri ≡ start.held iri
  pub faults : now.faults ≡ start.faults

-- one load, which gave the document
pub record IsLoaded (pass : Flight) (before after : Loading) (document : Held) : Type 0 where
  pub text : List ℕ
  pub iri : document.0 ≡ pass.iri
  pub given : after.given ≡ before.given ++ entry_of pass document.1.url text ∷ []
  pub document_is : IsDocument document.1 document.1.url text
  pub first : IsNext (before.held pass.iri) (document.1.url, text)
  pub held : (iri : List ℕ) → after.held iri ≡ left_of iri pass.iri (before.held iri)
  pub faults : after.faults ≡ before.faults

-- one load, whose document joined the others
abbrev pub IsJoined : Flight → (before after : Loading) → List Held → List Held → Type 0
IsJoined pass before after documents documents' = (document : Held) × (documents' ≡ documents ++ document ∷ []) × IsLoaded pass before after document

-- one load for which memory was wanting, there or behind it: perhaps it gave a text, and perhaps it failed
abbrev pub IsCut : Flight → (before after : Loading) → Type 0
IsCut pass before after =
    NeverFalls before.faults after.faults × ((after.given ≡ before.given) ⊎ ((entry : Given) × (after.given ≡ before.given ++ entry ∷ []) × (entry.iri ≡ pass.iri)))

-- one load that failed
abbrev pub IsFault : Flight → (before after : Loading) → (flight : ℕ) (iri : List ℕ) (from to : ℕ) → Type 0
IsFault pass before after flight iri from to =
    (flight ≡ pass.number) × (iri ≡ pass.iri) × (from ≡ before.faults) × (to ≡ after.faults) × Rose before.faults after.faults × (after.given ≡ before.given)

abbrev pub IsUnloaded : Flight → (before after : Loading) → LoadRefusal → Type 0
IsUnloaded pass before after (Fault fault) = IsFault pass before after fault.flight fault.iri fault.before fault.after
IsUnloaded pass before after NoMemory = IsCut pass before after

-- the reply that tells of it
pub record IsFaultReply (pass : Flight) (before after : Loading) (status : Status) (out : List ℕ) : Type 0 where
  pub rose : Rose before.faults after.faults
  pub given : after.given ≡ before.given
  pub status_is : status ≡ statuses.LoadFault
  pub out_is : out ≡ body_line (load_fault_body pass.iri pass.number before.faults after.faults)

-- what is left of a refused load
abbrev pub IsSpent : Refused → LoadRefusal → Type 0
IsSpent refused (Fault fault) =
    (refused.why ≡ why.Fault) × (fault.flight ≡ refused.pass.number) × (fault.iri ≡ refused.pass.iri) × (fault.before ≡ refused.before) × (fault.after ≡ refused.after)
IsSpent refused NoMemory = refused.why ≡ why.NoMemory
