-- What own entries lead to reads no more of a history than the stocks of the versions that they pin.
use Rattle.std.proofs.Common.{◌≡◌, ◌∙◌, ℕ, List, [], ◌∷◌, ◌++◌, refl, sym, ap}
use Rattle.std.specs.List.{fold}
use Rattle.std.proofs.lemmas.List.Sums.{fold-append}
use Rattle.ld_answer.specs.Answers.{answered}
use Rattle.ld_head.specs.Dialogues.{Marked}
use Rattle.ld_history.specs.Counts.{own_from}
use Rattle.ld_history.specs.Legal.{Entries, state}
use Rattle.ld_history.specs.Store.{Store, empty_store}
use Rattle.ld_history.specs.declared.event.Event.{Event}
use Rattle.ld_history.specs.declared.event.Event.TheVariants as event
use Rattle.ld_history.specs.declared.limits.Limits.{Limits}
use Rattle.ld_rec.specs.Outcome.{Stock}
use Rattle.ld_fits.specs.Asks.{Asked, Evaluation, Revision, Eviction, Unrecorded, Heard}
use Rattle.ld_fits.specs.Fits.{AgreeUpTo, Fits, Goes, Leads, PinWithin, pins_within}
use Rattle.ld_own.specs.Own.{Placed, own_placed}
use Rattle.ld_fits.specs.Play.{Stage, Request, Fresh, Idle, Pinned, Placing, Lacking, Revising, Reloading, Evicting, Gone, Shut, Wrong, begun, pinned, play, step}
use Rattle.ld_own.proofs.Growing.{unchanged}

pub leads_on : (limits : Limits) (stock : ℕ → Stock) (from via to : Stage) (mine more : List Placed)
    → Leads limits stock from mine via → Leads limits stock via more to → Leads limits stock from (mine ++ more) to
leads_on limits stock from via to mine more h k =
    fold-append (play limits stock) from mine more ∙ ap (λ stage. fold (play limits stock) stage more) h ∙ k

module _ (limits : Limits) (n : ℕ) (stock later : ℕ → Stock) (agree : AgreeUpTo n stock later) where
  same_begun : (asked : Asked) (r : Request) → later r.version ≡ stock r.version → begun limits stock asked r ≡ begun limits later asked r
  same_begun (Evaluation op envelope) r h = ap (λ documents. Pinned r op envelope (answered documents op envelope)) (sym h)
  same_begun (Revision iri) r h = refl
  same_begun (Eviction iri) r h = refl
  same_begun (Unrecorded outcome) r h = refl

  same_pinned : (items : List Heard) (text : List ℕ) (number version : ℕ) → later version ≡ stock version → pinned limits stock items text number version ≡ pinned limits later items text number version
  same_pinned [] text number version h = refl
  same_pinned (i ∷ items) text number version h = same_begun i.asked (record { number = number; version = version; marks = i.marked.marks; items = items; text = text }) h

  same_step : (store : Store) (stage : Stage) (e : Event (List ℕ)) → pins_within n e → step limits stock store stage e ≡ step limits later store stage e
  same_step store (Idle items text) (event.Pinned session request attempt version) within = same_pinned items text request version (agree version within)
  same_step store (Lacking r op envelope iri) (event.Pinned session request attempt version) within =
      ap (λ documents. Pinned (record r { version = version }) op envelope (answered documents op envelope)) (sym (agree version within))
  same_step store (Idle items text) _ within = refl
  same_step store (Lacking r op envelope iri) _ within = refl
  same_step store (Fresh items) e within = refl
  same_step store (Pinned r op envelope answer) e within = refl
  same_step store (Placing r op envelope answer) e within = refl
  same_step store (Revising r iri) e within = refl
  same_step store (Reloading r iri) e within = refl
  same_step store (Evicting r iri) e within = refl
  same_step store (Gone r) e within = refl
  same_step store (Shut text) e within = refl
  same_step store Wrong e within = refl

  same_leads : (mine : List Placed) → PinWithin n mine → (from : Stage) → fold (play limits later) from mine ≡ fold (play limits stock) from mine
  same_leads [] within from = refl
  same_leads (p ∷ mine) within from =
      ap (λ stage. fold (play limits later) stage mine) (sym (same_step p.before from p.entry.event within.0)) ∙ same_leads mine within.1 (play limits stock from p)

pub stays : (limits : Limits) (n : ℕ) (stock : ℕ → Stock) (from to : Stage) (mine : List Placed) → PinWithin n mine → Leads limits stock from mine to → Goes limits n stock from mine to
stays limits n stock from to mine within leads later agree = same_leads limits n stock later agree mine within from ∙ leads

pub fits_on : (limits : Limits) (n : ℕ) (stock later : ℕ → Stock) (entries more : Entries) (session : ℕ) (items : List Marked) (written : List ℕ)
    → PinWithin n (own_placed session entries) → AgreeUpTo n stock later → own_from (state entries) session more ≡ []
    → Fits limits stock entries session items written → Fits limits later (entries ++ more) session items written
fits_on limits n stock later entries more session items written within agree none fits = record {
  heard = fits.heard;
  are_items = fits.are_items;
  leads = ap (fold (play limits later) (Fresh fits.heard)) (unchanged empty_store session entries more none)
      ∙ stays limits n stock (Fresh fits.heard) (Shut written) (own_placed session entries) within fits.leads later agree;
}
