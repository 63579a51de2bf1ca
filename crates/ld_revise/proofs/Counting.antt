-- Counts of answers add up.
use Rattle.std.proofs.Common.{◌≡◌, ◌∙◌, ◌+◌, ◌≤◌, List, [], ◌∷◌, length, length-append, sym, ap, arith}
use Rattle.std.proofs.lemmas.List.{length-map}
use mathlib.Core.List.{IsPrefix}
use Rattle.ld_head.specs.declared.outcome.Outcome.{Outcome}
use Rattle.ld_history.proofs.LawHolds.{room_kept}
use Rattle.ld_history.proofs.LawTold.{by_turns}
use Rattle.ld_history.specs.declared.limits.Limits.{Limits}
use Rattle.ld_book.specs.Pages.{Pages, entries_of}
use Rattle.ld_book.specs.declared.page.Page.{Page}
use Rattle.ld_moves.specs.Stocks.{IsSound}
use Rattle.ld_revise.specs.Rounds.{IsTally}
use Rattle.ld_revise.specs.Walking.{Sums, nothing}
use Rattle.ld_revise.specs.declared.tally.Tally.{Tally}

pub sums_none : (t : Tally) → Sums t [] t
sums_none t = record { revised = omega arith; same = omega arith; failed = omega arith; refused = omega arith; whole = omega arith }

pub sums_more : (a b c : Tally) (o : Outcome) (outcomes : List Outcome) → Sums a (o ∷ []) b → Sums b outcomes c → Sums a (o ∷ outcomes) c
sums_more a b c o outcomes m n =
    let r = m.revised in
    let s = m.same in
    let f = m.failed in
    let d = m.refused in
    let w = m.whole in
    let r' = n.revised in
    let s' = n.same in
    let f' = n.failed in
    let d' = n.refused in
    let w' = n.whole in
    record { revised = omega (arith, r, r'); same = omega (arith, s, s'); failed = omega (arith, f, f'); refused = omega (arith, d, d'); whole = omega (arith, w, w') }

-- from none on they are the whole tally
pub tally_of : (outcomes : List Outcome) (t : Tally) → Sums nothing outcomes t → IsTally outcomes t
tally_of outcomes t s =
    let r = s.revised in
    let e = s.same in
    let f = s.failed in
    let d = s.refused in
    let w = s.whole in
    record { revised = omega (arith, r); same = omega (arith, e); failed = omega (arith, f); refused = omega (arith, d); whole = omega (arith, w) }

-- a history is short
pub pages_few : (limits : Limits) (pages : Pages) → IsSound limits pages → length pages ≤ 16777216
pages_few limits pages sound =
    let room = room_kept limits (entries_of pages) sound.within.held (by_turns limits (entries_of pages) sound.legal) in
    let same : length (entries_of pages) ≡ length pages = length-map pages (λ (p : Page). p.entry) in
    let most = sound.within.events in
    omega (arith, room, same, most)

pub longer : (front later : Pages) → IsPrefix front later → length front ≤ length later
longer front later grows =
    let whole : length later ≡ length front + length grows.0 = sym (ap length grows.1) ∙ length-append front grows.0 in
    omega (arith, whole)
