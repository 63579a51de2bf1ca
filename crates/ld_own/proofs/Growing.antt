-- A session's own entries, each in the state before it, and a longer list.
use Rattle.std.proofs.Common.{◌≡◌, ◌∙◌, ℕ, Bool, true, false, List, [], ◌∷◌, ◌++◌, refl, sym, ap, append_assoc, append-nil}
use Rattle.std.specs.Prelude.{map, if◌then◌else◌, ◌==◌}
use Rattle.ld_history.specs.After.{after}
use Rattle.ld_history.specs.Counts.{owner, own_from}
use Rattle.ld_history.specs.Legal.{Entries, replay}
use Rattle.ld_history.specs.Store.{Store}
use Rattle.ld_history.specs.declared.event.Given.{Given}
use Rattle.ld_history.specs.declared.event.Entry.{Entry}
use Rattle.ld_own.specs.Own.{Placed, placed, own_placed_from}

abbrev entry_of : Placed → Entry (List ℕ) Given
entry_of p = p.entry

listed_one : (b : Bool) (p : Placed) (mine : List Placed) (own : Entries) → map entry_of mine ≡ own
    → map entry_of ((if b then p ∷ [] else []) ++ mine) ≡ (if b then p.entry ∷ [] else []) ++ own
listed_one true p mine own h = ap (λ es. p.entry ∷ es) h
listed_one false p mine own h = h

-- they are the session's own entries
pub listed : (store : Store) (session : ℕ) (entries : Entries) → map entry_of (own_placed_from store session entries) ≡ own_from store session entries
listed store session [] = refl
listed store session (e ∷ es) = listed_one (owner store e.event == session) (placed store e) (own_placed_from (after store e) session es) _ (listed (after store e) session es)

-- those of a longer list begin with those of the shorter
pub grown : (store : Store) (session : ℕ) (front back : Entries)
    → own_placed_from store session (front ++ back) ≡ own_placed_from store session front ++ own_placed_from (replay store front) session back
grown store session [] back = refl
grown store session (e ∷ es) back =
    ap (λ mine. (if owner store e.event == session then placed store e ∷ [] else []) ++ mine) (grown (after store e) session es back)
    ∙ sym (append_assoc (if owner store e.event == session then placed store e ∷ [] else []) (own_placed_from (after store e) session es) (own_placed_from (replay (after store e) es) session back))

none_mapped : {A B : Type 0} (f : A → B) (xs : List A) → map f xs ≡ [] → xs ≡ []
none_mapped f [] h = refl
none_mapped f (x ∷ xs) h = cc

-- where the session has no more entries, they stay
pub unchanged : (store : Store) (session : ℕ) (front back : Entries) → own_from (replay store front) session back ≡ []
    → own_placed_from store session (front ++ back) ≡ own_placed_from store session front
unchanged store session front back none =
    grown store session front back
    ∙ ap (λ mine. own_placed_from store session front ++ mine) (none_mapped entry_of (own_placed_from (replay store front) session back) (listed (replay store front) session back ∙ none))
    ∙ append-nil (own_placed_from store session front)
