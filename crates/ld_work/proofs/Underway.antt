-- What a worker has done so far, from its first link to the last.
use Rattle.std.proofs.Common.{◌≡◌, ◌∙◌, ◌⊎◌, inl, inr, ℕ, ◌+◌, suc, List, [], ◌∷◌, ◌++◌, Option, Some, None, IfSome, length, map, refl, sym, ap, subst, arith, append-nil, append_assoc, length-append}
use Rattle.std.specs.Prelude.{All, is_some}
use Rattle.std.specs.Option.{option_map, option_to_list}
use Rattle.std.proofs.lemmas.List.{map-append, length-map}
use Rattle.std.proofs.lemmas.List.Elements.{All-push, All-from_recursion}
use mathlib.Core.List.{IsPrefix}
use Rattle.ld_edge.specs.Doors.{Doorway, IsOneFewer, IsTold, IsUnused, Sides, with_link}
use Rattle.ld_edge.specs.Faults.{Rose}
use Rattle.ld_flight.specs.Loads.{Loading}
use Rattle.ld_book.specs.Pages.{Booked}
use Rattle.ld_book.specs.Seats.{Lines, lines_of}
use Rattle.ld_moves.proofs.Joining.{prefix_trans}
use Rattle.ld_work.specs.Shifts.{Gives, InAll, IsLast, IsUnderway, Returns, ServesOne}
use Rattle.ld_work.specs.Working.{AreDone, Attends, Deed, IsDone, Session, Worked, is_due, rounds_due, rounds_of}
use Rattle.ld_work.specs.declared.post.Post.{Post}
use Rattle.ld_work.specs.declared.report.RoundReport.{RoundReport}
use Rattle.ld_work.specs.declared.worker.Log.{Log}
use Rattle.ld_work.proofs.Pace.{all_counted, paced_more}

rounds_more : (deeds : List Deed) (d : Deed) → rounds_of (deeds ++ d ∷ []) ≡ rounds_of deeds ++ option_to_list d.round
rounds_more [] d = append-nil (option_to_list d.round)
rounds_more (x ∷ deeds) d = ap (λ (rs : List RoundReport). option_to_list x.round ++ rs) (rounds_more deeds d) ∙ sym (append_assoc (option_to_list x.round) (rounds_of deeds) (option_to_list d.round))

done_more : (book : Booked) (deeds : List Deed) (d : Deed) (start mid end : Loading) → AreDone book deeds start mid → IsDone book d mid end → AreDone book (deeds ++ d ∷ []) start end
done_more book [] d start mid end are is = (end, subst (λ (l : Loading). IsDone book d l end) are is, refl)
done_more book (x ∷ deeds) d start mid end are is = (are.0, are.1, done_more book deeds d are.0 mid end are.2 is)

-- ---- at a door
none_returned : (r : Option (List Sides)) → r ≡ option_map (λ links. links ++ []) r
none_returned None = refl
none_returned (Some links) = ap Some (sym (append-nil links))

none_left : (n : Option ℕ) → n ≡ option_map (λ k. 0 + k) n
none_left None = refl
none_left (Some k) = ap Some (omega arith)

more_returned : (first : Option (List Sides)) (backs : List Sides) (link : Sides) → with_link (option_map (λ links. links ++ backs) first) link ≡ option_map (λ links. links ++ (backs ++ link ∷ [])) first
more_returned None backs link = refl
more_returned (Some links) backs link = ap Some (append_assoc links backs (link ∷ []))

more_left : (n : Option ℕ) (k m : ℕ) → m ≡ k + 1 → option_map (λ i. k + i) (option_map suc n) ≡ option_map (λ i. m + i) n
more_left None k m is = refl
more_left (Some i) k m is = ap Some (omega (arith, is))

all_told : (first now : Option (List Sides)) (backs : List Sides) (deeds : List Deed) (d : Deed) → now ≡ option_map (λ links. links ++ backs) first → IfSome first (λ links. All (λ x. IsTold x.given) deeds) → IfSome now (λ _. IsTold d.given)
    → IfSome first (λ links. All (λ x. IsTold x.given) (deeds ++ d ∷ []))
all_told None now backs deeds d is h told = tt
all_told (Some links) now backs deeds d is h told = All-push (λ x. IsTold x.given) deeds d h (subst (λ o. IfSome o (λ _. IsTold d.given)) is told)

none_told : (first : Option (List Sides)) → IfSome first (λ links. All (λ (d : Deed). IsTold d.given) [])
none_told None = tt
none_told (Some links) = All-from_recursion (λ (d : Deed). IsTold d.given) [] tt

module _ (every : ℕ) where
  attends_none : (door door' : Doorway) (sessions : List Session) (rounds : List RoundReport) → door' ≡ door → sessions ≡ [] → rounds ≡ [] → Attends every door door' [] sessions rounds
  attends_none door door' sessions rounds same none none_too = subst (λ (x : Doorway). Attends every door x [] sessions rounds) (sym same) (record {
    sessions_are = none;
    rounds_are = none_too;
    paced = tt;
    given = omega arith;
    back = omega arith;
    returned = none_returned door.returned;
    left = none_left door.left;
    unused = All-from_recursion (λ d. IsUnused d.given) [] tt;
    told = none_told door.returned;
  })

  attends_more : (first door taken back : Doorway) (deeds : List Deed) (d : Deed) (sessions sessions' : List Session) (rounds rounds' : List RoundReport) → Attends every first door deeds sessions rounds → Gives door taken d.given → Returns taken back d.back
      → sessions' ≡ sessions ++ d.session ∷ [] → rounds' ≡ rounds ++ option_to_list d.round → is_some d.round ≡ is_due every (length sessions + 1) → Attends every first back (deeds ++ d ∷ []) sessions' rounds'
  attends_more first door taken back deeds d sessions sessions' rounds rounds' a g r more_sessions more_rounds due =
      let longer = length-append deeds (d ∷ []) in
      let count : length sessions ≡ length deeds = ap length a.sessions_are ∙ length-map deeds (λ (x : Deed). x.session) in
      record {
        sessions_are = more_sessions ∙ ap (λ (ss : List Session). ss ++ d.session ∷ []) a.sessions_are ∙ sym (map-append (λ (x : Deed). x.session) deeds (d ∷ []));
        rounds_are = more_rounds ∙ ap (λ (rs : List RoundReport). rs ++ option_to_list d.round) a.rounds_are ∙ sym (rounds_more deeds d);
        paced = paced_more every 0 deeds d a.paced (due ∙ ap (is_due every) (omega (arith, count)));
        given = (let e1 = a.given in let e2 = g.given_is in let e3 = r.given_is in omega (arith, e1, e2, e3, longer));
        back = (let e1 = a.back in let e2 = g.back_is in let e3 = r.back_is in omega (arith, e1, e2, e3, longer));
        returned = r.returned_is ∙ ap (λ o. with_link o d.back) (g.returned_is ∙ a.returned) ∙ more_returned first.returned (map (λ (x : Deed). x.back) deeds) d.back
            ∙ ap (λ (bs : List Sides). option_map (λ links. links ++ bs) first.returned) (sym (map-append (λ (x : Deed). x.back) deeds (d ∷ [])));
        left = a.left ∙ ap (option_map (λ i. length deeds + i)) (g.left_is ∙ ap (option_map suc) (sym r.left_is)) ∙ more_left back.left (length deeds) (length (deeds ++ d ∷ [])) longer;
        unused = All-push (λ x. IsUnused x.given) deeds d a.unused g.unused;
        told = all_told first.returned door.returned (map (λ (x : Deed). x.back) deeds) deeds d a.returned a.told g.told;
      }

module _ {D L : Type 0} (doorway : D → Doorway) (loading : L → Loading) (every : ℕ) where
  pub underway_none : (front : Lines) (post post' : Post D L) (log : Log) → post' ≡ post → log.sessions.items ≡ [] → log.rounds.items ≡ [] → IsUnderway doorway loading every front post post' log
  underway_none front post post' log same sessions rounds = record {
    deeds = [];
    attends = attends_none every (doorway post.door) (doorway post'.door) log.sessions.items log.rounds.items (ap (λ p. doorway p.door) same) sessions rounds;
    faults_are = ap (λ p. (doorway p.door).faults) same;
    done = λ book sound grows. ap (λ p. loading p.loader) same;
  }

  pub underway_same : (front : Lines) (post post' : Post D L) (log fresh : Log) → IsUnderway doorway loading every front post post' log → fresh.sessions.items ≡ log.sessions.items → fresh.rounds.items ≡ log.rounds.items → IsUnderway doorway loading every front post post' fresh
  underway_same front post post' log fresh u sessions rounds = record {
    deeds = u.deeds;
    attends = subst (λ (ss : List Session). Attends every (doorway post.door) (doorway post'.door) u.deeds ss fresh.rounds.items) (sym sessions)
        (subst (λ (rs : List RoundReport). Attends every (doorway post.door) (doorway post'.door) u.deeds log.sessions.items rs) (sym rounds) u.attends);
    faults_are = u.faults_are;
    done = u.done;
  }

  pub underway_more : (front later : Lines) (post mid taken post' : Post D L) (log log' : Log) (given : Sides) → IsUnderway doorway loading every front post mid log
      → Gives (doorway mid.door) (doorway taken.door) given → taken.loader ≡ mid.loader → IsPrefix front later → ServesOne doorway loading every given later taken post' log log' → IsUnderway doorway loading every later post post' log'
  underway_more front later post mid taken post' log log' given u g same_loader seen s = record {
    deeds = u.deeds ++ s.deed ∷ [];
    attends = attends_more every (doorway post.door) (doorway mid.door) (doorway taken.door) (doorway post'.door) u.deeds s.deed log.sessions.items log'.sessions.items log.rounds.items log'.rounds.items u.attends
        (subst (λ (x : Sides). Gives (doorway mid.door) (doorway taken.door) x) (sym s.given_is) g) s.returns s.sessions_are s.rounds_are s.due;
    faults_are = s.returns.faults_are ∙ g.faults_are ∙ u.faults_are;
    done = λ book sound grows.
        done_more book u.deeds s.deed (loading post.loader) (loading mid.loader) (loading post'.loader) (u.done book sound (prefix_trans front later (lines_of book) seen grows))
        (subst (λ (l : Loading). IsDone book s.deed l (loading post'.loader)) (ap loading same_loader) (s.done book sound grows));
  }

  pub underway_last : (front : Lines) (post mid post' : Post D L) (log : Log) → IsUnderway doorway loading every front post mid log → IsLast (doorway mid.door) (doorway post'.door) → post'.loader ≡ mid.loader
      → Worked (λ deeds. InAll front (λ book. AreDone book deeds (loading post.loader) (loading post'.loader))) every (doorway post.door) (doorway post'.door) log.sessions.items log.rounds.items
  underway_last front post mid post' log u last same_loader =
      let a = u.attends in
      let count : length log.sessions.items ≡ length u.deeds = ap length a.sessions_are ∙ length-map u.deeds (λ (x : Deed). x.session) in
      record {
        deeds = u.deeds;
        attends = record {
          sessions_are = a.sessions_are;
          rounds_are = a.rounds_are;
          paced = a.paced;
          given = last.given_is ∙ a.given;
          back = last.back_is ∙ a.back;
          returned = last.returned_is ∙ a.returned;
          left = a.left ∙ ap (option_map (λ n. length u.deeds + n)) (sym last.left_is);
          unused = a.unused;
          told = a.told;
        };
        links = (let e1 = last.given_is in let e2 = a.given in omega (arith, e1, e2, count));
        count = ap length a.rounds_are ∙ all_counted every u.deeds a.paced ∙ ap (rounds_due every) (sym count);
        finished = subst (λ n. Rose n (doorway post'.door).faults ⊎ IfSome (doorway post'.door).left (λ k. k ≡ 0)) u.faults_are last.ends;
        done = λ book sound grows. subst (λ (l : Loading). AreDone book u.deeds (loading post.loader) l) (sym (ap loading same_loader)) (u.done book sound grows);
      }
