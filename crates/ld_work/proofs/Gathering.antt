-- What the workers leave together, worker by worker.
use Rattle.std.proofs.Common.{◌≡◌, ◌∙◌, List, [], ◌∷◌, ◌++◌, Option, Some, None, map, refl, sym, ap, append-nil, append_assoc}
use Rattle.std.specs.Prelude.{IsSome}
use Rattle.std.specs.List.{AllByRecursion}
use Rattle.std.proofs.lemmas.List.{map-append}
use Rattle.ld_book.specs.declared.page.Line.{Line}
use Rattle.ld_turn.specs.Known.{Known}
use Rattle.ld_work.specs.Gathering.{AreGathered, all_rounds, all_sessions, rounds_in, sessions_in}
use Rattle.ld_work.specs.Working.{Session}
use Rattle.ld_work.specs.declared.hall.AllSeats.{AllSeats}
use Rattle.ld_work.specs.declared.report.RoundReport.{RoundReport}
use Rattle.ld_work.specs.declared.serving.Gathered.{Gathered}
use Rattle.ld_work.specs.declared.worker.Log.{Log}
use Rattle.ld_work.specs.declared.worker.Shift.{Shift}

all_push : {A : Type 0} (P : A → Type 0) (xs : List A) (x : A) → AllByRecursion P xs → P x → AllByRecursion P (xs ++ x ∷ [])
all_push P [] x h p = (p, tt)
all_push P (y ∷ xs) x h p = (h.0, all_push P xs x h.1 p)

some_is : (o : Option Log) (log : Log) → o ≡ Some log → IsSome o
some_is None log is = cc
some_is (Some x) log is = refl

module _ {D L : Type 0} where
  more_sessions : (shifts : List (Shift D L)) (x : Shift D L) → all_sessions (shifts ++ x ∷ []) ≡ all_sessions shifts ++ sessions_in x.log
  more_sessions [] x = append-nil (sessions_in x.log)
  more_sessions (y ∷ shifts) x = ap (λ (ss : List Session). sessions_in y.log ++ ss) (more_sessions shifts x) ∙ sym (append_assoc (sessions_in y.log) (all_sessions shifts) (sessions_in x.log))

  more_rounds : (shifts : List (Shift D L)) (x : Shift D L) → all_rounds (shifts ++ x ∷ []) ≡ all_rounds shifts ++ rounds_in x.log
  more_rounds [] x = append-nil (rounds_in x.log)
  more_rounds (y ∷ shifts) x = ap (λ (rs : List RoundReport). rounds_in y.log ++ rs) (more_rounds shifts x) ∙ sym (append_assoc (rounds_in y.log) (all_rounds shifts) (rounds_in x.log))

  pub gathered_more : (book : Known Line) (library : Known (Unit {0})) (shifts : List (Shift D L)) (all all' : AllSeats) (gathered gathered' : Gathered D L) (x : Shift D L) (log : Log) → AreGathered book library shifts all gathered → x.log ≡ Some log
      → all'.book.items ≡ all.book.items ++ x.seats.book ∷ [] → all'.library.items ≡ all.library.items ++ x.seats.library ∷ [] → gathered'.posts.items ≡ gathered.posts.items ++ x.post ∷ []
      → gathered'.sessions.items ≡ gathered.sessions.items ++ log.sessions.items → gathered'.rounds.items ≡ gathered.rounds.items ++ log.rounds.items → AreGathered book library (shifts ++ x ∷ []) all' gathered'
  gathered_more book library shifts all all' gathered gathered' x log g is books libraries posts sessions rounds = record {
    book_seats = books ∙ ap (λ (ss : List (Known Line)). ss ++ x.seats.book ∷ []) g.book_seats ∙ ap (λ (ss : List (Known Line)). book ∷ ss) (sym (map-append (λ (y : Shift D L). y.seats.book) shifts (x ∷ [])));
    library_seats = libraries ∙ ap (λ (ss : List (Known (Unit {0}))). ss ++ x.seats.library ∷ []) g.library_seats ∙ ap (λ (ss : List (Known (Unit {0}))). library ∷ ss) (sym (map-append (λ (y : Shift D L). y.seats.library) shifts (x ∷ [])));
    logged = all_push (λ (y : Shift D L). IsSome y.log) shifts x g.logged (some_is x.log log is);
    posts_are = posts ∙ ap (λ ps. ps ++ x.post ∷ []) g.posts_are ∙ sym (map-append (λ (y : Shift D L). y.post) shifts (x ∷ []));
    sessions_are = sessions ∙ ap (λ (ss : List Session). ss ++ log.sessions.items) g.sessions_are ∙ ap (λ o. all_sessions shifts ++ sessions_in o) (sym is) ∙ sym (more_sessions shifts x);
    rounds_are = rounds ∙ ap (λ (rs : List RoundReport). rs ++ log.rounds.items) g.rounds_are ∙ ap (λ o. all_rounds shifts ++ rounds_in o) (sym is) ∙ sym (more_rounds shifts x);
  }
