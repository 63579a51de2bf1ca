use Rattle.std.proofs.Common.{◌≡◌, ◌∙◌, List, ◌∷◌, map, sym, ap, subst}
use Rattle.std.specs.List.{AllByRecursion}
use Rattle.std.proofs.lemmas.List.Elements.{All-from_recursion, recursion_from_All}
use mathlib.Core.List.{IsPrefix}
use Rattle.ld_book.specs.Seats.{lines_of}
use Rattle.ld_book.specs.declared.page.Line.{Line}
use Rattle.ld_turn.specs.Known.{Known}
use Rattle.ld_work.specs.Gathering.{all_rounds, all_sessions}
use Rattle.ld_work.specs.Shifts.{IsReady}
use Rattle.ld_work.proofs.Closing.{all_at_book, all_at_library, all_worked, worked_as}
use Rattle.ld_work.proofs.serving.serve.Goals as goal

pub close_hall-requires-clause-book : goal.close_hall-requires-clause-book
close_hall-requires-clause-book g c =
    let hall = c.in_ok-hall.hall in
    let a = c.in_ok-all.ensures in
    let ready = recursion_from_All (λ j. IsReady hall.book hall.library j) c.in_ok-jobs.jobs.items c.in_ok-jobs.ensures.ready in
    let rest = all_at_book g.D.Door.doorway g.L.Loader.loading c.args.every hall.book hall.library c.in_ok-jobs.jobs.items c.in_ok-shifts.shifts.items c.in_ok-shifts.ensures ready in
    All-from_recursion (λ (s : Known Line). s.lock ≡ hall.book) c.in_ok-all.all.book.items
    (subst (λ (l : List (Known Line)). AllByRecursion (λ (s : Known Line). s.lock ≡ hall.book) l) (sym a.book_seats) (c.seat_all.ensures.book, rest))

pub close_hall-requires-clause-library : goal.close_hall-requires-clause-library
close_hall-requires-clause-library g c =
    let hall = c.in_ok-hall.hall in
    let a = c.in_ok-all.ensures in
    let ready = recursion_from_All (λ j. IsReady hall.book hall.library j) c.in_ok-jobs.jobs.items c.in_ok-jobs.ensures.ready in
    let rest = all_at_library g.D.Door.doorway g.L.Loader.loading c.args.every hall.book hall.library c.in_ok-jobs.jobs.items c.in_ok-shifts.shifts.items c.in_ok-shifts.ensures ready in
    All-from_recursion (λ (s : Known (Unit {0})). s.lock ≡ hall.library) c.in_ok-all.all.library.items
    (subst (λ (l : List (Known (Unit {0}))). AllByRecursion (λ (s : Known (Unit {0})). s.lock ≡ hall.library) l) (sym a.library_seats) (c.seat_all.ensures.library, rest))

pub returns-clause-worked : goal.returns-clause-worked
returns-clause-worked g c =
    let doorway = g.D.Door.doorway in
    let loading = g.L.Loader.loading in
    let a = c.in_ok-all.ensures in
    let book = c.in_ok-book.book in
    let jobs = c.in_ok-jobs.jobs.items in
    let shifts = c.in_ok-shifts.shifts.items in
    let saw = recursion_from_All (λ (k : Known Line). IsPrefix k.front (lines_of book)) c.in_ok-all.all.book.items c.in_ok-book.ensures.saw in
    let each = subst (λ (l : List (Known Line)). AllByRecursion (λ (k : Known Line). IsPrefix k.front (lines_of book)) l) a.book_seats saw in
    worked_as doorway loading c.args.every book (map (λ j. j.post) jobs) (map (λ x. x.post) shifts) c.args.posts.items c.in_ok-all.gathered.posts.items (all_sessions shifts) c.in_ok-all.gathered.sessions.items (all_rounds shifts)
    c.in_ok-all.gathered.rounds.items (all_worked doorway loading c.args.every book c.in_ok-book.ensures.sound jobs shifts c.in_ok-shifts.ensures a.logged each.1) c.in_ok-jobs.ensures.posts a.posts_are a.sessions_are a.rounds_are
