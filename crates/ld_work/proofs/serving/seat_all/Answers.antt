use Rattle.std.proofs.Common.{◌≡◌, ◌∙◌, [], ◌∷◌, ◌++◌, All, List, false, map, refl, sym, ap, subst, rules}
use Rattle.std.proofs.lemmas.List.{map-append}
use Rattle.std.proofs.lemmas.List.Elements.{All-push}
use Rattle.ld_history.specs.Legal.{state}
use Rattle.ld_history.specs.Words.{is_taken}
use Rattle.ld_book.specs.Seats.{Lines, entries_in}
use Rattle.ld_work.specs.Shifts.{IsReady}
use Rattle.ld_work.specs.declared.worker.Job.{Job}
use Rattle.ld_work.proofs.serving.seat_all.Goals as goal

pub loop-post-preserved : goal.loop-post-preserved
loop-post-preserved g c =
    let hall = c.args.hall.now in
    let seats = c.in_ok-seats.seats in
    let s = c.in_ok-seats.ensures in
    let i = c.loop-post.invariant in
    let job : Job _ _ = record { seats = seats; post = c.in-Some.post } in
    let items : c.push.new.self.items ≡ c.loop-post.jobs.items ++ job ∷ [] = search rules in
    let free = subst (λ (front : Lines). is_taken (state (entries_in front)) seats.book.number ≡ false) (sym (s.front ∙ i.2)) refl in
    let ready : IsReady hall.book hall.library job = record { at_book = s.book; at_library = s.library; free = free } in (
      s.same_book ∙ i.0,
      s.same_library ∙ i.1,
      s.same_front ∙ i.2,
      subst (λ l. All (λ j. IsReady hall.book hall.library j) l) (sym items) (All-push (λ j. IsReady hall.book hall.library j) c.loop-post.jobs.items job i.3 ready),
      ap (map (λ j. j.post)) items ∙ map-append (λ j. j.post) c.loop-post.jobs.items (job ∷ []) ∙ ap (λ ps. ps ++ c.in-Some.post ∷ []) i.4,
    )
