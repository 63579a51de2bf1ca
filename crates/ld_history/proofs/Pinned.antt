-- A session whose last own event is Pinned leads no flight under way, so its request may be answered.
use Rattle.std.proofs.Common.{◌≡◌, ℕ, List, refl, ap, ◌∙◌, Some, true, false, eq-eqb}
use Rattle.std.proofs.lemmas.Bool.{and_from, not_from_false}
use Rattle.ld_history.specs.declared.limits.Limits.{Limits}
use Rattle.ld_history.specs.declared.event.How.{How}
use Rattle.ld_history.specs.declared.session.Session.{Session}
use Rattle.ld_history.specs.Words.{at_number, is_some_and, is_pinned, has_request, has_flight}
use Rattle.ld_history.specs.ByTurns.{may_say, may_answer, Legal}
use Rattle.ld_history.specs.Legal.{state, Entries}
use Rattle.ld_history.proofs.LawReads.{pinned_is, under_way_is}
use Rattle.ld_history.proofs.LawCrew.{leads_it, quiet_leader}
use Rattle.ld_history.proofs.LawSound.{sound}
use Rattle.ld_history.proofs.LawHolds.{no_flight}

module _ (limits : Limits) (entries : Entries) (session : ℕ) (s : Session) (legal : Legal limits entries) (is : at_number (state entries).sessions session ≡ Some s) (pinned : is_pinned s.last ≡ true) where
  pub pinned_leads_nothing : has_flight (state entries) session ≡ false
  pinned_leads_nothing =
      no_flight limits entries legal session (λ number flight u e.
      quiet_leader (state entries).flights (state entries).sessions session s is (sound limits entries legal).crew.wait
      (λ m f there flying. ap (leads_it m) (pinned_is s.last pinned)) number flight u.0 (under_way_is flight.end u.1) e)

  pub pinned_may_answer : (how : How (List ℕ)) → may_say limits (state entries) s how ≡ true → may_answer limits (state entries) session s.request how ≡ true
  pinned_may_answer how say =
      let asked : has_request s ≡ true = ap (λ l. has_request (record s { last = l })) (pinned_is s.last pinned) in
      ap (is_some_and _) is ∙ and_from _ _ (and_from _ _ (and_from _ _ asked (eq-eqb s.request s.request refl)) (not_from_false _ pinned_leads_nothing)) say
