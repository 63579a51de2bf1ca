-- How a flight under way shows from the session that led it.
use Rattle.std.specs.Prelude.{◌≡◌, ℕ, ◌==◌, Bool, false}
use Rattle.ld_history.specs.declared.session.Last.{Last}
use Rattle.ld_history.specs.declared.session.Last.TheVariants as last
use Rattle.ld_history.specs.Store.{Store}
use Rattle.ld_history.specs.Words.{has_flight}
use Rattle.ld_history.specs.Rules.{on_session, on_flight}

-- the last own event is Led or ReviseLed of a flight under way that this session led
abbrev pub leads_now : Store → ℕ → Last → Bool
leads_now store session (last.Led flight) = on_flight store flight (λ f. f.session == session)
leads_now store session (last.ReviseLed flight) = on_flight store flight (λ f. f.session == session)
leads_now store session _ = false

abbrev pub is_leading : Store → ℕ → Bool
is_leading store session = on_session store session (λ s. leads_now store session s.last)

-- A session's flight under way is that of its last own event. So it is after each legal history.
abbrev pub LeadIsLast : Store → Type 0
LeadIsLast store = (session : ℕ) → has_flight store session ≡ is_leading store session
