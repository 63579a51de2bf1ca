use Rattle.ld_own.proofs.Keeping.{flight_is_kept, session_is_kept}
use Rattle.ld_own.proofs.laws.sessions_are_kept.Goals as goal

pub returns-clause-session : goal.returns-clause-session
returns-clause-session c limits session s front later small legal adds is = session_is_kept limits small session s front later legal adds is

pub returns-clause-flight : goal.returns-clause-flight
returns-clause-flight c session number f front later led adds is = flight_is_kept session number f front later led adds is
