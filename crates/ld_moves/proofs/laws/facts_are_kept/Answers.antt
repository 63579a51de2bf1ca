use Rattle.ld_moves.proofs.Keeping.{ended_found, in_stock_found, led_found, of_stays, session_found}
use Rattle.ld_moves.proofs.laws.facts_are_kept.Goals as goal

pub returns-clause-session : goal.returns-clause-session
returns-clause-session c session limits front found s f is = session_found session limits front found f s is

pub returns-clause-led : goal.returns-clause-led
returns-clause-led c session limits front found number flight f led is = led_found session limits front found f number flight led is

pub returns-clause-ended : goal.returns-clause-ended
returns-clause-ended c session limits front found number how f over is = ended_found session limits front found f number how over is

pub returns-clause-there : goal.returns-clause-there
returns-clause-there c front later number iri p h = of_stays front later p number iri h

pub returns-clause-stock : goal.returns-clause-stock
returns-clause-stock c session limits front found iri version f le = in_stock_found session limits front found f iri version le
