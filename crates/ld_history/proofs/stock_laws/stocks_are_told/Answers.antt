use Rattle.ld_history.proofs.LawStock.{stock_stays}
use Rattle.ld_history.proofs.LawStocks.{first_stock, published_stock, evicted_stock, current_stock}
use Rattle.ld_history.proofs.LawTold.{by_turns}
use Rattle.std.proofs.Common.{◌++◌}
use Rattle.ld_history.proofs.stock_laws.stocks_are_told.Goals as goal

pub returns-clause-first : goal.returns-clause-first
returns-clause-first c limits entries legal = first_stock limits entries (by_turns limits entries legal)

pub returns-clause-published : goal.returns-clause-published
returns-clause-published c limits front back flight version given f legal is = published_stock limits front back flight version given f (by_turns limits _ legal) is

pub returns-clause-evicted : goal.returns-clause-evicted
returns-clause-evicted c limits front back session iri version legal = evicted_stock limits front back session iri version (by_turns limits _ legal)

pub returns-clause-stays : goal.returns-clause-stays
returns-clause-stays c limits front back version legal le = stock_stays limits front back (by_turns limits (front ++ back) legal) version le

pub returns-clause-current : goal.returns-clause-current
returns-clause-current c limits entries legal = current_stock limits entries (by_turns limits entries legal)
