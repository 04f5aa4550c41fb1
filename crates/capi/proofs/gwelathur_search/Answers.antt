-- `capi::gwelathur_search` meets its contract: what the checks refuse is told as the search's own refusal, and all else
-- is what `gwelathur_search_whole` tells.
-- Assumes nothing.
use native.Mathlib.Omega.{arith}
use Rattle.records.proofs.Puts.{none}
use Rattle.capi.proofs.Laws.{told_refused}
use Rattle.capi.proofs.gwelathur_search.Goals as goal

pub returns-in-Err : goal.returns-in-Err
returns-in-Err c =
    told_refused c.in-Err.why (rw c.in-Err.is at c.check_searched.ensures)
    (omega (arith, c.wide.ensures.0, c.wide.ensures.1, c.into.ensures)) (none c.args.out.now 0)
