-- `explore::inner::best_filling` meets its contract: the walk begins at the front of no places, with no filling seen,
-- and ends with all of them seen.
-- Assumes nothing.
use Rattle.std.proofs.Common.{arith}
use Rattle.explore.proofs.Fronts.{front_none}
use Rattle.explore.proofs.inner.best_filling.Goals as goal

pub invariant_of-walk-clause-is_front : goal.invariant_of-walk-clause-is_front
invariant_of-walk-clause-is_front c = front_none c.args.n (omega arith)
