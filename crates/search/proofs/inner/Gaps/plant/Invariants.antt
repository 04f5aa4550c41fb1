-- `search::inner::Gaps::plant` meets its contract: the numbers from z on are right.
-- Assumes nothing.
use Rattle.std.proofs.Common.{◌≡◌, length}
use Rattle.search.proofs.Planting.{RightFrom}
use Rattle.search.proofs.inner.Gaps.plant.Given as goal

abbrev pub invariant-loop-z : goal.invariant-loop-z
invariant-loop-z l = (length l.trees ≡ 4096) × RightFrom l.self.plan l.self.idle l.self.plan.n l.trees l.z
