-- `search::inner::Gaps::fill` meets its contract: the loop has filled the first x slots, and j counts the idle ones
-- among them.
-- Assumes nothing.
use Rattle.std.proofs.Common.{◌≡◌}
use Rattle.frame.specs.Frame.{within}
use Rattle.records.specs.Pieces.{padded}
use Rattle.plan.specs.Plan.{own_in}
use Rattle.search.specs.Trees.{filled_in}
use Rattle.search.proofs.inner.Gaps.fill.Given as goal

abbrev pub invariant-loop-x : goal.invariant-loop-x
invariant-loop-x l =
    (l.j ≡ within (own_in l.self.plan.owners l.self.plan.f 0) 0 l.x)
    × (l.table ≡ padded (filled_in l.self.plan.owners l.self.plan.f l.filling) l.x 64 0)
