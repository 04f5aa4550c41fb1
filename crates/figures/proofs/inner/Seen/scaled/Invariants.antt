-- `figures::inner::Seen::scaled` meets its contract: the loop has the most that a stretch from one of the first s
-- starts lacks, and starts and lengths below f suffice.
-- Assumes nothing.
use mathlib.Core.Path.{◌≡◌}
use Rattle.frame.specs.Largest.{largest, lack_from}
use Rattle.plan.specs.Plan.{own_of}
use Rattle.figures.proofs.inner.Seen.scaled.Given as goal

abbrev pub invariant-loop-s : goal.invariant-loop-s
invariant-loop-s l =
    let seen = l.self in
    l.most ≡ largest l.s (lack_from (own_of seen.plan seen.client) seen.plan.f seen.m)
