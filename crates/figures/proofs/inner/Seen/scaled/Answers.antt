-- `figures::inner::Seen::scaled` meets its contract: the loop has the most that a stretch from one of the first s
-- starts lacks, and starts and lengths below f suffice.
-- Assumes nothing.
use mathlib.Core.Path.{◌≡◌}
use native.Mathlib.Omega.{arith}
use Rattle.figures.proofs.Laws.{scaled_all}
use Rattle.figures.proofs.inner.Seen.scaled.Goals as goal

pub returns : goal.returns
returns c =
    let seen = c.args.self.now in
    let loop = c.loop-s in
    let e : loop.s ≡ seen.plan.f = omega arith in
    scaled_all seen.plan seen.client seen.m loop.most (omega arith) seen.counted (rw e at loop.invariant)
