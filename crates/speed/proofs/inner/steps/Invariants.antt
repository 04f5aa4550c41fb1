-- Each step passes as the one before it did (`next_passes`).
-- Assumes nothing.
use Rattle.std.proofs.Common.{◌≡◌, length}
use Rattle.records.specs.First.{Fine}
use Rattle.arbiter.specs.Step.{step_check}
use Rattle.speed.proofs.inner.steps.Given as goal

abbrev pub invariant-loop : goal.invariant-loop
invariant-loop l = step_check l.plan l.position (length l.arrivals) ≡ Fine
