-- `figures::inner::slots` meets its contract: the loop has counted the client's slots among the first.
-- Assumes nothing.
use mathlib.Core.Path.{◌≡◌}
use Rattle.frame.specs.Frame.{within}
use Rattle.plan.specs.Plan.{own_of}
use Rattle.figures.proofs.inner.slots.Given as goal

abbrev pub invariant-loop-owner : goal.invariant-loop-owner
invariant-loop-owner l = l.m ≡ within (own_of l.fn.plan l.client) 0 l.owner-index
