-- `plan::inner::check_owners` meets its contract: the loop's invariant is that the owners before this one pass.
-- Assumes nothing.
use Rattle.std.proofs.Common.{◌≡◌}
use Rattle.records.specs.First.{Fine, first_of}
use Rattle.plan.specs.Check.{owner_check_of}
use Rattle.plan.proofs.inner.check_owners.Given as goal

abbrev pub invariant-loop-owner : goal.invariant-loop-owner
invariant-loop-owner l = first_of (owner_check_of l.fn.plan) l.owner-index ≡ Fine
