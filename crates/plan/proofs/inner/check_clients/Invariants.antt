-- `plan::inner::check_clients` meets its contract: the loop's invariant is that the clients before this one pass.
-- Assumes nothing.
use Rattle.std.proofs.Common.{◌≡◌}
use Rattle.records.specs.First.{Fine, first_of}
use Rattle.plan.specs.Check.{client_check_of}
use Rattle.plan.proofs.inner.check_clients.Given as goal

abbrev pub invariant-loop-client : goal.invariant-loop-client
invariant-loop-client l = first_of (client_check_of l.fn.plan) l.client-index ≡ Fine
