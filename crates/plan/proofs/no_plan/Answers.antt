-- `plan::no_plan` meets its contract: its clients are `no_client`, eight times.
-- Assumes nothing.
use Rattle.plan.proofs.no_plan.Goals as goal

pub returns : goal.returns
returns c = rw c.no_client.ensures
