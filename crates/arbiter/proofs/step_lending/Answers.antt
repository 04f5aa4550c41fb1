-- `arbiter::step_lending` meets its contract: what the step in place says and leaves is what a step gives.
-- Assumes nothing.
use mathlib.Core.Path.{sym, ◌∙◌}
use Rattle.arbiter.proofs.Slots.{said_parts}
use Rattle.arbiter.proofs.step_lending.Goals as goal

pub returns : goal.returns
returns c =
    let args = c.args in
    let said = sym c.step_in_place.ensures.0 ∙ c.in_ok-served.was in
    said_parts args.plan args.arbiter _ args.arrivals.now said c.step_in_place.ensures.1
