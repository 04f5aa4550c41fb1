-- `arbiter::step` meets its contract: where the checks pass, the slot's work may be done.
-- Assumes nothing.
use mathlib.Core.Path.{sym, ◌∙◌}
use Rattle.arbiter.proofs.step.Goals as goal

pub advance-requires : goal.advance-requires
advance-requires c = sym c.check_step.ensures ∙ c.in_ok-check_step.was
