-- `judge::judge` meets its contract: a plan that passes is in bounds, as the walk over its clients asks.
-- Assumes nothing.
use mathlib.Core.Path.{sym, ◌∙◌}
use Rattle.plan.proofs.Laws.{plan_fine}
use Rattle.judge.proofs.judge.Goals as goal

pub first_failure-requires : goal.first_failure-requires
first_failure-requires c =
    let bounds = (plan_fine c.args.plan (sym c.check.ensures ∙ c.in_ok-check.was)).bounds in
    (bounds.f_low, bounds.f_high, bounds.n_high)
