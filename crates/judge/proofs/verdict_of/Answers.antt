-- `judge::verdict_of` meets its contract: a client that can be asked about is one of a plan in bounds, as its verdict
-- asks.
-- Assumes nothing.
use mathlib.Core.Path.{sym, ◌∙◌}
use native.Mathlib.Omega.{arith}
use Rattle.plan.proofs.Laws.{asked_fine}
use Rattle.judge.proofs.verdict_of.Goals as goal

pub verdict-requires : goal.verdict-requires
verdict-requires c =
    let asked = asked_fine c.args.plan c.args.client (sym c.check_asked.ensures ∙ c.in_ok-check_asked.was) in
    let bounds = asked.0.bounds in
    (bounds.f_low, bounds.f_high, asked.1, omega (arith, asked.2, bounds.n_high))
