-- `plan::check` meets its contract: where the requirements pass, f is at most 64, as the owners' check asks.
-- Assumes nothing.
use mathlib.Core.Path.{sym, ◌∙◌}
use Rattle.plan.proofs.Laws.{requirements_fine}
use Rattle.plan.proofs.check.Goals as goal

pub check_owners-requires : goal.check_owners-requires
check_owners-requires c =
    (requirements_fine c.args.plan (sym c.check_requirements.ensures ∙ c.in_ok-check_requirements.was)).f_high
