-- `plan::check_requirements` meets its contract: where the count passes, n is at most 8, as its clients' check asks.
-- Assumes nothing.
use mathlib.Core.Path.{sym, ◌∙◌}
use Rattle.records.specs.declared.refusal.Refusal.TheVariants as refusal
use Rattle.records.proofs.Checks.{range_fine}
use Rattle.plan.proofs.check_requirements.Goals as goal

pub check_clients-requires : goal.check_clients-requires
check_clients-requires c =
    (range_fine c.args.plan.n 8 refusal.Count (sym c.check_count.ensures ∙ c.in_ok-check_count.was)).1
