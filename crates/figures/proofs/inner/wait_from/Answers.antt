-- `figures::inner::wait_from` meets its contract: a figure that is given is small, and so is a waiting number that
-- passes, as the least wait asks; a refused figure is a refused wait.
-- Assumes nothing.
use mathlib.Core.Path.{sym, ◌∙◌}
use Rattle.records.specs.declared.refusal.Refusal.TheVariants as refusal
use Rattle.records.proofs.Checks.{range_fine}
use Rattle.figures.specs.Check.{most_waiting}
use Rattle.figures.proofs.Questions.{figure_fine}
use Rattle.figures.proofs.Answers.{figure_small}
use Rattle.figures.proofs.inner.wait_from.Goals as goal

pub least_wait-requires-clause-in_frame : goal.least_wait-requires-clause-in_frame
least_wait-requires-clause-in_frame c =
    let args = c.args in
    let is = rw c.in_ok-figure.was at c.requires in
    let small = figure_small args.plan args.client _ is in
    ((figure_fine args.plan args.client is.0).checked.bounds.f_high, small.0, small.1)

pub least_wait-requires-clause-small : goal.least_wait-requires-clause-small
least_wait-requires-clause-small c =
    let args = c.args in
    let small = figure_small args.plan args.client _ (rw c.in_ok-figure.was at c.requires) in
    let passed = sym c.check_range.ensures ∙ c.in_ok-check_range.was in
    let k = range_fine args.waiting most_waiting refusal.Waiting passed in
    (small.2, k.1)
