-- `search::inner::mend` meets its contract: the trees are right, so the best filling makes the best table.
-- Assumes nothing.
use Rattle.std.proofs.Common.{◌≡◌, length, arith, rules}
use Rattle.search.proofs.Mending.{mended, not_mended}
use Rattle.search.proofs.inner.mend.Goals as goal

pub returns-in_err-filling : goal.returns-in_err-filling
returns-in_err-filling c =
    let plan = c.args.plan in
    let long : length plan.owners ≡ 64 = search rules in
    rw c.from_residual.ensures
    (not_mended plan c.slots.result _ (omega arith) c.slots.ensures (omega arith)
    c.requires.owners c.plant.ensures c.in_err-filling.ensures)

pub returns : goal.returns
returns c =
    let plan = c.args.plan in
    let long : length plan.owners ≡ 64 = search rules in
    rw c.fill.ensures
    (mended plan c.slots.result _ (omega arith) c.slots.ensures (omega arith) c.requires.owners
    c.plant.ensures c.in_ok-filling.filling c.in_ok-filling.ensures)
