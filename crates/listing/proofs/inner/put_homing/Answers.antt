-- `listing::inner::put_homing` meets its contract: the loop's invariant is that the first i lines are put.
-- Assumes nothing.
use native.Mathlib.Omega.{arith}
use Rattle.text.proofs.Laws.{adds_no_line, adds_line}
use Rattle.listing.specs.Listing.{IsHomingLine}
use Rattle.listing.proofs.Laws.{homing_line_put}
use Rattle.listing.proofs.inner.put_homing.Goals as goal

pub loop-i-init : goal.loop-i-init
loop-i-init c = (omega arith, adds_no_line (IsHomingLine c.args.plan) _)

pub loop-i-preserved : goal.loop-i-preserved
loop-i-preserved c =
    let plan = c.args.plan in
    let loop = c.loop-i in
    let line = homing_line_put plan loop.i c.homing_wait.result c.homing_wait.ensures c.put_homing_line.ensures.put in
    (omega arith, adds_line (IsHomingLine plan) loop.i loop.invariant.1 line)
