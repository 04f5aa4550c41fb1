-- `listing::inner::put_lines` meets its contract: the loop's invariant is that the first i lines are put, and that
-- judging the first i clients stops where it was found to.
-- Assumes nothing.
use Prim.Native.Nat.{◌+◌}
use native.Mathlib.Omega.{arith}
use Rattle.text.proofs.Laws.{adds_line}
use Rattle.listing.specs.Listing.{IsReportLine}
use Rattle.listing.proofs.Laws.{line_put}
use Rattle.listing.proofs.inner.put_lines.Goals as goal

pub loop-i-preserved : goal.loop-i-preserved
loop-i-preserved c =
    let plan = c.args.plan in
    let loop = c.loop-i in
    let judged = c.first_failure-judged.ensures in
    let line = c.line_of-line in
    let put = line_put plan loop.i line.result line.ensures c.put_line.ensures.put in (
      omega arith,
      adds_line (IsReportLine plan) loop.i loop.invariant.1 put,
      c.earlier-found.ensures plan 0 loop.i (loop.i + 1) (omega arith) (omega arith) loop.invariant.2 judged,
    )
