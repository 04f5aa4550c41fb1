-- `listing::inner::put_lines` meets its contract: the loop's invariant is that the first i lines are put, and that
-- judging the first i clients stops where it was found to.
-- Assumes nothing.
use Prim.Native.Nat.{◌+◌, ◌*◌, ◌≤◌}
use Rattle.text.specs.Text.{Lines, AddsOne}
use Rattle.judge.specs.Judge.{IsJudgement}
use Rattle.listing.specs.Listing.{IsReportLine}
use Rattle.listing.proofs.inner.put_lines.Given as goal

abbrev pub invariant-loop-i : goal.invariant-loop-i
invariant-loop-i l =
    (l.page.at ≤ l.initial.page.at + 89 * l.i)
    × AddsOne (Lines (IsReportLine l.plan) l.i) l.initial.page l.page
    × IsJudgement l.plan 0 l.i l.found
