-- `listing::inner::put_homing` meets its contract: the loop's invariant is that the first i lines are put.
-- Assumes nothing.
use Prim.Native.Nat.{◌*◌, ◌≤◌}
use Rattle.text.specs.Text.{Lines, AddsOne}
use Rattle.listing.specs.Listing.{IsHomingLine}
use Rattle.listing.proofs.inner.put_homing.Given as goal

abbrev pub invariant-loop-i : goal.invariant-loop-i
invariant-loop-i l = (l.page.at ≤ 42 * l.i) × AddsOne (Lines (IsHomingLine l.plan) l.i) l.initial.page l.page
