-- `arbiter::inner::arrive` meets its contract: the loop's invariant is the counts in which the first i clients'
-- arrivals have joined, and the counts in whose first i places their rests stand. The count that a turn reads is as it
-- was before the loop.
-- Assumes nothing.
use mathlib.Core.Path.{◌≡◌}
use lib.ListN.{get_or}
use Rattle.frame.specs.Queue.{one_slot, queue}
use Rattle.records.specs.Pieces.{onto}
use Rattle.arbiter.proofs.inner.arrive.Given as goal

abbrev pub invariant-loop-i : goal.invariant-loop-i
invariant-loop-i l = record {
  joined : l.pending ≡ onto (λ k. queue one_slot (get_or l.initial.pending k 0) (get_or l.arrivals k 0)) l.i
      l.initial.pending;
  turned_away : l.turned ≡ onto (λ k. one_slot.turns (get_or l.initial.pending k 0) (get_or l.arrivals k 0)) l.i
      l.initial.turned;
}
