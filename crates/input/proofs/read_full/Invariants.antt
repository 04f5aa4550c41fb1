-- `input::read_full` ends, since each read that is not the last one leaves fewer places. What it has read stands at the
-- front, and the reader has given just that.
-- Assumes nothing.
use Rattle.std.proofs.Common.{◌-◌, ◌≤◌, length, take}
use Rattle.std.specs.Io.KnownBytes.{Consumes}
use Rattle.input.proofs.read_full.Given as goal

abbrev pub invariant-loop-done : goal.invariant-loop-done
invariant-loop-done g l = record {
  within : l.done ≤ length l.bytes;
  given : Consumes (g.R.Read.remaining l.initial.from) (g.R.Read.remaining l.from) (take l.done l.bytes);
}

abbrev pub decreases-loop-done : goal.decreases-loop-done
decreases-loop-done g l = length l.bytes - l.done
