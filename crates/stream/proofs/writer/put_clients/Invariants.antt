-- `stream::writer::put_clients` meets its contract: the loop's invariant is that the first i records are put.
-- Assumes nothing.
use Rattle.std.proofs.Common.{ℕ, ◌<◌}
use Rattle.records.specs.Pieces.{many}
use Rattle.records.specs.Put.{Adds}
use Rattle.plan.specs.Plan.{client_of}
use Rattle.stream.specs.Write.{client_record}
use Rattle.stream.specs.Trip.{Words}
use Rattle.stream.proofs.writer.put_clients.Given as goal

abbrev pub invariant-loop-i : goal.invariant-loop-i
invariant-loop-i l =
    Adds l.initial.out (many (client_record l.fn.plan) l.i) l.out
    × ((k : ℕ) → k < l.i → Words (client_of l.fn.plan k))
