-- `stream::writer::put_slots` meets its contract: the loop's invariant is that the first t bytes are put.
-- Assumes nothing.
use Rattle.records.specs.Pieces.{firsts}
use Rattle.records.specs.Put.{Adds}
use Rattle.stream.specs.Write.{row_byte}
use Rattle.stream.proofs.writer.put_slots.Given as goal

abbrev pub invariant-loop-t : goal.invariant-loop-t
invariant-loop-t l = Adds l.initial.out (firsts (row_byte l.plan l.j) l.t) l.out
