-- `stream::writer::put_rows` meets its contract: the loop's invariant is that the first j records are put.
-- Assumes nothing.
use Rattle.records.specs.Pieces.{many}
use Rattle.records.specs.Put.{Adds}
use Rattle.stream.specs.Write.{row_record}
use Rattle.stream.proofs.writer.put_rows.Given as goal

abbrev pub invariant-loop-j : goal.invariant-loop-j
invariant-loop-j l = Adds l.initial.out (many (row_record l.plan) l.j) l.out
