-- `stream::reader::check_rows` meets its contract: the loop's invariant is that the rows before j pass,
-- and where the next one stands.
-- Assumes nothing.
use Rattle.std.proofs.Common.{◌≡◌, ◌+◌, ◌*◌}
use Rattle.records.specs.First.{first_of, Fine}
use Rattle.stream.specs.Kind.{row_kind, whole_of}
use Rattle.stream.specs.Read.{row_due_check}
use Rattle.stream.proofs.reader.check_rows.Given as goal

abbrev pub invariant-loop-j : goal.invariant-loop-j
invariant-loop-j l = (first_of (row_due_check l.s l.f l.n l.at) l.j ≡ Fine) × (l.to ≡ l.at + whole_of row_kind * l.j)
