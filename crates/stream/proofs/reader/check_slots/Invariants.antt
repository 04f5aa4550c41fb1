-- `stream::reader::check_slots` meets its contract: the loop's invariant is that the bytes before t pass.
-- Assumes nothing.
use Rattle.std.proofs.Common.{◌≡◌}
use Rattle.records.specs.First.{first_of, Fine}
use Rattle.stream.specs.Read.{slot_due_check}
use Rattle.stream.proofs.reader.check_slots.Given as goal

abbrev pub invariant-loop-t : goal.invariant-loop-t
invariant-loop-t l = first_of (slot_due_check l.s l.f l.n l.at l.j) l.t ≡ Fine
