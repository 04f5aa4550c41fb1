-- `stream::reader::check_head` meets its contract: where the head's record passes, f and n are there.
-- Assumes nothing.
use native.Mathlib.Omega.{arith}
use Rattle.stream.specs.Kind.{head_kind}
use Rattle.stream.proofs.Records.{due_found}
use Rattle.stream.proofs.reader.check_head.Goals as goal

pub bounds-s-1 : goal.bounds-s-1
bounds-s-1 c = omega (arith, (due_found _ 0 head_kind c.check_due.ensures c.in_ok-check_due.was).room)

pub bounds-s-2 : goal.bounds-s-2
bounds-s-2 c = omega (arith, (due_found _ 0 head_kind c.check_due.ensures c.in_ok-check_due.was).room)
