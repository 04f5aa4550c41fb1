-- `stream::reader::check_stream` meets its contract: where the head passes, f and n are there and small.
-- Assumes nothing.
use native.Mathlib.Omega.{arith}
use Rattle.stream.proofs.Records.{head_found, to_clients_lem}
use Rattle.stream.proofs.reader.check_stream.Goals as goal

pub bounds-s-1 : goal.bounds-s-1
bounds-s-1 c = omega (arith, (head_found _ c.check_head.ensures c.in_ok-check_head.was).whole.room)

pub bounds-s-2 : goal.bounds-s-2
bounds-s-2 c = omega (arith, (head_found _ c.check_head.ensures c.in_ok-check_head.was).whole.room)

pub check_rest-requires : goal.check_rest-requires
check_rest-requires c =
    let head = head_found _ c.check_head.ensures c.in_ok-check_head.was in
    (omega arith, omega arith, to_clients_lem _ head)
