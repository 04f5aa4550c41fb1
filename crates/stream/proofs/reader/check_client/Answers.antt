-- `stream::reader::check_client` meets its contract: where the record is due and whole, its fields are there.
-- Assumes nothing.
use native.Mathlib.Omega.{arith}
use Rattle.stream.specs.Kind.{client_kind}
use Rattle.stream.proofs.Records.{due_found}
use Rattle.stream.proofs.reader.check_client.Goals as goal

pub overflow_add-at : goal.overflow_add-at
overflow_add-at c = omega (arith, (due_found _ _ client_kind c.check_due.ensures c.in_ok-check_due.was).room)

pub bounds-s-at : goal.bounds-s-at
bounds-s-at c = omega (arith, (due_found _ _ client_kind c.check_due.ensures c.in_ok-check_due.was).room)

pub client_at-requires : goal.client_at-requires
client_at-requires c = (due_found _ _ client_kind c.check_due.ensures c.in_ok-check_due.was).room
