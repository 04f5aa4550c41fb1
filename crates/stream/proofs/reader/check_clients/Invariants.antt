-- `stream::reader::check_clients` meets its contract: the loop's invariant is that the clients before i pass.
-- Assumes nothing.
use Rattle.std.proofs.Common.{◌≡◌}
use Rattle.records.specs.First.{first_of, Fine}
use Rattle.stream.specs.Read.{client_due_check}
use Rattle.stream.proofs.reader.check_clients.Given as goal

abbrev pub invariant-loop-i : goal.invariant-loop-i
invariant-loop-i l = first_of (client_due_check l.s l.at) l.i ≡ Fine
