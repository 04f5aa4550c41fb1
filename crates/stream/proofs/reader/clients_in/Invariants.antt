-- `stream::reader::clients_in` meets its contract: the loop's invariant is that the first i clients are filled in.
-- Assumes nothing.
use Rattle.std.proofs.Common.{◌≡◌, take}
use Rattle.records.specs.Pieces.{firsts}
use Rattle.stream.specs.Read.{client_in}
use Rattle.stream.proofs.reader.clients_in.Given as goal

abbrev pub invariant-loop-i : goal.invariant-loop-i
invariant-loop-i l = take l.i l.client-items ≡ firsts (client_in l.s l.at) l.i
