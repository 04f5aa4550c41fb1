-- `stream::reader::owners_in` meets its contract: the loop's invariant is the array whose first j rows are filled in.
-- A slot below f stands in a row that passed, so its byte lies in the stream.
-- Assumes nothing.
use Rattle.std.proofs.Common.{◌≡◌, ◌*◌}
use Rattle.records.specs.Pieces.{padded}
use Rattle.stream.specs.Read.{owner_in}
use Rattle.stream.proofs.reader.owners_in.Given as goal

abbrev pub invariant-loop-j : goal.invariant-loop-j
invariant-loop-j l = l.owners ≡ padded (owner_in l.s l.at) (8 * l.j) 64 0
