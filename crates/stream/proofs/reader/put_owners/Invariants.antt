-- `stream::reader::put_owners` meets its contract: the loop's invariant is the array whose owners before row j and
-- first t of row j are filled in.
-- Assumes nothing.
use Rattle.std.proofs.Common.{◌≡◌, ◌+◌, ◌*◌}
use Rattle.records.specs.Pieces.{padded}
use Rattle.stream.specs.Read.{owner_in}
use Rattle.stream.proofs.reader.put_owners.Given as goal

abbrev pub invariant-loop-t : goal.invariant-loop-t
invariant-loop-t l = l.owners ≡ padded (owner_in l.s l.at) (8 * l.j + l.t) 64 0
