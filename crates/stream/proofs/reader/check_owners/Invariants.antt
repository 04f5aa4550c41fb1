-- `stream::reader::check_owners` meets its contract: the loop's invariant is that the highest of the bytes so far
-- decides for all of them.
-- Assumes nothing.
use Rattle.std.proofs.Common.{◌≡◌, ◌+◌, get_or}
use Rattle.records.specs.First.{first_of}
use Rattle.plan.specs.Check.{owner_check}
use Rattle.stream.proofs.reader.check_owners.Given as goal

abbrev pub invariant-loop-byte : goal.invariant-loop-byte
invariant-loop-byte l =
    first_of (λ t. owner_check (get_or l.s (l.at + (1 + t)) 0) l.n l.at) l.byte-index ≡ owner_check l.highest l.n l.at
