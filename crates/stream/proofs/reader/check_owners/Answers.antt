-- `stream::reader::check_owners` meets its contract: the loop's invariant is that the highest of the bytes so far
-- decides for all of them.
-- Assumes nothing.
use Rattle.std.proofs.Common.{ℕ, ◌+◌, get_or, sym, arith}
use Rattle.std.proofs.lemmas.Grind.{common_steps}
use Rattle.records.specs.First.{first_of}
use Rattle.plan.proofs.Laws.{owner_pass}
use Rattle.stream.proofs.Records.{owners_more, row_bytes}
use Rattle.stream.proofs.reader.check_owners.Goals as goal

pub loop-byte-init : goal.loop-byte-init
unfolding first_of
loop-byte-init c = let a = c.args in sym (owner_pass 0 a.n a.at (omega arith))

pub loop-byte-preserved : goal.loop-byte-preserved
loop-byte-preserved c =
    let a = c.args in
    let l = c.loop-byte in
    let byte : ℕ → ℕ = λ i. get_or a.s.now (a.at + (1 + i)) 0 in
    let here = row_bytes a.s.now a.at l.byte-index c.loop-byte-test.true in
    owners_more byte a.n a.at l.byte-index l.highest l.invariant (grind (arith, common_steps, here))
