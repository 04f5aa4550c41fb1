-- `stream::reader::put_owners` meets its contract: the loop's invariant is the array whose owners before row j and
-- first t of row j are filled in.
-- Assumes nothing.
use Rattle.std.proofs.Common.{◌≡◌, ◌+◌, ◌*◌, ◌/◌, ◌%◌, arith}
use Rattle.records.proofs.Lists.{padded_more}
use Rattle.stream.specs.Read.{owner_in}
use Rattle.stream.proofs.reader.put_owners.Goals as goal

pub loop-t-preserved : goal.loop-t-preserved
unfolding owner_in
loop-t-preserved c =
    let a = c.args in
    let l = c.loop-t in
    let x = 8 * a.j + l.t in
    let d : x / 8 ≡ a.j = omega arith in
    let r : x % 8 ≡ l.t = omega arith in
    let e : 8 * a.j + (l.t + 1) ≡ x + 1 = omega arith in
    let b : a.at + c.length.result + 1 + l.t ≡ a.at + 9 * a.j + (1 + l.t) = omega (arith, c.length.ensures) in
    let more = rw (d, r, c.requires.sizes.3) at (padded_more (owner_in a.s.now a.at) x 64 0 (omega arith)) in
    rw (l.invariant, b, e) more
