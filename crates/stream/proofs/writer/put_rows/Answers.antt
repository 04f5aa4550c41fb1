-- `stream::writer::put_rows` meets its contract: the loop's invariant is that the first j records are put.
-- Assumes nothing.
use Rattle.std.proofs.Common.{rules, arith}
use Rattle.records.specs.Pieces.{many}
use Rattle.records.proofs.Lists.{within_many}
use Rattle.records.proofs.Puts.{adds_none, adds_piece}
use Rattle.stream.specs.Kind.{rows_of}
use Rattle.stream.specs.Write.{row_record}
use Rattle.stream.proofs.Lengths.{length_row}
use Rattle.stream.proofs.writer.put_rows.Goals as goal

pub loop-j-init : goal.loop-j-init
unfolding many
loop-j-init c = adds_none c.args.out.now

pub put_row-requires : goal.put_row-requires
put_row-requires c =
    let plan = c.args.plan in
    let l = c.loop-j in
    let w = within_many (row_record plan) (rows_of plan.f) l.j (omega arith) in
    (search rules, omega arith, omega (arith, l.invariant.put.place, l.invariant.long, length_row plan l.j))

pub loop-j-preserved : goal.loop-j-preserved
loop-j-preserved c = adds_piece (row_record c.args.plan) c.loop-j.j c.loop-j.invariant c.put_row.ensures
