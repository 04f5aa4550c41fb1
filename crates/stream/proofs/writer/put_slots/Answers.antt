-- `stream::writer::put_slots` meets its contract: the loop's invariant is that the first t bytes are put.
-- Assumes nothing.
use Rattle.std.proofs.Common.{arith}
use Rattle.records.specs.Pieces.{firsts}
use Rattle.records.proofs.Lists.{length_firsts}
use Rattle.records.proofs.Puts.{adds_none, adds_single}
use Rattle.stream.specs.Write.{slot_byte, row_byte}
use Rattle.stream.proofs.writer.put_slots.Goals as goal

pub loop-t-init : goal.loop-t-init
unfolding firsts
loop-t-init c = adds_none c.args.out.now

pub put_byte-requires : goal.put_byte-requires
put_byte-requires c =
    let a = c.args in
    let l = c.loop-t in
    omega (arith, l.invariant.put.place, l.invariant.long, length_firsts (row_byte a.plan a.j) l.t)

pub loop-t-preserved : goal.loop-t-preserved
unfolding row_byte slot_byte
loop-t-preserved c =
    let a = c.args in
    let l = c.loop-t in
    adds_single (row_byte a.plan a.j) l.t l.invariant (rw (← c.slot_byte.ensures) c.put_byte.ensures)
