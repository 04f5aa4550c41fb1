-- `stream::writer::put_stream` meets its contract: the records put one after the other; the room that each
-- asks is part of the stream's.
-- Assumes nothing.
use native.Mathlib.Omega.{arith}
use borrow.Author.Rules.{rules}
use Rattle.records.proofs.Puts.{adds_then}
use Rattle.stream.specs.Write.{stream_of}
use Rattle.stream.proofs.Lengths.{length_parts}
use Rattle.stream.proofs.writer.put_stream.Goals as goal

pub put_head-requires : goal.put_head-requires
put_head-requires c = (search rules, search rules, omega (arith, length_parts c.args.plan))

pub put_clients-requires : goal.put_clients-requires
put_clients-requires c =
    let head = c.put_head.ensures in
    (search rules, omega (arith, length_parts c.args.plan, head.put.place, head.long))

pub put_rows-requires : goal.put_rows-requires
put_rows-requires c =
    let clients = adds_then c.put_head.ensures c.put_clients.ensures.put in
    (search rules, omega (arith, length_parts c.args.plan, clients.put.place, clients.long))

pub put_byte-requires : goal.put_byte-requires
put_byte-requires c =
    let clients = adds_then c.put_head.ensures c.put_clients.ensures.put in
    let rows = adds_then clients c.put_rows.ensures in
    omega (arith, length_parts c.args.plan, rows.put.place, rows.long)

pub returns-clause-put : goal.returns-clause-put
unfolding stream_of
returns-clause-put c =
    let clients = adds_then c.put_head.ensures c.put_clients.ensures.put in
    let put = adds_then (adds_then clients c.put_rows.ensures) c.put_byte.ensures in
    grind (arith, put.put, put.same)
