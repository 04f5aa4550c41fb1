-- `stream::reader::plan_at` meets its contract: a stream that passes has its clients and its rows where they
-- are looked for.
-- Assumes nothing.
use mathlib.Core.Path.{sym, ◌∙◌}
use native.Mathlib.Omega.{arith}
use Rattle.stream.specs.Read.{plan_of}
use Rattle.stream.proofs.Records.{read_fine, to_clients_lem, to_rows_lem}
use Rattle.stream.proofs.reader.plan_at.Goals as goal

pub bounds-s-1 : goal.bounds-s-1
bounds-s-1 c = omega (arith, (read_fine _ c.requires).head.whole.room)

pub bounds-s-2 : goal.bounds-s-2
bounds-s-2 c = omega (arith, (read_fine _ c.requires).head.whole.room)

pub clients_in-clients-requires : goal.clients_in-clients-requires
clients_in-clients-requires c =
    let pre = c.requires in
    let s = read_fine _ pre in
    let at = c.whole-to_clients.ensures.0 ∙ sym (to_clients_lem _ s.head) in
    (omega arith, omega (arith, s.head), rw (at, c.wide-n.ensures.0) s.rest.clients)

pub length-requires : goal.length-requires
length-requires c =
    let pre = c.requires in
    omega (arith, (read_fine _ pre).head)

pub owners_in-owners-requires : goal.owners_in-owners-requires
owners_in-owners-requires c =
    let pre = c.requires in
    let wide = c.wide-f in
    let wide2 = c.wide-n in
    let whole_of = c.whole-to_clients in
    let s = read_fine _ pre in
    let f = wide.ensures.0 in
    let n = wide2.ensures.0 in
    let at = whole_of.ensures.0 in
    let length = c.length.ensures in
    (omega (arith, s.head), omega (arith, s.head), rw (at, length, f, n, ← to_rows_lem _ s) s.rest.rows)

pub returns : goal.returns
unfolding plan_of
returns c =
    let pre = c.requires in
    let wide = c.wide-f in
    let wide2 = c.wide-n in
    let whole_of = c.whole-to_clients in
    let clients_in = c.clients_in-clients in
    let s = read_fine _ pre in
    let at = whole_of.ensures.0 in
    let length = c.length.ensures in
    let f = wide.ensures.0 in
    let n = wide2.ensures.0 in
    rw (c.owners_in-owners.ensures, clients_in.ensures, length, at, f, n, to_rows_lem _ s, to_clients_lem _ s.head)
