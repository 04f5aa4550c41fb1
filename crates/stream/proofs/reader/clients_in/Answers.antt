-- `stream::reader::clients_in` meets its contract: the loop's invariant is that the first i clients are filled in.
-- Assumes nothing.
use Rattle.std.proofs.Common.{◌≡◌, ◌<◌, refl, add-one, arith}
use Rattle.std.proofs.lemmas.List.{length-take, take_all}
use Rattle.std.proofs.Math.Seq.{take-suc-set}
use Rattle.records.specs.Pieces.{firsts, onto, padded}
use Rattle.plan.specs.declared.Client.{Client}
use Rattle.stream.specs.Read.{client_in}
use Rattle.stream.proofs.Records.{clients_fine, place_clients}
use Rattle.stream.proofs.reader.clients_in.Goals as goal

pub loop-i-init : goal.loop-i-init
unfolding firsts
loop-i-init c = refl

pub client_at-requires : goal.client_at-requires
client_at-requires c =
    let pre = c.requires in
    let a = c.args in
    let l = c.loop-i in
    let here : l.i < a.n = omega (arith, length-take {A = Client}) in
    let client = clients_fine a.s.now a.at a.n pre.2 l.i here in
    let there = place_clients a.s.now a.at a.n pre.2 l.i (omega arith) in
    rw (c.length.ensures, ← there) client.whole.room

pub loop-i-preserved : goal.loop-i-preserved
unfolding client_in firsts
loop-i-preserved c =
    let a = c.args in
    let l = c.loop-i in
    let there = place_clients a.s.now a.at a.n c.requires.2 l.i (omega (arith, length-take {A = Client})) in
    let client = rw (c.length.ensures, ← there) at c.client_at.ensures in
    let more = take-suc-set l.client-items l.i c.client_at.result (omega arith) in
    rw (add-one, more, l.invariant, client)

pub returns : goal.returns
unfolding padded onto
returns c =
    let l = c.loop-i in
    let e : l.i ≡ c.args.n = omega (arith, length-take {A = Client}) in
    let all = take_all l.i l.client-items (omega (arith, length-take {A = Client})) in
    rw (← all, l.invariant, e, c.no_client-clients.ensures)
