-- `stream::writer::put_clients` meets its contract: the loop's invariant is that the first i records are put.
-- Assumes nothing.
use Rattle.std.proofs.Common.{ℕ, ◌+◌, ◌<◌, arith}
use Rattle.std.proofs.lemmas.List.{length-take, get_or-take}
use Rattle.plan.specs.declared.Client.{Client}
use borrow.Author.Count.{below_more}
use Rattle.records.specs.Pieces.{many}
use Rattle.records.proofs.Lists.{within_many}
use Rattle.records.proofs.Puts.{adds_none, adds_piece}
use Rattle.plan.specs.Plan.{no_client, client_of}
use Rattle.stream.specs.Write.{client_record}
use Rattle.stream.specs.Trip.{Words}
use Rattle.stream.proofs.Lengths.{length_client}
use Rattle.stream.proofs.writer.put_clients.Goals as goal

pub loop-i-init : goal.loop-i-init
unfolding many
loop-i-init c = (adds_none c.args.out.now, λ k h. absurd (omega arith))

pub put_client-requires : goal.put_client-requires
unfolding client_record
put_client-requires c =
    let plan = c.args.plan in
    let l = c.loop-i in
    let here : l.i < plan.n = omega (arith, length-take {A = Client}) in
    let w = within_many (client_record plan) plan.n l.i here in
    omega (arith, l.invariant.0.put.place, l.invariant.0.long, length_client (l.i + 1) (client_of plan l.i))

pub loop-i-preserved : goal.loop-i-preserved
unfolding client_record
loop-i-preserved c =
    let plan = c.args.plan in
    let l = c.loop-i in
    let here : l.i < plan.n = omega (arith, length-take {A = Client}) in
    let client = get_or-take plan.n plan.clients l.i no_client here in
    let put = c.put_client.ensures in
    let words = below_more (λ (k : ℕ). Words (client_of plan k)) l.i l.invariant.1 (rw client at put.words) in
    (adds_piece (client_record plan) l.i l.invariant.0 (rw client at put.put), words)
