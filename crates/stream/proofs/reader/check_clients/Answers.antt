-- `stream::reader::check_clients` meets its contract: the loop's invariant is that the clients before i pass;
-- they say where the next one stands.
-- Assumes nothing.
use Rattle.std.proofs.Common.{rules, ◌≡◌, Err}
use mathlib.Core.Path.{refl, ◌∙◌}
use Rattle.records.specs.First.{first_of}
use Rattle.records.proofs.Checks.{first_more, first_stop}
use Rattle.stream.specs.Read.{client_due_check}
use Rattle.stream.proofs.Records.{client_next}
use Rattle.stream.proofs.reader.check_clients.Goals as goal

pub loop-i-init : goal.loop-i-init
unfolding first_of
loop-i-init c = refl

pub returns-in_err-check_client : goal.returns-in_err-check_client
returns-in_err-check_client c =
    let a = c.args in
    let l = c.loop-i in
    let found = client_next a.s.now a.at l.i l.invariant (rw c.length.ensures at c.check_client.ensures) in
    let gives : c.from_residual.result ≡ Err c.in_err-check_client.field-0.0 = search rules in
    gives
    ∙ first_stop (client_due_check a.s.now a.at) a.n l.i c.loop-i-test.true l.invariant found
    c.in_err-check_client.was

pub loop-i-preserved : goal.loop-i-preserved
loop-i-preserved c =
    let a = c.args in
    let l = c.loop-i in
    let found = client_next a.s.now a.at l.i l.invariant (rw c.length.ensures at c.check_client.ensures) in
    first_more (client_due_check a.s.now a.at) l.i l.invariant found c.in_ok-check_client.was
