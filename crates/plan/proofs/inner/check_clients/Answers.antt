-- `plan::inner::check_clients` meets its contract: the loop's invariant is that the clients before this one pass.
-- Assumes nothing.
use Rattle.std.proofs.Common.{rules, ◌≡◌, ◌<◌, Err}
use mathlib.Core.Path.{ap, ◌∙◌}
use lib.Seq.{get_or-take}
use Rattle.records.specs.First.{first_of}
use Rattle.records.proofs.Checks.{first_more, first_stop}
use Rattle.plan.specs.Plan.{no_client}
use Rattle.plan.specs.Check.{client_check, client_check_of}
use Rattle.plan.proofs.inner.check_clients.Goals as goal

pub loop-client-init : goal.loop-client-init
unfolding first_of
loop-client-init c = search rules

pub returns-in_err-check_client : goal.returns-in_err-check_client
unfolding client_check_of
returns-in_err-check_client c =
    let plan = c.args.plan in
    let l = c.loop-client in
    let below : l.client-index < plan.n = search rules in
    let here = ap (λ x. client_check x 0) (get_or-take plan.n plan.clients l.client-index no_client below) in
    let found = c.check_client.ensures ∙ here in
    let gives : c.from_residual.result ≡ Err c.in_err-check_client.field-0.0 = search rules in
    gives ∙ first_stop (client_check_of plan) plan.n l.client-index below l.invariant found c.in_err-check_client.was

pub loop-client-preserved : goal.loop-client-preserved
unfolding client_check_of
loop-client-preserved c =
    let plan = c.args.plan in
    let l = c.loop-client in
    let below : l.client-index < plan.n = search rules in
    let here = ap (λ x. client_check x 0) (get_or-take plan.n plan.clients l.client-index no_client below) in
    let found = c.check_client.ensures ∙ here in
    first_more (client_check_of plan) l.client-index l.invariant found c.in_ok-check_client.was
