-- `plan::inner::check_owners` meets its contract: the loop's invariant is that the owners before this one pass.
-- Assumes nothing.
use Rattle.std.proofs.Common.{rules, ◌≡◌, ◌<◌, Err}
use mathlib.Core.Path.{sym, ap, ◌∙◌}
use lib.Seq.{get_or-take}
use Rattle.records.specs.First.{first_of}
use Rattle.records.proofs.Checks.{first_more, first_stop}
use Rattle.plan.specs.Check.{owner_check, owner_check_of, owners_check}
use Rattle.plan.proofs.inner.check_owners.Goals as goal

pub loop-owner-init : goal.loop-owner-init
unfolding first_of
loop-owner-init c = search rules

pub returns-in_err-check_owner : goal.returns-in_err-check_owner
unfolding owners_check owner_check_of
returns-in_err-check_owner c =
    let plan = c.args.plan in
    let l = c.loop-owner in
    let below : l.owner-index < plan.f = search rules in
    let here = ap (λ x. owner_check x plan.n 0) (get_or-take plan.f plan.owners l.owner-index 0 below) in
    let found = c.check_owner.ensures ∙ here in
    let gives : c.from_residual.result ≡ Err c.in_err-check_owner.field-0.0 = search rules in
    gives ∙ first_stop (owner_check_of plan) plan.f l.owner-index below l.invariant found c.in_err-check_owner.was

pub loop-owner-preserved : goal.loop-owner-preserved
unfolding owner_check_of
loop-owner-preserved c =
    let plan = c.args.plan in
    let l = c.loop-owner in
    let below : l.owner-index < plan.f = search rules in
    let here = ap (λ x. owner_check x plan.n 0) (get_or-take plan.f plan.owners l.owner-index 0 below) in
    let found = c.check_owner.ensures ∙ here in
    first_more (owner_check_of plan) l.owner-index l.invariant found c.in_ok-check_owner.was

pub returns : goal.returns
unfolding owners_check
returns c =
    let plan = c.args.plan in
    let l = c.loop-owner in
    let all : l.owner-index ≡ plan.f = search rules in sym (rw all at l.invariant)
