-- `figures::inner::slots` meets its contract: the loop has counted the client's slots among the first.
-- Assumes nothing.
use mathlib.Core.Path.{refl}
use native.Mathlib.Omega.{arith}
use Prim.Native.Nat.{◌<◌}
use lib.ListN.{get_or, take}
use lib.Seq.{get_or-take}
use Rattle.frame.specs.Frame.{within}
use Rattle.plan.proofs.Laws.{client_most}
use Rattle.figures.proofs.Laws.{count_small, place_first, count_on}
use Rattle.figures.proofs.inner.slots.Goals as goal

pub loop-owner-init : goal.loop-owner-init
unfolding within
loop-owner-init c = refl

pub overflow_add-m : goal.overflow_add-m
overflow_add-m c =
    let plan = c.args.plan in
    let at = c.loop-owner.owner-index in
    let counted = count_small plan.owners plan.f c.args.client 0 at (omega arith) in
    let most = client_most c.args.client (get_or (take plan.f plan.owners) at 0) in
    omega (arith, c.owned_by-m.ensures)

pub loop-owner-preserved : goal.loop-owner-preserved
loop-owner-preserved c =
    let plan = c.args.plan in
    let at = c.loop-owner.owner-index in
    let below : at < plan.f = omega arith in
    let owned = rw (get_or-take plan.f plan.owners at 0 below) at c.owned_by-m.ensures in
    count_on plan.owners plan.f c.args.client 0 at _ at _ c.loop-owner.invariant (place_first plan.f at below) owned
