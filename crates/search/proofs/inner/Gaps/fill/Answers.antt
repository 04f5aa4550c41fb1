-- `search::inner::Gaps::fill` meets its contract: the loop has filled the first x slots, and j counts the idle ones
-- among them.
-- Assumes nothing.
use Rattle.std.proofs.Common.{sym, ◌∙◌, refl, ◌<◌, get_or, add-zero, arith}
use Rattle.std.proofs.Math.Seq.{get_or-take}
use Rattle.std.proofs.Math.ListN.{length-take}
use borrow.Author.Tests.{ne_eqb}
use Rattle.frame.proofs.Within.{within_none}
use Rattle.records.proofs.Lists.{padded_none, padded_more}
use Rattle.figures.proofs.Laws.{count_small, count_on, place_first}
use Rattle.search.specs.Trees.{filled_in}
use Rattle.search.proofs.Sets.{idle_before, slot_idle, slot_owned}
use Rattle.search.proofs.inner.Gaps.fill.Goals.{then-owner-eq0, else-owner-eq0}
use Rattle.search.proofs.inner.Gaps.fill.Goals as goal

pub loop-x-init : goal.loop-x-init
loop-x-init c = (sym (within_none _ _), padded_none _ 64 0)

pub bounds-filling-j : goal.bounds-filling-j
bounds-filling-j c =
    let plan = c.args.self.now.plan in
    let x = c.loop-x.x in
    let inside : x < plan.f = omega (arith, length-take plan.f plan.owners) in
    let idle = sym (get_or-take plan.f plan.owners x 0 inside) ∙ c.if-owner-eq0.true in
    omega (arith, idle_before plan x inside idle, c.loop-x.invariant.0)

pub overflow_add-j : goal.overflow_add-j
overflow_add-j c =
    let plan = c.args.self.now.plan in
    let x = c.loop-x.x in
    let inside : x < plan.f = omega (arith, length-take plan.f plan.owners) in
    omega (arith, count_small plan.owners plan.f 0 0 x (omega arith), c.loop-x.invariant.0)

pub loop-x-preserved : goal.loop-x-preserved
loop-x-preserved c =
    let args = c.args in
    let owners = args.self.now.plan.owners in
    let f = args.self.now.plan.f in
    let loop = c.loop-x in
    let x = loop.x in
    let inside : x < f = omega (arith, length-take f owners) in
    let here = get_or-take f owners x 0 inside in
    let counted = count_on owners f 0 0 x loop.j x _ loop.invariant.0 (place_first f x inside) refl in
    let more = padded_more (filled_in owners f args.filling) x 64 0 (omega arith) in
    elim c.if-owner-eq0.branch [
      | then-owner-eq0 w ↦
          let idle = sym here ∙ w.if-owner-eq0.true in
          let slot = slot_idle owners f args.filling x loop.j loop.invariant.0 idle in
          (w.j-is ∙ (rw idle at counted), w.table-is ∙ rw (loop.invariant.1, slot) more)
      | else-owner-eq0 w ↦
          let owned = ne_eqb (get_or owners x 0) 0 (λ e. w.if-owner-eq0.false (here ∙ e)) in
          let slot = here ∙ slot_owned owners f args.filling x owned in
          (w.j-is ∙ (rw (owned, add-zero) at counted), w.table-is ∙ rw (loop.invariant.1, slot) more)
    ]
