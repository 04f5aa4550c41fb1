-- `figures::inner::Seen::lack_from` meets its contract: after j lengths the loop has the most that one of them lacks,
-- the client's slots in a stretch of j, and the place in the frame where it ends.
-- Assumes nothing.
use mathlib.Core.Path.{◌≡◌, ◌∙◌}
use Prim.Native.Nat.{max}
use native.Mathlib.Omega.{arith}
use borrow.Author.Rules.{rules}
use lib.ListN.{get_or}
use Rattle.frame.specs.Largest.{lack, lack_from}
use Rattle.frame.proofs.Scaled.{largest_on}
use Rattle.plan.specs.Plan.{own_of}
use Rattle.plan.proofs.Laws.{client_most}
use Rattle.figures.proofs.Laws.{count_small, count_on, place_on, lack_at}
use Rattle.figures.proofs.inner.Seen.lack_from.Goals as goal

pub lack-requires : goal.lack-requires
lack-requires c =
    let seen = c.args.self.now in
    let counted = count_small seen.plan.owners seen.plan.f seen.client c.args.s c.loop-j.j (omega arith) in
    (omega arith, omega arith)

pub overflow_add-w : goal.overflow_add-w
overflow_add-w c =
    let seen = c.args.self.now in
    let plan = seen.plan in
    let loop = c.loop-j in
    let counted = count_small plan.owners plan.f seen.client c.args.s loop.j (omega arith) in
    let most = client_most seen.client (get_or plan.owners loop.at 0) in
    omega (arith, c.owned_by-w.ensures)

pub loop-j-preserved : goal.loop-j-preserved
loop-j-preserved c =
    let seen = c.args.self.now in
    let owners = seen.plan.owners in
    let f = seen.plan.f in
    let s = c.args.s in
    let loop = c.loop-j in
    let j = loop.j in
    let own = own_of seen.plan seen.client in
    let here = lack_at own f seen.m s j loop.w _ loop.invariant.1 c.lack.ensures in
    let larger : c.max-most.result ≡ max loop.most c.lack.result = search rules in
    let owned = c.owned_by-w.ensures in (
      largest_on (lack own f seen.m s) j loop.most _ _ loop.invariant.0 here larger,
      count_on owners f seen.client s j loop.w loop.at _ loop.invariant.1 loop.invariant.2 owned,
      c.next-at.ensures ∙ place_on f s j loop.at loop.invariant.2,
    )

pub returns : goal.returns
unfolding lack_from
returns c =
    let loop = c.loop-j in
    let e : loop.j ≡ c.args.self.now.plan.f = omega arith in
    rw e at loop.invariant.0
