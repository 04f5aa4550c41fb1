-- `search::inner::set_of` meets its contract: the places from j on lead from `above`, which stands j places below the
-- root, to the node.
-- Assumes nothing.
use Rattle.std.proofs.Common.{◌≡◌, ◌∙◌, ◌+◌, ◌-◌, ◌≤◌, length, add-one, arith}
use lib.ListN.{length-set}
use Rattle.search.proofs.Sets.{leads_more, leads_all, half}
use Rattle.search.proofs.inner.set_of.Goals as goal

pub loop-j-preserved : goal.loop-j-preserved
loop-j-preserved c =
    let args = c.args in
    let loop = c.loop-j in
    let owners = loop.owners in
    let owner = c.last_owner.result in
    let j = loop.j - 1 in
    let e : loop.j ≡ j + 1 = omega arith in
    let halved = half j loop.above (rw e at loop.invariant.1) (rw e at loop.invariant.2) in
    let later = rw (e, add-one) at loop.invariant.3 in
    let fits : args.g ≤ length owners = omega arith in
    let leads = leads_more args.client args.g args.node owners loop.above j owner (omega arith) fits in
    (length-set owners j owner ∙ loop.invariant.0, halved.0, halved.1, leads c.last_owner.ensures later)

pub returns : goal.returns
returns c =
    let args = c.args in
    let loop = c.loop-j in
    let j : loop.j ≡ 0 = omega arith in
    let low = rw j at loop.invariant.1 in
    let high = rw j at loop.invariant.2 in
    let root : loop.above ≡ 1 = omega arith in
    leads_all args.client args.g args.node loop.above loop.j loop.owners j root loop.invariant.3
