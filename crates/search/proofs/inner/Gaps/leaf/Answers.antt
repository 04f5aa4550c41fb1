-- `search::inner::Gaps::leaf` meets its contract: the verdict on one filling that leads to the node holds of every one.
-- Assumes nothing.
use Rattle.std.proofs.Common.{arith}
use Rattle.search.proofs.Sets.{leaf_judged, suits_by}
use Rattle.search.proofs.inner.Gaps.leaf.Goals as goal

pub returns : goal.returns
returns c =
    λ owners long leads.
    let args = c.args in
    let plan = args.self.now.plan in
    let verdict = c.verdict in
    let found = rw c.with_table-tried.ensures at verdict.ensures in
    let judged = leaf_judged plan args.i args.self.now.idle args.node _ _ verdict.result (omega arith) (omega arith)
    (omega arith) c.set_of-filling.ensures c.fill.ensures found owners long leads in
    suits_by plan args.i owners verdict.result c.needed.result judged c.needed.ensures.0 c.needed.ensures.1
