-- `search::inner::Gaps::node_need` meets its contract: above the leaves it is the least that the two nodes below allow,
-- at a leaf what the verdict says, and no filling leads past the leaves.
-- Assumes nothing.
use Rattle.std.proofs.Common.{◌+◌, arith}
use Rattle.explore.proofs.Needs.{node_below}
use Rattle.search.proofs.Planting.{leaves_shifted, leaves_doubled}
use Rattle.search.proofs.inner.Gaps.node_need.Goals as goal

pub returns-else-x-leaves-2 : goal.returns-else-x-leaves-2
returns-else-x-leaves-2 c =
    let args = c.args in
    let g = args.self.now.idle in
    let leaves = leaves_shifted g (omega arith) in
    let past = leaves_doubled g in
    record {
      above = λ x> x<. absurd (omega (arith, leaves));
      leaf = λ low owners long leads.
          absurd (omega (arith, leaves, past, leads, node_below (args.i + 1) owners (g + 1) (omega arith)));
    }
