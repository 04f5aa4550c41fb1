-- `search::inner::set_of` meets its contract: the places from j on lead from `above`, which stands j places below the
-- root, to the node.
-- Assumes nothing.
use Rattle.std.proofs.Common.{◌≡◌, ◌+◌, ◌^◌, ◌≤◌, ◌<◌, length, take, drop}
use Rattle.explore.specs.Needs.{node_from}
use Rattle.search.proofs.inner.set_of.Given as goal

abbrev pub invariant-loop-j : goal.invariant-loop-j
invariant-loop-j l =
    (length l.owners ≡ 8)
    × (2 ^ l.j ≤ l.above)
    × (l.above < 2 ^ (l.j + 1))
    × (node_from l.client l.above (drop l.j (take l.g l.owners)) ≡ l.node)
