-- `explore::inner::children` meets its contract: the loop has written the nodes of the first i clients.
-- Assumes nothing.
use Rattle.std.proofs.Common.{◌≡◌, ℕ, ◌+◌, ◌≤◌, ◌<◌, get_or}
use Rattle.explore.specs.Needs.{child_of}
use Rattle.explore.proofs.inner.children.Given as goal

abbrev pub invariant-loop-i : goal.invariant-loop-i
invariant-loop-i l =
    record {
      written : (k : ℕ) → k < l.i → get_or l.node-items k 0 ≡ child_of (k + 1) (get_or l.fn.nodes k 0) l.owner;
      left : (k : ℕ) → l.i ≤ k → k < l.n → get_or l.node-items k 0 ≡ get_or l.fn.nodes k 0;
    }
