-- `explore::inner::Walk::need` meets its contract: the loop has added what the first i clients need.
-- Assumes nothing.
use Rattle.std.proofs.Common.{◌≡◌, ◌*◌, ◌≤◌, get_or}
use Rattle.explore.specs.Needs.{need_of}
use Rattle.explore.proofs.inner.Walk.need.Given as goal

abbrev pub invariant-loop-i : goal.invariant-loop-i
invariant-loop-i l = (l.more ≡ need_of l.self.trees.now (λ j. get_or l.node-items j 0) l.i) × (l.more ≤ 255 * l.i)
