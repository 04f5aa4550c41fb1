-- `explore::inner::Walk::need` meets its contract: the loop has added what the first i clients need.
-- Assumes nothing.
use Rattle.std.proofs.Common.{◌≡◌, ◌∙◌, ℕ, get_or, take, length, arith, rules}
use Rattle.std.proofs.Math.Seq.{get_or-take, length-take-le}
use Rattle.explore.proofs.Fronts.{front_need, needs_small}
use Rattle.explore.proofs.Needs.{need_same}
use Rattle.explore.proofs.inner.Walk.need.Goals as goal

pub overflow_add-i : goal.overflow_add-i
overflow_add-i c =
    let walk = c.args.self.now in
    omega (arith, needs_small walk.clients walk.front walk.is_front c.loop-i.i (omega arith) (omega arith))

pub bounds-self-i : goal.bounds-self-i
bounds-self-i c =
    let walk = c.args.self.now in
    needs_small walk.clients walk.front walk.is_front c.loop-i.i (omega arith) (omega arith)

pub returns : goal.returns
returns c =
    let walk = c.args.self.now in
    let n = walk.clients in
    let nodes = walk.front.nodes in
    let eight : length nodes ≡ 8 = search rules in
    let all : c.loop-i.i ≡ n = omega (arith, length-take-le n nodes (omega arith)) in
    let node : ℕ → ℕ = λ i. get_or (take n nodes) i 0 in
    let same = need_same walk.trees.now node (λ i. get_or nodes i 0) n (λ i l. get_or-take n nodes i 0 l) in
    let after = front_need n walk.front walk.is_front walk.trees.now in
    record { sum = rw all at c.loop-i.invariant.0 ∙ same ∙ after; most = omega arith }
