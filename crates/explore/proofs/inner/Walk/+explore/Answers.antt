-- `explore::inner::Walk::explore` meets its contract: a front is left where no filling that begins with it is better,
-- taken where it is a filling, and else gone through by the loop, in which the next owners before this one were seen.
-- The measure is what the front lacks of the places.
-- Assumes nothing.
use Rattle.std.proofs.Common.{arith, rules}
use Rattle.explore.proofs.Fronts.{given_small}
use Rattle.explore.proofs.Seen.{explored_short, explored_left, explored_taken, partly_none, partly_more, partly_all}
use Rattle.explore.proofs.inner.Walk.+explore.Goals.{then-self-more-via-then-self-more}
use Rattle.explore.proofs.inner.Walk.+explore.Goals.{then-self-more-via-else-self-more+then-is_some_and}
use Rattle.explore.proofs.inner.Walk.+explore.Goals as goal

pub overflow_add-fewest : goal.overflow_add-fewest
overflow_add-fewest t c =
    let walk = c.args.self.now in
    omega (arith, given_small walk.clients walk.front walk.is_front)

pub returns-then-self-more : goal.returns-then-self-more
returns-then-self-more t c =
    let walk = c.args.self.now in
    elim c.then-self-more.branch [
      | then-self-more-via-then-self-more w ↦
          explored_short walk.trees.now walk.places walk.clients walk.front walk.is_front c.args.best _
          c.need-more.ensures.sum (omega arith)
      | then-self-more-via-else-self-more+then-is_some_and w ↦
          explored_left walk.trees.now walk.places walk.clients walk.front walk.is_front c.args.best _
          c.need-more.ensures.sum (search rules)
    ]

pub returns-then-self : goal.returns-then-self
returns-then-self t c =
    let walk = c.args.self.now in
    explored_taken walk.trees.now walk.places walk.clients walk.front walk.is_front c.args.best _
    c.need-more.ensures.sum (omega arith) (omega arith) (search rules)

pub loop-owner-init : goal.loop-owner-init
loop-owner-init t c =
    let walk = c.args.self.now in
    partly_none walk.trees.now walk.places walk.clients walk.front walk.is_front c.args.best (omega arith)

pub loop-owner-preserved : goal.loop-owner-preserved
loop-owner-preserved t c =
    let walk = c.args.self.now in
    let loop = c.loop-owner in
    partly_more walk.trees.now walk.places walk.clients walk.front walk.is_front c.args.best loop.kept _ loop.owner _
    (omega arith) c.longer.ensures.owners loop.invariant
    (rw (c.longer.ensures.trees, c.longer.ensures.sizes.0, c.longer.ensures.sizes.1) at c.explore-kept.ensures)

pub returns-else-self-2 : goal.returns-else-self-2
returns-else-self-2 t c =
    let walk = c.args.self.now in
    let loop = c.loop-owner in
    partly_all walk.trees.now walk.places walk.clients walk.front walk.is_front c.args.best loop.kept _ loop.owner _
    (omega arith) (omega arith) c.longer.ensures.owners loop.invariant
    (rw (c.longer.ensures.trees, c.longer.ensures.sizes.0, c.longer.ensures.sizes.1) at c.explore-kept.ensures)
