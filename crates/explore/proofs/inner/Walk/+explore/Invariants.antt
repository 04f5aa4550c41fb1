-- `explore::inner::Walk::explore` meets its contract: a front is left where no filling that begins with it is better,
-- taken where it is a filling, and else gone through by the loop, in which the next owners before this one were seen.
-- The measure is what the front lacks of the places.
-- Assumes nothing.
use Rattle.std.proofs.Common.{◌-◌}
use Rattle.explore.specs.Seen.{owners_of}
use Rattle.explore.proofs.Seen.{Partly}
use Rattle.explore.proofs.inner.Walk.+explore.Given as goal

abbrev pub invariant-loop-owner : goal.invariant-loop-owner
invariant-loop-owner l =
    let walk = l.self in
    Partly walk.trees.now walk.places walk.clients (owners_of walk.front) l.owner l.initial.kept l.kept

abbrev pub decreases-explore : goal.decreases-explore
decreases-explore l = l.self.now.places - l.self.now.front.long
