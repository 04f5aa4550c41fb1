-- `explore::inner::Walk::longer` meets its contract: what the front carries along is carried on by one place.
-- Assumes nothing.
use Rattle.std.proofs.Common.{◌≡◌, refl, length, arith, rules}
use Rattle.explore.proofs.Fronts.{nodes_small, given_small, owners_more, front_more}
use Rattle.explore.proofs.inner.Walk.longer.Goals as goal

pub with_place-requires : goal.with_place-requires
with_place-requires c =
    let walk = c.args.self.now in
    given_small walk.clients walk.front walk.is_front

pub children-requires : goal.children-requires
children-requires c =
    let walk = c.args.self.now in
    (omega arith, nodes_small walk.clients walk.front walk.is_front)

pub invariant_of-result-clause-is_front : goal.invariant_of-result-clause-is_front
invariant_of-result-clause-is_front c =
    let walk = c.args.self.now in
    let eight : length walk.front.owners ≡ 8 = search rules in
    let owners = owners_more walk.clients walk.front walk.is_front c.args.owner (omega arith) in
    front_more walk.clients walk.front walk.is_front _ c.args.owner (omega arith) (omega arith) refl owners
    c.with_place.ensures c.children.ensures

pub returns-clause-owners : goal.returns-clause-owners
returns-clause-owners c =
    let walk = c.args.self.now in
    let eight : length walk.front.owners ≡ 8 = search rules in
    owners_more walk.clients walk.front walk.is_front c.args.owner (omega arith)
