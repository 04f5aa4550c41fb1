-- `figures::inner::Seen::lack_from` meets its contract: after j lengths the loop has the most that one of them lacks,
-- the client's slots in a stretch of j, and the place in the frame where it ends.
-- Assumes nothing.
use mathlib.Core.Path.{◌≡◌}
use Prim.Native.Nat.{◌+◌, ◌%◌}
use Rattle.frame.specs.Frame.{within}
use Rattle.frame.specs.Largest.{largest, lack}
use Rattle.plan.specs.Plan.{own_of}
use Rattle.figures.proofs.inner.Seen.lack_from.Given as goal

abbrev pub invariant-loop-j : goal.invariant-loop-j
invariant-loop-j l =
    let seen = l.self in
    let own = own_of seen.plan seen.client in
    (l.most ≡ largest l.j (lack own seen.plan.f seen.m l.s))
    × (l.w ≡ within own l.s l.j)
    × (l.at ≡ (l.s + l.j) % seen.plan.f)
