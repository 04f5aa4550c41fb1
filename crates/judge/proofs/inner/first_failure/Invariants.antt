-- `judge::inner::first_failure` meets its contract. Each loop keeps that all it has passed is in order: the clients
-- before i are ok, the stretches of client i + 1 that begin before `start` are in time, and of those from `start` the
-- ones shorter than `length`; w counts the client's slots along, and `at` is the place where the stretch ends.
-- Assumes nothing.
use mathlib.Core.Path.{◌≡◌}
use mathlib.Core.Bool.{true}
use Prim.Native.Nat.{ℕ, ◌+◌, ◌%◌, ◌<◌}
use Rattle.frame.specs.Frame.{within}
use Rattle.plan.specs.Plan.{client_of, own_of}
use Rattle.judge.specs.Rules.{in_time}
use Rattle.judge.specs.Judge.{AllOk}
use Rattle.judge.proofs.inner.first_failure.Given as goal

abbrev pub invariant-lengths : goal.invariant-lengths
invariant-lengths l =
    (l.w ≡ within (own_of l.plan (l.i + 1)) l.start l.length)
    × (l.at ≡ (l.start + l.length) % l.plan.f)
    × ((k : ℕ) → k < l.length → in_time (client_of l.plan l.i) (own_of l.plan (l.i + 1)) l.plan.f l.start k ≡ true)

abbrev pub invariant-starts : goal.invariant-starts
invariant-starts l =
    (t : ℕ) → t < l.start → (k : ℕ) → in_time (client_of l.plan l.i) (own_of l.plan (l.i + 1)) l.plan.f t k ≡ true

abbrev pub invariant-clients : goal.invariant-clients
invariant-clients l = AllOk l.plan l.from l.i
