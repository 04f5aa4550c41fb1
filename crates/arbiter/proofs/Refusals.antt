-- A step's refusals: their numbers.
-- Assumes nothing.
use mathlib.Core.Path.{refl}
use mathlib.Core.List.{List, [], ◌∷◌}
use Prim.Native.Nat.{ℕ}
use lib.Dec.{ltb, eqb}
use Rattle.records.specs.declared.refusal.Refusal.TheVariants as refusal
use Rattle.records.specs.First.{or_else, Gives, Outcome}
use Rattle.records.proofs.Refusals.{or_each, unless_gives, or_gives}
use Rattle.plan.specs.declared.Plan.{Plan}
use Rattle.plan.specs.Check.{plan_check}
use Rattle.plan.specs.Entries.{plan_numbers}
use Rattle.plan.proofs.Refusals.{plan_gives}
use Rattle.arbiter.specs.Step.{position_check, arrivals_check, step_check}
use Rattle.arbiter.specs.Entries.{step_numbers}

pub step_gives : (plan : Plan) (position arrived : ℕ) → Gives step_numbers (step_check plan position arrived)
unfolding step_check position_check arrivals_check
step_gives plan position arrived =
    let ks : List ℕ = 17 ∷ 18 ∷ [] in
    let below : Outcome = position_check plan.f position in
    let many : Outcome = arrivals_check plan.n arrived in
    or_gives plan_numbers ks (plan_check plan) (or_else below many) (plan_gives plan)
    (or_each (Gives ks) below many (unless_gives ks (ltb position plan.f) refusal.Position 0 refl)
    (unless_gives ks (eqb arrived plan.n) refusal.Arrivals 0 refl))
