-- A step's checks: it passes exactly when the plan is in bounds, the position is below f and the arrivals list has n
-- entries.
-- Assumes nothing.
use mathlib.Core.Path.{◌≡◌}
use Prim.Native.Nat.{ℕ, suc, ◌≤◌, ◌<◌}
use native.Mathlib.Nat.{mod-lt}
use native.Mathlib.Omega.{arith}
use borrow.Author.Tests.{ltb-true, eqb-true, lt-ltb, eq-eqb}
use Rattle.frame.specs.Frame.{next_of}
use Rattle.records.specs.declared.refusal.Refusal.TheVariants as refusal
use Rattle.records.specs.First.{Fine}
use Rattle.records.proofs.Checks.{both_fine, unless_fine}
use Rattle.plan.specs.declared.Plan.{Plan}
use Rattle.plan.specs.Plan.{owner_of}
use Rattle.plan.proofs.Laws.{Checked, plan_fine, plan_pass}
use Rattle.arbiter.specs.Step.{position_check, arrivals_check, step_check}

-- what a step has that passes
pub record Steps (plan : Plan) (position arrived : ℕ) : Type 0 where
  pub checked : Checked plan
  pub below : position < plan.f
  pub many : arrived ≡ plan.n

pub step_fine : (plan : Plan) (position arrived : ℕ) → step_check plan position arrived ≡ Fine
    → Steps plan position arrived
unfolding step_check position_check arrivals_check
step_fine plan position arrived h =
    let a = both_fine _ _ h in
    let b = both_fine _ _ a.1 in
    record {
      checked = plan_fine plan a.0;
      below = ltb-true position plan.f (unless_fine _ refusal.Position 0 b.0);
      many = eqb-true arrived plan.n (unless_fine _ refusal.Arrivals 0 b.1);
    }

pub step_pass : (plan : Plan) (position arrived : ℕ) → Steps plan position arrived
    → step_check plan position arrived ≡ Fine
unfolding step_check position_check arrivals_check
step_pass plan position arrived ok =
    simp (plan_pass plan ok.checked, lt-ltb position plan.f ok.below, eq-eqb arrived plan.n ok.many)

-- where a step passes, one in the next slot with as many arrivals does too
pub next_passes : (plan : Plan) (position arrived : ℕ) → step_check plan position arrived ≡ Fine
    → step_check plan (next_of plan.f position) arrived ≡ Fine
next_passes plan position arrived h =
    let ok = step_fine plan position arrived h in
    step_pass plan (next_of plan.f position) arrived
    (record { checked = ok.checked; below = mod-lt (suc position) ok.checked.bounds.f_low; many = ok.many })

-- the owner of its slot is 0 or a client
pub owner_small : (plan : Plan) (position arrived : ℕ) → Steps plan position arrived → owner_of plan position ≤ 8
owner_small plan position arrived ok =
    omega (arith, ok.checked.owned position ok.below, ok.checked.bounds.n_high)

-- what a step that passes has, and with it the bounds that its parts ask for
pub ruleset bounds = (step_fine, owner_small)
