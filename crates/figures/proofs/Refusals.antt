-- The refusals of figures and waits: their numbers, and that a wait asked without a number is refused as its figure is.
-- Assumes nothing.
use mathlib.Core.Path.{◌≡◌, refl}
use mathlib.Core.List.{List, [], ◌∷◌}
use Prim.Native.Nat.{ℕ}
use native.Mathlib.Omega.{arith}
use lib.Dec.{leb}
use Rattle.frame.specs.Frame.{slots_of}
use Rattle.records.specs.declared.refusal.Refusal.TheVariants as refusal
use Rattle.std.specs.Prelude.{Ok, Err}
use Rattle.records.specs.First.{or_else, Gives, Outcome}
use Rattle.records.proofs.Checks.{range_pass}
use Rattle.records.proofs.Refusals.{unless_gives, range_gives, or_gives}
use Rattle.plan.specs.declared.Plan.{Plan}
use Rattle.plan.specs.Plan.{own_of, default_waiting}
use Rattle.plan.specs.Check.{asked_check}
use Rattle.plan.specs.Entries.{asked_numbers}
use Rattle.plan.proofs.Refusals.{asked_gives}
use Rattle.figures.specs.Check.{owns_check, figure_check, most_waiting, waiting_check, wait_check}
use Rattle.figures.specs.Entries.{figure_numbers, wait_numbers}

pub figure_gives : (plan : Plan) (c : ℕ) → Gives figure_numbers (figure_check plan c)
unfolding figure_check
figure_gives plan c =
    let ks : List ℕ = 14 ∷ [] in
    or_gives asked_numbers ks (asked_check plan c) (owns_check plan c) (asked_gives plan c)
    (unless_gives ks (leb 1 (slots_of (own_of plan c) plan.f)) refusal.NoSlot 0 refl)

pub wait_gives : (plan : Plan) (c k : ℕ) → Gives wait_numbers (wait_check plan c k)
unfolding wait_check
wait_gives plan c k =
    let ks : List ℕ = 15 ∷ [] in
    or_gives figure_numbers ks (figure_check plan c) (waiting_check k) (figure_gives plan c)
    (range_gives ks k most_waiting refusal.Waiting refl)

pub default_check : (plan : Plan) (c : ℕ) → wait_check plan c default_waiting ≡ figure_check plan c
unfolding wait_check
default_check plan c = by (figure_check plan c)
  where
    by : (o : Outcome) → or_else o (waiting_check default_waiting) ≡ o
    by (Ok u) = range_pass default_waiting most_waiting refusal.Waiting (omega arith) (omega arith)
    by (Err refused) = refl
