-- What figures and waits are refused for: "figures 13, 14; waits 13, 14, 15", after the plan's own checks (document 01,
-- Refusal numbers).
use Rattle.std.specs.Prelude.{ℕ, leb}
use Rattle.frame.specs.Frame.{slots_of}
use Rattle.records.specs.declared.refusal.Refusal.TheVariants as refusal
use Rattle.records.specs.First.{unless, range_check, or_else, Outcome}
use Rattle.plan.specs.declared.Plan.{Plan}
use Rattle.plan.specs.Plan.{own_of}
use Rattle.plan.specs.Check.{asked_check}

-- 14: that client owns no slot
abbrev pub owns_check : Plan → ℕ → Outcome
owns_check plan c = unless (leb 1 (slots_of (own_of plan c) plan.f)) refusal.NoSlot 0

-- figures: the plan's checks, 13, then 14
unfoldable pub figure_check : Plan → ℕ → Outcome
figure_check plan c = or_else (asked_check plan c) (owns_check plan c)

-- 15: "the waiting number is not 1 to 255"
abbrev pub most_waiting : ℕ
most_waiting = 255

-- 15, of the waiting number k
abbrev pub waiting_check : ℕ → Outcome
waiting_check k = range_check k most_waiting refusal.Waiting

-- waits: the plan's checks, 13, 14, then 15
unfoldable pub wait_check : Plan → ℕ → ℕ → Outcome
wait_check plan c k = or_else (figure_check plan c) (waiting_check k)
