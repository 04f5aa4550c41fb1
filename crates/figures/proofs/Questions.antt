-- Questions about a client's figures and waits: one passes exactly when its plan is checked, it names a client and that
-- client owns a slot.
-- Assumes nothing.
use mathlib.Core.Path.{◌≡◌}
use Prim.Native.Nat.{ℕ, ◌≤◌, ◌<◌}
use borrow.Author.Tests.{le-leb, lt-leb, leb-true}
use Rattle.frame.specs.Frame.{slots_of}
use Rattle.records.specs.declared.refusal.Refusal.TheVariants as refusal
use Rattle.records.specs.First.{Fine, refuse}
use Rattle.records.proofs.Checks.{both_fine, unless_fine, range_fine, range_pass}
use Rattle.plan.specs.declared.Plan.{Plan}
use Rattle.plan.specs.Plan.{own_of}
use Rattle.plan.specs.Check.{asked_check}
use Rattle.plan.proofs.Laws.{Checked, asked_fine, asked_pass}
use Rattle.figures.specs.Check.{owns_check, figure_check, most_waiting, wait_check}

-- ---- figures

pub owns_none : (plan : Plan) (c : ℕ) → slots_of (own_of plan c) plan.f < 1
    → owns_check plan c ≡ refuse refusal.NoSlot 0
owns_none plan c l = simp (lt-leb 1 (slots_of (own_of plan c) plan.f) l)

pub owns_some : (plan : Plan) (c : ℕ) → 1 ≤ slots_of (own_of plan c) plan.f → owns_check plan c ≡ Fine
owns_some plan c l = simp (le-leb 1 (slots_of (own_of plan c) plan.f) l)

-- what a plan and a client have that pass
pub record Asked (plan : Plan) (c : ℕ) : Type 0 where
  pub checked : Checked plan
  pub low : 1 ≤ c
  pub high : c ≤ plan.n
  pub owns : 1 ≤ slots_of (own_of plan c) plan.f

pub figure_fine : (plan : Plan) (c : ℕ) → figure_check plan c ≡ Fine → Asked plan c
unfolding figure_check
figure_fine plan c h =
    let a = both_fine (asked_check plan c) (owns_check plan c) h in
    let asked = asked_fine plan c a.0 in
    let owns = leb-true 1 (slots_of (own_of plan c) plan.f) (unless_fine _ refusal.NoSlot 0 a.1) in
    record { checked = asked.0; low = asked.1; high = asked.2; owns = owns }

pub figure_pass : (plan : Plan) (c : ℕ) → Asked plan c → figure_check plan c ≡ Fine
unfolding figure_check
figure_pass plan c ok = rw (asked_pass plan c ok.checked ok.low ok.high) (owns_some plan c ok.owns)

-- ---- waits

-- a wait passes exactly when the question does and its waiting number is 1 to 255
pub record Waited (plan : Plan) (c k : ℕ) : Type 0 where
  pub asked : Asked plan c
  pub low : 1 ≤ k
  pub high : k ≤ most_waiting

pub wait_fine : (plan : Plan) (c k : ℕ) → wait_check plan c k ≡ Fine → Waited plan c k
unfolding wait_check
wait_fine plan c k h =
    let a = both_fine _ _ h in
    let r = range_fine k most_waiting refusal.Waiting a.1 in
    record { asked = figure_fine plan c a.0; low = r.0; high = r.1 }

pub wait_pass : (plan : Plan) (c k : ℕ) → Waited plan c k → wait_check plan c k ≡ Fine
unfolding wait_check
wait_pass plan c k ok =
    rw (figure_pass plan c ok.asked) (range_pass k most_waiting refusal.Waiting ok.low ok.high)
