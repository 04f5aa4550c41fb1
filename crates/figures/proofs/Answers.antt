-- What a figure that was given says, and what the answer of a wait is by the answer of its figure.
-- Assumes nothing.
use mathlib.Core.Path.{◌≡◌}
use Prim.Native.Nat.{ℕ, ◌≤◌, ◌<◌}
use native.Mathlib.Omega.{arith}
use Rattle.frame.specs.Frame.{Frame, IsScaled, IsWait}
use Rattle.frame.proofs.Limits.{scaled_small}
use Rattle.std.specs.Prelude.{Ok, Err}
use Rattle.records.specs.declared.refusal.Refusal.{Refusal}
use Rattle.records.specs.First.{Fine}
use Rattle.records.proofs.Checks.{refused_first}
use Rattle.plan.specs.declared.Plan.{Plan}
use Rattle.plan.specs.Plan.{own_of}
use Rattle.figures.specs.declared.Figure.{Figure}
use Rattle.figures.specs.Check.{figure_check, waiting_check, wait_check}
use Rattle.figures.specs.Figures.{IsFigures, IsWaitFor}
use Rattle.figures.proofs.Laws.{frame_of, count_small}
use Rattle.figures.proofs.Questions.{figure_fine}

module _ (plan : Plan) (c : ℕ) (figure : Figure) (is : IsFigures plan c (Ok figure)) where
  -- a figure that is given is the client's: its m is the figure's, and so is its L
  pub given_frame : Frame (own_of plan c) plan.f figure.slots
  given_frame = rw is.1.slots (frame_of plan c (figure_fine plan c is.0).checked.bounds.f_low)

  pub given_scaled : IsScaled (own_of plan c) plan.f figure.slots figure.scaled
  given_scaled = rw is.1.slots is.1.scaled

  pub given_owns : 0 < figure.slots
  given_owns = omega (arith, is.1.slots, (figure_fine plan c is.0).owns)

  -- its numbers are small
  pub figure_small : (1 ≤ figure.slots) × (figure.slots ≤ 64) × (figure.scaled ≤ 1024)
  figure_small =
      let f_high = (figure_fine plan c is.0).checked.bounds.f_high in (
        given_owns,
        omega (arith, is.1.slots, count_small plan.owners plan.f c 0 plan.f f_high),
        scaled_small given_frame given_scaled f_high,
      )

  -- and its wait is the client's
  pub waits_given : (k slots : ℕ) → waiting_check k ≡ Fine
      → IsWait plan.f figure.slots figure.scaled k slots → IsWaitFor plan c k (Ok slots)
  unfolding wait_check
  waits_given k slots e h =
      (rw is.0 e, record { L = figure.scaled; scaled = is.1.scaled; least = rw is.1.slots at h })

-- a refused figure is a refused wait
pub waits_stopped : (plan : Plan) (c k : ℕ) (why : Refusal) → IsFigures plan c (Err why) → IsWaitFor plan c k (Err why)
unfolding wait_check
waits_stopped plan c k why = refused_first (figure_check plan c) (waiting_check k) why
