-- Plans that are the same get the same answers: places past f and past n are not read.
-- Assumes nothing.
use mathlib.Core.Path.{◌≡◌, fun_ext}
use Prim.Native.Nat.{ℕ, ◌<◌}
use Rattle.records.specs.First.{Fine}
use Rattle.records.specs.Said.{Said}
use Rattle.records.proofs.Checks.{both_fine, or_same}
use Rattle.records.proofs.Said.{answers_same}
use Rattle.plan.specs.declared.Plan.{Plan}
use Rattle.plan.specs.Plan.{own_of, Same}
use Rattle.plan.specs.Check.{asked_check}
use Rattle.plan.proofs.Laws.{asked_fine, same_asked, own_same}
use Rattle.figures.specs.declared.Figure.{Figure}
use Rattle.figures.specs.Check.{owns_check, figure_check, wait_check}
use Rattle.figures.specs.Figures.{IsFigure, IsFigures, Waits, IsWaitFor}
use Rattle.figures.proofs.Questions.{figure_fine}

module _ (plan other : Plan) (same : Same plan other) (c : ℕ) where
  slots_same : 0 < plan.f → own_of plan c ≡ own_of other c
  slots_same f> = fun_ext (own_same plan other same f> c)

  pub figure_check_same : figure_check plan c ≡ figure_check other c
  unfolding figure_check
  figure_check_same =
      let asked = same_asked plan other same c in
      or_same (asked_check plan c) (asked_check other c) (owns_check plan c) (owns_check other c) asked (λ h.
      rw (slots_same (asked_fine plan c h).0.bounds.f_low, same.frame))

  pub wait_check_same : (k : ℕ) → wait_check plan c k ≡ wait_check other c k
  unfolding wait_check
  wait_check_same k = rw figure_check_same

  -- what holds of the client's slots in one plan holds in the other
  carried : (P : (ℕ → ℕ) → ℕ → Type 0) → figure_check plan c ≡ Fine → P (own_of plan c) plan.f
      → P (own_of other c) other.f
  carried P fine holds =
      rw (slots_same (figure_fine plan c fine).checked.bounds.f_low, same.frame) at holds

  pub figures_same : (r : Said Figure) → IsFigures plan c r → IsFigures other c r
  figures_same = answers_same figure_check_same (λ fine x. carried (λ own f. IsFigure own f x) fine)

  pub waits_same : (k : ℕ) (r : Said ℕ) → IsWaitFor plan c k r → IsWaitFor other c k r
  unfolding wait_check
  waits_same k =
      answers_same (wait_check_same k) (λ fine x. carried (λ own f. Waits own f k x) (both_fine _ _ fine).0)
