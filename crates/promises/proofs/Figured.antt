-- A client's figures and waits, worked out: a test over its slots is computed, and says that they are those which the
-- contracts allow of client c of a plan that is checked.
-- Assumes nothing.
use mathlib.Core.Path.{◌≡◌, sym}
use mathlib.Core.Bool.{Bool, true, false}
use mathlib.Core.List.{List, [], ◌∷◌}
use Prim.Native.Nat.{ℕ, ◌≤◌}
use lib.Dec.{eqb, leb}
use borrow.Author.Tests.{eqb-true, leb-true}
use Rattle.std.specs.declared.result.Result.TheVariants as result
use Rattle.frame.specs.Frame.{slots_of}
use Rattle.frame.specs.Largest.{scaled_of, wait_of}
use Rattle.frame.proofs.Scaled.{scaled_is, wait_is}
use Rattle.records.specs.declared.refusal.Refusal.TheVariants as refusal
use Rattle.records.specs.First.{pick}
use Rattle.records.proofs.Checks.{both_true, range_pass}
use Rattle.plan.specs.declared.Plan.{Plan}
use Rattle.plan.specs.Plan.{own_of}
use Rattle.plan.proofs.Laws.{Checked}
use Rattle.figures.specs.declared.Figure.{Figure}
use Rattle.figures.specs.Check.{most_waiting}
use Rattle.figures.specs.Figures.{IsFigure, IsFigures, IsWaitFor}
use Rattle.figures.proofs.Laws.{frame_of}
use Rattle.figures.proofs.Questions.{Asked, figure_pass}
use Rattle.figures.proofs.Answers.{waits_given}

-- ---- the tests

-- all of a list are true
abbrev pub every : List Bool → Bool
every [] = true
every (b ∷ bs) = pick b (every bs) false

-- m is the client's slots, and not 0, and L is what `frame` works out
abbrev pub figure_test : (ℕ → ℕ) → ℕ → ℕ → ℕ → Bool
figure_test own f m L = every (leb 1 m ∷ eqb (slots_of own f) m ∷ eqb (scaled_of own f m) L ∷ [])

-- k is 1 to 255, and the wait is what `frame` works out
abbrev pub wait_test : ℕ → ℕ → ℕ → ℕ → ℕ → Bool
wait_test f m L k slots = every (leb 1 k ∷ leb k most_waiting ∷ eqb (wait_of f m L k) slots ∷ [])

-- what the first says
pub record Figured (own : ℕ → ℕ) (f m L : ℕ) : Type 0 where
  pub m_low : 1 ≤ m
  pub slots : slots_of own f ≡ m
  pub scaled : scaled_of own f m ≡ L

pub figured : (own : ℕ → ℕ) (f m L : ℕ) → figure_test own f m L ≡ true → Figured own f m L
figured own f m L h =
    let a = both_true (leb 1 m) _ h in
    let b = both_true (eqb (slots_of own f) m) _ a.1 in
    let c = both_true (eqb (scaled_of own f m) L) true b.1 in
    record {
      m_low = leb-true 1 m a.0;
      slots = eqb-true (slots_of own f) m b.0;
      scaled = eqb-true (scaled_of own f m) L c.0;
    }

-- ---- client c of a plan that is checked, its slots those of own

module _ (plan : Plan) (c : ℕ) (checked : Checked plan) (low : 1 ≤ c) (high : c ≤ plan.n) (own : ℕ → ℕ)
    (same : own_of plan c ≡ own) (m L : ℕ) (facts : Figured own plan.f m L) where
  -- m and L as the answer has them
  abbrev pub its_figure : Figure
  its_figure = record { slots = m; scaled = L }

  asked : Asked plan c
  asked =
      record { checked = checked; low = low; high = high; owns = rw (same, facts.slots) facts.m_low }

  scaled_worked : scaled_of (own_of plan c) plan.f (slots_of (own_of plan c) plan.f) ≡ L
  scaled_worked = rw (same, facts.slots) facts.scaled

  figure_is : IsFigure (own_of plan c) plan.f its_figure
  figure_is =
      record {
        slots = rw same (sym facts.slots);
        scaled = rw scaled_worked at (scaled_is (frame_of plan c checked.bounds.f_low));
      }

  pub figure_allowed : IsFigures plan c (result.Ok its_figure)
  figure_allowed = (figure_pass plan c asked, figure_is)

  pub wait_allowed : (k slots : ℕ) → wait_test plan.f m L k slots ≡ true → IsWaitFor plan c k (result.Ok slots)
  wait_allowed k slots h =
      let a = both_true (leb 1 k) _ h in
      let b = both_true (leb k most_waiting) _ a.1 in
      let d = both_true (eqb (wait_of plan.f m L k) slots) true b.1 in
      let range = range_pass k most_waiting refusal.Waiting (leb-true 1 k a.0) (leb-true k most_waiting b.0) in
      let least = rw (eqb-true (wait_of plan.f m L k) slots d.0) at (wait_is plan.f m L k facts.m_low) in
      waits_given plan c its_figure figure_allowed k slots range least
