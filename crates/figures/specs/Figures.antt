-- A client's figures (document 01, Figures), and what is answered about them.
use Rattle.std.specs.Prelude.{◌≡◌, ℕ}
use Rattle.frame.specs.Frame.{slots_of, IsScaled, IsWait}
use Rattle.records.specs.Said.{Said, Answers}
use Rattle.plan.specs.declared.Plan.{Plan}
use Rattle.plan.specs.Plan.{own_of}
use Rattle.figures.specs.declared.Figure.{Figure}
use Rattle.figures.specs.Check.{figure_check, wait_check}

-- ---- figures

-- m and L of a client: "its slots in the frame", "the largest m × j − f × w(s, j) over all s and all j ≥ 0"
pub record IsFigure (own : ℕ → ℕ) (f : ℕ) (figure : Figure) : Type 0 where
  pub slots : figure.slots ≡ slots_of own f
  pub scaled : IsScaled own f (slots_of own f) figure.scaled

-- what an answer about client c is
abbrev pub IsFigures : Plan → ℕ → Said Figure → Type 0
IsFigures plan c = Answers (figure_check plan c) (IsFigure (own_of plan c) plan.f)

-- ---- waits

-- a client's wait for k: "(L + k × f)/m rounded up", with its m and L
pub record Waits (own : ℕ → ℕ) (f k wait : ℕ) : Type 0 where
  pub L : ℕ
  pub scaled : IsScaled own f (slots_of own f) L
  pub least : IsWait f (slots_of own f) L k wait

-- what an answer about client c and k waiting requests is
abbrev pub IsWaitFor : Plan → (c k : ℕ) → Said ℕ → Type 0
IsWaitFor plan c k = Answers (wait_check plan c k) (Waits (own_of plan c) plan.f k)
