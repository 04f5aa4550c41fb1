-- There is one figure and one wait: m is a count, there is one largest L, and one least wait. So a client's waits grow
-- with the waiting number.
-- Assumes nothing.
use mathlib.Core.Path.{◌≡◌, sym, ◌∙◌}
use Prim.Native.Nat.{ℕ, ◌≤◌}
use Rattle.frame.proofs.Scaled.{scaled_one, wait_one, wait_grows}
use Rattle.figures.specs.declared.Figure.{Figure}
use Rattle.figures.specs.Figures.{IsFigure, Waits}

same_figure : (m m' L L' : ℕ) → m ≡ m' → L ≡ L'
    → ◌≡◌ {A = Figure} (record { slots = m; scaled = L }) (record { slots = m'; scaled = L' })
same_figure m m' L L' e h = rw (e, h)

pub figure_one : {own : ℕ → ℕ} {f : ℕ} (a b : Figure) → IsFigure own f a → IsFigure own f b → a ≡ b
figure_one a b is is' =
    same_figure _ _ _ _ (is.slots ∙ sym is'.slots) (scaled_one is.scaled is'.scaled)

pub waits_one : {own : ℕ → ℕ} {f k : ℕ} (a b : ℕ) → Waits own f k a → Waits own f k b → a ≡ b
waits_one a b x y = wait_one (rw (scaled_one x.scaled y.scaled) at x.least) y.least

-- for crates above: more requests wait as long or longer
pub waits_grow : {own : ℕ → ℕ} {f k k' : ℕ} (a b : ℕ) → k ≤ k' → Waits own f k a → Waits own f k' b → a ≤ b
waits_grow a b l x y = wait_grows l (rw (scaled_one x.scaled y.scaled) at x.least) y.least
