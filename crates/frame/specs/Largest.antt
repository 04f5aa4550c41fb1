-- One way to work the figures out: it shows that they exist, and examples are computed with it. No public contract
-- cites it: what the figures are, `Frame` says.
use Rattle.std.specs.Prelude.{ℕ, zero, suc, ◌+◌, ◌-◌, ◌*◌, ◌/◌, max}
use Rattle.frame.specs.Frame.{within}

-- the largest of g 0, .., g (n - 1), or 0
unfoldable pub largest : ℕ → (ℕ → ℕ) → ℕ
largest zero g = 0
largest (suc n) g = max (largest n g) (g n)

-- m × j − f × w(s, j), or 0 where that is negative
unfoldable pub lack : (ℕ → ℕ) → ℕ → ℕ → ℕ → ℕ → ℕ
lack own f m s j = m * j - f * within own s j

-- the largest of those from s, over the lengths below f
unfoldable pub lack_from : (ℕ → ℕ) → ℕ → ℕ → ℕ → ℕ
lack_from own f m s = largest f (lack own f m s)

-- L, the largest of these over the starts below f
unfoldable pub scaled_of : (ℕ → ℕ) → ℕ → ℕ → ℕ
scaled_of own f m = largest f (lack_from own f m)

-- the wait for k: (L + k × f)/m rounded up
unfoldable pub wait_of : ℕ → ℕ → ℕ → ℕ → ℕ
wait_of f m L k = (L + k * f + (m - 1)) / m
