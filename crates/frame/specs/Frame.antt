-- One client's slots in a frame of f slots that repeats (document 01, Figures). Slots are counted on without end, so
-- slot s is the frame's slot s % f. `own s` is 1 where slot s is the client's, else 0.
use Rattle.std.specs.Prelude.{◌≡◌, ℕ, zero, suc, ◌+◌, ◌*◌, ◌%◌, ◌≤◌, ◌<◌}

-- the slot after at: "goes on by one, from f − 1 to 0"
abbrev pub next_of : ℕ → ℕ → ℕ
next_of f at = suc at % f

-- w(s, j): "its slots among the j slots that start at s, going round"
unfoldable pub within : (ℕ → ℕ) → ℕ → ℕ → ℕ
within own s zero = 0
within own s (suc j) = own s + within own (suc s) j

-- m: "its slots in the frame"
abbrev pub slots_of : (ℕ → ℕ) → ℕ → ℕ
slots_of own f = within own 0 f

-- the frame as one client sees it: it repeats, and m of its f slots are the client's
pub record Frame (own : ℕ → ℕ) (f m : ℕ) : Type 0 where
  pub f> : 0 < f
  pub most : (s : ℕ) → own s ≤ 1
  pub round : (s : ℕ) → own (s + f) ≡ own s
  pub slots : slots_of own f ≡ m

-- no stretch has m × j − f × w(s, j) above L
pub record Bounded (own : ℕ → ℕ) (f m L : ℕ) : Type 0 where
  pub bound : (s j : ℕ) → m * j ≤ L + f * within own s j

-- some stretch has m × j − f × w(s, j) equal to L
pub record Reached (own : ℕ → ℕ) (f m L : ℕ) : Type 0 where
  pub start : ℕ
  pub length : ℕ
  pub there : m * length ≡ L + f * within own start length

-- "Its scaled latency L is the largest m × j − f × w(s, j) over all s and all j ≥ 0"
pub record IsScaled (own : ℕ → ℕ) (f m L : ℕ) : Type 0 where
  pub bounded : Bounded own f m L
  pub reached : Reached own f m L

-- "The wait for k waiting requests is (L + k × f)/m rounded up": the least number of slots j with L + k × f ≤ m × j
pub record IsWait (f m L k wait : ℕ) : Type 0 where
  pub enough : L + k * f ≤ m * wait
  pub least : (j : ℕ) → L + k * f ≤ m * j → wait ≤ j

-- "consecutive slots": the m slots from s on are the client's
abbrev pub Consecutive : (ℕ → ℕ) → ℕ → ℕ → Type 0
Consecutive own s m = (i : ℕ) → i < m → own (s + i) ≡ 1
