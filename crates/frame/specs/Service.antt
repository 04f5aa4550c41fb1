-- What a client is promised of its service: demand 3, and Definition 1 of source 000.
use Rattle.std.specs.Prelude.{ℕ, ◌+◌, ◌*◌, ◌≤◌, ◌<◌, List, length, take}
use Rattle.frame.specs.Queue.{Rule, most_pending, Arrivals, taken, served, pending}

-- source 000, Equation (1): w ≥ ρ × (j − Θ), for w served in j slots at the rate ρ = p/q and the latency Θ = a/b; and
-- demand 3, "Subtract its required latency from the run's length and multiply by its required rate: it is served at
-- least that often". Both sides are multiplied by q × b
abbrev pub Guaranteed : (p q a b j w : ℕ) → Type 0
Guaranteed p q a b j w = p * (b * j) ≤ p * a + q * (b * w)

module _ (rule : Rule) (own : ℕ → ℕ) where
  -- "consecutive slots in each of which a drive has a request pending": the j slots from slot i of a run
  pub record AlwaysPending (s v : ℕ) (xs : List ℕ) (i j : ℕ) : Type 0 where
    pub fits : i + j ≤ length xs
    pub each : (d : ℕ) → d < j → 0 < pending rule own s v xs (i + d)

module _ (rule : Rule) (own : ℕ → ℕ) (f m : ℕ) where
  -- source 000, Section III: a busy period, in which the client "requests at least as much service as it has been
  -- allocated": after each number i of slots, what was pending and what was taken make at least m/f × i
  abbrev pub Busy : ℕ → ℕ → List ℕ → Type 0
  Busy s v xs = (i : ℕ) → i ≤ length xs → m * i ≤ f * (v + taken rule own s v (take i xs))

  -- source 000, Definition 1: x/y is a "service latency .. such that the provided service .. is bounded by Equation (1)
  -- during a busy period", at the allocated rate m/f
  abbrev pub Satisfies : ℕ → ℕ → Type 0
  Satisfies x y =
      (s v : ℕ) (xs : List ℕ) → v ≤ most_pending → Arrivals xs → Busy s v xs
      → Guaranteed m f x y (length xs) (served rule own s v xs)

  -- the same asked only of the busy periods that start with an empty queue
  abbrev pub SatisfiesEmpty : ℕ → ℕ → Type 0
  SatisfiesEmpty x y =
      (s : ℕ) (xs : List ℕ) → Arrivals xs → Busy s 0 xs → Guaranteed m f x y (length xs) (served rule own s 0 xs)
