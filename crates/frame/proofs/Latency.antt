-- Definition 1 of source 000, with its busy period: L/m is the least latency that satisfies Equation (1) at the rate
-- m/f. It satisfies it, since in each slot either the client is served as it owns or its queue is empty, and then all
-- that was requested is served. No smaller one does, since a queue that is filled at once makes a busy period of the
-- stretch that reaches L.
-- Assumes nothing.
use mathlib.Core.Path.{◌≡◌, ap}
use mathlib.Core.List.{List, [], ◌∷◌}
use mathlib.Core.Logic.{◌↔◌}
use Prim.Native.Nat.{ℕ, zero, suc, ◌+◌, ◌*◌, ◌≤◌, ◌<◌}
use native.Mathlib.Nat.{mul-le-mul_left, mul-le-mul_right, le_trans}
use native.Mathlib.Decide.{dec_le}
use native.Mathlib.Omega.{arith}
use lib.ListN.{length, take, replicate, length-replicate}
use Rattle.frame.specs.Frame.{within, Frame, Bounded, IsScaled}
use Rattle.frame.specs.Queue.{Rule, most_arriving, Lawful, Arrivals, serve, queue, after, left, total}
use Rattle.frame.specs.Queue.{taken, served, pending}
use Rattle.frame.specs.Service.{Guaranteed, Busy, Satisfies, SatisfiesEmpty}
use Rattle.frame.proofs.Within.{slots_most}
use Rattle.frame.proofs.Scaled.{Short, below_reached}
use Rattle.frame.proofs.Queue.{served_all}

-- ---- L/m satisfies the equation

module _ (rule : Rule) {own : ℕ → ℕ} {f m L : ℕ} (frame : Frame own f m) (bounded : Bounded own f m L) where
  -- of the e slots before slot s, in which S were served: the line of L holds however many of the slots to come serve
  -- as they are owned
  Line : (s S e : ℕ) → Type 0
  Line s S e = (j : ℕ) → m * (e + j) ≤ L + f * (S + within own s j)

  served_as_owned : (s v x : ℕ) → own s ≤ queue rule v x → own s ≤ serve (own s) (queue rule v x)
  served_as_owned s v x l = omega arith

  served_as_asked : (s v x S R : ℕ) → ¬ (own s ≤ queue rule v x) → v + S ≡ R
      → R + rule.takes v x ≤ S + serve (own s) (queue rule v x)
  served_as_asked s v x S R l kept = omega (arith, frame.most s)

  -- one slot on, R having been requested: the slot serves as it is owned, or all that was requested is served
  line_on : (s v x S R e : ℕ) → Dec (own s ≤ queue rule v x) → v + S ≡ R → Line s S e
      → m * (e + 1) ≤ f * (R + rule.takes v x) → Line (suc s) (S + serve (own s) (queue rule v x)) (suc e)
  unfolding within Line
  line_on s v x S R e (yes l) kept line busy j =
      omega (arith, line (suc j), mul-le-mul_left f (served_as_owned s v x l))
  line_on s v x S R e (no l) kept line busy j =
      omega (arith, busy, bounded.bound (suc s) j, mul-le-mul_left f (served_as_asked s v x S R l kept))

  -- the period stays busy in the slots xs to come
  Asks : (s v R e : ℕ) → List ℕ → Type 0
  Asks s v R e xs = (i : ℕ) → i ≤ length xs → m * (e + i) ≤ f * (R + taken rule own s v (take i xs))

  asks_on : (s v x R e : ℕ) (xs : List ℕ) → Asks s v R e (x ∷ xs)
      → Asks (suc s) (after rule (own s) v x) (R + rule.takes v x) (suc e) xs
  unfolding total Asks
  asks_on s v x R e xs busy i l = omega (arith, busy (suc i) (omega arith))

  line_through : (s v S R e : ℕ) (xs : List ℕ) → v + S ≡ R → Line s S e → Asks s v R e xs
      → m * (e + length xs) ≤ L + f * (S + served rule own s v xs)
  unfolding within total Line Asks
  line_through s v S R e [] kept line busy = line 0
  line_through s v S R e (x ∷ xs) kept line busy =
      let o = serve (own s) (queue rule v x) in
      let first : m * (e + 1) ≤ f * (R + rule.takes v x) = omega (arith, busy 1 (omega arith)) in
      let on = line_on s v x S R e (dec_le (own s) (queue rule v x)) kept line first in
      omega (
        arith,
        line_through (suc s) (after rule (own s) v x) (S + o) (R + rule.takes v x) (suc e) xs (omega arith) on
            (asks_on s v x R e xs busy),
      )

  pub busy_served : (s v : ℕ) (xs : List ℕ) → Busy rule own f m s v xs
      → m * length xs ≤ L + f * served rule own s v xs
  unfolding Line Asks
  busy_served s v xs busy =
      let line : Line s 0 0 = λ j. omega (arith, bounded.bound s j) in
      let asks : Asks s v v 0 xs = λ i l. omega (arith, busy i l) in
      omega (arith, line_through s v 0 v 0 xs (omega arith) line asks)

  -- so does every latency from L/m on
  pub latency_satisfies : (x y : ℕ) → L * y ≤ x * m → Satisfies rule own f m x y
  latency_satisfies x y h s v xs v≤ arrivals busy = omega (arith, h, mul-le-mul_left y (busy_served s v xs busy))

-- ---- and none below it does

-- the most that can arrive in the first slot, none in the k slots after it
burst : ℕ → List ℕ
burst k = most_arriving ∷ replicate k 0

none_arrive : (k : ℕ) → Arrivals (replicate k 0)
none_arrive zero d = omega arith
none_arrive (suc k) zero = omega arith
none_arrive (suc k) (suc d) = none_arrive k d

burst_arrivals : (k : ℕ) → Arrivals (burst k)
unfolding burst
burst_arrivals k zero = omega arith
burst_arrivals k (suc d) = none_arrive k d

module _ (rule : Rule) {own : ℕ → ℕ} {f m : ℕ} (frame : Frame own f m) where
  -- a queue that holds, in its first slot, as many as the run has slots has a request pending in each
  full_pending : (s v x : ℕ) (xs : List ℕ) → suc (length xs) ≤ queue rule v x → (d : ℕ) → d < suc (length xs)
      → 0 < pending rule own s v (x ∷ xs) d
  unfolding left
  full_pending s v x xs l zero d< = omega arith
  full_pending s v x [] l (suc d) d< = absurd (omega arith)
  full_pending s v x (y ∷ ys) l (suc d) d< =
      full_pending (suc s) (after rule (own s) v x) y ys (omega (arith, frame.most s)) d (omega arith)

  full_busy : (s x : ℕ) (xs : List ℕ) → suc (length xs) ≤ rule.takes 0 x → Busy rule own f m s 0 (x ∷ xs)
  unfolding total
  full_busy s x xs l zero i≤ = omega arith
  full_busy s x xs l (suc i) i≤ =
      le_trans (mul-le-mul_right (suc i) (slots_most frame)) (mul-le-mul_left f (omega arith))

  reached_least : (L x y j w : ℕ) → m * j ≡ L + f * w → Guaranteed m f x y j w → L * y ≤ x * m
  reached_least L x y j w e h = omega (arith, h, ap (λ (n : ℕ). y * n) e)

  -- a stretch that reaches L, as the busy period of a burst
  burst_least : Lawful rule → f ≤ 64 → (L s k x y : ℕ) → suc k < f → m * suc k ≡ L + f * within own s (suc k)
      → SatisfiesEmpty rule own f m x y → L * y ≤ x * m
  unfolding burst
  burst_least law f≤ L s k x y k< there sat =
      let rest = replicate {A = ℕ} k 0 in
      let long : length rest ≡ k = length-replicate k ℕ.zero in
      let fits : suc (length rest) ≤ rule.takes 0 most_arriving = omega (arith, long, law.fills) in
      let held : suc (length rest) ≤ queue rule 0 most_arriving = omega (arith, fits) in
      let all = served_all rule own frame.most s 0 (burst k) (full_pending s 0 most_arriving rest held) in
      let h = sat s (burst k) (burst_arrivals k) (full_busy s most_arriving rest fits) in
      reached_least L x y (suc k) (within own s (suc k)) there (rw (all, long) at h)

  -- no smaller latency will do, not even if only the periods count that start with an empty queue
  pub latency_least_empty : {L : ℕ} → Lawful rule → f ≤ 64 → IsScaled own f m L → (x y : ℕ)
      → SatisfiesEmpty rule own f m x y → L * y ≤ x * m
  latency_least_empty {L} law f≤ scaled x y sat = by r.length r.length< r.there
    where
      r : Short own f m L
      r = below_reached frame scaled.reached

      by : (j : ℕ) → j < f → m * j ≡ L + f * within own r.start j → L * y ≤ x * m
      by zero j< there = let none : L ≡ 0 = omega arith in rw none (omega arith)
      by (suc k) j< there = burst_least law f≤ L r.start k x y j< there sat

  latency_least : {L : ℕ} → Lawful rule → f ≤ 64 → IsScaled own f m L → (x y : ℕ) → Satisfies rule own f m x y
      → L * y ≤ x * m
  latency_least law f≤ scaled x y sat =
      latency_least_empty law f≤ scaled x y (λ s xs arrivals busy. sat s 0 xs (omega arith) arrivals busy)

  -- "in time when L × b ≤ a × m": exactly when a/b satisfies the equation
  pub in_time_exactly : {L : ℕ} → Lawful rule → f ≤ 64 → IsScaled own f m L → (a b : ℕ)
      → (L * b ≤ a * m) ↔ Satisfies rule own f m a b
  in_time_exactly law f≤ scaled a b =
      (latency_satisfies rule frame scaled.bounded a b, latency_least law f≤ scaled a b)
