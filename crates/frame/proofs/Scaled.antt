-- The scaled latency L and the wait: there is exactly one of each, starts and lengths below f suffice to find L, and
-- the wait grows with the requests.
-- Assumes nothing.
use mathlib.Core.Path.{◌≡◌, refl, ap, subst}
use Prim.Native.Nat.{ℕ, zero, suc, ◌+◌, ◌-◌, ◌*◌, ◌/◌, ◌%◌, ◌≤◌, ◌<◌, max}
use native.Mathlib.Nat.{div-add-mod', mod-lt, lt-div-mul-add, div-lt_iff_lt-mul, mul-le-mul_right}
use native.Mathlib.Decide.{dec_le, ℕ_discrete}
use native.Mathlib.Numerals.{add-one}
use native.Mathlib.Omega.{arith}
use Rattle.frame.specs.Frame.{within, Frame, Bounded, Reached, IsScaled, IsWait}
use Rattle.frame.specs.Largest.{largest, lack, lack_from, scaled_of, wait_of}
use Rattle.frame.proofs.Within.{within_split}

-- ---- "Since a whole frame adds m × f − f × m = 0, j below f suffices"

-- a stretch that starts below f, is shorter than f and reaches L
pub record Short (own : ℕ → ℕ) (f m L : ℕ) : Type 0 where
  pub start : ℕ
  pub length : ℕ
  pub start< : start < f
  pub length< : length < f
  pub there : m * length ≡ L + f * within own start length

module _ {own : ℕ → ℕ} {f m : ℕ} (frame : Frame own f m) where
  pub below_suffice : {L : ℕ} → ((s j : ℕ) → s < f → j < f → m * j ≤ L + f * within own s j) → Bounded own f m L
  below_suffice {L} low = record { bound = λ s j. by s j (j / f) (j % f) (div-add-mod' j f) (mod-lt j frame.f>) }
    where
      by : (s j n r : ℕ) → n * f + r ≡ j → r < f → m * j ≤ L + f * within own s j
      by s j n r e r< =
          subst (λ (k : ℕ). m * k ≤ L + f * within own s k) e
          (rw (within_split frame n r s) (omega (arith, low ((s + n * f) % f) r (mod-lt (s + n * f) frame.f>) r<)))

  pub below_reached : {L : ℕ} → Reached own f m L → Short own f m L
  below_reached {L} r =
      record {
        start = (r.start + r.length / f * f) % f;
        length = r.length % f;
        start< = mod-lt (r.start + r.length / f * f) frame.f>;
        length< = mod-lt r.length frame.f>;
        there = by r.length (r.length / f) (r.length % f) (div-add-mod' r.length f) r.there;
      }
    where
      by : (j n k : ℕ) → n * f + k ≡ j → m * j ≡ L + f * within own r.start j
          → m * k ≡ L + f * within own ((r.start + n * f) % f) k
      by j n k e h =
          let split = ap (λ (w : ℕ). f * w) (within_split frame n k r.start) in
          omega (arith, rw (← e) at h, split)

-- ---- one L

pub scaled_one : {own : ℕ → ℕ} {f m L L' : ℕ} → IsScaled own f m L → IsScaled own f m L' → L ≡ L'
scaled_one a b =
    let x = a.reached in
    let y = b.reached in
    let a_bound = a.bounded.bound y.start y.length in
    let b_bound = b.bounded.bound x.start x.length in
    omega (arith, a_bound, y.there, b_bound, x.there)

-- ---- the largest of some numbers

pub largest_above : (n : ℕ) (g : ℕ → ℕ) (i : ℕ) → i < n → g i ≤ largest n g
unfolding largest
largest_above zero g i l = omega arith
largest_above (suc n) g i l = by (ℕ_discrete i n) (largest_above n g i)
  where
    by : Dec (i ≡ n) → (i < n → g i ≤ largest n g) → g i ≤ max (largest n g) (g n)
    by (yes e) below = omega (arith, ap g e)
    by (no e) below = omega (arith, below (omega arith))

pub largest_reached : (n : ℕ) (g : ℕ → ℕ) → 0 < largest n g → (i : ℕ) × (i < n) × (largest n g ≡ g i)
unfolding largest
largest_reached zero g h = absurd (omega arith)
largest_reached (suc n) g h = by (dec_le (largest n g) (g n)) (largest_reached n g)
  where
    by : Dec (largest n g ≤ g n) → (0 < largest n g → (i : ℕ) × (i < n) × (largest n g ≡ g i))
        → (i : ℕ) × (i < suc n) × (max (largest n g) (g n) ≡ g i)
    by (yes l) below = (n, omega arith, omega arith)
    by (no l) below = let r = below (omega arith) in (r.0, omega (arith, r.1), omega (arith, r.2))

-- one more: x, and r is the larger
pub largest_on : (g : ℕ → ℕ) (n most x r : ℕ) → most ≡ largest n g → x ≡ g n → r ≡ max most x
    → r ≡ largest (n + 1) g
unfolding largest
largest_on g n most x r e h k = rw (add-one, ← e, ← h) k

-- ---- there is an L

-- every length below f is tried
lack_above : (own : ℕ → ℕ) (f m s j : ℕ) → j < f → lack own f m s j ≤ lack_from own f m s
unfolding lack_from
lack_above own f m s j l = largest_above _ (lack own f m s) j (omega arith)

lack_reached : (own : ℕ → ℕ) (f m s : ℕ) → 0 < lack_from own f m s → (j : ℕ) × (lack_from own f m s ≡ lack own f m s j)
unfolding lack_from
lack_reached own f m s h = let r = largest_reached _ (lack own f m s) h in (r.0, r.2)

module _ {own : ℕ → ℕ} {f m : ℕ} (frame : Frame own f m) where
  scaled_bounded : Bounded own f m (scaled_of own f m)
  unfolding scaled_of lack
  scaled_bounded =
      below_suffice frame (λ s j s< j<.
      omega (arith, largest_above f (lack_from own f m) s s<, lack_above own f m s j j<))

  scaled_reached : Reached own f m (scaled_of own f m)
  unfolding scaled_of lack within
  scaled_reached = by (dec_le 1 (scaled_of own f m))
    where
      by : Dec (0 < scaled_of own f m) → Reached own f m (scaled_of own f m)
      by (yes l) =
          let s = largest_reached f (lack_from own f m) l in
          let j = lack_reached own f m s.0 (omega (arith, s.2)) in
          record { start = s.0; length = j.0; there = omega (arith, s.2, j.1) }
      by (no l) = record { start = 0; length = 0; there = omega arith }

  pub scaled_is : IsScaled own f m (scaled_of own f m)
  scaled_is = record { bounded = scaled_bounded; reached = scaled_reached }

-- ---- the wait

-- a/m rounded down, where a is m − 1 above L + k × f, is that rounded up
pub wait_by : (f m L k a : ℕ) → 0 < m → a ≡ L + k * f + (m - 1) → IsWait f m L k (a / m)
wait_by f m L k a m> e =
    record {
      enough = omega (arith, e, lt-div-mul-add {a = a} m>);
      least = λ j h. omega (arith, (div-lt_iff_lt-mul {x = a} {y = j + 1} m>).1 (omega (arith, e, h)));
    }

pub wait_is : (f m L k : ℕ) → 0 < m → IsWait f m L k (wait_of f m L k)
unfolding wait_of
wait_is f m L k m> = wait_by f m L k (L + k * f + (m - 1)) m> refl

pub wait_one : {f m L k r r' : ℕ} → IsWait f m L k r → IsWait f m L k r' → r ≡ r'
wait_one {f} {m} {L} {k} {r} {r'} a b = omega (arith, a.least r' b.enough, b.least r a.enough)

-- more requests wait as long or longer
pub wait_grows : {f m L k k' r r' : ℕ} → k ≤ k' → IsWait f m L k r → IsWait f m L k' r' → r ≤ r'
wait_grows {f} {m} {L} {k} {k'} {r} {r'} l a b =
    a.least r' (omega (arith, mul-le-mul_right f l, b.enough))
