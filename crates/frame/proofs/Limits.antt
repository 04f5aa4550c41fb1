-- The limits of the figures: "For m above 0, always f − m ≤ L ≤ m × (f − m): consecutive slots reach the upper end"; so
-- L is at most 1,024 and a wait at most 16,383.
-- Assumes nothing.
use mathlib.Core.Path.{◌≡◌, refl, ap, sym, ◌∙◌}
use Prim.Native.Nat.{ℕ, zero, suc, ◌+◌, ◌-◌, ◌*◌, ◌≤◌, ◌<◌}
use native.Mathlib.Nat.{mul-le-mul, mul-le-mul_left, le_dest}
use native.Mathlib.Decide.{dec_le}
use native.Mathlib.Omega.{arith}
use Rattle.frame.specs.Frame.{within, Frame, IsScaled, IsWait, Consecutive}
use Rattle.frame.proofs.Within.{within_front, within_most, within_all, within_some, slots_most}
use Rattle.frame.proofs.Within.{within_frame, within_rest}
use Rattle.frame.proofs.Scaled.{below_reached}

-- ---- f − m ≤ L ≤ m × (f − m)

-- after an owned slot come f − 1 slots with one slot less than the frame
least_by : (g m L v : ℕ) → suc v ≡ m → m * g ≤ L + suc g * v → suc g ≤ L + m
least_by g m L v e h = omega (arith, h, ap (λ (k : ℕ). k * g) e)

-- a stretch of j slots, w of them owned, and the d slots that make a frame of it, at most d of them owned: so w is at
-- least m − d, and f × w at least m × (m − d); i is f − m
most_by : (f m i L j w d : ℕ) → j + d ≡ f → m + i ≡ f → m ≤ w + d → m * j ≡ L + f * w → L ≤ m * i
most_by f m i L j w d e g all there = by (dec_le m d)
  where
    by : Dec (m ≤ d) → L ≤ m * i
    by (yes l) = omega (arith, there, mul-le-mul_left m l, ap (λ (k : ℕ). m * k) e, ap (λ (k : ℕ). m * k) g)
    by (no l) =
        let x : (k : ℕ) × (d + k ≡ m) = le_dest (omega arith) in
        let m≤ : m ≤ f = omega arith in
        let x≤ : x.0 ≤ w = omega (arith, x.1) in
        omega (
          arith,
          there,
          mul-le-mul m≤ x≤,
          ap (λ (k : ℕ). m * k) e,
          ap (λ (k : ℕ). m * k) g,
          ap (λ (k : ℕ). m * k) x.1,
        )

-- a product of two numbers that make 64 or less
halves : (m i : ℕ) → m + i ≤ 64 → m * i ≤ 1024
halves m i h = by (dec_le m i)
  where
    by : Dec (m ≤ i) → m * i ≤ 1024
    by (yes l) =
        let x : (k : ℕ) × (m + k ≡ i) = le_dest l in
        let b : m + (m + x.0) ≤ 64 = omega (arith, x.1) in
        omega (arith, mul-le-mul b b, ap (λ (k : ℕ). m * k) x.1)
    by (no l) =
        let x : (k : ℕ) × (i + k ≡ m) = le_dest (omega arith) in
        let b : i + (i + x.0) ≤ 64 = omega (arith, x.1) in
        omega (arith, mul-le-mul b b, ap (λ (k : ℕ). k * i) x.1)

module _ {own : ℕ → ℕ} {f m L : ℕ} (frame : Frame own f m) (scaled : IsScaled own f m L) where
  pub scaled_least : 0 < m → f - m ≤ L
  scaled_least m> = let o = within_some own 0 f (omega (arith, frame.slots)) in by f o.0 refl o.1
    where
      by : (g t : ℕ) → g ≡ f → 0 < own t → f - m ≤ L
      by zero t e t> = omega arith
      by (suc g) t e t> =
          let rest = sym (within_front own t g) ∙ ap (within own t) e ∙ within_frame frame t in
          let v : suc (within own (suc t) g) ≡ m = omega (arith, rest, frame.most t) in
          omega (arith, least_by g m L (within own (suc t) g) v (rw (← e) at (scaled.bounded.bound (suc t) g)))

  pub scaled_most : L ≤ m * (f - m)
  scaled_most =
      let r = below_reached frame scaled.reached in
      let x : (d : ℕ) × (r.length + d ≡ f) = le_dest (omega (arith, r.length<)) in
      let rest = within_rest frame r.start r.length x.0 x.1 in
      let few = within_most own frame.most (r.start + r.length) x.0 in
      most_by f m (f - m) L r.length (within own r.start r.length) x.0 x.1
      (omega (arith, slots_most frame))
      (omega (arith, rest, few)) r.there

  -- source 000, Equation (4): the latency L/m of consecutive slots is f − m
  pub scaled_consecutive : (s : ℕ) → Consecutive own s m → L ≡ m * (f - m)
  scaled_consecutive s all =
      let e : m + (f - m) ≡ f = omega (arith, slots_most frame) in
      let rest = within_rest frame s m (f - m) e in
      let none : within own (s + m) (f - m) ≡ 0 = omega (arith, rest, within_all own s m all) in
      omega (arith, scaled_most, scaled.bounded.bound (s + m) (f - m), ap (λ (w : ℕ). f * w) none)

  pub scaled_small : f ≤ 64 → L ≤ 1024
  scaled_small f≤ = omega (arith, scaled_most, halves m (f - m) (omega (arith, slots_most frame)))

-- ---- the wait

pub wait_small : {f m L k r : ℕ} → 0 < m → f ≤ 64 → L ≤ m * (f - m) → k ≤ 255 → IsWait f m L k r → r ≤ 16383
wait_small {f} {m} {L} {k} m> f≤ L≤ k≤ wait =
    let rest : f - m ≤ 63 = omega arith in
    let asked = mul-le-mul k≤ f≤ in
    wait.least 16383 (omega (arith, mul-le-mul_left m rest, asked, mul-le-mul_left 16320 m>))
