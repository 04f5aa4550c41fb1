-- What a client's slots give it: demand 3 for one client, and service within the wait, each from any slot of any run.
-- Assumes nothing.
use mathlib.Core.List.{List}
use Prim.Native.Nat.{ℕ, zero, suc, ◌+◌, ◌*◌, ◌≤◌, ◌<◌}
use native.Mathlib.Nat.{mul-le-mul_left, mul-le-mul_right, mul-pos, le_of_mul-le-mul_left}
use native.Mathlib.Omega.{arith}
use lib.ListN.{length, take, drop, get_or}
use lib.Seq.{drop-cons}
use Rattle.frame.specs.Frame.{within, Frame, Bounded}
use Rattle.frame.specs.Queue.{Rule, left, pending, served_in}
use Rattle.frame.specs.Service.{Guaranteed, AlwaysPending}
use Rattle.frame.proofs.Within.{within_none}
use Rattle.frame.proofs.Queue.{part_length, served_within, served_first}

-- ---- demand 3

-- a stretch of j slots, w of them owned: enough rate and (m × j − f × w) × b ≤ a × m, so w is at least p/q × (j − a/b)
pub guaranteed_by : (f m p q a b j w : ℕ) → 0 < f → p * f ≤ m * q → m * (b * j) ≤ a * m + f * (b * w)
    → Guaranteed p q a b j w
guaranteed_by f zero zero q a b j w f> rate time = omega arith
guaranteed_by f zero (suc p) q a b j w f> rate time =
    let p> : 0 < suc p = omega arith in
    absurd (omega (arith, mul-pos p> f>))
guaranteed_by f (suc m) p q a b j w f> rate time =
    le_of_mul-le-mul_left {k = suc m}
    (omega (arith, mul-le-mul_left p time, mul-le-mul_right (b * w) rate)) (omega arith)

-- demand 3 for one client: where every stretch has its slots, each run of consecutive slots with a request pending in
-- each has its service
pub demand_three : (rule : Rule) (own : ℕ → ℕ) → ((s : ℕ) → own s ≤ 1) → (p q a b : ℕ)
    → ((s j : ℕ) → Guaranteed p q a b j (within own s j))
    → (s v : ℕ) (xs : List ℕ) (i j : ℕ) → AlwaysPending rule own s v xs i j
    → Guaranteed p q a b j (served_in rule own s v xs i j)
demand_three rule own most p q a b slots s v xs i j w =
    rw (served_within rule own most s v xs i j w) (slots (s + i) j)

-- ---- the wait

-- so many slots that L + k × f ≤ m × j have k of the client's among them
stretch_enough : {own : ℕ → ℕ} {f m L : ℕ} → Frame own f m → Bounded own f m L → (s j k : ℕ) → L + k * f ≤ m * j
    → k ≤ within own s j
stretch_enough {own} {f} {m} {L} frame bounded s j k h =
    le_of_mul-le-mul_left {k = f} (omega (arith, h, bounded.bound s j)) frame.f>

-- "a request that is k-th in its queue after arrivals", in slot d, "is served within the wait for k, that slot counted
-- first": within any r slots with L + k × f ≤ m × r, of which the wait is the least
pub served_in_wait : (rule : Rule) {own : ℕ → ℕ} {f m L : ℕ} → Frame own f m → Bounded own f m L
    → (s v : ℕ) (xs : List ℕ) (d k r : ℕ) → L + k * f ≤ m * r → k ≤ pending rule own s v xs d → d + r ≤ length xs
    → k ≤ served_in rule own s v xs d r
served_in_wait rule {own} {f} {m} {L} frame bounded s v xs d k r enough l fits = by r enough fits
  where
    by : (r : ℕ) → L + k * f ≤ m * r → d + r ≤ length xs → k ≤ served_in rule own s v xs d r
    by zero h fits = omega (arith, stretch_enough frame bounded s 0 k h, within_none own s)
    by (suc r) h fits =
        let rest = part_length rule own xs (suc d) r (omega arith) in
        let k≤ = stretch_enough frame bounded (s + d) (suc r) k h in
        let x = get_or xs d 0 in
        let here = left rule own s v (take d xs) in
        rw (drop-cons xs d 0 (omega arith))
        (omega (arith, k≤, rw rest at (served_first rule own (s + d) here x k (take r (drop (suc d) xs)) l)))
