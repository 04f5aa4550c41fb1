-- Why a busy period counts the arrivals of the slots that have passed: were those of a slot counted at its start, L/m
-- would not satisfy Definition 1. With f 3 and the slots 0 and 1, L is 2. The arrivals 0 1 1 0 1 1 would then make a
-- busy period of six slots, and three are served in it: 3 < 2/3 × (6 − 2/2).
-- Assumes nothing.
use mathlib.Core.Path.{refl}
use mathlib.Core.List.{List, [], ◌∷◌}
use Prim.Native.Nat.{ℕ, zero, suc, ◌-◌, ◌*◌, ◌/◌, ◌%◌, ◌≤◌}
use native.Mathlib.Nat.{add-mod_right}
use native.Mathlib.Omega.{arith}
use lib.ListN.{take}
use Rattle.frame.specs.Frame.{within, Frame, IsScaled}
use Rattle.frame.specs.Largest.{largest, lack, lack_from, scaled_of}
use Rattle.frame.specs.Queue.{one_slot, total, taken, served}
use Rattle.frame.specs.Service.{Guaranteed}
use Rattle.frame.proofs.Scaled.{scaled_is}

-- slots 0 and 1 of 3
abbrev own : ℕ → ℕ
own s = 1 - s % 3 / 2

-- what arrives in six slots
abbrev arrivals : List ℕ
arrivals = 0 ∷ 1 ∷ 1 ∷ 0 ∷ 1 ∷ 1 ∷ []

frame : Frame own 3 2
unfolding within
frame = record { f> = omega arith; most = λ s. omega arith; round = λ s. rw (add-mod_right s 3); slots = refl }

pub starts_scaled : IsScaled own 3 2 2
unfolding scaled_of lack_from largest lack within
starts_scaled = scaled_is frame

-- busy, if the arrivals of slot i count after i slots
pub starts_busy : (i : ℕ) → i ≤ 6 → 2 * i ≤ 3 * taken one_slot own 0 0 (take (suc i) arrivals)
unfolding total
starts_busy zero l = omega arith
starts_busy (suc zero) l = omega arith
starts_busy (suc (suc zero)) l = omega arith
starts_busy (suc (suc (suc zero))) l = omega arith
starts_busy (suc (suc (suc (suc zero)))) l = omega arith
starts_busy (suc (suc (suc (suc (suc zero))))) l = omega arith
starts_busy (suc (suc (suc (suc (suc (suc zero)))))) l = omega arith
starts_busy (suc (suc (suc (suc (suc (suc (suc i))))))) l = absurd (omega arith)

pub starts_short : Guaranteed 2 3 2 2 6 (served one_slot own 0 0 arrivals) → ⊥
unfolding total
starts_short h = omega arith
