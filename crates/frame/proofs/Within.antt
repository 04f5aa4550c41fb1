-- Laws of w(s, j), a client's slots in a stretch: unrolled at either end, split, shifted, over whole frames; and what
-- holds of the stretches below f holds of all.
-- Assumes nothing.
use mathlib.Core.Path.{◌≡◌, refl, sym, ap, ◌∙◌}
use Prim.Native.Nat.{ℕ, zero, suc, ◌+◌, ◌*◌, ◌/◌, ◌%◌, ◌≤◌, ◌<◌}
use native.Mathlib.Nat.{add-zero, zero-add, add-suc, suc-add, add_comm, suc-mul, zero-mul, suc-mod, div-add-mod'}
use native.Mathlib.Nat.{le_dest}
use native.Mathlib.Numerals.{add-one}
use native.Mathlib.Omega.{arith}
use Rattle.frame.specs.Frame.{next_of, within, Frame, Consecutive}

-- ---- the next slot

pub next_mod : (f s : ℕ) → next_of f (s % f) ≡ (s + 1) % f
next_mod f s = sym (suc-mod s f) ∙ ap (λ (t : ℕ). t % f) (sym (add-one s))

-- ---- any slots

module _ (own : ℕ → ℕ) where
  pub within_none : (s : ℕ) → within own s 0 ≡ 0
  unfolding within
  within_none s = refl

  -- one slot more, at the front
  pub within_front : (s j : ℕ) → within own s (suc j) ≡ own s + within own (suc s) j
  unfolding within
  within_front s j = refl

  -- the slots of a stretch and of the one that follows it
  pub within_add : (s i j : ℕ) → within own s (i + j) ≡ within own s i + within own (s + i) j
  unfolding within
  within_add s zero j = rw (zero-add j, add-zero s) (omega arith)
  within_add s (suc i) j = rw (suc-add i j, add-suc s i, ← suc-add s i) (omega (arith, within_add (suc s) i j))

  -- a longer stretch has no fewer slots
  pub within_grows : (s i j : ℕ) → i ≤ j → within own s i ≤ within own s j
  within_grows s i j l =
      let d : (k : ℕ) × (i + k ≡ j) = le_dest l in
      omega (arith, ap (within own s) d.1, within_add s i d.0)

  within_one : (s : ℕ) → within own s 1 ≡ own s
  unfolding within
  within_one s = omega arith

  -- one slot more, at the end
  pub within_more : (s j : ℕ) → within own s (j + 1) ≡ within own s j + own (s + j)
  within_more s j = omega (arith, within_add s j 1, within_one (s + j))

  pub within_most : ((s : ℕ) → own s ≤ 1) → (s j : ℕ) → within own s j ≤ j
  unfolding within
  within_most most s zero = omega arith
  within_most most s (suc j) = omega (arith, most s, within_most most (suc s) j)

  -- slots that are all the client's
  pub within_all : (s j : ℕ) → Consecutive own s j → within own s j ≡ j
  unfolding within
  within_all s zero all = refl
  within_all s (suc j) all =
      let rest = within_all (suc s) j (λ i l. ap own (suc-add s i ∙ sym (add-suc s i)) ∙ all (suc i) (omega arith)) in
      omega (arith, ap own (sym (add-zero s)), all 0 (omega arith), rest)

  -- a stretch that has a slot has it somewhere
  pub within_some : (s j : ℕ) → 0 < within own s j → (t : ℕ) × (0 < own t)
  unfolding within
  within_some s zero h = absurd (omega arith)
  within_some s (suc j) h = by (own s) refl (within_some (suc s) j)
    where
      by : (o : ℕ) → own s ≡ o → (0 < within own (suc s) j → (t : ℕ) × (0 < own t)) → (t : ℕ) × (0 < own t)
      by zero e more = more (omega arith)
      by (suc o) e more = (s, omega arith)

  -- the table turned round by d slots
  pub within_shift : (d s j : ℕ) → within (λ t. own (t + d)) s j ≡ within own (s + d) j
  unfolding within
  within_shift d s zero = refl
  within_shift d s (suc j) = omega (arith, within_shift d (suc s) j, ap (λ t. within own t j) (suc-add s d))

-- ---- a frame that repeats

module _ {own : ℕ → ℕ} {f m : ℕ} (frame : Frame own f m) where
  pub slots_most : m ≤ f
  slots_most = omega (arith, frame.slots, within_most own frame.most 0 f)

  -- whole frames later
  own_frames : (n s : ℕ) → own (n * f + s) ≡ own s
  own_frames zero s = rw (zero-mul, zero-add)
  own_frames (suc n) s = ap own (omega arith) ∙ frame.round (n * f + s) ∙ own_frames n s

  within_frames : (n s j : ℕ) → within own (n * f + s) j ≡ within own s j
  unfolding within
  within_frames n s zero = refl
  within_frames n s (suc j) = omega (arith, own_frames n s, rw add-suc at (within_frames n (suc s) j))

  -- so a slot is the frame's slot s % f
  pub own_mod : (s : ℕ) → own (s % f) ≡ own s
  own_mod s = sym (own_frames (s / f) (s % f)) ∙ ap own (div-add-mod' s f)

  pub within_mod : (s j : ℕ) → within own (s % f) j ≡ within own s j
  within_mod s j = sym (within_frames (s / f) (s % f) j) ∙ ap (λ t. within own t j) (div-add-mod' s f)

  -- a frame later
  pub within_later : (s j : ℕ) → within own (s + f) j ≡ within own s j
  within_later s j = ap (λ t. within own t j) (omega arith) ∙ within_frames 1 s j

  -- a whole frame, from any start
  pub within_frame : (s : ℕ) → within own s f ≡ m
  within_frame s =
      let first : within own 0 (s + f) ≡ within own 0 s + within own s f = rw within_add (rw zero-add) in
      let last : within own 0 (f + s) ≡ within own 0 f + within own 0 s = rw within_add (rw within_later) in
      omega (arith, first, last, ap (within own 0) (add_comm s f), frame.slots)

  -- a stretch, and the d slots that make a frame of it
  pub within_rest : (s j d : ℕ) → j + d ≡ f → within own s j + within own (s + j) d ≡ m
  within_rest s j d e = sym (within_add own s j d) ∙ ap (within own s) e ∙ within_frame s

  -- n whole frames
  pub within_whole : (n s : ℕ) → within own s (n * f) ≡ n * m
  within_whole zero s = rw (zero-mul f, zero-mul m) (within_none own s)
  within_whole (suc n) s =
      ap (within own s) (suc-mul n f) ∙ within_add own s (n * f) f
      ∙ omega (arith, within_whole n s, within_frame (s + n * f))

  -- a stretch of n whole frames and r slots more
  pub within_split : (n r s : ℕ) → within own s (n * f + r) ≡ n * m + within own ((s + n * f) % f) r
  within_split n r s = rw (within_add own s (n * f) r, within_whole n s, within_mod (s + n * f) r)
