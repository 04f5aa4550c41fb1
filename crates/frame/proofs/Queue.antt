-- Runs of one client's queue, whatever its rule: what is counted in a run of two parts, conservation, service in owned
-- slots only, and that nothing but the client's own slots, count and arrivals matters.
-- Assumes nothing.
use mathlib.Core.Path.{◌≡◌, refl, ap, fun_ext}
use mathlib.Core.List.{List, [], ◌∷◌, ◌++◌}
use Prim.Native.Nat.{ℕ, suc, ◌+◌, ◌-◌, ◌≤◌, ◌<◌, min}
use native.Mathlib.Nat.{add-zero, add-suc, suc-add}
use native.Mathlib.Omega.{arith}
use lib.ListN.{length, take, drop, length-drop}
use lib.Seq.{length-take-le, take-add, take-take, get_or-take, get_or-drop}
use Rattle.frame.specs.Frame.{within}
use Rattle.frame.specs.Queue.{Rule, most_pending, Lawful, one_slot, serve, queue, after, left, total}
use Rattle.frame.specs.Queue.{taken, turned, served, pending, served_in}
use Rattle.frame.specs.Service.{AlwaysPending}

-- ---- requests of one slot

pub one_slot_lawful : Lawful one_slot
one_slot_lawful = record { room = λ v x l. omega arith; fills = omega arith }

-- "The rest are turned away"
pub one_slot_rest : (v x : ℕ) → one_slot.takes v x + one_slot.turns v x ≡ x
one_slot_rest v x = omega arith

module _ (rule : Rule) (own : ℕ → ℕ) where
  -- ---- a run in two parts

  pub left_append : (s v : ℕ) (xs ys : List ℕ)
      → left rule own s v (xs ++ ys) ≡ left rule own (s + length xs) (left rule own s v xs) ys
  unfolding left
  left_append s v [] ys = rw add-zero
  left_append s v (x ∷ xs) ys =
      rw (add-suc, ← suc-add s (length xs)) (left_append (suc s) (after rule (own s) v x) xs ys)

  pub total_append : (by : ℕ → ℕ → ℕ → ℕ) (s v : ℕ) (xs ys : List ℕ)
      → total rule own by s v (xs ++ ys)
      ≡ total rule own by s v xs + total rule own by (s + length xs) (left rule own s v xs) ys
  unfolding total left
  total_append by s v [] ys = rw add-zero (omega arith)
  total_append by s v (x ∷ xs) ys =
      rw (add-suc, ← suc-add s (length xs)) (omega (arith, total_append by (suc s) (after rule (own s) v x) xs ys))

  -- ---- what a run keeps

  -- "pending at the end plus served equals pending at the start plus taken"
  pub conserved : (s v : ℕ) (xs : List ℕ)
      → left rule own s v xs + served rule own s v xs ≡ v + taken rule own s v xs
  unfolding left total
  conserved s v [] = refl
  conserved s v (x ∷ xs) = omega (arith, conserved (suc s) (after rule (own s) v x) xs)

  -- "a pending count of 0 to 255"
  pub left_room : Lawful rule → (s v : ℕ) (xs : List ℕ) → v ≤ most_pending → left rule own s v xs ≤ most_pending
  unfolding left
  left_room law s v [] l = l
  left_room law s v (x ∷ xs) l = left_room law (suc s) (after rule (own s) v x) xs (omega (arith, law.room v x l))

  -- no more often than the client owns a slot
  run_served_most : (s v : ℕ) (xs : List ℕ) → served rule own s v xs ≤ within own s (length xs)
  unfolding total within
  run_served_most s v [] = omega arith
  run_served_most s v (x ∷ xs) = omega (arith, run_served_most (suc s) (after rule (own s) v x) xs)

  -- ---- a part of a run is a run

  pub part_length : (xs : List ℕ) (i j : ℕ) → i + j ≤ length xs → length (take j (drop i xs)) ≡ j
  part_length xs i j fits = length-take-le j (drop i xs) (rw length-drop (omega arith))

  pub part_pending : (s v : ℕ) (xs : List ℕ) (i j d : ℕ) → i + j ≤ length xs → d < j
      → pending rule own s v xs (i + d)
      ≡ pending rule own (s + i) (left rule own s v (take i xs)) (take j (drop i xs)) d
  part_pending s v xs i j d fits l =
      let long : length (take i xs) ≡ i = length-take-le i xs (omega arith) in
      cc (
        get_or-take j (drop i xs) d 0 l,
        get_or-drop i xs d 0,
        take-take d j (drop i xs) (omega arith),
        take-add i d xs,
        left_append s v (take i xs) (take d (drop i xs)),
      )

  pub served_part : (s v : ℕ) (xs : List ℕ) (i j : ℕ) → i + j ≤ length xs
      → served rule own s v (take (i + j) xs) ≡ served rule own s v (take i xs) + served_in rule own s v xs i j
  served_part s v xs i j fits =
      let long : length (take i xs) ≡ i = length-take-le i xs (omega arith) in
      rw (take-add i j xs, total_append _ s v (take i xs) (take j (drop i xs)), long)

  -- ---- service

  -- "at most once in a slot it owns, and never in another", in any j slots of a run; a single slot is j 1
  pub served_most : (s v : ℕ) (xs : List ℕ) (i j : ℕ) → i + j ≤ length xs
      → served_in rule own s v xs i j ≤ within own (s + i) j
  served_most s v xs i j fits =
      rw (part_length xs i j fits) at (run_served_most (s + i) (left rule own s v (take i xs)) (take j (drop i xs)))

  pub served_all : ((s : ℕ) → own s ≤ 1) → (s v : ℕ) (xs : List ℕ)
      → ((d : ℕ) → d < length xs → 0 < pending rule own s v xs d) → served rule own s v xs ≡ within own s (length xs)
  unfolding total within left
  served_all most s v [] w = refl
  served_all most s v (x ∷ xs) w =
      let rest = served_all most (suc s) (after rule (own s) v x) xs (λ d l. w (suc d) (omega arith)) in
      omega (arith, most s, w 0 (omega arith), rest)

  -- where a request is pending in each slot, each of the client's slots serves one
  pub served_within : ((s : ℕ) → own s ≤ 1) → (s v : ℕ) (xs : List ℕ) (i j : ℕ) → AlwaysPending rule own s v xs i j
      → served_in rule own s v xs i j ≡ within own (s + i) j
  served_within most s v xs i j w =
      let here = left rule own s v (take i xs) in
      rw (part_length xs i j w.fits) at (served_all most (s + i) here (take j (drop i xs)) each)
    where
      each : (d : ℕ) → d < length (take j (drop i xs))
          → 0 < pending rule own (s + i) (left rule own s v (take i xs)) (take j (drop i xs)) d
      each d l =
          let l' : d < j = omega (arith, l, part_length xs i j w.fits) in
          rw (part_pending s v xs i j d w.fits l') at (w.each d l')

  -- k of what is pending are served as the client's slots come
  served_early : (s v k : ℕ) (xs : List ℕ) → k ≤ v → min k (within own s (length xs)) ≤ served rule own s v xs
  unfolding total within
  served_early s v k [] l = omega arith
  served_early s v k (x ∷ xs) l =
      let o = serve (own s) (queue rule v x) in
      omega (arith, served_early (suc s) (after rule (own s) v x) (k - o) xs (omega arith))

  pub served_first : (s v x k : ℕ) (xs : List ℕ) → k ≤ queue rule v x
      → min k (within own s (suc (length xs))) ≤ served rule own s v (x ∷ xs)
  unfolding total within
  served_first s v x k xs l =
      let o = serve (own s) (queue rule v x) in
      omega (arith, served_early (suc s) (after rule (own s) v x) (k - o) xs (omega arith))

-- ---- what other clients do changes nothing: of the table a run reads the client's own slots alone

pub alone : (rule : Rule) (own own' : ℕ → ℕ) → ((s : ℕ) → own s ≡ own' s) → (s v : ℕ) (xs : List ℕ)
    → (served rule own s v xs ≡ served rule own' s v xs)
    × (left rule own s v xs ≡ left rule own' s v xs)
    × (turned rule own s v xs ≡ turned rule own' s v xs)
alone rule own own' same s v xs =
    let e : own ≡ own' = fun_ext same in (
      ap (λ (o : ℕ → ℕ). served rule o s v xs) e,
      ap (λ (o : ℕ → ℕ). left rule o s v xs) e,
      ap (λ (o : ℕ → ℕ). turned rule o s v xs) e,
    )
