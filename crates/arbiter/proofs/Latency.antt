-- Definition 1 of source 000 says the same of the arbiter's runs as of runs of one client's queue: each run of the
-- arbiter is one of the client's queue, and each run of the queue is had from the arbiter, by giving every client the
-- same count and the same arrivals.
-- Assumes nothing.
use mathlib.Core.Path.{◌≡◌, refl}
use mathlib.Core.List.{List, [], ◌∷◌, map}
use mathlib.Core.Logic.{◌↔◌}
use Prim.Native.Nat.{ℕ, zero, suc, ◌+◌, ◌*◌, ◌%◌, ◌≤◌, ◌<◌}
use native.Mathlib.Nat.{mod-lt}
use native.Mathlib.Omega.{arith}
use lib.ListN.{length, get_or, take, replicate, length-replicate, length-map, get_or-replicate}
use Rattle.frame.specs.Frame.{Frame, IsScaled}
use Rattle.frame.specs.Queue.{most_pending, most_arriving, Arrivals, taken, served}
use Rattle.frame.specs.Service.{Busy, Satisfies, SatisfiesEmpty}
use Rattle.frame.proofs.Latency.{latency_least_empty, in_time_exactly}
use Rattle.records.specs.First.{Fine}
use Rattle.plan.specs.declared.Plan.{Plan}
use Rattle.plan.specs.Plan.{own_of}
use Rattle.plan.specs.Check.{plan_check}
use Rattle.plan.proofs.Laws.{plan_fine}
use Rattle.arbiter.specs.declared.Arbiter.{Arbiter}
use Rattle.arbiter.specs.Step.{rule_of, count_of, arrived_of}
use Rattle.arbiter.specs.Run.{Runs, served_of, taken_of, Typed, slots_in, BusyOf, SatisfiesOf, SatisfiesEmptyOf}
use Rattle.arbiter.specs.Run.{IsLatencyOf}
use Rattle.arbiter.proofs.Laws.{rule_lawful}
use Rattle.arbiter.proofs.Runs.{mine, mine_first, mine_length, mine_at, runs_first, served_is, taken_is, served_run}
use Rattle.arbiter.proofs.Runs.{taken_run}

-- ---- every client is given the same

-- the arrivals lists in which each of n clients has these arrivals
spread : ℕ → List ℕ → List (List ℕ)
spread n = map (λ (x : ℕ). replicate n x)

same_most : (k v most i : ℕ) → v ≤ most → get_or (replicate k v) i 0 ≤ most
same_most zero v most i l = omega arith
same_most (suc k) v most zero l = l
same_most (suc k) v most (suc i) l = same_most k v most i l

module _ (n : ℕ) where
  spread_mine : (i : ℕ) → i < n → (xs : List ℕ) → mine i (spread n xs) ≡ xs
  unfolding spread
  spread_mine i l [] = refl
  spread_mine i l (x ∷ xs) = rw (get_or-replicate n i x 0 l, spread_mine i l xs)

  spread_length : (xs : List ℕ) → length (spread n xs) ≡ length xs
  unfolding spread
  spread_length xs = length-map xs (λ (x : ℕ). replicate n x)

  spread_long : (xs : List ℕ) (d : ℕ) → d < length (spread n xs) → length (get_or (spread n xs) d []) ≡ n
  unfolding spread
  spread_long [] d l = absurd (omega arith)
  spread_long (x ∷ xs) zero l = length-replicate n x
  spread_long (x ∷ xs) (suc d) l = spread_long xs d (omega arith)

  spread_arrivals : (xs : List ℕ) → Arrivals xs → (d i : ℕ) → arrived_of (get_or (spread n xs) d []) i ≤ most_arriving
  unfolding spread
  spread_arrivals [] arrivals d i = omega arith
  spread_arrivals (x ∷ xs) arrivals zero i = same_most n x most_arriving i (arrivals 0)
  spread_arrivals (x ∷ xs) arrivals (suc d) i = spread_arrivals xs (λ e. arrivals (suc e)) d i

module _ (plan : Plan) (i : ℕ) (i< : i < plan.n) where
  -- ---- a run of the arbiter is one of the queue

  satisfies_runs : (x y : ℕ)
      → Satisfies (rule_of plan i) (own_of plan (i + 1)) plan.f (slots_in plan i) x y → SatisfiesOf plan i x y
  satisfies_runs x y sat arb xss typed runs busy =
      let arrivals : Arrivals (mine i xss) = λ d. rw (mine_at i d xss) (typed.arrivals d i) in
      rw (served_run plan i i< arb xss runs, ← mine_length i xss)
      (sat arb.position (count_of arb i) (mine i xss) (typed.counts i) arrivals one_busy)
    where
      one_busy : Busy (rule_of plan i) (own_of plan (i + 1)) plan.f (slots_in plan i) arb.position (count_of arb i)
          (mine i xss)
      one_busy k l =
          let first = runs_first plan arb xss k runs in
          rw (← mine_first i k xss, ← taken_run plan i i< arb (take k xss) first)
          (busy k (omega (arith, l, mine_length i xss)))

  -- ---- and each run of the queue is had from the arbiter

  alike : (s v : ℕ) → Arbiter
  alike s v = record { position = s % plan.f; pending = replicate 8 v }

  module _ (checked : plan_check plan ≡ Fine) (s v : ℕ) (xs : List ℕ) where
    alike_runs : Runs plan (alike s v) (spread plan.n xs)
    unfolding alike
    alike_runs =
        record {
          checked = checked;
          position = mod-lt s (plan_fine plan checked).bounds.f_low;
          lists = spread_long plan.n xs;
        }

    alike_typed : v ≤ most_pending → Arrivals xs → Typed (alike s v) (spread plan.n xs)
    unfolding alike
    alike_typed v≤ arrivals =
        record {
          eight = length-replicate 8 v;
          counts = λ k. same_most 8 v most_pending k v≤;
          arrivals = spread_arrivals plan.n xs arrivals;
        }

    alike_count : count_of (alike s v) i ≡ v
    unfolding alike
    alike_count = get_or-replicate 8 i v 0 (omega (arith, i<, (plan_fine plan checked).bounds.n_high))

    alike_served : served_of plan i (alike s v) (spread plan.n xs)
        ≡ served (rule_of plan i) (own_of plan (i + 1)) s v xs
    unfolding alike
    alike_served =
        rw (alike_count, spread_mine plan.n i i< xs) at
        (served_is plan i i< (alike s v) (spread plan.n xs) s alike_runs refl)

    alike_taken : (k : ℕ) → taken_of plan i (alike s v) (take k (spread plan.n xs))
        ≡ taken (rule_of plan i) (own_of plan (i + 1)) s v (take k xs)
    unfolding alike
    alike_taken k =
        rw (alike_count, mine_first i k (spread plan.n xs), spread_mine plan.n i i< xs) at
        (taken_is plan i i< (alike s v) (take k (spread plan.n xs)) s
        (runs_first plan (alike s v) (spread plan.n xs) k alike_runs) refl)

    alike_busy : Busy (rule_of plan i) (own_of plan (i + 1)) plan.f (slots_in plan i) s v xs
        → BusyOf plan i (alike s v) (spread plan.n xs)
    alike_busy busy k l = rw (alike_count, alike_taken k) (busy k (omega (arith, l, spread_length plan.n xs)))

  runs_satisfy : plan_check plan ≡ Fine → (x y : ℕ) → SatisfiesOf plan i x y
      → Satisfies (rule_of plan i) (own_of plan (i + 1)) plan.f (slots_in plan i) x y
  runs_satisfy checked x y sat s v xs v≤ arrivals busy =
      rw (alike_served checked s v xs, spread_length plan.n xs) at
      (sat (alike s v) (spread plan.n xs) (alike_typed checked s v xs v≤ arrivals)
      (alike_runs checked s v xs) (alike_busy checked s v xs busy))

  empty_satisfy : plan_check plan ≡ Fine → (x y : ℕ) → SatisfiesEmptyOf plan i x y
      → SatisfiesEmpty (rule_of plan i) (own_of plan (i + 1)) plan.f (slots_in plan i) x y
  empty_satisfy checked x y sat s xs arrivals busy =
      rw (alike_served checked s 0 xs, spread_length plan.n xs) at
      (sat (alike s 0) (spread plan.n xs) (alike_count checked s 0 xs)
      (alike_typed checked s 0 xs (omega arith) arrivals) (alike_runs checked s 0 xs) (alike_busy checked s 0 xs busy))

  -- ---- so L/m is the latency of the arbiter's runs

  module _ {L : ℕ} (checked : plan_check plan ≡ Fine)
      (frame : Frame (own_of plan (i + 1)) plan.f (slots_in plan i))
      (scaled : IsScaled (own_of plan (i + 1)) plan.f (slots_in plan i) L) where
    -- "in time when L × b ≤ a × m": exactly when a/b satisfies Definition 1
    pub in_time_runs : (a b : ℕ) → (L * b ≤ a * slots_in plan i) ↔ SatisfiesOf plan i a b
    in_time_runs a b =
        let f≤ = (plan_fine plan checked).bounds.f_high in
        let one = in_time_exactly (rule_of plan i) frame (rule_lawful plan i) f≤ scaled a b in
        (λ l. satisfies_runs a b (one.0 l), λ sat. one.1 (runs_satisfy checked a b sat))

    -- no smaller one satisfies it even in the busy periods that start with an empty queue
    pub least_empty_runs : (x y : ℕ) → SatisfiesEmptyOf plan i x y → L * y ≤ x * slots_in plan i
    least_empty_runs x y sat =
        let f≤ = (plan_fine plan checked).bounds.f_high in
        latency_least_empty (rule_of plan i) frame (rule_lawful plan i) f≤ scaled x y (empty_satisfy checked x y sat)

    pub latency_runs : 0 < slots_in plan i → IsLatencyOf plan i L (slots_in plan i)
    latency_runs m> =
        record {
          y> = m>;
          satisfies = (in_time_runs L (slots_in plan i)).0 (omega arith);
          least = λ x y y> sat. (in_time_runs x y).1 sat;
        }
