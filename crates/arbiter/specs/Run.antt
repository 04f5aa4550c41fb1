-- Runs of the arbiter's steps on one plan, each with its list of arrivals, and what one client is given in them
-- (document 01, The arbiter; demand 3; Definition 1 of source 000). Who is served and how many are turned away is read
-- off the steps' answers; what is pending and what is taken is said by the record before each step and its arrivals.
use Rattle.std.specs.Prelude.{◌≡◌, List, [], ◌∷◌, ℕ, ◌+◌, ◌*◌, ◌≤◌, ◌<◌, length, get_or, take, drop}
use Rattle.frame.specs.Frame.{slots_of}
use Rattle.frame.specs.Queue.{most_pending, most_arriving}
use Rattle.frame.specs.Service.{Guaranteed}
use Rattle.records.specs.First.{Fine}
use Rattle.plan.specs.declared.Plan.{Plan}
use Rattle.plan.specs.Plan.{is_client, own_of}
use Rattle.plan.specs.Check.{plan_check}
use Rattle.arbiter.specs.declared.Arbiter.{Arbiter}
use Rattle.arbiter.specs.Step.{rule_of, count_of, arrived_of, queue_at, step_of}

-- ---- runs

module _ (plan : Plan) where
  -- the record after a run: each step starts from the record that the one before it left
  unfoldable pub record_after : Arbiter → List (List ℕ) → Arbiter
  record_after arb [] = arb
  record_after arb (xs ∷ xss) = record_after (step_of plan arb xs).next xss

  -- a run's sum of what `by` counts in each step, from the record before it and its arrivals
  unfoldable pub total_of : (Arbiter → List ℕ → ℕ) → Arbiter → List (List ℕ) → ℕ
  total_of by arb [] = 0
  total_of by arb (xs ∷ xss) = by arb xs + total_of by (step_of plan arb xs).next xss

  -- "Over any run of steps on one unchanged plan, none refused"
  pub record Runs (arb : Arbiter) (xss : List (List ℕ)) : Type 0 where
    pub checked : plan_check plan ≡ Fine
    pub position : arb.position < plan.f
    pub lists : (d : ℕ) → d < length xss → length (get_or xss d []) ≡ plan.n

-- ---- client i + 1 in a run

module _ (plan : Plan) (i : ℕ) where
  -- how often it is served: in the steps that name it
  abbrev pub served_of : Arbiter → List (List ℕ) → ℕ
  served_of = total_of plan (λ arb xs. is_client (i + 1) (step_of plan arb xs).served.client)

  -- its requests that are turned away, as the steps count them
  abbrev pub turned_of : Arbiter → List (List ℕ) → ℕ
  turned_of = total_of plan (λ arb xs. get_or (step_of plan arb xs).served.turned i 0)

  -- the slots' worth of requests that join its pending count
  abbrev pub taken_of : Arbiter → List (List ℕ) → ℕ
  taken_of = total_of plan (λ arb xs. (rule_of plan i).takes (count_of arb i) (arrived_of xs i))

  -- what it has pending in slot d of a run: "after arrivals, before service"
  abbrev pub pending_of : Arbiter → List (List ℕ) → ℕ → ℕ
  pending_of arb xss d = queue_at plan (record_after plan arb (take d xss)) (get_or xss d []) i

  -- how often it is served in the j slots from slot d of a run
  abbrev pub served_in_of : Arbiter → List (List ℕ) → ℕ → ℕ → ℕ
  served_in_of arb xss d j = served_of (record_after plan arb (take d xss)) (take j (drop d xss))

  -- demand 3, "any run of consecutive slots in each of which a drive has a request pending": the j slots from slot d of
  -- a run
  pub record AlwaysPendingOf (arb : Arbiter) (xss : List (List ℕ)) (d j : ℕ) : Type 0 where
    pub fits : d + j ≤ length xss
    pub each : (e : ℕ) → e < j → 0 < pending_of arb xss (d + e)

-- "two runs that agree on f, n, position, one client's slots, its pending count and its arrivals"
pub record Agree (i : ℕ) (plan other : Plan) (arb arb' : Arbiter) (xss yss : List (List ℕ)) : Type 0 where
  pub frame : plan.f ≡ other.f
  pub count : plan.n ≡ other.n
  pub position : arb.position ≡ arb'.position
  pub slots : (x : ℕ) → x < plan.f → own_of plan (i + 1) x ≡ own_of other (i + 1) x
  pub pending : count_of arb i ≡ count_of arb' i
  pub long : length xss ≡ length yss
  pub arrivals : (d : ℕ) → arrived_of (get_or xss d []) i ≡ arrived_of (get_or yss d []) i

-- ---- Definition 1 of source 000, of client i + 1 on the arbiter's runs

-- what the types say: eight pending counts of 0 to 255, and arrivals of 0 to 255. Definition 1 is asked of such runs
-- only, so that the least latency is that of runs that can be
pub record Typed (arb : Arbiter) (xss : List (List ℕ)) : Type 0 where
  pub eight : length arb.pending ≡ 8
  pub counts : (i : ℕ) → count_of arb i ≤ most_pending
  pub arrivals : (d i : ℕ) → arrived_of (get_or xss d []) i ≤ most_arriving

module _ (plan : Plan) (i : ℕ) where
  -- its slots in the frame, m
  abbrev pub slots_in : ℕ
  slots_in = slots_of (own_of plan (i + 1)) plan.f

  -- Section III: a busy period, in which the client "requests at least as much service as it has been allocated": after
  -- each number k of slots, what was pending and what was taken make at least m/f × k
  abbrev pub BusyOf : Arbiter → List (List ℕ) → Type 0
  BusyOf arb xss =
      (k : ℕ) → k ≤ length xss → slots_in * k ≤ plan.f * (count_of arb i + taken_of plan i arb (take k xss))

  -- Definition 1: x/y is a "service latency .. such that the provided service .. is bounded by Equation (1) during a
  -- busy period", at the allocated rate m/f
  abbrev pub SatisfiesOf : ℕ → ℕ → Type 0
  SatisfiesOf x y =
      (arb : Arbiter) (xss : List (List ℕ)) → Typed arb xss → Runs plan arb xss → BusyOf arb xss
      → Guaranteed slots_in plan.f x y (length xss) (served_of plan i arb xss)

  -- the same asked only of the busy periods that start with an empty queue
  abbrev pub SatisfiesEmptyOf : ℕ → ℕ → Type 0
  SatisfiesEmptyOf x y =
      (arb : Arbiter) (xss : List (List ℕ)) → count_of arb i ≡ 0 → Typed arb xss → Runs plan arb xss → BusyOf arb xss
      → Guaranteed slots_in plan.f x y (length xss) (served_of plan i arb xss)

  -- "The minimum non-negative constant satisfying the equation is the service latency": of all fractions, it is x/y
  pub record IsLatencyOf (x y : ℕ) : Type 0 where
    pub y> : 0 < y
    pub satisfies : SatisfiesOf x y
    pub least : (x' y' : ℕ) → 0 < y' → SatisfiesOf x' y' → x * y' ≤ x' * y
