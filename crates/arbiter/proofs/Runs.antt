-- Each client of the link sees its own run and nothing else: what the arbiter's steps give client i + 1 is what a queue
-- with its rule is given by its own slots, from its own count and arrivals (`frame`). So every theorem about one
-- client's queue holds of the arbiter's runs.
-- Assumes nothing.
use mathlib.Core.Path.{◌≡◌, refl, sym, ap, ◌∙◌}
use mathlib.Core.List.{List, [], ◌∷◌, map}
use Prim.Native.Nat.{ℕ, zero, suc, ◌+◌, ◌%◌, ◌≤◌, ◌<◌}
use native.Mathlib.Nat.{add-zero, add-suc, suc-add, mod-lt, mod-eq_of_lt}
use native.Mathlib.Numerals.{add-one}
use native.Mathlib.Omega.{arith}
use lib.ListN.{length, get_or, take, drop, length-take, length-map, get_or-map}
use lib.Seq.{get_or-take, get_or-drop, length-take-le}
use Rattle.frame.specs.Frame.{next_of}
use Rattle.frame.specs.Queue.{serve, after, left, total, taken, turned, served, pending, served_in}
use Rattle.frame.proofs.Within.{next_mod}
use Rattle.records.proofs.Lists.{get_onto, onto_reaches, get_padded}
use Rattle.records.specs.First.{Fine}
use Rattle.plan.specs.declared.Plan.{Plan}
use Rattle.plan.specs.Plan.{owner_of, is_client, own_in, own_of}
use Rattle.plan.proofs.Laws.{plan_fine}
use Rattle.arbiter.specs.declared.Arbiter.{Arbiter}
use Rattle.arbiter.specs.Step.{rule_of, count_of, arrived_of, queue_at, turned_at, joined, served_now, advanced}
use Rattle.arbiter.specs.Step.{step_of, step_check}
use Rattle.arbiter.specs.Run.{record_after, total_of, Runs, served_of, turned_of, taken_of, pending_of, served_in_of}
use Rattle.arbiter.proofs.Questions.{Steps, step_pass, next_passes}
use Rattle.arbiter.proofs.Slots.{serves_is, less_is, step_advances}

-- ---- one step

-- a position below f is its own place in the frame
pub place_itself : (f position : ℕ) → position < f → position ≡ position % f
place_itself f position l = sym (mod-eq_of_lt l)

module _ (plan : Plan) (arb : Arbiter) (xs : List ℕ) (ok : Steps plan arb.position (length xs)) where
  pub advances_so : step_of plan arb xs ≡ advanced plan arb xs
  advances_so = step_advances plan arb xs (step_pass plan arb.position (length xs) ok)

  -- "The position goes on by one, from f − 1 to 0"
  pub next_position : (step_of plan arb xs).next.position ≡ next_of plan.f arb.position
  unfolding advanced
  next_position = rw advances_so

  pub next_below : (step_of plan arb xs).next.position < plan.f
  next_below = rw next_position (mod-lt (suc arb.position) ok.checked.bounds.f_low)

  -- a caller that steps on with as many arrivals is not refused
  pub passes_again : step_check plan (advanced plan arb xs).next.position (length xs) ≡ Fine
  unfolding advanced
  passes_again = next_passes plan arb.position (length xs) (step_pass plan arb.position (length xs) ok)

  module _ (i : ℕ) (i< : i < plan.n) where
    joined_at : get_or (joined plan arb xs) i 0 ≡ queue_at plan arb xs i
    joined_at = get_onto (queue_at plan arb xs) plan.n arb.pending 0 i i<

    served_here : is_client (i + 1) (served_now plan arb xs)
        ≡ serve (is_client (i + 1) (owner_of plan arb.position)) (queue_at plan arb xs i)
    served_here =
        rw joined_at at (serves_is (owner_of plan arb.position) i (joined plan arb xs))

    pub step_turned : get_or (step_of plan arb xs).served.turned i 0 ≡ turned_at plan arb xs i
    unfolding advanced
    step_turned = rw advances_so (get_padded (turned_at plan arb xs) plan.n 8 0 i i<)

    module _ (s : ℕ) (at : arb.position ≡ s % plan.f) where
      own_here : is_client (i + 1) (owner_of plan arb.position) ≡ own_of plan (i + 1) s
      unfolding own_in
      own_here = rw at

      pub step_served : is_client (i + 1) (step_of plan arb xs).served.client
          ≡ serve (own_of plan (i + 1) s) (queue_at plan arb xs i)
      unfolding advanced
      step_served = rw (advances_so, ← own_here) served_here

      pub step_left : count_of (step_of plan arb xs).next i
          ≡ after (rule_of plan i) (own_of plan (i + 1) s) (count_of arb i) (arrived_of xs i)
      unfolding advanced
      step_left =
          let long = onto_reaches (queue_at plan arb xs) plan.n arb.pending in
          rw (advances_so, ← own_here, ← served_here, ← joined_at)
          (less_is (served_now plan arb xs) i (joined plan arb xs) (omega (arith, long)))

-- ---- a run in parts

module _ (plan : Plan) where
  first_steps : (arb : Arbiter) (xs : List ℕ) (xss : List (List ℕ)) → Runs plan arb (xs ∷ xss)
      → Steps plan arb.position (length xs)
  first_steps arb xs xss runs =
      record { checked = plan_fine plan runs.checked; below = runs.position; many = runs.lists 0 (omega arith) }

  position_on : (arb : Arbiter) (xs : List ℕ) (xss : List (List ℕ)) (s : ℕ) → Runs plan arb (xs ∷ xss)
      → arb.position ≡ s % plan.f → (step_of plan arb xs).next.position ≡ suc s % plan.f
  position_on arb xs xss s runs at =
      let goes = next_position plan arb xs (first_steps arb xs xss runs) in
      rw (← add-one s) (goes ∙ ap (next_of plan.f) at ∙ next_mod plan.f s)

  pub runs_on : (arb : Arbiter) (xs : List ℕ) (xss : List (List ℕ)) → Runs plan arb (xs ∷ xss)
      → Runs plan (step_of plan arb xs).next xss
  runs_on arb xs xss runs =
      record {
        checked = runs.checked;
        position = next_below plan arb xs (first_steps arb xs xss runs);
        lists = λ d l. runs.lists (suc d) (omega arith);
      }

  position_after : (arb : Arbiter) (xss : List (List ℕ)) (s : ℕ) → Runs plan arb xss → arb.position ≡ s % plan.f
      → (record_after plan arb xss).position ≡ (s + length xss) % plan.f
  unfolding record_after
  position_after arb [] s runs at = rw (add-zero s) at
  position_after arb (xs ∷ xss) s runs at =
      let on = position_on arb xs xss s runs at in
      rw (add-suc, ← suc-add s (length xss))
      (position_after (step_of plan arb xs).next xss (suc s) (runs_on arb xs xss runs) on)

  pub runs_first : (arb : Arbiter) (xss : List (List ℕ)) (d : ℕ) → Runs plan arb xss → Runs plan arb (take d xss)
  runs_first arb xss d runs =
      record {
        checked = runs.checked;
        position = runs.position;
        lists = λ e l.
            let short = length-take d xss in
            rw (get_or-take d xss e [] (omega arith)) (runs.lists e (omega arith));
      }

  below_after : (arb : Arbiter) (xss : List (List ℕ)) (d : ℕ) → Runs plan arb xss
      → (record_after plan arb (take d xss)).position < plan.f
  below_after arb xss d runs =
      let here = place_itself plan.f arb.position runs.position in
      let to = position_after arb (take d xss) arb.position (runs_first arb xss d runs) here in
      let f> : 0 < plan.f = omega (arith, runs.position) in
      rw to (mod-lt (arb.position + length (take d xss)) f>)

  -- no step of it is refused
  pub steps_at : (arb : Arbiter) (xss : List (List ℕ)) (d : ℕ) → Runs plan arb xss → d < length xss
      → Steps plan (record_after plan arb (take d xss)).position (length (get_or xss d []))
  steps_at arb xss d runs l =
      record { checked = plan_fine plan runs.checked; below = below_after arb xss d runs; many = runs.lists d l }

  runs_part : (arb : Arbiter) (xss : List (List ℕ)) (d j : ℕ) → d + j ≤ length xss → Runs plan arb xss
      → Runs plan (record_after plan arb (take d xss)) (take j (drop d xss))
  runs_part arb xss d j fits runs =
      record {
        checked = runs.checked;
        position = below_after arb xss d runs;
        lists = λ e l.
            let short = length-take j (drop d xss) in
            rw (get_or-take j (drop d xss) e [] (omega arith), get_or-drop d xss e [])
            (runs.lists (d + e) (omega arith));
      }

-- ---- the run of client i + 1

-- its arrivals, slot by slot
abbrev pub mine : ℕ → List (List ℕ) → List ℕ
mine i xss = map (λ (xs : List ℕ). arrived_of xs i) xss

module _ (i : ℕ) where
  pub mine_first : (d : ℕ) (xss : List (List ℕ)) → mine i (take d xss) ≡ take d (mine i xss)
  mine_first zero xss = refl
  mine_first (suc d) [] = refl
  mine_first (suc d) (xs ∷ xss) = ap (λ (l : List ℕ). arrived_of xs i ∷ l) (mine_first d xss)

  mine_rest : (d : ℕ) (xss : List (List ℕ)) → mine i (drop d xss) ≡ drop d (mine i xss)
  mine_rest zero xss = refl
  mine_rest (suc d) [] = refl
  mine_rest (suc d) (xs ∷ xss) = mine_rest d xss

  mine_part : (d j : ℕ) (xss : List (List ℕ)) → mine i (take j (drop d xss)) ≡ take j (drop d (mine i xss))
  mine_part d j xss = mine_first j (drop d xss) ∙ ap (take j) (mine_rest d xss)

  pub mine_at : (d : ℕ) (xss : List (List ℕ)) → get_or (mine i xss) d 0 ≡ arrived_of (get_or xss d []) i
  mine_at d xss = get_or-map (λ (xs : List ℕ). arrived_of xs i) xss d []

  pub mine_length : (xss : List (List ℕ)) → length (mine i xss) ≡ length xss
  mine_length xss = length-map xss (λ (xs : List ℕ). arrived_of xs i)

module _ (plan : Plan) (i : ℕ) (i< : i < plan.n) where
  left_is : (arb : Arbiter) (xss : List (List ℕ)) (s : ℕ) → Runs plan arb xss → arb.position ≡ s % plan.f
      → count_of (record_after plan arb xss) i
      ≡ left (rule_of plan i) (own_of plan (i + 1)) s (count_of arb i) (mine i xss)
  unfolding record_after left
  left_is arb [] s runs at = refl
  left_is arb (xs ∷ xss) s runs at =
      let here = step_left plan arb xs (first_steps plan arb xs xss runs) i i< s at in
      let on = position_on plan arb xs xss s runs at in
      left_is (step_of plan arb xs).next xss (suc s) (runs_on plan arb xs xss runs) on
      ∙ ap (λ (v : ℕ). left (rule_of plan i) (own_of plan (i + 1)) (suc s) v (mine i xss)) here

  -- what is counted in each step from the client's own count and arrivals
  total_is : (by : Arbiter → List ℕ → ℕ) (one : ℕ → ℕ → ℕ → ℕ)
      → ((arb : Arbiter) (xs : List ℕ) (s : ℕ) → Steps plan arb.position (length xs) → arb.position ≡ s % plan.f
      → by arb xs ≡ one s (count_of arb i) (arrived_of xs i))
      → (arb : Arbiter) (xss : List (List ℕ)) (s : ℕ) → Runs plan arb xss → arb.position ≡ s % plan.f
      → total_of plan by arb xss ≡ total (rule_of plan i) (own_of plan (i + 1)) one s (count_of arb i) (mine i xss)
  unfolding total_of total
  total_is by one each arb [] s runs at = refl
  total_is by one each arb (xs ∷ xss) s runs at =
      let ok = first_steps plan arb xs xss runs in
      let on = position_on plan arb xs xss s runs at in
      let rest = total_is by one each (step_of plan arb xs).next xss (suc s) (runs_on plan arb xs xss runs) on in
      rw (each arb xs s ok at, rest, step_left plan arb xs ok i i< s at)

  pub served_is : (arb : Arbiter) (xss : List (List ℕ)) (s : ℕ) → Runs plan arb xss → arb.position ≡ s % plan.f
      → served_of plan i arb xss ≡ served (rule_of plan i) (own_of plan (i + 1)) s (count_of arb i) (mine i xss)
  served_is = total_is _ _ (λ arb xs s ok at. step_served plan arb xs ok i i< s at)

  turned_is : (arb : Arbiter) (xss : List (List ℕ)) (s : ℕ) → Runs plan arb xss → arb.position ≡ s % plan.f
      → turned_of plan i arb xss ≡ turned (rule_of plan i) (own_of plan (i + 1)) s (count_of arb i) (mine i xss)
  turned_is = total_is _ _ (λ arb xs s ok at. step_turned plan arb xs ok i i<)

  pub taken_is : (arb : Arbiter) (xss : List (List ℕ)) (s : ℕ) → Runs plan arb xss → arb.position ≡ s % plan.f
      → taken_of plan i arb xss ≡ taken (rule_of plan i) (own_of plan (i + 1)) s (count_of arb i) (mine i xss)
  taken_is = total_is _ _ (λ arb xs s ok at. refl)

  -- ---- from the run's own position

  module _ (arb : Arbiter) (xss : List (List ℕ)) (runs : Runs plan arb xss) where
    at_position : arb.position ≡ arb.position % plan.f
    at_position = place_itself plan.f arb.position runs.position

    pub served_run : served_of plan i arb xss
        ≡ served (rule_of plan i) (own_of plan (i + 1)) arb.position (count_of arb i) (mine i xss)
    served_run = served_is arb xss arb.position runs at_position

    pub turned_run : turned_of plan i arb xss
        ≡ turned (rule_of plan i) (own_of plan (i + 1)) arb.position (count_of arb i) (mine i xss)
    turned_run = turned_is arb xss arb.position runs at_position

    pub taken_run : taken_of plan i arb xss
        ≡ taken (rule_of plan i) (own_of plan (i + 1)) arb.position (count_of arb i) (mine i xss)
    taken_run = taken_is arb xss arb.position runs at_position

    pub left_run : count_of (record_after plan arb xss) i
        ≡ left (rule_of plan i) (own_of plan (i + 1)) arb.position (count_of arb i) (mine i xss)
    left_run = left_is arb xss arb.position runs at_position

    left_first : (d : ℕ) → count_of (record_after plan arb (take d xss)) i
        ≡ left (rule_of plan i) (own_of plan (i + 1)) arb.position (count_of arb i) (take d (mine i xss))
    left_first d =
        let first = runs_first plan arb xss d runs in
        rw (← mine_first i d xss) (left_is arb (take d xss) arb.position first at_position)

    pub pending_run : (d : ℕ) → pending_of plan i arb xss d
        ≡ pending (rule_of plan i) (own_of plan (i + 1)) arb.position (count_of arb i) (mine i xss) d
    pending_run d = rw (← left_first d, mine_at i d xss)

    pub served_in_run : (d j : ℕ) → d + j ≤ length xss → served_in_of plan i arb xss d j
        ≡ served_in (rule_of plan i) (own_of plan (i + 1)) arb.position (count_of arb i) (mine i xss) d j
    served_in_run d j fits =
        let first = runs_first plan arb xss d runs in
        let long = length-take-le d xss (omega arith) in
        let at = rw long at (position_after plan arb (take d xss) arb.position first at_position) in
        rw (← left_first d, ← mine_part i d j xss)
        (served_is (record_after plan arb (take d xss)) (take j (drop d xss)) (arb.position + d)
        (runs_part plan arb xss d j fits runs) at)
