-- Laws of the arbiter's step for crates above: what a step takes, turns away, serves and leaves, client by client, and
-- when a request is served.
-- Assumes nothing.
use mathlib.Core.Path.{◌≡◌, refl, sym, ap, ◌∙◌}
use mathlib.Core.List.{List, [], ◌∷◌}
use Prim.Native.Nat.{ℕ, suc, ◌+◌, ◌*◌, ◌≤◌, ◌<◌}
use native.Mathlib.Omega.{arith}
use lib.ListN.{length, get_or, take}
use Rattle.frame.specs.Frame.{Frame, Bounded}
use Rattle.frame.specs.Queue.{Lawful, most_pending}
use Rattle.frame.proofs.Queue.{one_slot_lawful, one_slot_rest}
use Rattle.frame.proofs.Service.{served_in_wait}
use Rattle.records.specs.Said.{said_number}
use Rattle.records.proofs.Refusals.{gives_fine}
use Rattle.records.proofs.Lists.{onto_past, padded_past, get_replicate}
use Rattle.plan.specs.declared.Plan.{Plan}
use Rattle.plan.specs.Plan.{owner_of, is_client, own_of, Same}
use Rattle.arbiter.specs.declared.Arbiter.{Arbiter}
use Rattle.arbiter.specs.declared.Stepped.{Stepped}
use Rattle.arbiter.specs.Step.{rule_for, rule_of, count_of, arrived_of, queue_at, turned_at, joined, served_now}
use Rattle.arbiter.specs.Step.{advanced, step_of, step_said}
use Rattle.arbiter.specs.Run.{record_after, total_of, Runs, served_of, taken_of, turned_of, pending_of, served_in_of}
use Rattle.arbiter.specs.Run.{Agree}
use Rattle.arbiter.specs.Entries.{step_numbers}
use Rattle.arbiter.proofs.Questions.{Steps, step_fine}
use Rattle.arbiter.proofs.Refusals.{step_gives}
use Rattle.arbiter.proofs.Slots.{served_at_most, less_other, either, step_number}
use Rattle.arbiter.proofs.Runs.{place_itself, mine, mine_length, step_served, step_left, step_turned, pending_run}
use Rattle.arbiter.proofs.Runs.{served_in_run, steps_at, runs_on}

-- ---- the rule in force

pub rule_lawful : (plan : Plan) (i : ℕ) → Lawful (rule_of plan i)
unfolding rule_for
rule_lawful plan i = one_slot_lawful

-- a client that is the same has the same rule
pub same_rule : (plan other : Plan) → Same plan other → (i : ℕ) → i < plan.n → rule_of plan i ≡ rule_of other i
same_rule plan other same i l = ap rule_for (same.clients i l)

-- and so has one of which two runs agree
pub agree_rule : {i : ℕ} {plan other : Plan} {arb arb' : Arbiter} {xss yss : List (List ℕ)}
    → Agree i plan other arb arb' xss yss → rule_of plan i ≡ rule_of other i
unfolding rule_for
agree_rule agree = refl

-- what is taken and what is turned away make up what arrives
pub rule_rest : (plan : Plan) (i v x : ℕ) → (rule_of plan i).takes v x + (rule_of plan i).turns v x ≡ x
unfolding rule_for
rule_rest plan i v x = one_slot_rest v x

-- all of it is taken while there is room
pub rule_all : (plan : Plan) (i v x : ℕ) → v + x ≤ most_pending → (rule_of plan i).takes v x ≡ x
unfolding rule_for
rule_all plan i v x l = omega arith

-- ---- one step

module _ (plan : Plan) (arb : Arbiter) (xs : List ℕ) (ok : Steps plan arb.position (length xs)) where
  module _ (i : ℕ) (i< : i < plan.n) where
    -- left and served make up what was pending and what is taken
    pub step_balance : count_of (step_of plan arb xs).next i
        + is_client (i + 1) (step_of plan arb xs).served.client
        ≡ count_of arb i + (rule_of plan i).takes (count_of arb i) (arrived_of xs i)
    step_balance =
        let s = arb.position in
        let here = place_itself plan.f s ok.below in
        omega (arith, step_left plan arb xs ok i i< s here, step_served plan arb xs ok i i< s here)

    -- what is taken and what is turned away make up what arrives, so that no more is taken
    pub step_rest : (rule_of plan i).takes (count_of arb i) (arrived_of xs i)
        + get_or (step_of plan arb xs).served.turned i 0 ≡ arrived_of xs i
    step_rest = rw (step_turned plan arb xs ok i i<) (rule_rest plan i (count_of arb i) (arrived_of xs i))

  advanced_kept : (i : ℕ) → plan.n ≤ i → count_of (advanced plan arb xs).next i ≡ count_of arb i
  unfolding advanced
  advanced_kept i n≤ =
      let owner = ok.checked.owned arb.position ok.below in
      let most = served_at_most (owner_of plan arb.position) (joined plan arb xs) in
      less_other (served_now plan arb xs) i (joined plan arb xs) (omega (arith, owner, most))
      ∙ onto_past (queue_at plan arb xs) plan.n arb.pending 0 i n≤

-- ---- past n, whether a step is refused or not

-- "Counts past n are not read and are kept"
pub step_kept : (plan : Plan) (arb : Arbiter) (xs : List ℕ) (i : ℕ) → plan.n ≤ i
    → count_of (step_of plan arb xs).next i ≡ count_of arb i
step_kept plan arb xs i n≤ =
    either (λ (r : Stepped). count_of r.next i ≡ count_of arb i) plan arb xs refl
    (λ fine. advanced_kept plan arb xs (step_fine plan _ _ fine) i n≤)

-- "each client's turned-away count, 0 past n"
pub step_none : (plan : Plan) (arb : Arbiter) (xs : List ℕ) (i : ℕ) → plan.n ≤ i
    → get_or (step_of plan arb xs).served.turned i 0 ≡ 0
unfolding advanced
step_none plan arb xs i n≤ =
    either (λ (r : Stepped). get_or r.served.turned i 0 ≡ 0) plan arb xs (get_replicate 8 0 i)
    (λ fine. padded_past (turned_at plan arb xs) plan.n 8 0 i n≤)

-- a step that is not refused has the bounds
pub step_bounds : (plan : Plan) (arb : Arbiter) (xs : List ℕ)
    → said_number (step_said plan arb xs) ≡ 0 → Steps plan arb.position (length xs)
step_bounds plan arb xs none =
    let gives = step_gives plan arb.position (length xs) in
    step_fine plan _ _ (gives_fine step_numbers refl _ gives (sym (step_number plan arb xs) ∙ none))

-- ---- a run of steps

-- what is taken and what is turned away make up what arrived
pub taken_rest : (plan : Plan) (i : ℕ) → i < plan.n → (arb : Arbiter) (xss : List (List ℕ)) → Runs plan arb xss
    → taken_of plan i arb xss + turned_of plan i arb xss ≡ total_of plan (λ arb xs. arrived_of xs i) arb xss
unfolding total_of record_after
taken_rest plan i i< arb [] runs = refl
taken_rest plan i i< arb (xs ∷ xss) runs =
    let here = step_rest plan arb xs (steps_at plan arb (xs ∷ xss) 0 runs (omega arith)) i i< in
    omega (arith, here, taken_rest plan i i< (step_of plan arb xs).next xss (runs_on plan arb xs xss runs))

-- "a request that is k-th in its queue after arrivals", in slot d, "is served within the wait for k, that slot counted
-- first": within any r slots with L + k × f ≤ m × r, of which the wait is the least
pub run_in_wait : (plan : Plan) (i : ℕ) → i < plan.n → (arb : Arbiter) (xss : List (List ℕ)) → Runs plan arb xss
    → {m L : ℕ} → Frame (own_of plan (i + 1)) plan.f m → Bounded (own_of plan (i + 1)) plan.f m L
    → (d k r : ℕ) → L + k * plan.f ≤ m * r → k ≤ pending_of plan i arb xss d → d + r ≤ length xss
    → k ≤ served_in_of plan i arb xss d r
run_in_wait plan i i< arb xss runs frame bounded d k r enough l fits =
    rw (served_in_run plan i i< arb xss runs d r fits)
    (served_in_wait (rule_of plan i) frame bounded arb.position (count_of arb i) (mine i xss) d k r enough
    (omega (arith, l, pending_run plan i i< arb xss runs d)) (omega (arith, fits, mine_length i xss)))

-- from the run's first slot on
pub first_in_wait : (plan : Plan) (i : ℕ) → i < plan.n → (arb : Arbiter) (xs : List ℕ) (xss : List (List ℕ))
    → Runs plan arb (xs ∷ xss)
    → {m L : ℕ} → Frame (own_of plan (i + 1)) plan.f m → Bounded (own_of plan (i + 1)) plan.f m L
    → (k r : ℕ) → L + k * plan.f ≤ m * r → k ≤ queue_at plan arb xs i → r ≤ suc (length xss)
    → k ≤ served_of plan i arb (take r (xs ∷ xss))
unfolding record_after
first_in_wait plan i i< arb xs xss runs frame bounded k r enough l fits =
    run_in_wait plan i i< arb (xs ∷ xss) runs frame bounded 0 k r enough l (omega arith)
