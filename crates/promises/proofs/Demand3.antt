-- Demand 3, and what document 01 says of runs of the arbiter: each client's service on the arbiter's own steps. Each
-- statement is about a plan's run that is not refused (`Runs`), from any position and any pending counts, with any
-- lists of n arrivals, and about client i + 1 of the plan.
-- Assumes nothing.
use mathlib.Core.Path.{◌≡◌, sym, ap, ◌∙◌}
use mathlib.Core.List.{List, []}
use mathlib.Core.Logic.{⊎_elim, ◌↔◌}
use Prim.Native.Nat.{ℕ, ◌+◌, ◌%◌, ◌≤◌, ◌<◌}
use native.Mathlib.Nat.{mod-lt}
use native.Mathlib.Omega.{arith}
use lib.ListN.{length, get_or, take}
use lib.Seq.{ext_get_or}
use Rattle.std.specs.declared.result.Result.TheVariants as result
use Rattle.frame.specs.Frame.{within}
use Rattle.frame.specs.Queue.{most_pending}
use Rattle.frame.specs.Service.{Guaranteed, AlwaysPending}
use Rattle.frame.proofs.Queue.{conserved, left_room, served_part, served_most, alone as queue_alone}
use Rattle.frame.proofs.Service.{demand_three}
use Rattle.frame.proofs.Within.{own_mod}
use Rattle.records.specs.First.{number_of}
use Rattle.records.specs.Said.{said_number}
use Rattle.plan.specs.declared.Plan.{Plan}
use Rattle.plan.specs.Plan.{client_of, owner_of, own_of}
use Rattle.plan.proofs.Laws.{plan_fine, plan_pass, own_most}
use Rattle.figures.specs.Figures.{IsWaitFor}
use Rattle.figures.proofs.Laws.{frame_of}
use Rattle.figures.proofs.Questions.{wait_fine}
use Rattle.judge.specs.Judge.{Accepted}
use Rattle.judge.proofs.Laws.{accepted_guaranteed}
use Rattle.arbiter.specs.declared.Arbiter.{Arbiter}
use Rattle.arbiter.specs.Step.{rule_of, count_of, arrived_of, step_of, step_said}
use Rattle.arbiter.specs.Run.{record_after, total_of, Runs, served_of, turned_of, taken_of, pending_of, served_in_of}
use Rattle.arbiter.specs.Run.{AlwaysPendingOf, Agree}
use Rattle.arbiter.proofs.Runs.{mine, mine_at, mine_length, mine_first, runs_first, served_run, turned_run, taken_run}
use Rattle.arbiter.proofs.Runs.{left_run, pending_run, served_in_run, steps_at}
use Rattle.arbiter.proofs.Questions.{step_pass}
use Rattle.arbiter.proofs.Slots.{step_number, step_named}
use Rattle.arbiter.proofs.Laws.{rule_lawful, agree_rule, step_bounds, taken_rest, run_in_wait}

module _ (plan : Plan) (arb : Arbiter) (xss : List (List ℕ)) (runs : Runs plan arb xss) (i : ℕ) (i< : i < plan.n) where
  -- ---- demand 3

  one_pending : (d j : ℕ) → AlwaysPendingOf plan i arb xss d j
      → AlwaysPending (rule_of plan i) (own_of plan (i + 1)) arb.position (count_of arb i) (mine i xss) d j
  one_pending d j always =
      record {
        fits = omega (arith, always.fits, mine_length i xss);
        each = λ e l. rw (← pending_run plan i i< arb xss runs (d + e)) (always.each e l);
      }

  -- "Take any run of consecutive slots in each of which a drive has a request pending. Subtract its required latency
  -- from the run's length and multiply by its required rate: it is served at least that often in the run"
  pub served_enough : Accepted plan → (d j : ℕ) → AlwaysPendingOf plan i arb xss d j
      → Guaranteed (client_of plan i).p (client_of plan i).q (client_of plan i).a (client_of plan i).b j
      (served_in_of plan i arb xss d j)
  served_enough accepted d j always =
      let slots = accepted_guaranteed plan (plan_fine plan runs.checked).bounds.f_low accepted i i< in
      let most = own_most plan.owners plan.f (i + 1) in
      rw (served_in_run plan i i< arb xss runs d j always.fits)
      (demand_three (rule_of plan i) (own_of plan (i + 1)) most _ _ _ _ slots arb.position (count_of arb i) (mine i xss)
      d j (one_pending d j always))

  -- what it is served in the first d slots and in the j slots from slot d on is what it is served in d + j slots
  pub served_parts : (d j : ℕ) → d + j ≤ length xss
      → served_of plan i arb (take (d + j) xss) ≡ served_of plan i arb (take d xss) + served_in_of plan i arb xss d j
  served_parts d j fits =
      rw (
        served_run plan i i< arb (take (d + j) xss) (runs_first plan arb xss (d + j) runs),
        served_run plan i i< arb (take d xss) (runs_first plan arb xss d runs),
        served_in_run plan i i< arb xss runs d j fits,
        mine_first i (d + j) xss,
        mine_first i d xss,
      )
      (served_part (rule_of plan i) (own_of plan (i + 1)) arb.position (count_of arb i) (mine i xss) d j
      (omega (arith, fits, mine_length i xss)))

  -- "It is served at most once in a slot it owns, and never in another": in any j slots of a run, at most as often as
  -- it owns one of them; a single slot is j 1
  pub served_owned : (d j : ℕ) → d + j ≤ length xss
      → served_in_of plan i arb xss d j ≤ within (own_of plan (i + 1)) (arb.position + d) j
  served_owned d j fits =
      rw (served_in_run plan i i< arb xss runs d j fits)
      (served_most (rule_of plan i) (own_of plan (i + 1)) arb.position (count_of arb i) (mine i xss) d j
      (omega (arith, fits, mine_length i xss)))

  -- ---- document 01, "Over any run of steps on one unchanged plan, none refused"

  -- "pending at the end plus served equals pending at the start plus taken, client by client"
  pub conservation : count_of (record_after plan arb xss) i + served_of plan i arb xss
      ≡ count_of arb i + taken_of plan i arb xss
  conservation =
      rw (left_run plan i i< arb xss runs, served_run plan i i< arb xss runs, taken_run plan i i< arb xss runs)
      (conserved (rule_of plan i) (own_of plan (i + 1)) arb.position (count_of arb i) (mine i xss))

  -- "The rest are turned away": what is taken and what is turned away make up what arrived
  pub taken_or_turned : taken_of plan i arb xss + turned_of plan i arb xss
      ≡ total_of plan (λ at xs. arrived_of xs i) arb xss
  taken_or_turned = taken_rest plan i i< arb xss runs

  -- "a request that is k-th in its queue after arrivals is served within the wait for k, that slot counted first"
  pub served_in_time : (k slots : ℕ) → IsWaitFor plan (i + 1) k (result.Ok slots)
      → (d : ℕ) → k ≤ pending_of plan i arb xss d → d + slots ≤ length xss → k ≤ served_in_of plan i arb xss d slots
  served_in_time k slots is d l fits =
      let frame = frame_of plan (i + 1) (wait_fine plan (i + 1) k is.0).asked.checked.bounds.f_low in
      run_in_wait plan i i< arb xss runs frame is.1.scaled.bounded d k slots is.1.least.enough l fits

  -- "a pending count of 0 to 255"
  pub count_room : count_of arb i ≤ most_pending → count_of (record_after plan arb xss) i ≤ most_pending
  count_room l =
      let law = rule_lawful plan i in
      rw (left_run plan i i< arb xss runs)
      (left_room (rule_of plan i) (own_of plan (i + 1)) law arb.position (count_of arb i) (mine i xss) l)

-- ---- "What other drives request changes none of its service"

module _ (i : ℕ) (plan other : Plan) (arb arb' : Arbiter) (xss yss : List (List ℕ))
    (agree : Agree i plan other arb arb' xss yss) where
  mine_same : mine i xss ≡ mine i yss
  mine_same =
      ext_get_or 0 (mine i xss) (mine i yss) (mine_length i xss ∙ agree.long ∙ sym (mine_length i yss))
      (λ d l. mine_at i d xss ∙ agree.arrivals d ∙ sym (mine_at i d yss))

  own_same : 0 < plan.f → (s : ℕ) → own_of plan (i + 1) s ≡ own_of other (i + 1) s
  own_same f> s =
      let frame = frame_of plan (i + 1) f> in
      let frame' = frame_of other (i + 1) (omega (arith, f>, agree.frame)) in
      sym (own_mod frame s) ∙ agree.slots (s % plan.f) (mod-lt s f>)
      ∙ ap (λ (f : ℕ). own_of other (i + 1) (s % f)) agree.frame ∙ own_mod frame' s

  -- "two runs that agree on f, n, position, one client's slots, its pending count and its arrivals give that client the
  -- same service, pending and turned-away counts", after each number d of slots
  pub alone : i < plan.n → Runs plan arb xss → Runs other arb' yss → (d : ℕ)
      → (served_of plan i arb (take d xss) ≡ served_of other i arb' (take d yss))
      × (count_of (record_after plan arb (take d xss)) i ≡ count_of (record_after other arb' (take d yss)) i)
      × (turned_of plan i arb (take d xss) ≡ turned_of other i arb' (take d yss))
  alone i< runs runs' d =
      let first = runs_first plan arb xss d runs in
      let first' = runs_first other arb' yss d runs' in
      let i<' : i < other.n = omega (arith, i<, agree.count) in
      let xs : mine i (take d xss) ≡ mine i (take d yss) =
      mine_first i d xss ∙ ap (take d) mine_same ∙ sym (mine_first i d yss) in
      let same = own_same (plan_fine plan runs.checked).bounds.f_low in
      rw (
        served_run plan i i< arb (take d xss) first,
        served_run other i i<' arb' (take d yss) first',
        left_run plan i i< arb (take d xss) first,
        left_run other i i<' arb' (take d yss) first',
        turned_run plan i i< arb (take d xss) first,
        turned_run other i i<' arb' (take d yss) first',
        agree_rule agree,
        xs,
        agree.position,
        agree.pending,
      )
      (queue_alone (rule_of other i) (own_of plan (i + 1)) (own_of other (i + 1)) same arb'.position (count_of arb' i)
      (mine i (take d yss)))

-- ---- each step

-- "never in another": a step names the owner of its slot, or nobody
pub served_its_owner : (plan : Plan) (arb : Arbiter) (xs : List ℕ) (c : ℕ) → 0 < c
    → (step_of plan arb xs).served.client ≡ c → owner_of plan arb.position ≡ c
served_its_owner plan arb xs c c> e =
    ⊎_elim
    (λ (h : (step_of plan arb xs).served.client ≡ 0). absurd (omega arith))
    (λ (h : (step_of plan arb xs).served.client ≡ owner_of plan arb.position). sym h ∙ e)
    (step_named plan arb xs)

-- "none refused": no step of a run is refused exactly when its plan is in bounds, its position below f, and each of its
-- lists has n entries
pub refused_nowhere : (plan : Plan) (arb : Arbiter) (xss : List (List ℕ)) → 0 < length xss
    → Runs plan arb xss ↔ ((d : ℕ) → d < length xss
    → said_number (step_said plan (record_after plan arb (take d xss)) (get_or xss d [])) ≡ 0)
unfolding record_after
refused_nowhere plan arb xss some = (
  λ runs d l.
      let ok = steps_at plan arb xss d runs l in
      let at = record_after plan arb (take d xss) in
      step_number plan at (get_or xss d [])
      ∙ ap number_of (step_pass plan at.position (length (get_or xss d [])) ok),
  λ none.
      let first = step_bounds plan arb (get_or xss 0 []) (none 0 some) in
      record {
        checked = plan_pass plan first.checked;
        position = first.below;
        lists = λ d l. (step_bounds plan (record_after plan arb (take d xss)) (get_or xss d []) (none d l)).many;
      },
)
