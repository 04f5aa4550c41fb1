-- One step of the arbiter (document 01, The arbiter), and what is said of it.
use Rattle.std.specs.Prelude.{List, ℕ, zero, suc, ◌-◌, eqb, ltb, length, get_or, set, replicate, Ok, Err}
use Rattle.frame.specs.Frame.{next_of}
use Rattle.frame.specs.Queue.{Rule, one_slot, queue}
use Rattle.records.specs.declared.refusal.Refusal.TheVariants as refusal
use Rattle.records.specs.First.{pick, unless, or_else, Outcome}
use Rattle.records.specs.Said.{Said}
use Rattle.records.specs.Pieces.{onto, padded}
use Rattle.plan.specs.declared.Client.{Client}
use Rattle.plan.specs.declared.Plan.{Plan}
use Rattle.plan.specs.Plan.{client_of, owner_of}
use Rattle.plan.specs.Check.{plan_check}
use Rattle.arbiter.specs.declared.Arbiter.{Arbiter}
use Rattle.arbiter.specs.declared.Served.{Served}
use Rattle.arbiter.specs.declared.Stepped.{Stepped}

-- ---- one slot

-- the rule of a client's queue: one slot a request, whatever it requires
unfoldable pub rule_for : Client → Rule
rule_for x = one_slot

-- the rule of client i + 1's queue
abbrev pub rule_of : Plan → ℕ → Rule
rule_of plan i = rule_for (client_of plan i)

-- "a pending count of 0 to 255 for each client": that of client i + 1
abbrev pub count_of : Arbiter → ℕ → ℕ
count_of arb i = get_or arb.pending i 0

-- "Each client's arrivals": those of client i + 1 in a slot
abbrev pub arrived_of : List ℕ → ℕ → ℕ
arrived_of xs i = get_or xs i 0

-- "If the slot has an owner and its pending count is above 0, one of its requests is served": the client served, or 0
unfoldable pub served_by : ℕ → List ℕ → ℕ
served_by zero counts = 0
served_by (suc i) counts = pick (ltb 0 (get_or counts i 0)) (suc i) 0

-- "one of its requests is served": the counts with one less for the client served, which is 0 for none
unfoldable pub less_one : ℕ → List ℕ → List ℕ
less_one zero counts = counts
less_one (suc i) counts = set counts i (get_or counts i 0 - 1)

module _ (plan : Plan) (arb : Arbiter) (xs : List ℕ) where
  -- "arrivals .. join its pending count": what client i + 1 has pending in the slot
  abbrev pub queue_at : ℕ → ℕ
  queue_at i = queue (rule_of plan i) (count_of arb i) (arrived_of xs i)

  -- "The rest are turned away and counted against that client alone"
  abbrev pub turned_at : ℕ → ℕ
  turned_at i = (rule_of plan i).turns (count_of arb i) (arrived_of xs i)

  -- 1., the counts after arrivals: "Counts past n are not read and are kept"
  abbrev pub joined : List ℕ
  joined = onto queue_at plan.n arb.pending

  -- 2., the client served, or 0: "Otherwise the slot passes unused"
  abbrev pub served_now : ℕ
  served_now = served_by (owner_of plan arb.position) joined

  -- a step that is not refused. "The result names the client served, or 0, and each client's turned-away count, 0 past
  -- n"; 3., "The position goes on by one, from f − 1 to 0"
  unfoldable pub advanced : Stepped
  advanced =
      record {
        served = record { client = served_now; turned = padded turned_at plan.n 8 0 };
        next = record { position = next_of plan.f arb.position; pending = less_one served_now joined };
      }

-- ---- refusals

-- 17: "the arbiter's position is not below f"
unfoldable pub position_check : ℕ → ℕ → Outcome
position_check f position = unless (ltb position f) refusal.Position 0

-- 18: "the arrivals list does not have n entries"
unfoldable pub arrivals_check : ℕ → ℕ → Outcome
arrivals_check n arrived = unless (eqb arrived n) refusal.Arrivals 0

-- "a step 17, 18", after the plan's checks
unfoldable pub step_check : Plan → ℕ → ℕ → Outcome
step_check plan position arrived =
    or_else (plan_check plan) (or_else (position_check plan.f position) (arrivals_check plan.n arrived))

-- "A refusal .. returns .. all other results 0, leaves .. an arbiter record unchanged"
abbrev pub refused_step : Arbiter → Stepped
refused_step arb = record { served = record { client = 0; turned = replicate 8 0 }; next = arb }

-- what a step gives, by what its checks found
abbrev pub stepped_by : Outcome → Stepped → Arbiter → Stepped
stepped_by (Ok u) goes arb = goes
stepped_by (Err refused) goes arb = refused_step arb

-- one step, with this list of arrivals: whom it serves and the record after it
unfoldable pub step_of : Plan → Arbiter → List ℕ → Stepped
step_of plan arb xs = stepped_by (step_check plan arb.position (length xs)) (advanced plan arb xs) arb

-- ---- what is said of it

-- what it gives, or why it is refused, by what its checks found
abbrev pub said_by : Outcome → Stepped → Said Stepped
said_by (Ok u) goes = Ok goes
said_by (Err refused) goes = Err refused.why

-- that, with this list of arrivals
unfoldable pub step_said : Plan → Arbiter → List ℕ → Said Stepped
step_said plan arb xs = said_by (step_check plan arb.position (length xs)) (step_of plan arb xs)

-- the part of it that says whom the step serves
abbrev pub served_said : Said Stepped → Said Served
served_said (Ok stepped) = Ok stepped.served
served_said (Err why) = Err why
