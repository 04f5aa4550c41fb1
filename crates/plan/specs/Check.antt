-- A plan's checks: "5, 6, then 8 and 9 client by client, then 10 slot by slot", and 13 (document 01, Refusal numbers).
use Rattle.std.specs.Prelude.{ℕ, leb}
use Rattle.records.specs.declared.refusal.Refusal.TheVariants as refusal
use Rattle.records.specs.First.{between, unless, range_check, or_else, first_of, Outcome}
use Rattle.plan.specs.declared.Client.{Client}
use Rattle.plan.specs.declared.Plan.{Plan}
use Rattle.plan.specs.Plan.{client_of, owner_of}

-- 5: f is not 1 to 64
abbrev pub frame_check : ℕ → Outcome
frame_check f = range_check f 64 refusal.Frame

-- 6: n is not 1 to 8
abbrev pub count_check : ℕ → Outcome
count_check n = range_check n 8 refusal.Count

-- 8: p is 0, q is 0 or p > q, that is, p is not 1 to q; then 9: b is 0
unfoldable pub client_check : Client → ℕ → Outcome
client_check c offset =
    or_else (unless (between 1 c.p c.q) refusal.Rate offset) (unless (leb 1 c.b) refusal.Latency offset)

-- 10: an owner exceeds n
unfoldable pub owner_check : ℕ → ℕ → ℕ → Outcome
owner_check owner n offset = unless (leb owner n) refusal.Owner offset

-- 8 and 9 of client i + 1 of a plan
unfoldable pub client_check_of : Plan → ℕ → Outcome
client_check_of plan i = client_check (client_of plan i) 0

-- the requirements: "5, 6, then 8 and 9 client by client"
unfoldable pub requirements_check : Plan → Outcome
requirements_check plan =
    or_else (frame_check plan.f) (or_else (count_check plan.n) (first_of (client_check_of plan) plan.n))

-- 10 of slot x of a plan
unfoldable pub owner_check_of : Plan → ℕ → Outcome
owner_check_of plan x = owner_check (owner_of plan x) plan.n 0

-- the owners: "then 10 slot by slot"
unfoldable pub owners_check : Plan → Outcome
owners_check plan = first_of (owner_check_of plan) plan.f

-- the whole plan: "All else that takes a plan checks it first"
unfoldable pub plan_check : Plan → Outcome
plan_check plan = or_else (requirements_check plan) (owners_check plan)

-- a question about client c: the plan's checks, then 13: "the client asked about is not 1 to n"
unfoldable pub asked_check : Plan → ℕ → Outcome
asked_check plan c = or_else (plan_check plan) (range_check c plan.n refusal.Asked)
