-- Which plans are accepted, where judging stops, and what is answered (document 01, Judging and searching).
use Rattle.std.specs.Prelude.{◌≡◌, false, ℕ, ◌+◌, ◌-◌, ◌<◌, ◌≤◌}
use Rattle.records.specs.Said.{Said, Answers}
use Rattle.plan.specs.declared.Plan.{Plan}
use Rattle.plan.specs.Plan.{client_of, own_of}
use Rattle.plan.specs.Check.{plan_check, asked_check}
use Rattle.judge.specs.declared.Verdict.{Verdict}
use Rattle.judge.specs.declared.Verdict.TheVariants.{Ok, Rate, Late}
use Rattle.judge.specs.declared.Judgement.{Judgement}
use Rattle.judge.specs.Rules.{has_rate, IsOk, IsLate, IsVerdict}

-- a verdict's number, by which C callers are told it: `ok` 0, `rate` 1, `late` 2
abbrev pub verdict_number : Verdict → ℕ
verdict_number Ok = 0
verdict_number Rate = 1
verdict_number Late = 2

-- ---- a plan

-- client i + 1 of a plan is `ok`
abbrev pub ClientOk : Plan → ℕ → Type 0
ClientOk plan i = IsOk (client_of plan i) (own_of plan (i + 1)) plan.f

-- clients from + 1 to `to` are
pub record AllOk (plan : Plan) (from to : ℕ) : Type 0 where
  pub each : (i : ℕ) → from ≤ i → i < to → ClientOk plan i

-- "A plan is accepted exactly when all are `ok`"
abbrev pub Accepted : Plan → Type 0
Accepted plan = AllOk plan 0 plan.n

-- "judging stops at the first client": of clients from + 1 to `to`, c is the first that is not `ok`, and P says why
pub record First (plan : Plan) (from to c : ℕ) (P : ℕ → Type 0) : Type 0 where
  pub place : ℕ
  pub client : c ≡ place + 1
  pub low : from ≤ place
  pub high : place < to
  pub before : AllOk plan from place
  pub fails : P place

-- judging clients from + 1 to `to` "names client, verdict and, if `late`, that stretch's start and length (0 and 0
-- otherwise ..)"; where all are `ok` the client is 0
abbrev pub JudgedAs : Plan → ℕ → ℕ → Verdict → (c s j : ℕ) → Type 0
JudgedAs plan from to Ok c s j = AllOk plan from to × (c ≡ 0) × (s ≡ 0) × (j ≡ 0)
JudgedAs plan from to Rate c s j =
    First plan from to c (λ i. has_rate (client_of plan i) (own_of plan (i + 1)) plan.f ≡ false) × (s ≡ 0) × (j ≡ 0)
JudgedAs plan from to Late c s j =
    First plan from to c (λ i. IsLate (client_of plan i) (own_of plan (i + 1)) plan.f s j)

-- the same of a judgement
abbrev pub IsJudgement : Plan → ℕ → ℕ → Judgement → Type 0
IsJudgement plan from to r = JudgedAs plan from to r.verdict r.client r.start r.length

-- the judgement of an accepted plan: no client, no stretch
abbrev pub acceptance : Judgement
acceptance = record { client = 0; verdict = Ok; start = 0; length = 0 }

-- what judging a plan answers
abbrev pub IsJudged : Plan → Said Judgement → Type 0
IsJudged plan = Answers (plan_check plan) (IsJudgement plan 0 plan.n)

-- ---- one client

-- what is answered of client c: the plan's checks, 13, then its verdict; a client without slots has one, too
abbrev pub IsVerdictOf : Plan → ℕ → Said Verdict → Type 0
IsVerdictOf plan c = Answers (asked_check plan c) (IsVerdict (client_of plan (c - 1)) (own_of plan c) plan.f)
