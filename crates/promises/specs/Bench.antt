-- The bench examples of document 01 that are marked P, 11 to 13 with them, two more schedules and more steps, and the
-- refusals of figures, waits, searches and steps: a question, and the answer that its contract allows, and no other;
-- besides a search at its limits, and a run in which one request is pending. Refusal numbers and limits are written
-- out, so that a name with another number is refused. `bench` in proofs/Bench.antt proves them all.
use Rattle.records.specs.Said.{Said}
use Rattle.std.specs.declared.result.Result.TheVariants as result
use Rattle.std.specs.Prelude.{◌≡◌, List, [], ◌∷◌, ◌++◌, ℕ, ◌-◌, ◌<◌, eqb, length, get_or, replicate, Some, None}
use Rattle.records.specs.declared.refusal.Refusal.{Refusal}
use Rattle.records.specs.Refusal.{number}
use Rattle.records.specs.First.{pick, among, Fine}
use Rattle.records.specs.Pieces.{padded}
use Rattle.plan.specs.declared.Client.{Client}
use Rattle.plan.specs.declared.Plan.{Plan}
use Rattle.plan.specs.Plan.{no_client, default_waiting}
use Rattle.figures.specs.declared.Figure.{Figure}
use Rattle.figures.specs.Figures.{IsFigures, IsWaitFor}
use Rattle.judge.specs.declared.Verdict.TheVariants.{Late}
use Rattle.judge.specs.Judge.{acceptance, IsJudged}
use Rattle.search.specs.Search.{idle_plan, search_check, IsSearched}
use Rattle.arbiter.specs.declared.Arbiter.{Arbiter}
use Rattle.arbiter.specs.declared.Stepped.{Stepped}
use Rattle.arbiter.specs.Step.{refused_step, step_of, step_said}
use Rattle.arbiter.specs.Run.{Runs, served_of, pending_of, AlwaysPendingOf}

-- one client's schedule: a frame of f slots in which it owns those of the list
pub record Schedule : Type 0 where
  pub f : ℕ
  pub slots : List ℕ

-- the schedule as the plan of its client, which requires this much
unfoldable pub schedule_plan : Client → Schedule → Plan
schedule_plan client t =
    record {
      f = t.f;
      n = 1;
      clients = padded (λ i. client) 1 8 no_client;
      owners = padded (λ x. pick (among x t.slots) 1 0) t.f 64 0;
    }

-- the least that a client can require
abbrev pub little : Client
little = record { p = 1; q = 65535; a = 65535; b = 1 }

-- what a client requires: the rate p/q and the latency a/b
abbrev pub requiring : (p q a b : ℕ) → Client
requiring p q a b = record { p = p; q = q; a = a; b = b }

-- the search of f slots for n clients that all require this much
unfoldable pub search_plan : ℕ → ℕ → Client → Plan
search_plan f n client = idle_plan f n (padded (λ i. client) n 8 no_client)

-- a question with its answer
pub data Question : Type 0 where
  -- a schedule's m and L
  figure : Schedule → (m L : ℕ) → Question
  -- its wait for k
  waiting : Schedule → (k slots : ℕ) → Question
  -- its wait asked without a number
  default_wait : Schedule → (slots : ℕ) → Question
  -- the figures of client c of its plan: refused with this number
  refused_figure : Schedule → (c number : ℕ) → Question
  -- so is the wait of client c for k
  refused_wait : Schedule → (c k number : ℕ) → Question
  -- judging its plan, the client requiring this much: accepted
  accepted : Schedule → Client → Question
  -- or late, from slot s on for j slots
  late : Schedule → Client → (s j : ℕ) → Question
  -- the search of f slots for n clients that require this much: the table found
  found : (f n : ℕ) → Client → List ℕ → Question
  -- or none
  none : (f n : ℕ) → Client → Question
  -- or a search that is refused with this number
  search_refused : (f n : ℕ) → Client → (number : ℕ) → Question
  -- or one that is not refused
  searchable : (f n : ℕ) → Client → Question
  -- a step of the arbiter from this record, with these arrivals: what it gives
  steps : Plan → Arbiter → List ℕ → Stepped → Question
  -- or one that is refused with this number, and leaves the record
  step_refused : Plan → Arbiter → List ℕ → (number : ℕ) → Question
  -- a run from this record, with these arrivals, in each slot of which client i + 1 has one request pending: how often
  -- it is served
  one_pending : Plan → (i : ℕ) → Arbiter → List (List ℕ) → (served : ℕ) → Question

-- the contract Is allows an answer, and every answer that it allows is as This says
pub record Answered {A : Type 0} (Is This : A → Type 0) : Type 0 where
  pub answer : A
  pub is : Is answer
  pub only : (r : A) → Is r → This r

-- it allows this answer, and no other
abbrev pub Only : {A : Type 0} → (A → Type 0) → A → Type 0
Only Is answer = Answered Is (λ r. r ≡ answer)

-- it allows a refusal with this number, and nothing else
pub record Refuses {A : Type 0} (Is : Said A → Type 0) (n : ℕ) : Type 0 where
  pub why : Refusal
  pub numbered : number why ≡ n
  pub only : Only Is (result.Err why)

-- a figure is given, and it has this m and this L
pub record HasFigure (m L : ℕ) (r : Said Figure) : Type 0 where
  pub figure : Figure
  pub given : r ≡ result.Ok figure
  pub slots : figure.slots ≡ m
  pub scaled : figure.scaled ≡ L

-- demand 3, "a run of consecutive slots in each of which a drive has a request pending": client i + 1 has one and no
-- more, and that is a run in which it has a request pending
pub record OnePending (plan : Plan) (i : ℕ) (arb : Arbiter) (xss : List (List ℕ)) : Type 0 where
  pub runs : Runs plan arb xss
  pub one : (d : ℕ) → d < length xss → pending_of plan i arb xss d ≡ 1
  pub always : AlwaysPendingOf plan i arb xss 0 (length xss)

-- the answer is this one; it is a refusal in those questions alone that say so. A search at its limits is not refused,
-- and a run serves its client so often
abbrev pub Right : Question → Type 0
Right (figure t m L) = Answered (IsFigures (schedule_plan little t) 1) (HasFigure m L)
Right (waiting t k slots) = Only (IsWaitFor (schedule_plan little t) 1 k) (result.Ok slots)
Right (default_wait t slots) = Only (IsWaitFor (schedule_plan little t) 1 default_waiting) (result.Ok slots)
Right (refused_figure t c number) = Refuses (IsFigures (schedule_plan little t) c) number
Right (refused_wait t c k number) = Refuses (IsWaitFor (schedule_plan little t) c k) number
Right (accepted t client) = Only (IsJudged (schedule_plan client t)) (result.Ok acceptance)
Right (late t client s j) =
    Only (IsJudged (schedule_plan client t))
    (result.Ok (record { client = 1; verdict = Late; start = s; length = j }))
Right (found f n client table) =
    Only (IsSearched (search_plan f n client)) (result.Ok (Some (table ++ replicate (64 - f) 0)))
Right (none f n client) = Only (IsSearched (search_plan f n client)) (result.Ok None)
Right (search_refused f n client number) = Refuses (IsSearched (search_plan f n client)) number
Right (searchable f n client) = search_check (search_plan f n client) ≡ Fine
Right (steps plan arb xs goes) = Only (λ r. r ≡ step_said plan arb xs) (result.Ok goes)
Right (step_refused plan arb xs number) =
    Refuses (λ r. r ≡ step_said plan arb xs) number × (step_of plan arb xs ≡ refused_step arb)
Right (one_pending plan i arb xss served) = OnePending plan i arb xss × (served_of plan i arb xss ≡ served)

-- all of a list are right
abbrev pub AllRight : List Question → Type 0
AllRight [] = Unit {0}
AllRight (e ∷ es) = Right e × AllRight es

-- the schedules of P1 to P6
abbrev pub p1 : Schedule
p1 = record { f = 6; slots = 0 ∷ 1 ∷ [] }

abbrev pub p2 : Schedule
p2 = record { f = 6; slots = 0 ∷ 3 ∷ [] }

abbrev pub p3 : Schedule
p3 = record { f = 1; slots = 0 ∷ [] }

abbrev pub p4 : Schedule
p4 = record { f = 8; slots = 0 ∷ 1 ∷ 2 ∷ 5 ∷ [] }

abbrev pub p5 : Schedule
p5 = record { f = 21; slots = 0 ∷ 1 ∷ 2 ∷ 3 ∷ 4 ∷ 5 ∷ 6 ∷ 7 ∷ 8 ∷ 9 ∷ 13 ∷ 17 ∷ [] }

abbrev pub p6 : Schedule
p6 = record { f = 64; slots = 0 ∷ [] }

-- "Stretches that don't go round the frame's end: f 6, slots 1 and 2 then gives L 6 and not 8"
abbrev pub round : Schedule
round = record { f = 6; slots = 1 ∷ 2 ∷ [] }

-- "14 .. that client owns no slot"
abbrev pub slotless : Schedule
slotless = record { f = 1; slots = [] }

-- source 000, Figure 3: the service latency is 4, the longest gap 3
abbrev pub figure3 : Schedule
figure3 = record { f = 10; slots = 3 ∷ 6 ∷ 7 ∷ 8 ∷ 9 ∷ [] }

-- document 01, Programs, "the report's plan": f 8, n 2; "rate 1/2, latency 2/1 for client 1; rate 1/4, latency 3/1 for
-- client 2; owners 1 1 1 2 0 1 0 2"
abbrev pub report_plan : Plan
report_plan =
    record {
      f = 8;
      n = 2;
      clients = padded (λ i. pick (eqb i 0) (requiring 1 2 2 1) (requiring 1 4 3 1)) 2 8 no_client;
      owners = padded (λ x. get_or (1 ∷ 1 ∷ 1 ∷ 2 ∷ 0 ∷ 1 ∷ 0 ∷ 2 ∷ []) x 0) 8 64 0;
    }

-- these counts of clients 1 and 2, and 0 past them
abbrev pub counts : ℕ → ℕ → List ℕ
counts a b = padded (λ i. pick (eqb i 0) a b) 2 8 0

-- the record at this position, with a and b pending
abbrev pub holding : ℕ → ℕ → ℕ → Arbiter
holding position a b = record { position = position; pending = counts a b }

-- a step that serves this client, or 0, with so many turned away, and leaves this record
abbrev pub serving : ℕ → List ℕ → Arbiter → Stepped
serving client turned next = record { served = record { client = client; turned = turned }; next = next }

-- the record at this position of a plan with one client, who has none pending
abbrev pub empty : ℕ → Arbiter
empty position = record { position = position; pending = replicate 8 0 }

-- the arrivals of its client, slot by slot
abbrev pub arriving : List ℕ → List (List ℕ)
arriving [] = []
arriving (x ∷ xs) = (x ∷ []) ∷ arriving xs

-- P1 to P6, the schedule of the second slip, and the paper's; P7 and P8, late by the stretch that begins in slot
-- 3 and has one slot in five; P9 and P10, 11 to 13. A wait asked without a number: of P4 it is (12 + 8)/4, for two
-- requests 7; of P5 (90 + 21)/12 rounded up, for two 11. Then refusals, steps and a run
unfoldable pub questions : List Question
questions =
    figure p1 2 8
    ∷ figure p2 2 4
    ∷ figure p3 1 0
    ∷ waiting p3 1 1
    ∷ figure p4 4 12
    ∷ figure p5 12 90
    ∷ waiting p5 3 13
    ∷ figure p6 1 63
    ∷ waiting p6 255 16383
    ∷ default_wait p4 5
    ∷ default_wait p5 10
    ∷ figure round 2 8
    ∷ figure figure3 5 20
    ∷ accepted p4 (requiring 1 2 3 1)
    ∷ late p4 (requiring 1 2 299 100) 3 5
    ∷ found 3 2 (requiring 1 3 2 1) (0 ∷ 1 ∷ 2 ∷ [])
    ∷ none 3 2 (requiring 1 3 3 2)
    ∷ none 3 2 (requiring 1 2 2 1)
    ∷ found 4 1 (requiring 1 2 1 1) (0 ∷ 1 ∷ 0 ∷ 1 ∷ [])
    -- "13 .. the client asked about is not 1 to n", before 14; 14; "15 .. the waiting number is not 1 to 255", after 14
    ∷ refused_figure p3 0 13
    ∷ refused_figure p3 2 13
    ∷ refused_figure slotless 2 13
    ∷ refused_figure slotless 1 14
    ∷ refused_wait slotless 1 256 14
    ∷ refused_wait p3 1 0 15
    ∷ refused_wait p3 1 256 15
    -- "16 .. search with f > 8 or n > 4"
    ∷ search_refused 9 4 (requiring 1 8 7 1) 16
    ∷ search_refused 8 5 (requiring 1 8 7 1) 16
    ∷ searchable 8 4 (requiring 1 8 7 1)
    -- example 13; slot 3, which is client 2's, who has nothing pending, passes unused
    ∷ steps report_plan (holding 0 255 0) (1 ∷ 0 ∷ []) (serving 1 (counts 1 0) (holding 1 254 0))
    ∷ steps report_plan (holding 3 255 0) (1 ∷ 0 ∷ []) (serving 0 (counts 1 0) (holding 4 255 0))
    -- "a step 17, 18": position 8 is not below f, with a list of three arrivals as well; such a list alone
    ∷ step_refused report_plan (holding 8 255 0) (1 ∷ 0 ∷ []) 17
    ∷ step_refused report_plan (holding 8 255 0) (1 ∷ 0 ∷ 0 ∷ []) 17
    ∷ step_refused report_plan (holding 7 255 0) (1 ∷ 0 ∷ 0 ∷ []) 18
    -- P7's five slots from slot 3 on: a request comes in slot 3, is served in slot 5, the next comes in slot 6. Once is
    -- what demand 3 promises: (5 − 3) × 1/2
    ∷ one_pending (schedule_plan (requiring 1 2 3 1) p4) 0 (empty 3) (arriving (1 ∷ 0 ∷ 0 ∷ 1 ∷ 0 ∷ [])) 1
    ∷ []
