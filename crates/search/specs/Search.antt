-- The search (document 01, Judging and searching): what it refuses, which tables are accepted, and what it answers.
use Rattle.std.specs.Prelude.{◌≡◌, List, Option, Some, None, ℕ, ◌-◌, leb, take, drop, replicate}
use Rattle.records.specs.declared.refusal.Refusal.TheVariants as refusal
use Rattle.records.specs.First.{unless, or_else, Outcome}
use Rattle.records.specs.Said.{Said, Answers}
use Rattle.plan.specs.declared.Client.{Client}
use Rattle.plan.specs.declared.Plan.{Plan}
use Rattle.plan.specs.Plan.{with_table}
use Rattle.plan.specs.Check.{requirements_check}
use Rattle.judge.specs.Judge.{Accepted}
use Rattle.explore.specs.Best.{IsBest, NoTable}

-- "The search takes f, n and the requirements": a plan that has them, all of its slots idle
abbrev pub idle_plan : ℕ → ℕ → List Client → Plan
idle_plan f n clients = record { f = f; n = n; clients = clients; owners = replicate 64 0 }

-- "search with f > 8 or n > 4": the longest frame that is searched
abbrev pub most_slots : ℕ
most_slots = 8

-- and the most clients
abbrev pub most_clients : ℕ
most_clients = 4

-- 16: f or n is more than that
unfoldable pub size_check : Plan → Outcome
size_check plan =
    or_else (unless (leb plan.f most_slots) refusal.TooLarge 0) (unless (leb plan.n most_clients) refusal.TooLarge 0)

-- "The search reads no owners: 5, 6, 8, 9, 16"
unfoldable pub search_check : Plan → Outcome
search_check plan = or_else (requirements_check plan) (size_check plan)

-- a table is accepted where the plan that has it is
abbrev pub AcceptedIn : Plan → List ℕ → Type 0
AcceptedIn plan t = Accepted (with_table plan t)

-- what was found: the best table, with 0 past f, or that there is no table
abbrev pub Finds : (List ℕ → Type 0) → (f n : ℕ) → Option (List ℕ) → Type 0
Finds P f n (Some owners) = IsBest P f n (take f owners) × (drop f owners ≡ replicate (64 - f) 0)
Finds P f n None = NoTable P f n

-- what the search answers; ""None" is no refusal"
abbrev pub IsSearched : Plan → Said (Option (List ℕ)) → Type 0
IsSearched plan = Answers (search_check plan) (Finds (AcceptedIn plan) plan.f plan.n)
