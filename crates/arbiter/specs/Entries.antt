-- The entries of `arbiter` as rows of demand 1's table, and the numbers that a step's checks give.
use Rattle.std.specs.Prelude.{◌≡◌, List, [], ◌∷◌, ◌++◌, ℕ, length, Err}
use Rattle.records.specs.declared.refusal.Refusal.{Refusal}
use Rattle.records.specs.Said.{Said, said_number}
use Rattle.records.specs.Entry.{Entry}
use Rattle.plan.specs.declared.Plan.{Plan}
use Rattle.plan.specs.Plan.{Same}
use Rattle.plan.specs.Entries.{plan_numbers}
use Rattle.arbiter.specs.declared.Arbiter.{Arbiter}
use Rattle.arbiter.specs.declared.Served.{Served}
use Rattle.arbiter.specs.Step.{step_check, step_of, step_said, served_said}

-- "a step 17, 18", after the plan's
abbrev pub step_numbers : List ℕ
step_numbers = plan_numbers ++ (17 ∷ 18 ∷ [])

-- an entry that steps: Is ties what it gives to a step, number is that of what it says, and refuse what it gives where
-- the step is refused
abbrev pub stepping : {R : Type 0} → (R → Plan → Arbiter → List ℕ → Type 0) → (R → ℕ) → (Refusal → Arbiter → R)
    → Entry
stepping {R} Is number refuse =
    record {
      Subject = Plan;
      Same = Same;
      More = Arbiter × List ℕ;
      Reply = R;
      Is = λ plan more r. Is r plan more.0 more.1;
      check = λ plan more. step_check plan more.0.position (length more.1);
      numbers = step_numbers;
      number = number;
      Refuses = λ more why offset r. r ≡ refuse why more.0;
    }

-- `step` and `step_lending`
abbrev pub step_entry : Entry
step_entry = stepping (λ r plan arb xs. r ≡ step_said plan arb xs) said_number (λ why arb. Err why)

-- `step_in_place`: what is returned, and the lent record after the call
abbrev pub in_place_entry : Entry
in_place_entry =
    stepping {R = Said Served × Arbiter}
    (λ r plan arb xs. (r.0 ≡ served_said (step_said plan arb xs)) × (r.1 ≡ (step_of plan arb xs).next))
    (λ r. said_number r.0) (λ why arb. (Err why, arb))
