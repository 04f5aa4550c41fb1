-- The entries of `plan` as rows of demand 1's table, and the numbers that its checks give.
use Rattle.std.specs.Prelude.{◌≡◌, List, [], ◌∷◌, ◌++◌, ℕ}
use Rattle.records.specs.Entry.{Entry, finds, always}
use Rattle.plan.specs.declared.Client.{Client}
use Rattle.plan.specs.declared.Plan.{Plan}
use Rattle.plan.specs.Plan.{no_client, no_plan, Same, SameRequired, with_table}
use Rattle.plan.specs.Check.{requirements_check, plan_check, asked_check}

-- "5, 6, then 8 and 9"
abbrev pub requirements_numbers : List ℕ
requirements_numbers = 5 ∷ 6 ∷ 8 ∷ 9 ∷ []

-- "then 10"
abbrev pub plan_numbers : List ℕ
plan_numbers = requirements_numbers ++ (10 ∷ [])

-- then 13
abbrev pub asked_numbers : List ℕ
asked_numbers = plan_numbers ++ (13 ∷ [])

-- `check_requirements`: no owner is read
abbrev pub requirements_entry : Entry
requirements_entry =
    finds SameRequired (λ offset. 0) (λ plan (more : Unit {0}). requirements_check plan) requirements_numbers

-- `check`
abbrev pub check_entry : Entry
check_entry = finds Same (λ offset. 0) (λ plan (more : Unit {0}). plan_check plan) plan_numbers

-- `check_asked`
abbrev pub asked_entry : Entry
asked_entry = finds Same (λ offset. 0) asked_check asked_numbers

-- `no_client`
abbrev pub no_client_entry : Entry
no_client_entry = always (λ (none more : Unit {0}) (r : Client). r ≡ no_client)

-- `no_plan`
abbrev pub no_plan_entry : Entry
no_plan_entry = always (λ (none more : Unit {0}) (r : Plan). r ≡ no_plan)

-- `with_table`
abbrev pub table_entry : Entry
table_entry = always (λ (plan : Plan) (owners : List ℕ) (r : Plan). r ≡ with_table plan owners)
