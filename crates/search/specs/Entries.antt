-- The entry of `search` as a row of demand 1's table, and the numbers that its check gives.
use Rattle.std.specs.Prelude.{List, [], ◌∷◌, ◌++◌, ℕ}
use Rattle.records.specs.Entry.{Entry, says}
use Rattle.plan.specs.Plan.{SameRequired}
use Rattle.plan.specs.Entries.{requirements_numbers}
use Rattle.search.specs.Search.{search_check, IsSearched}

-- "5, 6, 8, 9, 16"
abbrev pub search_numbers : List ℕ
search_numbers = requirements_numbers ++ (16 ∷ [])

-- `search`, whose subject is the plan with f, n and the requirements: "The search reads no owners"
abbrev pub search_entry : Entry
search_entry = says SameRequired (λ plan (x : Unit {0}). IsSearched plan) (λ plan x. search_check plan) search_numbers
