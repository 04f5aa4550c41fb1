-- The entries of `figures` as rows of demand 1's table, and the numbers that its checks give.
use Rattle.std.specs.Prelude.{List, [], ◌∷◌, ◌++◌, ℕ}
use Rattle.records.specs.Entry.{Entry, says}
use Rattle.plan.specs.Plan.{Same, default_waiting}
use Rattle.plan.specs.Entries.{asked_numbers}
use Rattle.figures.specs.Check.{figure_check, wait_check}
use Rattle.figures.specs.Figures.{IsFigures, IsWaitFor}

-- "figures 13, 14", after the plan's
abbrev pub figure_numbers : List ℕ
figure_numbers = asked_numbers ++ (14 ∷ [])

-- "waits 13, 14, 15"
abbrev pub wait_numbers : List ℕ
wait_numbers = figure_numbers ++ (15 ∷ [])

-- `figure_of`
abbrev pub figure_entry : Entry
figure_entry = says Same IsFigures figure_check figure_numbers

-- `wait_for`
abbrev pub wait_entry : Entry
wait_entry =
    says Same (λ plan (x : ℕ × ℕ). IsWaitFor plan x.0 x.1) (λ plan x. wait_check plan x.0 x.1) wait_numbers

-- `default_wait`: 15 is never given
abbrev pub default_entry : Entry
default_entry = says Same (λ plan c. IsWaitFor plan c default_waiting) figure_check figure_numbers
