-- The entries of `judge` as rows of demand 1's table.
use Rattle.records.specs.Entry.{Entry, says}
use Rattle.plan.specs.Plan.{Same}
use Rattle.plan.specs.Check.{plan_check, asked_check}
use Rattle.plan.specs.Entries.{plan_numbers, asked_numbers}
use Rattle.judge.specs.Judge.{IsJudged, IsVerdictOf}

-- `judge`
abbrev pub judge_entry : Entry
judge_entry = says Same (λ plan (x : Unit {0}). IsJudged plan) (λ plan x. plan_check plan) plan_numbers

-- `verdict_of`
abbrev pub verdict_entry : Entry
verdict_entry = says Same IsVerdictOf asked_check asked_numbers
