-- The rows of `judge` hold, and are their entries' own contracts.
-- Assumes nothing.
use mathlib.Core.Path.{refl}
use Rattle.records.specs.Entry.{Tight, contract, Tied}
use Rattle.records.proofs.Entry.{tight_says, tie}
use Rattle.plan.specs.Plan.{Same}
use Rattle.plan.proofs.Refusals.{plan_gives, asked_gives}
use Rattle.judge.specs.Entries.{judge_entry, verdict_entry}
use Rattle.judge.proofs.Once.{verdict_one, judgement_one}
use Rattle.judge.proofs.Same.{judged_same, verdicts_same}
use Rattle.judge.proofs.judge.Reads as judge
use Rattle.judge.proofs.verdict_of.Reads as verdict_of

pub judge_tight : Tight judge_entry
judge_tight =
    tight_says Same _ _ _ (λ plan x. judgement_one plan 0 plan.n)
    (λ plan x. plan_gives plan) refl (λ plan other same x. judged_same plan other same)

pub judge_tied : Tied judge_entry (contract judge.Pre judge.Post)
judge_tied = tie (λ a. a.0) (λ a. tt) (λ r z. r) (λ κs a. tt) (λ κs a r z. refl)

pub verdict_tight : Tight verdict_entry
verdict_tight = tight_says Same _ _ _ (λ plan c. verdict_one _ _ _) asked_gives refl verdicts_same

pub verdict_tied : Tied verdict_entry (contract verdict_of.Pre verdict_of.Post)
verdict_tied = tie (λ a. a.0) (λ a. a.1.0) (λ r z. r) (λ κs a. tt) (λ κs a r z. refl)
