-- The C functions as rows of demand 1's table. Each is handed a stream, so that reading's refusals come first; the two
-- texts have listing's rows.
use Rattle.std.specs.Prelude.{◌≡◌, List, [], ◌∷◌, ◌++◌, ℕ, Result, length, replicate}
use Rattle.std.specs.declared.result.Result.TheVariants as result
use Rattle.records.specs.declared.refusal.At.{At}
use Rattle.records.specs.declared.refusal.Refusal.{Refusal}
use Rattle.records.specs.Refusal.{number}
use Rattle.records.specs.First.{Outcome}
use Rattle.records.specs.Said.{Said}
use Rattle.records.specs.Entry.{Entry}
use Rattle.plan.specs.declared.Plan.{Plan}
use Rattle.plan.specs.Plan.{default_waiting}
use Rattle.plan.specs.Check.{plan_check, asked_check}
use Rattle.stream.specs.Read.{read_check, read_of}
use Rattle.stream.specs.Trip.{copy_check}
use Rattle.stream.specs.Entries.{read_numbers, copy_numbers}
use Rattle.figures.specs.Check.{figure_check, wait_check}
use Rattle.figures.specs.Figures.{IsFigures, IsWaitFor}
use Rattle.judge.specs.declared.Verdict.TheVariants.{Ok}
use Rattle.judge.specs.Judge.{acceptance, IsJudged, IsVerdictOf}
use Rattle.search.specs.Search.{search_check}
use Rattle.arbiter.specs.Step.{step_check}
use Rattle.capi.specs.Calls.{figure_values, no_figure, wait_values, verdict_values, judgement_values, ToldRead, Told}
use Rattle.capi.specs.Calls.{ToldWrite, emptied, ToldSearch, record_in, ToldStep}

-- a check of the plan that a reading gives, or the reading's refusal
abbrev pub then_check : {X : Type 0} → (Plan → X → Outcome) → Result Plan (At Refusal) → X → Outcome
then_check check (result.Ok plan) x = check plan x
then_check check (result.Err refused) x = result.Err refused

-- reading's refusals, then those of a check of the plan that was read
abbrev pub read_then : {X : Type 0} → (Plan → X → Outcome) → List ℕ → X → Outcome
read_then check s = then_check check (read_of s)

-- reading's numbers, then these: what reading has refused no check finds again
abbrev pub read_and : List ℕ → List ℕ
read_and numbers = read_numbers ++ numbers

-- a function that is handed a stream
abbrev pub reads : {X R : Type 0} → (List ℕ → X → R → Type 0) → (List ℕ → X → Outcome) → List ℕ → (R → ℕ)
    → (X → (why : Refusal) (offset : ℕ) → R → Type 0) → Entry
reads {X} {R} Is check numbers number Refuses =
    record {
      Subject = List ℕ;
      Same = λ s t. s ≡ t;
      More = X;
      Reply = R;
      Is = Is;
      check = check;
      numbers = numbers;
      number = number;
      Refuses = Refuses;
    }

-- one that asks about the plan that was read: the number is returned, the answer's values are lent
abbrev pub tells : {X A : Type 0} → (Plan → X → Said A → Type 0) → (Plan → X → Outcome) → List ℕ → A → (A → List ℕ)
    → Entry
tells Is check numbers zero values =
    reads {R = ℕ × List ℕ} (λ s x r. Told (λ plan. Is plan x) zero values s r.0 r.1) (read_then check) numbers
    (λ r. r.0) (λ x why offset r. r ≡ (number why, values zero))

-- `gwelathur_read`: the offset is lent
abbrev pub c_read_entry : Entry
c_read_entry =
    reads {R = ℕ × ℕ} (λ s (x : Unit {0}) r. ToldRead s r.0 r.1) (λ s x. read_check s) read_numbers (λ r. r.0)
    (λ x why offset r. r ≡ (number why, offset))

-- `gwelathur_figures`
abbrev pub c_figures_entry : Entry
c_figures_entry = tells IsFigures figure_check (read_and (13 ∷ 14 ∷ [])) no_figure figure_values

-- `gwelathur_wait`
abbrev pub c_wait_entry : Entry
c_wait_entry =
    tells (λ plan (x : ℕ × ℕ). IsWaitFor plan x.0 x.1) (λ plan x. wait_check plan x.0 x.1)
    (read_and (13 ∷ 14 ∷ 15 ∷ [])) 0 wait_values

-- `gwelathur_default_wait`
abbrev pub c_default_entry : Entry
c_default_entry =
    tells (λ plan c. IsWaitFor plan c default_waiting) figure_check (read_and (13 ∷ 14 ∷ [])) 0 wait_values

-- `gwelathur_judge`
abbrev pub c_judge_entry : Entry
c_judge_entry =
    tells (λ plan (x : Unit {0}). IsJudged plan) (λ plan x. plan_check plan) read_numbers acceptance
    judgement_values

-- `gwelathur_verdict`
abbrev pub c_verdict_entry : Entry
c_verdict_entry = tells IsVerdictOf asked_check (read_and (13 ∷ [])) Ok verdict_values

-- `gwelathur_search` and `gwelathur_search_whole`: the length and the output are lent
abbrev pub c_search_entry : Entry
c_search_entry =
    reads {R = ℕ × ℕ × List ℕ} (λ s out r. ToldSearch s out r.0 r.1 r.2)
    (read_then (λ plan (out : List ℕ). search_check (emptied plan))) (read_and (16 ∷ [])) (λ r. r.0)
    (λ out why offset r. r ≡ (number why, 0, out))

-- `gwelathur_write`: the length and the output are lent
abbrev pub c_write_entry : Entry
c_write_entry =
    reads {R = ℕ × ℕ × List ℕ} (λ s out r. ToldWrite s out r.0 r.1 r.2) (λ s out. copy_check s (length out))
    copy_numbers (λ r. r.0) (λ out why offset r. r ≡ (number why, 0, out))

-- `gwelathur_step`, of a record in nine bytes and of arrivals: the record's and the answer's bytes are lent
abbrev pub c_step_entry : Entry
c_step_entry =
    reads {R = ℕ × List ℕ × List ℕ} (λ s (x : List ℕ × List ℕ) r. ToldStep s x.0 x.1 r.0 r.1 r.2)
    (read_then (λ plan x. step_check plan (record_in x.0).position (length x.1))) (read_and (17 ∷ 18 ∷ []))
    (λ r. r.0) (λ x why offset r. length x.0 ≡ 9 → r ≡ (number why, x.0, replicate 9 0))
