-- The entries of `stream` as rows of demand 1's table, and the numbers that its checks give.
use Rattle.std.specs.Prelude.{◌≡◌, List, [], ◌∷◌, ◌++◌, ℕ, length, Result, Ok, Err}
use Rattle.records.specs.declared.refusal.At.{At}
use Rattle.records.specs.declared.refusal.Refusal.{Refusal}
use Rattle.records.specs.First.{at, Outcome}
use Rattle.records.specs.Refusal.{number}
use Rattle.records.specs.Said.{Said, said_number}
use Rattle.records.specs.Entry.{Entry}
use Rattle.plan.specs.declared.Plan.{Plan}
use Rattle.plan.specs.Plan.{Same}
use Rattle.plan.specs.Check.{plan_check}
use Rattle.plan.specs.Entries.{plan_numbers}
use Rattle.stream.specs.Read.{read_check, read_of}
use Rattle.stream.specs.Write.{write_check, Wrote}
use Rattle.stream.specs.Trip.{Rewritten, Reread, copy_check, Copied, reread_of}

-- "Reading goes record by record": 1 to 11
abbrev pub read_numbers : List ℕ
read_numbers = 1 ∷ 2 ∷ 3 ∷ 4 ∷ 5 ∷ 6 ∷ 7 ∷ 8 ∷ 9 ∷ 10 ∷ 11 ∷ []

-- "Then: writing 12"
abbrev pub write_numbers : List ℕ
write_numbers = plan_numbers ++ (12 ∷ [])

-- then 12, where a stream that is read is written
abbrev pub copy_numbers : List ℕ
copy_numbers = read_numbers ++ (12 ∷ [])

-- an entry that writes into a lent output: more is the output before, beside the answer stands the output after
abbrev pub writes : {U : Type 0} → (U → U → Type 0) → (U → List ℕ → Said ℕ → List ℕ → Type 0)
    → (U → ℕ → Outcome) → List ℕ → Entry
writes {U} Alike Is check numbers =
    record {
      Subject = U;
      Same = Alike;
      More = List ℕ;
      Reply = Said ℕ × List ℕ;
      Is = λ u out r. Is u out r.0 r.1;
      check = λ u out. check u (length out);
      numbers = numbers;
      number = λ r. said_number r.0;
      Refuses = λ out why offset r. r ≡ (Err why, out);
    }

-- a reading's number, 0 where nothing is refused
abbrev pub reading_number : Result Plan (At Refusal) → ℕ
reading_number (Ok plan) = 0
reading_number (Err refused) = number refused.why

-- an entry that returns a plan, or why there is none; `from` is the offset that a refusal has, 0 outside reading
abbrev pub gives_plan : {U : Type 0} → (U → U → Type 0) → (U → Result Plan (At Refusal) → Type 0) → (U → Outcome)
    → List ℕ → (ℕ → ℕ) → Entry
gives_plan {U} Alike Is check numbers from =
    record {
      Subject = U;
      Same = Alike;
      More = Unit {0};
      Reply = Result Plan (At Refusal);
      Is = λ u more r. Is u r;
      check = λ u more. check u;
      numbers = numbers;
      number = reading_number;
      Refuses = λ more why offset r. r ≡ Err (at why (from offset));
    }

-- `read`
abbrev pub read_entry : Entry
read_entry =
    gives_plan (λ s t. s ≡ t) (λ s r. (r ≡ read_of s) × Rewritten s r) read_check read_numbers (λ offset. offset)

-- `write`
abbrev pub write_entry : Entry
write_entry = writes Same (λ plan out r now. Wrote plan out r now × Reread plan r now) write_check write_numbers

-- `rewritten`
abbrev pub rewritten_entry : Entry
rewritten_entry = writes (λ s t. s ≡ t) Copied copy_check copy_numbers

-- `reread`
abbrev pub reread_entry : Entry
reread_entry = gives_plan Same (λ plan r. r ≡ reread_of plan) plan_check plan_numbers (λ offset. 0)
