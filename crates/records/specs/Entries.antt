-- The entries of `records` as rows of demand 1's table. What they find is returned, for a reason that may have been
-- handed in, of any type E, and the entries above refuse by it: so all but the last refuse nothing themselves.
use Rattle.std.specs.Prelude.{◌≡◌, List, [], ◌∷◌, ℕ, ◌<◌, get_or, Result}
use Rattle.records.specs.declared.refusal.Refusal.{Refusal}
use Rattle.records.specs.First.{Checked, Outcome, range_check, or_else}
use Rattle.records.specs.Record.{record_check, record_check_by, over_check}
use Rattle.records.specs.Entry.{Entry, finds, always}

-- `or_else`
abbrev pub or_else_entry : Type 0 → Entry
or_else_entry E = always (λ (first second r : Checked E). r ≡ or_else first second)

-- `check_range`
abbrev pub range_entry : Type 0 → Entry
range_entry E = always (λ (x : ℕ) (more : ℕ × E) (r : Checked E). r ≡ range_check x more.0 more.1)

-- `wide`
abbrev pub wide_entry : Entry
wide_entry = always (λ (x : ℕ) (more : Unit {0}) (r : ℕ). (r ≡ x) × (r < 256))

-- `kind_at`
abbrev pub kind_entry : Entry
kind_entry = always (λ (s : List ℕ) (at r : ℕ). r ≡ get_or s at 0)

-- `check_record`
abbrev pub record_entry : Entry
record_entry =
    always (λ (s : List ℕ) (more : ℕ × Result (Unit {0}) Refusal × ℕ) (r : Outcome).
    r ≡ record_check s more.0 more.1 more.2)

-- `check_record_by`
abbrev pub record_by_entry : Type 0 → Entry
record_by_entry E =
    always (λ (s : List ℕ) (more : ℕ × Result (Unit {0}) E × ℕ × E) (r : Checked E).
    r ≡ record_check_by s more.0 more.1 more.2 more.3)

-- `check_over`, whose number is its own: 4
abbrev pub over_entry : Entry
over_entry = finds (λ (s t : List ℕ). s ≡ t) (λ offset. offset) over_check (4 ∷ [])
