-- A record in a stream of bytes: one byte of kind, then a body (document 01, Plan stream).
use Rattle.std.specs.Prelude.{List, [], ◌∷◌, ℕ, ◌+◌, ◌-◌, ◌*◌, ◌/◌, ◌%◌, ltb, leb, length, get_or, Result, Ok, Err}
use Rattle.records.specs.declared.refusal.Refusal.{Refusal}
use Rattle.records.specs.declared.refusal.Refusal.TheVariants as refusal
use Rattle.records.specs.First.{Checked, Outcome, Fine, refuse, unless, or_else}

-- "Numbers of two bytes have the high byte first": the bytes of a number
abbrev pub be : ℕ → List ℕ
be x = x / 256 % 256 ∷ x % 256 ∷ []

-- and the number of the two bytes at a place
abbrev pub word : List ℕ → ℕ → ℕ
word s at = get_or s at 0 * 256 + get_or s (at + 1) 0

-- a refusal, if there is one, at this offset
abbrev pub placed : {E : Type 0} → Result (Unit {0}) E → ℕ → Checked E
placed (Ok u) offset = Fine
placed (Err why) offset = refuse why offset

-- "record by record: 1 (no kind byte), 2, 3, 1 (body short)": due says whether the kind is due, and else why not, ended
-- is what 1 stands for; a missing kind byte is refused at the stream's length, all else at the record's kind byte
unfoldable pub record_check_by : {E : Type 0} → List ℕ → ℕ → Result (Unit {0}) E → ℕ → E → Checked E
record_check_by s at due body ended =
    or_else (unless (ltb at (length s)) ended (length s))
    (or_else (placed due at) (unless (ltb body (length s - at)) ended at))

-- the same by document 01's refusals: 1 where there is no kind byte, and where the body is short
abbrev pub record_check : List ℕ → ℕ → Result (Unit {0}) Refusal → ℕ → Outcome
record_check s at due body = record_check_by s at due body refusal.Ended

-- "bytes follow the end record": 4, at the first byte too many
unfoldable pub over_check : List ℕ → ℕ → Outcome
over_check s at = unless (leb (length s) at) refusal.Followed at
