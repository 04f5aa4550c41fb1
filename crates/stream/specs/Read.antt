-- Reading a plan stream: what is refused where, and the plan that a stream holds (document 01, Refusal numbers).
use Rattle.std.specs.Prelude.{List, ℕ, Result, Ok, Err, zero, suc, ◌+◌, ◌*◌, ◌/◌, ◌%◌, ltb, eqb, get_or}
use Rattle.records.specs.declared.refusal.Refusal.TheVariants as refusal
use Rattle.records.specs.declared.refusal.At.{At}
use Rattle.records.specs.declared.refusal.Refusal.{Refusal}
use Rattle.records.specs.First.{pick, unless, or_else, first_of, Outcome}
use Rattle.records.specs.Pieces.{padded}
use Rattle.records.specs.Record.{word, record_check, over_check}
use Rattle.plan.specs.declared.Client.{Client}
use Rattle.plan.specs.declared.Plan.{Plan}
use Rattle.plan.specs.Plan.{no_client}
use Rattle.plan.specs.Check.{frame_check, count_check, client_check, owner_check}
use Rattle.stream.specs.Kind.{head_kind, client_kind, row_kind, end_kind, body_of, whole_of, kind_check, rows_of}

-- ---- places: records follow one another, each as long as its kind says

-- the place after the record at a place
unfoldable pub next_place : List ℕ → ℕ → ℕ
next_place s at = at + whole_of (get_or s at 0)

-- the place after k records
unfoldable pub place : List ℕ → ℕ → ℕ → ℕ
place s at zero = at
place s at (suc k) = next_place s (place s at k)

-- ---- checks: "1 (no kind byte), 2, 3, 1 (body short), then fields left to right"

-- a record where a kind is due
unfoldable pub due_check : List ℕ → ℕ → ℕ → Outcome
due_check s at due = record_check s at (kind_check due (get_or s at 0)) (body_of (get_or s at 0))

-- f, as the head holds it
abbrev pub f_in : List ℕ → ℕ
f_in s = get_or s 1 0

-- n, as the head holds it
abbrev pub n_in : List ℕ → ℕ
n_in s = get_or s 2 0

-- the head's record: "fields left to right", 5 and 6
unfoldable pub head_record_check : List ℕ → Outcome
head_record_check s = or_else (due_check s 0 head_kind) (or_else (frame_check (f_in s)) (count_check (n_in s)))

-- a client's record: the requirements in it
unfoldable pub client_at : List ℕ → ℕ → Client
client_at s at = record { p = word s (at + 2); q = word s (at + 4); a = word s (at + 6); b = word s (at + 8) }

-- 7: its number is not the next one
unfoldable pub number_check : ℕ → ℕ → ℕ → Outcome
number_check found number at = unless (eqb found number) refusal.NotNext at

-- "for a client 7, 8, 9"
unfoldable pub client_record_check : List ℕ → ℕ → ℕ → Outcome
client_record_check s at number =
    or_else (due_check s at client_kind)
    (or_else (number_check (get_or s (at + 1) 0) number at) (client_check (client_at s at) at))

-- client i + 1, where the clients' records begin at a place
unfoldable pub client_due_check : List ℕ → ℕ → ℕ → Outcome
client_due_check s at i = client_record_check s (place s at i) (i + 1)

-- the byte of slot x: its owner, 10; past f 255, 11
unfoldable pub slot_check : ℕ → ℕ → ℕ → ℕ → ℕ → Outcome
slot_check f n x byte at = pick (ltb x f) (owner_check byte n at) (unless (eqb byte 255) refusal.PastFrame at)

-- slot t of row j, whose record is at a place
unfoldable pub slot_due_check : List ℕ → ℕ → ℕ → ℕ → ℕ → ℕ → Outcome
slot_due_check s f n at j t = slot_check f n (8 * j + t) (get_or s (at + (1 + t)) 0) at

-- a row's record: its eight slots left to right
unfoldable pub row_record_check : List ℕ → ℕ → ℕ → ℕ → ℕ → Outcome
row_record_check s f n at j = or_else (due_check s at row_kind) (first_of (slot_due_check s f n at j) 8)

-- row j, where the rows begin at a place
unfoldable pub row_due_check : List ℕ → ℕ → ℕ → ℕ → ℕ → Outcome
row_due_check s f n at j = row_record_check s f n (place s at j) j

-- the end record; "Number 4 is looked for last"
unfoldable pub end_record_check : List ℕ → ℕ → Outcome
end_record_check s at = or_else (due_check s at end_kind) (over_check s (next_place s at))

-- where the clients' records begin: after the head
abbrev pub to_clients : List ℕ → ℕ
to_clients s = next_place s 0

-- where the rows begin: after n clients
abbrev pub to_rows : List ℕ → ℕ → ℕ
to_rows s n = place s (to_clients s) n

-- where the end record begins: after as many rows as f needs
abbrev pub to_end : List ℕ → ℕ → ℕ → ℕ
to_end s f n = place s (to_rows s n) (rows_of f)

-- what follows the head: "then clients 1 to n, then as many kind 3 as f needs, then kind 9"
unfoldable pub rest_check : List ℕ → ℕ → ℕ → Outcome
rest_check s f n =
    or_else (first_of (client_due_check s (to_clients s)) n)
    (or_else (first_of (row_due_check s f n (to_rows s n)) (rows_of f)) (end_record_check s (to_end s f n)))

-- the whole stream: "Reading goes record by record"
unfoldable pub read_check : List ℕ → Outcome
read_check s = or_else (head_record_check s) (rest_check s (f_in s) (n_in s))

-- ---- the plan that a stream holds, 0 past f and past n

-- client i + 1, where the clients' records begin at a place
unfoldable pub client_in : List ℕ → ℕ → ℕ → Client
client_in s at i = client_at s (place s at i)

-- the owner of slot x, where the rows begin at a place
unfoldable pub owner_in : List ℕ → ℕ → ℕ → ℕ
owner_in s at x = get_or s (place s at (x / 8) + (1 + x % 8)) 0

-- f, n, the clients and the owners
unfoldable pub plan_of : List ℕ → Plan
plan_of s =
    record {
      f = f_in s;
      n = n_in s;
      clients = padded (client_in s (to_clients s)) (n_in s) 8 no_client;
      owners = padded (owner_in s (to_rows s (n_in s))) (f_in s) 64 0;
    }

-- ---- the answer

-- a plan, or why there is none
abbrev pub plan_if : Outcome → Plan → Result Plan (At Refusal)
plan_if (Ok u) plan = Ok plan
plan_if (Err refused) plan = Err refused

-- "A refused read returns the number, the offset ..", and no plan, where document 01 has one with every number 0
unfoldable pub read_of : List ℕ → Result Plan (At Refusal)
read_of s = plan_if (read_check s) (plan_of s)
