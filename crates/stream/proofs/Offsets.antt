-- The offset of a refused read lies in the stream or at its end: a record is reached where all before it passed, so it
-- begins within the stream.
-- Assumes nothing.
use mathlib.Core.Path.{◌≡◌}
use mathlib.Core.Bool.{Bool, true, false}
use mathlib.Core.List.{List}
use Prim.Native.Nat.{ℕ, zero, suc, ◌+◌, ◌*◌, ◌≤◌, ◌<◌}
use native.Mathlib.Omega.{arith}
use lib.Dec.{ltb, eqb}
use lib.ListN.{length, get_or}
use Rattle.records.specs.declared.refusal.Refusal.TheVariants as refusal
use Rattle.records.specs.First.{pick, unless, or_else, first_of, offset_of, Outcome, Fine}
use Rattle.records.specs.Record.{over_check}
use Rattle.records.proofs.Refusals.{or_reached, or_each, first_reached, first_each, unless_within, record_within}
use Rattle.records.proofs.Refusals.{over_within, range_offset}
use Rattle.plan.specs.Check.{frame_check, count_check, client_check, owner_check}
use Rattle.plan.proofs.Refusals.{client_within, owner_within}
use Rattle.stream.specs.Kind.{head_kind, client_kind, row_kind, end_kind, body_of, kind_check, rows_of}
use Rattle.stream.specs.Read.{next_place, place, due_check, f_in, n_in, head_record_check, client_at, number_check}
use Rattle.stream.specs.Read.{client_record_check, client_due_check, slot_check, slot_due_check, row_record_check}
use Rattle.stream.specs.Read.{row_due_check, end_record_check, to_clients, to_rows, to_end, rest_check, read_check}
use Rattle.stream.proofs.Records.{Whole, next_whole, head_fine, clients_fine, rows_fine}

-- an offset that lies in the stream or at its end
Within : List ℕ → Outcome → Type 0
Within s o = offset_of o ≤ length s

-- ---- places

-- the record after a whole one begins within the stream
next_within : (s : List ℕ) (at kind : ℕ) → Whole s at kind → next_place s at ≤ length s
next_within s at kind w = rw (next_whole s at kind w.found) w.room

-- and so does the one after i whole ones
place_within : (s : List ℕ) (at kind i : ℕ) → at ≤ length s → ((j : ℕ) → j < i → Whole s (place s at j) kind)
    → place s at i ≤ length s
unfolding place
place_within s at kind zero l h = l
place_within s at kind (suc i) l h = next_within s (place s at i) kind (h i (omega arith))

clients_within : (s : List ℕ) (at i : ℕ) → at ≤ length s → first_of (client_due_check s at) i ≡ Fine
    → place s at i ≤ length s
clients_within s at i l h = place_within s at client_kind i l (λ j m. (clients_fine s at i h j m).whole)

rows_within : (s : List ℕ) (f n at i : ℕ) → at ≤ length s → first_of (row_due_check s f n at) i ≡ Fine
    → place s at i ≤ length s
rows_within s f n at i l h = place_within s at row_kind i l (λ j m. (rows_fine s f n at i h j m).whole)

-- ---- records

due_within : (s : List ℕ) (at due : ℕ) → at ≤ length s → Within s (due_check s at due)
unfolding Within due_check
due_within s at due l = record_within s at (kind_check due (get_or s at 0)) (body_of (get_or s at 0)) refusal.Ended l

head_within : (s : List ℕ) → Within s (head_record_check s)
unfolding Within head_record_check
head_within s =
    let frame : Outcome = frame_check (f_in s) in
    let count : Outcome = count_check (n_in s) in
    let f = range_offset (f_in s) 64 refusal.Frame in
    let n = range_offset (n_in s) 8 refusal.Count in
    or_each (Within s) (due_check s 0 head_kind) (or_else frame count) (due_within s 0 head_kind (omega arith))
    (or_each (Within s) frame count (omega arith) (omega arith))

client_read_within : (s : List ℕ) (at number : ℕ) → at ≤ length s → Within s (client_record_check s at number)
unfolding Within client_record_check number_check
client_read_within s at number l =
    let next : Outcome = number_check (get_or s (at + 1) 0) number at in
    let required : Outcome = client_check (client_at s at) at in
    or_each (Within s) (due_check s at client_kind) (or_else next required) (due_within s at client_kind l)
    (or_each (Within s) next required
    (unless_within (length s) (eqb (get_or s (at + 1) 0) number) refusal.NotNext at l)
    (client_within (length s) (client_at s at) at l))

slot_within : (s : List ℕ) (b : Bool) (n byte at : ℕ) → at ≤ length s
    → Within s (pick b (owner_check byte n at) (unless (eqb byte 255) refusal.PastFrame at))
unfolding Within
slot_within s true n byte at l = owner_within (length s) byte n at l
slot_within s false n byte at l = unless_within (length s) (eqb byte 255) refusal.PastFrame at l

row_read_within : (s : List ℕ) (f n at j : ℕ) → at ≤ length s → Within s (row_record_check s f n at j)
unfolding Within row_record_check slot_due_check slot_check
row_read_within s f n at j l =
    or_each (Within s) (due_check s at row_kind) (first_of (slot_due_check s f n at j) 8) (due_within s at row_kind l)
    (first_each (Within s) (omega arith) (slot_due_check s f n at j)
    (λ t. slot_within s (ltb (8 * j + t) f) n (get_or s (at + (1 + t)) 0) at l) 8)

end_within : (s : List ℕ) (at : ℕ) → at ≤ length s → Within s (end_record_check s at)
unfolding Within end_record_check
end_within s at l =
    or_each (Within s) (due_check s at end_kind) (over_check s (next_place s at)) (due_within s at end_kind l)
    (over_within s (next_place s at))

-- ---- the stream

rest_within : (s : List ℕ) (f n : ℕ) → to_clients s ≤ length s → Within s (rest_check s f n)
unfolding Within rest_check client_due_check row_due_check
rest_within s f n l =
    let clients : Outcome = first_of (client_due_check s (to_clients s)) n in
    let rows : Outcome = first_of (row_due_check s f n (to_rows s n)) (rows_of f) in
    let end : Outcome = end_record_check s (to_end s f n) in
    or_reached (Within s) clients (or_else rows end)
    (first_reached (Within s) (omega arith) (client_due_check s (to_clients s)) n
    (λ i m h. client_read_within s (place s (to_clients s) i) (i + 1) (clients_within s (to_clients s) i l h)))
    (λ (h : clients ≡ Fine).
    let k : to_rows s n ≤ length s = clients_within s (to_clients s) n l h in
    or_reached (Within s) rows end
    (first_reached (Within s) (omega arith) (row_due_check s f n (to_rows s n)) (rows_of f)
    (λ j m g. row_read_within s f n (place s (to_rows s n) j) j (rows_within s f n (to_rows s n) j k g)))
    (λ (g : rows ≡ Fine). end_within s (to_end s f n) (rows_within s f n (to_rows s n) (rows_of f) k g)))

pub read_within : (s : List ℕ) → offset_of (read_check s) ≤ length s
unfolding Within read_check
read_within s =
    or_reached (Within s) (head_record_check s) (rest_check s (f_in s) (n_in s)) (head_within s)
    (λ (h : head_record_check s ≡ Fine).
    rest_within s (f_in s) (n_in s) (next_within s 0 head_kind (head_fine s h).whole))
