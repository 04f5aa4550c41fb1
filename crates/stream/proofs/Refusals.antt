-- A refused read has a number 1 to 11, a refused write 5, 6, 8, 9, 10 or 12, a refused copy 1 to 12: "Each refusal has
-- its number".
-- Assumes nothing.
use mathlib.Core.Path.{refl}
use mathlib.Core.Bool.{Bool, true, false}
use mathlib.Core.List.{List, [], ◌∷◌, ◌++◌}
use Prim.Native.Nat.{ℕ, ◌+◌, ◌*◌}
use lib.Dec.{ltb, leb, eqb}
use lib.ListN.{length, get_or}
use Rattle.records.specs.declared.refusal.Refusal.TheVariants as refusal
use Rattle.records.specs.First.{pick, unless, or_else, first_of, Gives, Outcome}
use Rattle.records.specs.Record.{over_check}
use Rattle.records.proofs.Refusals.{or_each, unless_gives, range_gives, or_gives, first_gives, record_gives}
use Rattle.records.proofs.Refusals.{over_gives, GivesDue}
use Rattle.std.specs.Prelude.{Ok, Err}
use Rattle.plan.specs.declared.Plan.{Plan}
use Rattle.plan.specs.Check.{frame_check, count_check, client_check, owner_check, plan_check}
use Rattle.plan.specs.Entries.{plan_numbers}
use Rattle.plan.proofs.Refusals.{client_gives, owner_gives, plan_gives}
use Rattle.stream.specs.Kind.{head_kind, client_kind, row_kind, end_kind, body_of, is_reserved, kind_check, rows_of}
use Rattle.stream.specs.Read.{f_in, n_in, next_place, place, due_check, head_record_check, client_at, number_check}
use Rattle.stream.specs.Read.{client_record_check, client_due_check, slot_check, slot_due_check, row_record_check}
use Rattle.stream.specs.Read.{row_due_check, end_record_check, to_clients, to_rows, to_end, rest_check, read_check}
use Rattle.stream.specs.Write.{stream_of, write_check}
use Rattle.stream.specs.Trip.{copy_check}
use Rattle.stream.specs.Entries.{read_numbers, write_numbers, copy_numbers}

-- ---- reading

-- a refusal of reading, or none
abbrev OfReading : Outcome → Type 0
OfReading = Gives read_numbers

kind_gives : (r e : Bool)
    → GivesDue read_numbers (pick r (Err refusal.Reserved) (pick e (Ok tt) (Err refusal.NotDue)))
kind_gives true e = refl
kind_gives false true = tt
kind_gives false false = refl

due_gives : (s : List ℕ) (at due : ℕ) → OfReading (due_check s at due)
unfolding due_check kind_check
due_gives s at due =
    let kind : ℕ = get_or s at 0 in
    record_gives read_numbers s at (kind_check due kind) (body_of kind) refl
    (kind_gives (is_reserved kind) (eqb kind due))

head_gives : (s : List ℕ) → OfReading (head_record_check s)
unfolding head_record_check
head_gives s =
    let frame : Outcome = frame_check (f_in s) in
    let count : Outcome = count_check (n_in s) in
    or_each OfReading (due_check s 0 head_kind) (or_else frame count) (due_gives s 0 head_kind)
    (or_each OfReading frame count (range_gives read_numbers (f_in s) 64 refusal.Frame refl)
    (range_gives read_numbers (n_in s) 8 refusal.Count refl))

client_read_gives : (s : List ℕ) (at number : ℕ) → OfReading (client_record_check s at number)
unfolding client_record_check number_check
client_read_gives s at number =
    let next : Outcome = number_check (get_or s (at + 1) 0) number at in
    let required : Outcome = client_check (client_at s at) at in
    or_each OfReading (due_check s at client_kind) (or_else next required) (due_gives s at client_kind)
    (or_each OfReading next required
    (unless_gives read_numbers (eqb (get_or s (at + 1) 0) number) refusal.NotNext at refl)
    (client_gives read_numbers (client_at s at) at refl refl))

slot_gives : (b : Bool) (n byte at : ℕ)
    → OfReading (pick b (owner_check byte n at) (unless (eqb byte 255) refusal.PastFrame at))
slot_gives true n byte at = owner_gives read_numbers byte n at refl
slot_gives false n byte at = unless_gives read_numbers (eqb byte 255) refusal.PastFrame at refl

row_read_gives : (s : List ℕ) (f n at j : ℕ) → OfReading (row_record_check s f n at j)
unfolding row_record_check slot_due_check slot_check
row_read_gives s f n at j =
    or_each OfReading (due_check s at row_kind) (first_of (slot_due_check s f n at j) 8) (due_gives s at row_kind)
    (first_gives read_numbers (slot_due_check s f n at j)
    (λ t. slot_gives (ltb (8 * j + t) f) n (get_or s (at + (1 + t)) 0) at) 8)

end_gives : (s : List ℕ) (at : ℕ) → OfReading (end_record_check s at)
unfolding end_record_check
end_gives s at =
    or_each OfReading (due_check s at end_kind) (over_check s (next_place s at)) (due_gives s at end_kind)
    (over_gives read_numbers s (next_place s at) refl)

rest_gives : (s : List ℕ) (f n : ℕ) → OfReading (rest_check s f n)
unfolding rest_check client_due_check row_due_check
rest_gives s f n =
    let clients : Outcome = first_of (client_due_check s (to_clients s)) n in
    let rows : Outcome = first_of (row_due_check s f n (to_rows s n)) (rows_of f) in
    let end : Outcome = end_record_check s (to_end s f n) in
    or_each OfReading clients (or_else rows end)
    (first_gives read_numbers (client_due_check s (to_clients s))
    (λ i. client_read_gives s (place s (to_clients s) i) (i + 1)) n)
    (or_each OfReading rows end
    (first_gives read_numbers (row_due_check s f n (to_rows s n))
    (λ j. row_read_gives s f n (place s (to_rows s n) j) j) (rows_of f))
    (end_gives s (to_end s f n)))

pub read_gives : (s : List ℕ) → Gives read_numbers (read_check s)
unfolding read_check
read_gives s =
    or_each OfReading (head_record_check s) (rest_check s (f_in s) (n_in s)) (head_gives s)
    (rest_gives s (f_in s) (n_in s))

-- ---- writing

-- 12 after the refusals of another check
room_gives : (ks : List ℕ) (o : Outcome) (size room : ℕ) → Gives ks o
    → Gives (ks ++ (12 ∷ [])) (or_else o (unless (leb size room) refusal.Room 0))
room_gives ks o size room h =
    let fits : Outcome = unless (leb size room) refusal.Room 0 in
    or_gives ks (12 ∷ []) o fits h (unless_gives (12 ∷ []) (leb size room) refusal.Room 0 refl)

pub write_gives : (plan : Plan) (room : ℕ) → Gives write_numbers (write_check plan room)
unfolding write_check
write_gives plan room = room_gives plan_numbers (plan_check plan) (length (stream_of plan)) room (plan_gives plan)

pub copy_gives : (s : List ℕ) (room : ℕ) → Gives copy_numbers (copy_check s room)
unfolding copy_check
copy_gives s room = room_gives read_numbers (read_check s) (length s) room (read_gives s)
