-- Each number of each entry is given somewhere: for every row inputs that are refused with its numbers, one by one.
-- Assumes nothing.
use mathlib.Core.Path.{refl}
use mathlib.Core.List.{List, [], ◌∷◌, ◌++◌, map}
use Prim.Native.Nat.{ℕ}
use lib.ListN.{replicate}
use Rattle.frame.specs.Frame.{within}
use Rattle.records.specs.First.{range_check, first_of}
use Rattle.records.specs.Entry.{Shown}
use Rattle.records.specs.Pieces.{many, firsts, onto, padded}
use Rattle.records.specs.Record.{record_check_by, over_check}
use Rattle.plan.specs.declared.Plan.{Plan}
use Rattle.plan.specs.Plan.{no_client, own_in}
use Rattle.plan.specs.Check.{client_check, owner_check, client_check_of, requirements_check, owner_check_of}
use Rattle.plan.specs.Check.{owners_check, plan_check, asked_check}
use Rattle.stream.specs.Kind.{kind_check}
use Rattle.stream.specs.Read.{next_place, place, due_check, head_record_check, client_at, number_check}
use Rattle.stream.specs.Read.{client_record_check, client_due_check, slot_check, slot_due_check, row_record_check}
use Rattle.stream.specs.Read.{row_due_check, end_record_check, rest_check, read_check, client_in, owner_in, plan_of}
use Rattle.stream.specs.Read.{read_of}
use Rattle.stream.specs.Trip.{copy_check}
use Rattle.stream.specs.Write.{client_bytes, client_record, slot_byte, row_byte, row_record, stream_of, write_check}
use Rattle.figures.specs.Check.{figure_check, wait_check}
use Rattle.search.specs.Search.{size_check, search_check}
use Rattle.arbiter.specs.declared.Arbiter.{Arbiter}
use Rattle.arbiter.specs.Step.{position_check, arrivals_check, step_check}
use Rattle.promises.specs.Entries.{Name, entry}
use Rattle.promises.specs.Readings.{head, client, row, longer}

-- ---- plans

-- a plan of one client and one slot
abbrev small : (f n p b owner : ℕ) → Plan
small f n p b owner =
    record {
      f = f;
      n = n;
      clients = padded (λ i. record { p = p; q = 1; a = 0; b = b }) 1 8 no_client;
      owners = padded (λ x. owner) 1 64 0;
    }

-- one that passes, and one whose slot is idle
abbrev fine : Plan
fine = small 1 1 1 1 1

abbrev idle : Plan
idle = small 1 1 1 1 0

-- 5, 6, 8 and 9
abbrev lacking : List Plan
lacking = small 0 1 1 1 1 ∷ small 1 0 1 1 1 ∷ small 1 1 0 1 1 ∷ small 1 1 1 0 1 ∷ []

-- then 10
abbrev faulty : List Plan
faulty = lacking ++ (small 1 1 1 1 2 ∷ [])

-- ---- streams

-- 1 to 11
abbrev streams : List (List ℕ)
streams =
    []
    ∷ (4 ∷ [])
    ∷ (9 ∷ [])
    ∷ (head ++ client ++ row ++ (9 ∷ 9 ∷ []))
    ∷ (1 ∷ 0 ∷ 0 ∷ [])
    ∷ (1 ∷ 64 ∷ 9 ∷ [])
    ∷ (head ++ (2 ∷ 2 ∷ 0 ∷ 0 ∷ 0 ∷ 2 ∷ 0 ∷ 3 ∷ 0 ∷ 0 ∷ []))
    ∷ (head ++ (2 ∷ 1 ∷ 0 ∷ 3 ∷ 0 ∷ 2 ∷ 0 ∷ 3 ∷ 0 ∷ 0 ∷ []))
    ∷ (head ++ (2 ∷ 1 ∷ 0 ∷ 2 ∷ 0 ∷ 2 ∷ 0 ∷ 3 ∷ 0 ∷ 0 ∷ []))
    ∷ (head ++ client ++ (3 ∷ 2 ∷ replicate 7 255))
    ∷ (head ++ client ++ (3 ∷ 1 ∷ replicate 7 0))
    ∷ []

-- one that is read, and one in which nobody owns a slot
abbrev whole : List ℕ
whole = head ++ client ++ row ++ (9 ∷ [])

abbrev unowned : List ℕ
unowned = head ++ client ++ (3 ∷ 0 ∷ 0 ∷ replicate 6 255) ++ (9 ∷ [])

-- ---- what is handed in besides

abbrev with : {A B : Type 0} → B → A → A × B
with y x = (x, y)

-- a record at this position, and as nine bytes
abbrev record_at : ℕ → Arbiter
record_at x = record { position = x; pending = replicate 8 0 }

abbrev bytes_at : ℕ → List ℕ
bytes_at x = x ∷ replicate 8 0

-- a plan's faults, then a position that is not below f, and a list without entries
abbrev step_inputs : List (Plan × (Arbiter × List ℕ))
step_inputs =
    map (with (record_at 0, 1 ∷ [])) faulty
    ++ ((fine, (record_at 1, 1 ∷ [])) ∷ (fine, (record_at 0, [])) ∷ [])

-- ---- the table

pub shown : (name : Name) → Shown (entry name)
unfolding within many firsts onto padded own_in range_check first_of record_check_by over_check client_check owner_check
    client_check_of requirements_check owner_check_of owners_check plan_check asked_check kind_check next_place place
    due_check head_record_check client_at number_check client_record_check client_due_check slot_check slot_due_check
    row_record_check row_due_check end_record_check rest_check read_check client_in owner_in plan_of read_of copy_check
    client_bytes client_record slot_byte row_byte row_record stream_of write_check figure_check wait_check size_check
    search_check position_check arrivals_check step_check
shown (Name.records::or_else E) = ([], refl)
shown (Name.records::check_range E) = ([], refl)
shown Name.records::wide = ([], refl)
shown Name.records::kind_at = ([], refl)
shown Name.records::check_record = ([], refl)
shown (Name.records::check_record_by E) = ([], refl)
shown Name.records::check_over = (((1 ∷ []), 0) ∷ [], refl)
shown Name.plan::no_client = ([], refl)
shown Name.plan::no_plan = ([], refl)
shown Name.plan::with_table = ([], refl)
shown Name.plan::check_requirements = (map (with tt) lacking, refl)
shown Name.plan::check = (map (with tt) faulty, refl)
shown Name.plan::check_asked = (map (with 1) faulty ++ ((fine, 0) ∷ []), refl)
shown Name.stream::read = (map (with tt) streams, refl)
shown Name.stream::write = (map (with (replicate 156 0)) faulty ++ ((fine, []) ∷ []), refl)
shown Name.stream::rewritten = (map (with (replicate 156 0)) streams ++ ((whole, []) ∷ []), refl)
shown Name.stream::reread = (map (with tt) faulty, refl)
shown Name.figures::figure_of = (map (with 1) faulty ++ ((fine, 0) ∷ (idle, 1) ∷ []), refl)
shown Name.figures::wait_for =
    (map (with (1, 1)) faulty ++ ((fine, (0, 1)) ∷ (idle, (1, 1)) ∷ (fine, (1, 0)) ∷ []), refl)
shown Name.figures::default_wait = (map (with 1) faulty ++ ((fine, 0) ∷ (idle, 1) ∷ []), refl)
shown Name.judge::judge = (map (with tt) faulty, refl)
shown Name.judge::verdict_of = (map (with 1) faulty ++ ((fine, 0) ∷ []), refl)
shown Name.search::search = (map (with tt) (lacking ++ (small 9 1 1 1 0 ∷ [])), refl)
shown Name.arbiter::step = (step_inputs, refl)
shown Name.arbiter::step_in_place = (step_inputs, refl)
shown Name.arbiter::step_lending = (step_inputs, refl)
shown Name.text::put_refusal = ([], refl)
shown Name.listing::report = ([], refl)
shown Name.listing::homing = ([], refl)
shown Name.capi::gwelathur_read = (map (with tt) streams, refl)
shown Name.capi::gwelathur_figures = (map (with 1) streams ++ ((whole, 0) ∷ (unowned, 1) ∷ []), refl)
shown Name.capi::gwelathur_wait =
    (map (with (1, 1)) streams ++ ((whole, (0, 1)) ∷ (unowned, (1, 1)) ∷ (whole, (1, 0)) ∷ []), refl)
shown Name.capi::gwelathur_default_wait = (map (with 1) streams ++ ((whole, 0) ∷ (unowned, 1) ∷ []), refl)
shown Name.capi::gwelathur_judge = (map (with tt) streams, refl)
shown Name.capi::gwelathur_verdict = (map (with 1) streams ++ ((whole, 0) ∷ []), refl)
shown Name.capi::gwelathur_search = (map (with (replicate 156 0)) (streams ++ (longer ∷ [])), refl)
shown Name.capi::gwelathur_search_whole = (map (with (replicate 156 0)) (streams ++ (longer ∷ [])), refl)
shown Name.capi::gwelathur_write = (map (with (replicate 156 0)) streams ++ ((whole, []) ∷ []), refl)
shown Name.capi::gwelathur_step =
    (map (with (bytes_at 0, 1 ∷ [])) streams ++ ((whole, (bytes_at 2, 1 ∷ [])) ∷ (whole, (bytes_at 0, [])) ∷ []), refl)
shown Name.capi::gwelathur_report = ([], refl)
shown Name.capi::gwelathur_homing = ([], refl)
