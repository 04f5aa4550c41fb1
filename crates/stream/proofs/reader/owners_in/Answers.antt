-- `stream::reader::owners_in` meets its contract: the loop's invariant is the array whose first j rows are filled in.
-- A slot below f stands in a row that passed, so its byte lies in the stream.
-- Assumes nothing.
use Rattle.std.proofs.Common.{◌≡◌, List, ℕ, ◌+◌, ◌*◌, ◌/◌, ◌%◌, ◌≤◌, ◌<◌, length, arith}
use Rattle.records.specs.First.{first_of, Fine}
use Rattle.records.proofs.Lists.{padded_none}
use Rattle.stream.specs.Kind.{rows_of}
use Rattle.stream.specs.Read.{place, row_due_check, owner_in}
use Rattle.stream.proofs.Records.{rows_fine, place_rows}
use Rattle.stream.proofs.reader.owners_in.Goals as goal

-- the first k bytes of row j
row_room : (s : List ℕ) (f n at j k : ℕ) → first_of (row_due_check s f n at) (rows_of f) ≡ Fine → 8 * j + k ≤ f → k ≤ 8
    → (t : ℕ) → t < k → place s at j + (1 + t) < length s
row_room s f n at j k h l m t b = omega (arith, (rows_fine s f n at (rows_of f) h j (omega arith)).whole.room)

pub loop-j-init : goal.loop-j-init
loop-j-init c = padded_none (owner_in c.args.s.now c.args.at) 64 0

pub put_owners-requires-clause-sizes : goal.put_owners-requires-clause-sizes
put_owners-requires-clause-sizes c =
    let a = c.args in
    let there = place_rows a.s.now a.f a.n a.at (rows_of a.f) c.requires.2 c.loop-j.j (omega arith) in
    (omega arith, omega arith, omega arith, there)

pub put_owners-requires-clause-room : goal.put_owners-requires-clause-room
put_owners-requires-clause-room c =
    let a = c.args in
    row_room a.s.now a.f a.n a.at c.loop-j.j 8 c.requires.2 (omega arith) (omega arith)

pub put_owners-requires-2-clause-sizes : goal.put_owners-requires-2-clause-sizes
put_owners-requires-2-clause-sizes c =
    let a = c.args in
    let there = place_rows a.s.now a.f a.n a.at (rows_of a.f) c.requires.2 (a.f / 8) (omega arith) in
    (omega arith, omega arith, omega arith, there)

pub put_owners-requires-2-clause-room : goal.put_owners-requires-2-clause-room
put_owners-requires-2-clause-room c =
    let a = c.args in
    row_room a.s.now a.f a.n a.at (a.f / 8) (a.f % 8) c.requires.2 (omega arith) (omega arith)
