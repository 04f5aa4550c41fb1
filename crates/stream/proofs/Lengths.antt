-- The lengths of a plan's records and of its stream: 4 + 10n + 9 × (f/8 rounded up), 23 to 156 bytes.
-- Assumes nothing.
use mathlib.Core.Path.{◌≡◌, refl}
use Prim.Native.Nat.{ℕ, ◌+◌, ◌*◌, ◌≤◌}
use native.Mathlib.Omega.{arith}
use lib.ListN.{length, length-append}
use Rattle.records.specs.Pieces.{many, firsts}
use Rattle.records.specs.First.{Fine}
use Rattle.records.proofs.Lists.{length_many}
use Rattle.plan.specs.declared.Client.{Client}
use Rattle.plan.specs.declared.Plan.{Plan}
use Rattle.plan.specs.Check.{plan_check}
use Rattle.plan.proofs.Laws.{plan_fine}
use Rattle.stream.specs.Kind.{head_kind, client_kind, row_kind, end_kind, whole_of, rows_of}
use Rattle.stream.specs.Write.{client_bytes, client_record, row_record, stream_of, longest}

pub length_client : (number : ℕ) (c : Client) → length (client_bytes number c) ≡ whole_of client_kind
unfolding client_bytes
length_client number c = refl

pub length_clients : (plan : Plan) (n : ℕ) → length (many (client_record plan) n) ≡ whole_of client_kind * n
unfolding client_record client_bytes
length_clients plan n = length_many (client_record plan) (whole_of client_kind) (λ i. refl) n

pub length_row : (plan : Plan) (j : ℕ) → length (row_record plan j) ≡ whole_of row_kind
unfolding row_record firsts
length_row plan j = refl

pub length_rows : (plan : Plan) (m : ℕ) → length (many (row_record plan) m) ≡ whole_of row_kind * m
length_rows plan m = length_many (row_record plan) (whole_of row_kind) (length_row plan) m

-- whatever the lengths of its records
pub length_parts : (plan : Plan) → length (stream_of plan)
    ≡ whole_of head_kind + length (many (client_record plan) plan.n) + length (many (row_record plan) (rows_of plan.f))
    + whole_of end_kind
unfolding stream_of
length_parts plan = simp length-append (omega arith)

-- "The length is 4 + 10n + 9 × (f/8 rounded up)"
pub length_stream : (plan : Plan) → length (stream_of plan) ≡ 4 + 10 * plan.n + 9 * rows_of plan.f
length_stream plan =
    omega (arith, length_parts plan, length_clients plan plan.n, length_rows plan (rows_of plan.f))

-- "23 to 156 bytes"
pub stream_sizes : (plan : Plan) → plan_check plan ≡ Fine
    → (23 ≤ length (stream_of plan)) × (length (stream_of plan) ≤ longest)
stream_sizes plan h =
    let b = (plan_fine plan h).bounds in
    let e = length_stream plan in
    (omega arith, omega arith)
