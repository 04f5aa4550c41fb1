-- `stream::writer::stream_length` meets its contract: it is the sum of its parts' lengths.
-- Assumes nothing.
use native.Mathlib.Omega.{arith}
use Rattle.stream.specs.Kind.{rows_of}
use Rattle.stream.proofs.Lengths.{length_clients, length_rows, length_parts}
use Rattle.stream.proofs.writer.stream_length.Goals as goal

pub returns : goal.returns
returns c =
    let args = c.args in
    let plan = args.plan in
    omega (arith, length_parts plan, length_clients plan plan.n, length_rows plan (rows_of plan.f))
