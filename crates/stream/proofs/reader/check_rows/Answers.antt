-- `stream::reader::check_rows` meets its contract: the loop's invariant is that the rows before j pass,
-- and where the next one stands.
-- Assumes nothing.
use Rattle.std.proofs.Common.{rules, ◌≡◌, Err}
use mathlib.Core.Path.{refl, ◌∙◌}
use native.Mathlib.Omega.{arith}
use Rattle.records.specs.First.{first_of}
use Rattle.records.proofs.Checks.{first_more, first_stop}
use Rattle.stream.specs.Kind.{rows_of}
use Rattle.stream.specs.Read.{row_due_check}
use Rattle.stream.proofs.Records.{row_next}
use Rattle.stream.proofs.reader.check_rows.Goals as goal

pub loop-j-init : goal.loop-j-init
unfolding first_of
loop-j-init c = (refl, omega arith)

pub returns-in_err-check_row : goal.returns-in_err-check_row
returns-in_err-check_row c =
    let a = c.args in
    let l = c.loop-j in
    let found = row_next a.s.now a.f a.n a.at l.j l.invariant.0 (rw l.invariant.1 at c.check_row.ensures) in
    let due = row_due_check a.s.now a.f a.n a.at in
    let gives : c.from_residual.result ≡ Err c.in_err-check_row.field-0.0 = search rules in
    gives ∙ first_stop due (rows_of a.f) l.j (omega arith) l.invariant.0 found c.in_err-check_row.was

pub loop-j-preserved : goal.loop-j-preserved
loop-j-preserved c =
    let a = c.args in
    let l = c.loop-j in
    let found = row_next a.s.now a.f a.n a.at l.j l.invariant.0 (rw l.invariant.1 at c.check_row.ensures) in (
      first_more (row_due_check a.s.now a.f a.n a.at) l.j l.invariant.0 found c.in_ok-check_row.was,
      omega (arith, c.whole-to.ensures),
    )
