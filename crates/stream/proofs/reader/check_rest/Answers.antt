-- `stream::reader::check_rest` meets its contract: the clients decide where one is refused, then the rows,
-- then the end.
-- Assumes nothing.
use Rattle.std.proofs.Common.{rules, Err}
use mathlib.Core.Path.{◌≡◌, sym, ◌∙◌}
use native.Mathlib.Omega.{arith}
use Rattle.records.specs.First.{Fine, first_of}
use Rattle.records.proofs.Checks.{stops, passes}
use Rattle.stream.specs.Kind.{rows_of}
use Rattle.stream.specs.Read.{row_due_check, to_clients, to_rows, rest_check}
use Rattle.stream.proofs.Records.{place_clients, place_rows}
use Rattle.stream.proofs.reader.check_rest.Goals as goal

pub returns-in_err-check_clients : goal.returns-in_err-check_clients
unfolding rest_check
returns-in_err-check_clients c =
    let to = c.whole-to_clients.ensures.0 ∙ sym c.requires.2 in
    let gives : c.from_residual.result ≡ Err c.in_err-check_clients.field-0.0 = search rules in
    gives ∙ stops _ (rw to at c.check_clients.ensures) c.in_err-check_clients.was

pub returns-in_err-check_rows : goal.returns-in_err-check_rows
unfolding rest_check
returns-in_err-check_rows c =
    let a = c.args in
    let s = a.s.now in
    let to = c.whole-to_clients.ensures.0 ∙ sym c.requires.2 in
    let clients = rw to at c.check_clients.ensures in
    let passed = c.in_ok-check_clients.was in
    let k = place_clients s (to_clients s) a.n (rw clients at passed) a.n (omega arith) in
    let rows = rw (c.length.ensures, to, ← k) at c.check_rows.ensures in
    let due = first_of (row_due_check s a.f a.n (to_rows s a.n)) (rows_of a.f) in
    let gives : c.from_residual-in_err-check_rows.result ≡ Err c.in_err-check_rows.field-0.0 = search rules in
    gives ∙ passes clients passed (stops {x = due} _ rows c.in_err-check_rows.was)

pub returns : goal.returns
unfolding rest_check
returns c =
    let a = c.args in
    let s = a.s.now in
    let to = c.whole-to_clients.ensures.0 ∙ sym c.requires.2 in
    let clients = rw to at c.check_clients.ensures in
    let passed = c.in_ok-check_clients.was in
    let k = place_clients s (to_clients s) a.n (rw clients at passed) a.n (omega arith) in
    let rows = rw (c.length.ensures, to, ← k) at c.check_rows.ensures in
    let due = first_of (row_due_check s a.f a.n (to_rows s a.n)) (rows_of a.f) in
    let last : due ≡ Fine = rw rows at c.in_ok-check_rows.was in
    let m = place_rows s a.f a.n (to_rows s a.n) (rows_of a.f) last (rows_of a.f) (omega arith) in
    let end = rw (c.length.ensures, c.length-2.ensures, c.rows_of.ensures, to, ← k, ← m) at c.check_end.ensures in
    passes clients passed (passes {x = due} rows c.in_ok-check_rows.was end)
