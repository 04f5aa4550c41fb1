-- `stream::reader::check_slots` meets its contract: the loop's invariant is that the bytes before t pass.
-- Assumes nothing.
use Rattle.std.proofs.Common.{rules, ◌≡◌, ℕ, Err}
use mathlib.Core.Path.{refl, ◌∙◌}
use native.Mathlib.Omega.{arith}
use lib.ListN.{length-take}
use Rattle.records.specs.First.{first_of}
use Rattle.records.proofs.Checks.{first_more, first_stop}
use Rattle.stream.specs.Read.{slot_due_check}
use Rattle.stream.proofs.Records.{row_bytes}
use Rattle.stream.proofs.reader.check_slots.Goals as goal

pub loop-t-init : goal.loop-t-init
unfolding first_of
loop-t-init c = refl

pub returns-in_err-check_slot : goal.returns-in_err-check_slot
unfolding slot_due_check
returns-in_err-check_slot c =
    let a = c.args in
    let l = c.loop-t in
    let found = rw (row_bytes a.s.now a.at l.t c.loop-t-test.true) at c.check_slot.ensures in
    let g = slot_due_check a.s.now a.f a.n a.at a.j in
    let gives : c.from_residual.result ≡ Err c.in_err-check_slot.field-0.0 = search rules in
    gives ∙ first_stop g 8 l.t (omega (arith, length-take {A = ℕ})) l.invariant found c.in_err-check_slot.was

pub loop-t-preserved : goal.loop-t-preserved
unfolding slot_due_check
loop-t-preserved c =
    let a = c.args in
    let l = c.loop-t in
    let found = rw (row_bytes a.s.now a.at l.t c.loop-t-test.true) at c.check_slot.ensures in
    first_more (slot_due_check a.s.now a.f a.n a.at a.j) l.t l.invariant found c.in_ok-check_slot.was
