-- `capi::gwelathur_step` meets its contract: what is told of a step fits into bytes.
-- Assumes nothing.
use native.Mathlib.Omega.{arith}
use borrow.Author.Rules.{rules}
use Rattle.stream.specs.Read.{read_of}
use Rattle.capi.specs.Calls.{OfRead, IsStep}
use Rattle.capi.proofs.Laws.{told_small}
use Rattle.capi.proofs.gwelathur_step.Goals as goal

pub overflow_cast-stepped : goal.overflow_cast-stepped
overflow_cast-stepped c =
    let args = c.args in
    let record_in = c.record_in-record in
    let said = c.asked-said.result in
    let is : OfRead (IsStep record_in.result args.arrivals.now) (read_of args.s.now) said = search rules in
    let small = told_small record_in.result args.arrivals.now record_in.ensures.1 _ said is in
    rw c.told-number.ensures.1 (omega (arith, small.0))

pub overflow_cast-stepped-2 : goal.overflow_cast-stepped-2
overflow_cast-stepped-2 c =
    let args = c.args in
    let record_in = c.record_in-record in
    let said = c.asked-said.result in
    let is : OfRead (IsStep record_in.result args.arrivals.now) (read_of args.s.now) said = search rules in
    let small = told_small record_in.result args.arrivals.now record_in.ensures.1 _ said is in
    rw c.told-number.ensures.1 (omega (arith, small.1))
