-- `stream::write` meets its contract: the plan's refusal, the room's, or the stream put at the front of the output.
-- Assumes nothing.
use Rattle.std.proofs.Common.{rules, ◌≡◌, Err}
use mathlib.Core.Path.{sym, ◌∙◌}
use Prim.Native.Nat.{◌≤◌}
use native.Mathlib.Nat.{zero-add}
use native.Mathlib.Omega.{arith}
use lib.ListN.{length, drop}
use Rattle.records.proofs.Puts.{put_front}
use Rattle.plan.proofs.Laws.{plan_fine}
use Rattle.stream.specs.Write.{stream_of}
use Rattle.stream.proofs.Answers.{plan_refused, room_refused, write_given, write_reread}
use Rattle.stream.proofs.write.Goals as goal

pub returns-in_err-check-clause-is : goal.returns-in_err-check-clause-is
returns-in_err-check-clause-is c =
    let gives : c.from_residual.result ≡ Err c.in_err-check.field-0.0.why = search rules in
    rw gives (plan_refused c.args.plan c.args.out.now (sym c.check.ensures ∙ c.in_err-check.was))

pub stream_length-requires : goal.stream_length-requires
stream_length-requires c =
    let b = (plan_fine c.args.plan (sym c.check.ensures ∙ c.in_ok-check.was)).bounds in
    (b.f_high, b.n_high)

pub returns-then-out-stream_length-clause-is : goal.returns-then-out-stream_length-clause-is
returns-then-out-stream_length-clause-is c =
    let size = c.stream_length.ensures in
    room_refused c.args.plan c.args.out.now (sym c.check.ensures ∙ c.in_ok-check.was) (omega arith)

pub put_stream-requires : goal.put_stream-requires
put_stream-requires c =
    let b = (plan_fine c.args.plan (sym c.check.ensures ∙ c.in_ok-check.was)).bounds in
    (b.f_high, b.n_high, omega arith)

pub returns : goal.returns
returns c =
    let plan = c.args.plan in
    let out = c.args.out.now in
    let fine = sym c.check.ensures ∙ c.in_ok-check.was in
    let put = c.put_stream.ensures in
    let n : length (stream_of plan) ≤ length out = omega (arith, c.stream_length.ensures) in
    let size : c.put_stream.result ≡ length (stream_of plan) =
    put.put.place ∙ zero-add (length (stream_of plan)) in
    let now = put_front put.put n in
    rw (size, now) (record {
      is = write_given plan out fine n;
      back = write_reread plan (drop (length (stream_of plan)) out) put.held fine;
    })
