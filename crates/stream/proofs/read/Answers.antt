-- `stream::read` meets its contract: the plan of a stream that passes, or its refusal; the round trip holds of any
-- answer that is the stream's.
-- Assumes nothing.
use Rattle.std.proofs.Common.{rules, ◌≡◌, Err}
use mathlib.Core.Path.{sym, ap, ◌∙◌}
use native.Mathlib.Omega.{arith}
use Rattle.std.specs.Prelude.{Ok}
use Rattle.stream.proofs.Answers.{read_given, read_refused, read_rewritten}
use Rattle.stream.proofs.read.Goals as goal

pub returns-in_err-check_stream-clause-is : goal.returns-in_err-check_stream-clause-is
returns-in_err-check_stream-clause-is c =
    let gives : c.from_residual.result ≡ Err c.in_err-check_stream.field-0.0 = search rules in
    gives ∙ sym (read_refused _ (sym c.check_stream.ensures ∙ c.in_err-check_stream.was))

pub returns-clause-is : goal.returns-clause-is
returns-clause-is c =
    ap Ok c.plan_at.ensures ∙ sym (read_given _ (sym c.check_stream.ensures ∙ c.in_ok-check_stream.was))

pub returns-clause-back : goal.returns-clause-back
returns-clause-back c =
    let is = ap Ok c.plan_at.ensures ∙ sym (read_given _ (sym c.check_stream.ensures ∙ c.in_ok-check_stream.was)) in
    read_rewritten _ (λ i. omega (arith, c.type_inv.s i)) is
