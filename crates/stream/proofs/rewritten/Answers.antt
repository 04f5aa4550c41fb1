-- `stream::rewritten` meets its contract: the read's refusal, or what the write gives of the plan read.
-- Assumes nothing.
use mathlib.Core.Path.{sym, ◌∙◌}
use Rattle.stream.proofs.Trips.{copy_refused, copied}
use Rattle.stream.proofs.rewritten.Goals as goal

pub returns-in-Err : goal.returns-in-Err
returns-in-Err c = copy_refused c.args.s.now c.args.out.now (sym c.read.ensures.is ∙ c.in-Err.is)

pub returns-in-Ok : goal.returns-in-Ok
returns-in-Ok c =
    let read = c.read.ensures in
    copied c.args.s.now c.args.out.now _ _ (rw read.is at read.back) (sym read.is ∙ c.in-Ok.is) c.write.ensures.is
