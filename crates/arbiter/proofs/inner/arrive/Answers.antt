-- `arbiter::inner::arrive` meets its contract: a turn joins one client's arrivals, and counts its rest.
-- Assumes nothing.
use mathlib.Core.Path.{◌≡◌}
use native.Mathlib.Omega.{arith}
use lib.ListN.{get_or}
use Rattle.records.proofs.Lists.{onto_none, onto_more, onto_past}
use Rattle.arbiter.proofs.inner.arrive.Goals as goal

pub loop-i-init : goal.loop-i-init
loop-i-init c = record { joined = onto_none _ _; turned_away = onto_none _ _ }

pub loop-i-preserved : goal.loop-i-preserved
loop-i-preserved c =
    let loop = c.loop-i in
    let v = get_or c.args.pending.now loop.i 0 in
    let x = get_or c.args.arrivals.now loop.i 0 in
    let kept : get_or loop.pending loop.i 0 ≡ v =
    rw loop.invariant.joined (onto_past _ loop.i _ 0 loop.i (omega arith)) in
    record {
      joined = rw (c.queue_of.ensures, kept, loop.invariant.joined) (onto_more _ loop.i _ (omega arith));
      turned_away = rw (c.away_of.ensures, kept, loop.invariant.turned_away) (onto_more _ loop.i _ (omega arith));
    }
