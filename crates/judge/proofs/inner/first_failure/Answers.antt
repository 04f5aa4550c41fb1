-- `judge::inner::first_failure` meets its contract. Each loop keeps that all it has passed is in order: the clients
-- before i are ok, the stretches of client i + 1 that begin before `start` are in time, and of those from `start` the
-- ones shorter than `length`; w counts the client's slots along, and `at` is the place where the stretch ends.
-- Assumes nothing.
use mathlib.Core.Path.{sym, ◌∙◌}
use Prim.Native.Nat.{◌+◌}
use native.Mathlib.Omega.{arith}
use borrow.Author.Count.{below_more}
use lib.ListN.{get_or}
use Rattle.frame.proofs.Within.{within_none}
use Rattle.plan.specs.Plan.{client_of, own_of}
use Rattle.plan.proofs.Laws.{client_most}
use Rattle.figures.proofs.Laws.{frame_of, count_small, slots_small, count_on, place_zero, place_on}
use Rattle.judge.proofs.Laws.{lengths_suffice, starts_suffice, rate_tested, stretch_tested, all_more}
use Rattle.judge.proofs.inner.first_failure.Goals as goal

pub enough-requires : goal.enough-requires
enough-requires c =
    (omega arith, slots_small c.args.plan (c.clients.i + 1) _ c.slots-m.ensures (omega arith))

pub lengths-init : goal.lengths-init
lengths-init c =
    (sym (within_none _ _), place_zero c.args.plan.f c.starts.start (omega arith), λ k l. absurd (omega arith))

pub covers-requires : goal.covers-requires
covers-requires c =
    let lengths = c.lengths in
    let plan = c.args.plan in
    let client = c.clients.i + 1 in
    let w = count_small plan.owners plan.f client c.starts.start lengths.length (omega arith) in
    (omega arith, slots_small plan client _ c.slots-m.ensures (omega arith), omega arith, omega arith)

pub overflow_add-w : goal.overflow_add-w
overflow_add-w c =
    let lengths = c.lengths in
    let plan = c.args.plan in
    let client = c.clients.i + 1 in
    let w = count_small plan.owners plan.f client c.starts.start lengths.length (omega arith) in
    let one = client_most client (get_or plan.owners lengths.at 0) in
    omega (arith, c.owned_by-w.ensures)

pub lengths-preserved : goal.lengths-preserved
lengths-preserved c =
    let lengths = c.lengths in
    let plan = c.args.plan in
    let i = c.clients.i in
    let s = c.starts.start in
    let j = lengths.length in
    let w = lengths.invariant.0 in
    let place = lengths.invariant.1 in
    let x = client_of plan i in
    let found =
    stretch_tested x (own_of plan (i + 1)) plan.f _ s j _ _ c.covers.ensures c.slots-m.ensures w in (
      count_on plan.owners plan.f (i + 1) s j lengths.w lengths.at _ w place c.owned_by-w.ensures,
      c.next-at.ensures ∙ place_on plan.f s j lengths.at place,
      below_more _ _ lengths.invariant.2 (found ∙ c.if-not-covers.false),
    )

pub starts-preserved : goal.starts-preserved
starts-preserved c =
    let lengths = c.lengths in
    let starts = c.starts in
    let plan = c.args.plan in
    let i = c.clients.i in
    let x = client_of plan i in
    let tested = rate_tested x (own_of plan (i + 1)) plan.f _ _ c.enough.ensures c.slots-m.ensures in
    let rates = tested ∙ c.if-not-enough.false in
    let frame = frame_of plan (i + 1) (omega arith) in
    let here = lengths_suffice x frame rates starts.start (λ k l. lengths.invariant.2 k (omega arith)) in
    below_more _ _ starts.invariant here

pub clients-preserved : goal.clients-preserved
clients-preserved c =
    let args = c.args in
    let plan = args.plan in
    let i = c.clients.i in
    let x = client_of plan i in
    let tested = rate_tested x (own_of plan (i + 1)) plan.f _ _ c.enough.ensures c.slots-m.ensures in
    let rates = tested ∙ c.if-not-enough.false in
    let frame = frame_of plan (i + 1) (omega arith) in
    let time = starts_suffice x frame rates (λ t l. c.starts.invariant t (omega arith)) in
    all_more plan args.from i c.clients.invariant (record { rate = rates; time = time })
