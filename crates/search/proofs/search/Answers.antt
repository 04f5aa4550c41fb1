-- `search::search` meets its contract: where the checks pass, the idle table may be mended, and that is the answer.
-- Assumes nothing.
use Rattle.std.proofs.Common.{sym, ◌∙◌, arith}
use Rattle.search.specs.Search.{idle_plan}
use Rattle.search.proofs.Questions.{search_fine}
use Rattle.search.proofs.Mending.{idle_owners, idle_slots, mends_accepted}
use Rattle.search.proofs.search.Goals as goal

pub mend-requires-clause-sizes : goal.mend-requires-clause-sizes
mend-requires-clause-sizes c =
    let args = c.args in
    let passed = sym c.check_search.ensures ∙ c.in_ok-check_search.was in
    let ok = search_fine (idle_plan args.f args.n args.clients) passed in
    let idle = idle_slots args.f args.n args.clients in
    (ok.bounds.f_low, ok.bounds.f_high, ok.bounds.n_high, omega (arith, idle, ok.short))

pub mend-requires-clause-owners : goal.mend-requires-clause-owners
mend-requires-clause-owners c = idle_owners c.args.f c.args.n c.args.clients

pub returns : goal.returns
returns c =
    let args = c.args in
    let found = mends_accepted args.f args.n args.clients c.mend.result c.mend.ensures in
    (sym c.check_search.ensures ∙ c.in_ok-check_search.was, found)
