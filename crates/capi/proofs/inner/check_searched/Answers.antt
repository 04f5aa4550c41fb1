-- `capi::inner::check_searched` meets its contract: the checks of the search read no owners, so they find of the plan
-- that was read what they find of the idle one.
-- Assumes nothing.
use mathlib.Core.Path.{◌≡◌, sym, ◌∙◌}
use borrow.Author.Rules.{rules}
use Rattle.std.proofs.Common.{Err}
use Rattle.records.proofs.Checks.{refuses}
use Rattle.search.proofs.Same.{check_idle}
use Rattle.capi.proofs.inner.check_searched.Goals as goal

pub returns-in_err-check_search : goal.returns-in_err-check_search
returns-in_err-check_search c =
    let plan = c.in_ok-read.field-0 in
    let read = sym c.read.ensures.is ∙ c.in_ok-read.was in
    let refused = refuses (c.check_search.ensures ∙ check_idle plan) c.in_err-check_search.was in
    let gives : c.from_residual-in_err-check_search.result ≡ Err c.in_err-check_search.field-0.0.why = search rules in
    rw (read, gives) refused

pub returns : goal.returns
returns c =
    let plan = c.in_ok-read.field-0 in
    let read = sym c.read.ensures.is ∙ c.in_ok-read.was in
    let fine = sym (c.check_search.ensures ∙ check_idle plan) ∙ c.in_ok-check_search.was in
    rw read (fine, tt)
