-- `capi::inner::record_in` meets its contract: the bytes one by one are the record.
-- Assumes nothing.
use borrow.Author.Rules.{rules}
use Rattle.std.proofs.Common.{◌≤◌, length}
use Rattle.capi.proofs.Laws.{nine_hold}
use Rattle.capi.proofs.inner.record_in.Goals as goal

pub returns : goal.returns
returns c =
    let bytes = c.args.bytes in
    let long : 9 ≤ length bytes = search rules in
    (nine_hold bytes long c.wide.ensures.0, c.wide.ensures.1)
