-- `capi::gwelathur_search_whole` meets its contract: the output has room for the stream of the plan found.
-- Assumes nothing.
use mathlib.Core.Path.{◌≡◌, sym, ◌∙◌}
use native.Mathlib.Omega.{arith}
use lib.ListN.{length}
use borrow.Author.Rules.{rules}
use Rattle.stream.specs.Write.{longest}
use Rattle.capi.proofs.Laws.{found_fits, found_told}
use Rattle.capi.proofs.gwelathur_search_whole.Goals as goal

pub put_stream-requires : goal.put_stream-requires
put_stream-requires c =
    let found = c.in-Ok-Some in
    let is = rw found.is-0 at c.searched.ensures in
    let told = found_told c.searched.result found.owners (sym c.told-number.ensures.1 ∙ found.is-1) in
    let fits = found_fits found.plan found.owners (rw told at is) in
    let room : length c.args.out.now ≡ longest = search rules in
    rw c.with_table.ensures (fits.0, fits.1, omega (arith, fits.2, room))
