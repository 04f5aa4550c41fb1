-- `listing::inner::put_homing_line` meets its contract: its fields are put one after the other.
-- Assumes nothing.
use Rattle.records.proofs.Puts.{adds_then}
use Rattle.listing.specs.Listing.{homing_line}
use Rattle.listing.proofs.inner.put_homing_line.Goals as goal

pub returns-clause-put : goal.returns-clause-put
unfolding homing_line
returns-clause-put c = search adds_then
