-- `listing::inner::put_line` meets its contract: the fields are put one after the other.
-- Assumes nothing.
use Rattle.records.proofs.Puts.{adds_then}
use Rattle.listing.specs.Listing.{line_text}
use Rattle.listing.proofs.inner.put_line.Goals as goal

pub returns-clause-put : goal.returns-clause-put
unfolding line_text
returns-clause-put c = search adds_then depth 9
