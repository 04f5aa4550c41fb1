-- `listing::inner::put_refused` meets its contract: its words are put one after the other.
-- Assumes nothing.
use Rattle.records.proofs.Puts.{adds_then}
use Rattle.listing.specs.Listing.{refused_text}
use Rattle.listing.proofs.inner.put_refused.Goals as goal

pub returns-clause-put : goal.returns-clause-put
unfolding refused_text
returns-clause-put c = search adds_then
