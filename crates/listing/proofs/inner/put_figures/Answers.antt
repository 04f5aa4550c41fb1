-- `listing::inner::put_figures` meets its contract: a figure's two numbers are put one after the other.
-- Assumes nothing.
use Rattle.records.proofs.Puts.{adds_then}
use Rattle.listing.specs.Listing.{figures_text}
use Rattle.listing.proofs.inner.put_figures.Goals as goal

pub returns-in-Ok-clause-put : goal.returns-in-Ok-clause-put
unfolding figures_text
returns-in-Ok-clause-put c = rw c.in-Ok.is (search adds_then)
