-- `arbiter::inner::advance` meets its contract: it is the slot's work on a copy of the counts and on zeros, and the
-- position goes on.
-- Assumes nothing.
use borrow.Author.Rules.{rules}
use Rattle.records.specs.Pieces.{padded}
use Rattle.arbiter.specs.Step.{advanced}
use Rattle.arbiter.proofs.inner.advance.Goals as goal

pub returns : goal.returns
unfolding advanced padded
returns c = search rules
