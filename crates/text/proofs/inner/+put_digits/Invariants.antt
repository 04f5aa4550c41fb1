-- The measure of `text::inner::put_digits` is the number: each call of itself has a tenth of it.
-- Assumes nothing.
use Rattle.text.proofs.inner.+put_digits.Given as goal

abbrev pub decreases-put_digits : goal.decreases-put_digits
decreases-put_digits l = l.x
