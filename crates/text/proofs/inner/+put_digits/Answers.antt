-- `text::inner::put_digits` meets its contract: the digits of the tenth are put by the call of itself, and then the
-- last. The measure is the number.
-- Assumes nothing.
use Rattle.records.proofs.Puts.{adds_then}
use Rattle.text.proofs.Laws.{one_digit, last_digit}
use Rattle.text.proofs.inner.+put_digits.Goals as goal

pub returns-then-x-lt10 : goal.returns-then-x-lt10
returns-then-x-lt10 t c = rw (one_digit c.args.x c.if-x-lt10.true) c.put_byte.ensures

pub returns-else-x-lt10 : goal.returns-else-x-lt10
returns-else-x-lt10 t c =
    rw (last_digit c.args.x c.if-x-lt10.false) (adds_then c.put_digits.ensures c.put_byte-else-x-lt10.ensures)
