-- `text::put_refusal` meets its contract: words and numbers are put one after the other.
-- Assumes nothing.
use native.Mathlib.Omega.{arith}
use Rattle.records.proofs.Puts.{adds_then}
use Rattle.text.specs.Text.{refusal_line}
use Rattle.text.proofs.put_refusal.Goals as goal

pub returns-clause-put : goal.returns-clause-put
unfolding refusal_line
returns-clause-put c =
    let number = adds_then c.put.ensures c.put_decimal.ensures.put in
    let offset = adds_then (adds_then number c.put-2.ensures) c.put_decimal-2.ensures.put in
    grind (arith, (adds_then offset c.put-3.ensures).put)
