-- `stream::writer::put_row` meets its contract: the kind and then the eight bytes.
-- Assumes nothing.
use Rattle.records.proofs.Puts.{adds_then}
use Rattle.stream.specs.Write.{row_record}
use Rattle.stream.proofs.writer.put_row.Goals as goal

pub returns : goal.returns
unfolding row_record
returns c = adds_then c.put_byte.ensures c.put_slots.ensures
