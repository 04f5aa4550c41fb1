-- `stream::writer::put_client` meets its contract: two bytes and four words put, one after the other.
-- Assumes nothing.
use Rattle.records.proofs.Puts.{adds_then}
use Rattle.stream.specs.Write.{client_bytes}
use Rattle.stream.proofs.writer.put_client.Goals as goal

pub returns-clause-put : goal.returns-clause-put
unfolding client_bytes
returns-clause-put c =
    let number = adds_then c.put_byte.ensures c.put_byte-2.ensures in
    let rate = adds_then (adds_then number c.put_word.ensures) c.put_word-2.ensures in
    adds_then (adds_then rate c.put_word-3.ensures) c.put_word-4.ensures
