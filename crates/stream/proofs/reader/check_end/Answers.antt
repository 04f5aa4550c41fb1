-- `stream::reader::check_end` meets its contract: the end record decides where it is refused, else what follows it.
-- Assumes nothing.
use Rattle.records.proofs.Checks.{passes}
use Rattle.stream.specs.Kind.{end_kind}
use Rattle.stream.specs.Read.{end_record_check}
use Rattle.stream.proofs.Records.{due_found, next_whole}
use Rattle.stream.proofs.reader.check_end.Goals as goal

pub returns : goal.returns
unfolding end_record_check
returns c =
    let a = c.args in
    let passed = c.in_ok-check_due.was in
    let whole = due_found a.s.now a.at end_kind c.check_due.ensures passed in
    let next = next_whole a.s.now a.at end_kind whole.found in
    passes c.check_due.ensures passed (rw (c.whole.ensures.0, ← next) at c.check_over.ensures)
