-- `stream::reader::check_row` meets its contract: the record decides where it is refused, else its eight bytes; in a
-- full row none of them lies past f.
-- Assumes nothing.
use mathlib.Core.Path.{◌∙◌}
use native.Mathlib.Omega.{arith}
use borrow.Author.Rules.{rules}
use Rattle.records.specs.First.{first_of}
use Rattle.records.proofs.Checks.{passes}
use Rattle.stream.specs.Kind.{row_kind}
use Rattle.stream.specs.Read.{slot_due_check, row_record_check}
use Rattle.stream.proofs.Records.{due_found, full_row}
use Rattle.stream.proofs.reader.check_row.Goals as goal

pub check_owners-requires : goal.check_owners-requires
check_owners-requires c = (due_found _ _ row_kind c.check_due.ensures c.in_ok-check_due.was).room

pub returns-then-j-f : goal.returns-then-j-f
unfolding row_record_check
returns-then-j-f c =
    let a = c.args in
    let slots = first_of (slot_due_check a.s.now a.f a.n a.at a.j) 8 in
    let full = full_row a.s.now a.f a.n a.at a.j (omega arith) in
    passes {y = slots} c.check_due.ensures c.in_ok-check_due.was (c.check_owners.ensures ∙ full)

pub check_slots-requires : goal.check_slots-requires
check_slots-requires c =
    (search rules, (due_found _ _ row_kind c.check_due.ensures c.in_ok-check_due.was).room)
