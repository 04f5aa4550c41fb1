-- The readings worked out by hand, plans and refusals, are those that the definitions compute.
-- Assumes nothing.
use mathlib.Core.Path.{◌≡◌, refl}
use mathlib.Core.List.{map}
use Rattle.records.specs.First.{range_check, first_of}
use Rattle.records.specs.Pieces.{firsts, onto, padded}
use Rattle.records.specs.Record.{record_check_by, over_check}
use Rattle.plan.specs.Check.{client_check, owner_check}
use Rattle.stream.specs.Kind.{kind_check}
use Rattle.stream.specs.Read.{next_place, place, due_check, head_record_check, client_at, number_check}
use Rattle.stream.specs.Read.{client_record_check, client_due_check, slot_check, slot_due_check, row_record_check}
use Rattle.stream.specs.Read.{row_due_check, end_record_check, rest_check, read_check, client_in, owner_in, plan_of}
use Rattle.stream.specs.Read.{read_of}
use Rattle.promises.specs.Readings.{gives, Example, examples}

pub worked : map (λ (e : Example). gives (read_of e.stream)) examples ≡ map (λ (e : Example). e.reading) examples
unfolding examples read_of read_check head_record_check rest_check end_record_check due_check record_check_by over_check
    kind_check first_of client_due_check client_record_check number_check client_check client_at row_due_check
    row_record_check slot_due_check slot_check owner_check range_check next_place place plan_of client_in owner_in
    firsts onto padded
worked = refl
