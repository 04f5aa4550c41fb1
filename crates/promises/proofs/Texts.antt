-- Document 01's report is the one text that its contract allows of its plan's stream, and so is the homing listing: the
-- stream is read, each client's figures, wait and verdict are computed, and their lines are the text's.
-- Assumes nothing.
use mathlib.Core.Path.{◌≡◌, refl}
use mathlib.Core.List.{List, [], ◌++◌}
use Prim.Native.Nat.{ℕ}
use native.Mathlib.Omega.{arith}
use Rattle.std.specs.declared.result.Result.TheVariants as result
use Rattle.frame.specs.Frame.{within}
use Rattle.frame.specs.Largest.{largest, lack, lack_from, scaled_of, wait_of}
use Rattle.records.specs.First.{range_check, first_of, Fine}
use Rattle.records.specs.Pieces.{firsts, onto, padded}
use Rattle.records.specs.Record.{record_check_by, over_check}
use Rattle.plan.specs.Plan.{client_of, own_in, own_of, default_waiting}
use Rattle.plan.specs.Check.{client_check, owner_check, client_check_of, requirements_check, owner_check_of}
use Rattle.plan.specs.Check.{owners_check, plan_check}
use Rattle.plan.proofs.Laws.{Checked, plan_fine}
use Rattle.text.specs.Text.{bytes, decimal, decimal_of, Lines}
use Rattle.stream.specs.Kind.{kind_check}
use Rattle.stream.specs.Read.{next_place, place, due_check, head_record_check, client_at, number_check}
use Rattle.stream.specs.Read.{client_record_check, client_due_check, slot_check, slot_due_check, row_record_check}
use Rattle.stream.specs.Read.{row_due_check, end_record_check, rest_check, read_check, client_in, owner_in, plan_of}
use Rattle.stream.specs.Read.{read_of}
use Rattle.figures.specs.Figures.{IsFigures, IsWaitFor}
use Rattle.figures.proofs.Laws.{frame_of}
use Rattle.judge.specs.declared.Verdict.TheVariants.{Ok, Late}
use Rattle.judge.specs.Rules.{enough, covers, IsOk, IsLate}
use Rattle.judge.proofs.Laws.{first_at, judged_none}
use Rattle.listing.specs.Listing.{figures_text, wait_text, verdict_text, line_text, refused_text, closing_text}
use Rattle.listing.specs.Listing.{homing_line, IsReportLine, IsClosing, IsReportOf, IsHomingOf, IsHomingLine}
use Rattle.listing.specs.Listing.{IsReport, IsHoming}
use Rattle.listing.proofs.Laws.{client_asked}
use Rattle.listing.proofs.Once.{report_once, homing_once}
use Rattle.promises.specs.Bench.{report_plan, Only}
use Rattle.promises.specs.Texts.{report_stream, report_text, homing_text}
use Rattle.promises.proofs.Tests.{all_below, ok_test, ok_tested, late_test, late_tested}
use Rattle.promises.proofs.Figured.{Figured, figured, figure_allowed, wait_allowed}
use Rattle.promises.proofs.Bench.{only_answer}

-- ---- the plan

report_read : read_of report_stream ≡ result.Ok report_plan
unfolding report_stream read_of read_check head_record_check rest_check end_record_check due_check record_check_by
    over_check kind_check first_of client_due_check client_record_check number_check client_check client_at
    row_due_check row_record_check slot_due_check slot_check owner_check range_check next_place place plan_of client_in
    owner_in firsts onto padded
report_read = refl

report_fine : plan_check report_plan ≡ Fine
unfolding plan_check requirements_check owners_check client_check_of owner_check_of client_check owner_check range_check
    first_of firsts onto padded
report_fine = refl

report_checked : Checked report_plan
report_checked = plan_fine report_plan report_fine

-- ---- client 1: four slots, L 12, wait 5, late from slot 3 on for 5 slots

first_figured : Figured (own_of report_plan 1) 8 4 12
unfolding within scaled_of lack_from largest lack own_in firsts onto padded
first_figured = figured (own_of report_plan 1) 8 4 12 refl

first_figures : IsFigures report_plan 1 (result.Ok (record { slots = 4; scaled = 12 }))
first_figures = figure_allowed report_plan 1 report_checked (omega arith) (omega arith) _ refl 4 12 first_figured

first_wait : IsWaitFor report_plan 1 default_waiting (result.Ok 5)
unfolding wait_of
first_wait =
    wait_allowed report_plan 1 report_checked (omega arith) (omega arith) _ refl 4 12 first_figured
    default_waiting 5 refl

first_late : IsLate (client_of report_plan 0) (own_of report_plan 1) 8 3 5
unfolding late_test all_below enough covers within own_in firsts onto padded
first_late =
    late_tested (client_of report_plan 0) (own_of report_plan 1) 8 (frame_of report_plan 1 (omega arith)) 3 5 refl

first_line : IsReportLine report_plan 0 (bytes "1 4 12 5 late\n")
unfolding line_text figures_text wait_text verdict_text decimal_of decimal
first_line =
    record {
      line =
          record {
            client = 1;
            figures = result.Ok (record { slots = 4; scaled = 12 });
            wait = result.Ok 5;
            verdict = Late;
          };
      is =
          record {
            client = refl;
            figures = first_figures;
            wait = first_wait;
            verdict = (client_asked report_plan 0 report_fine (omega arith), (3, 5, first_late));
          };
      whole = refl;
    }

-- ---- client 2: two slots, L 6, wait 7, ok

second_figured : Figured (own_of report_plan 2) 8 2 6
unfolding within scaled_of lack_from largest lack own_in firsts onto padded
second_figured = figured (own_of report_plan 2) 8 2 6 refl

second_figures : IsFigures report_plan 2 (result.Ok (record { slots = 2; scaled = 6 }))
second_figures = figure_allowed report_plan 2 report_checked (omega arith) (omega arith) _ refl 2 6 second_figured

second_wait : IsWaitFor report_plan 2 default_waiting (result.Ok 7)
unfolding wait_of
second_wait =
    wait_allowed report_plan 2 report_checked (omega arith) (omega arith) _ refl 2 6 second_figured
    default_waiting 7 refl

second_ok : IsOk (client_of report_plan 1) (own_of report_plan 2) 8
unfolding ok_test all_below enough covers within own_in firsts onto padded
second_ok = ok_tested (client_of report_plan 1) (own_of report_plan 2) 8 (frame_of report_plan 2 (omega arith)) refl

second_line : IsReportLine report_plan 1 (bytes "2 2 6 7 ok\n")
unfolding line_text figures_text wait_text verdict_text decimal_of decimal
second_line =
    record {
      line =
          record {
            client = 2;
            figures = result.Ok (record { slots = 2; scaled = 6 });
            wait = result.Ok 7;
            verdict = Ok;
          };
      is =
          record {
            client = refl;
            figures = second_figures;
            wait = second_wait;
            verdict = (client_asked report_plan 1 report_fine (omega arith), second_ok);
          };
      whole = refl;
    }

-- ---- the report

-- two lines, one after the other
two_lines : (P : ℕ → List ℕ → Type 0) (a b : List ℕ) → P 0 a → P 1 b → Lines P 2 (a ++ b)
unfolding Lines
two_lines P a b p q = (a, b, (([], a, (refl, p, refl)), q, refl))

report_closing : IsClosing report_plan (bytes "refused 1 late\n")
unfolding closing_text refused_text verdict_text decimal_of decimal
report_closing =
    record {
      found = record { client = 1; verdict = Late; start = 3; length = 5 };
      is = (
        report_fine,
        first_at report_plan 0 2 0 _ (omega arith) (omega arith) (judged_none report_plan 0).0 first_late,
      );
      whole = refl;
    }

report_of : IsReportOf report_plan report_text
unfolding report_text
report_of =
    record {
      lines = bytes "1 4 12 5 late\n2 2 6 7 ok\n";
      closing = bytes "refused 1 late\n";
      each = two_lines (IsReportLine report_plan) _ _ first_line second_line;
      last = report_closing;
      whole = refl;
    }

-- "it writes", and nothing else
pub report_told : Only (IsReport report_stream) report_text
report_told = only_answer (IsReport report_stream) (report_once report_stream) report_text (rw report_read report_of)

-- ---- the homing listing

homing_of : IsHomingOf report_plan homing_text
unfolding homing_text homing_line wait_text decimal_of decimal
homing_of =
    two_lines (IsHomingLine report_plan) (bytes "1 5\n") (bytes "2 7\n")
    (record { wait = result.Ok 5; is = first_wait; whole = refl })
    (record { wait = result.Ok 7; is = second_wait; whole = refl })

-- "writes only number and default wait", and nothing else
pub homing_told : Only (IsHoming report_stream) homing_text
homing_told = only_answer (IsHoming report_stream) (homing_once report_stream) homing_text (rw report_read homing_of)
