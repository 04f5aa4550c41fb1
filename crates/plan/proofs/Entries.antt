-- The rows of `plan` hold, and are their entries' own contracts.
-- Assumes nothing.
use mathlib.Core.Path.{refl}
use Rattle.records.specs.Entry.{Tight, contract, Tied}
use Rattle.records.proofs.Entry.{offset_none, tight_finds, tight_equal, tie}
use Rattle.plan.specs.Plan.{no_client, no_plan, Same, SameRequired, with_table}
use Rattle.plan.specs.Check.{requirements_check, plan_check, asked_check}
use Rattle.plan.specs.Entries.{requirements_numbers, plan_numbers, asked_numbers}
use Rattle.plan.specs.Entries.{requirements_entry, check_entry, asked_entry, no_client_entry, no_plan_entry}
use Rattle.plan.specs.Entries.{table_entry}
use Rattle.plan.proofs.Laws.{requirements_same, same_check, same_asked}
use Rattle.plan.proofs.Refusals.{requirements_gives, plan_gives, asked_gives}
use Rattle.plan.proofs.Refusals.{requirements_offset, plan_offset, asked_offset}
use Rattle.plan.proofs.check_requirements.Reads as check_requirements
use Rattle.plan.proofs.check.Reads as check
use Rattle.plan.proofs.check_asked.Reads as check_asked
use Rattle.plan.proofs.no_client.Reads as no_client_reads
use Rattle.plan.proofs.no_plan.Reads as no_plan_reads
use Rattle.plan.proofs.with_table.Reads as with_table_reads

pub requirements_tight : Tight requirements_entry
requirements_tight =
    tight_finds SameRequired (λ offset. 0) (λ plan more. requirements_check plan) requirements_numbers
    (λ plan more k offset. offset_none (requirements_check plan) (requirements_offset plan))
    (λ plan more. requirements_gives plan) refl (λ plan other same more. requirements_same plan other same)

pub requirements_tied : Tied requirements_entry (contract check_requirements.Pre check_requirements.Post)
requirements_tied = tie (λ a. a.0) (λ a. tt) (λ r z. r) (λ κs a. tt) (λ κs a r z. refl)

pub check_tight : Tight check_entry
check_tight =
    tight_finds Same (λ offset. 0) (λ plan more. plan_check plan) plan_numbers
    (λ plan more k offset. offset_none (plan_check plan) (plan_offset plan)) (λ plan more. plan_gives plan) refl
    (λ plan other same more. same_check plan other same)

pub check_tied : Tied check_entry (contract check.Pre check.Post)
check_tied = tie (λ a. a.0) (λ a. tt) (λ r z. r) (λ κs a. tt) (λ κs a r z. refl)

pub asked_tight : Tight asked_entry
asked_tight =
    tight_finds Same (λ offset. 0) asked_check asked_numbers
    (λ plan c k offset. offset_none (asked_check plan c) (asked_offset plan c)) asked_gives refl same_asked

pub asked_tied : Tied asked_entry (contract check_asked.Pre check_asked.Post)
asked_tied = tie (λ a. a.0) (λ a. a.1.0) (λ r z. r) (λ κs a. tt) (λ κs a r z. refl)

pub no_client_tight : Tight no_client_entry
no_client_tight = tight_equal (λ none more. no_client)

pub no_client_tied : Tied no_client_entry (contract no_client_reads.Pre no_client_reads.Post)
no_client_tied = tie (λ a. a) (λ a. tt) (λ r z. r) (λ κs a. tt) (λ κs a r z. refl)

pub no_plan_tight : Tight no_plan_entry
no_plan_tight = tight_equal (λ none more. no_plan)

pub no_plan_tied : Tied no_plan_entry (contract no_plan_reads.Pre no_plan_reads.Post)
no_plan_tied = tie (λ a. a) (λ a. tt) (λ r z. r) (λ κs a. tt) (λ κs a r z. refl)

pub table_tight : Tight table_entry
table_tight = tight_equal with_table

pub table_tied : Tied table_entry (contract with_table_reads.Pre with_table_reads.Post)
table_tied = tie (λ a. a.0) (λ a. a.1.0) (λ r z. r) (λ κs a. tt) (λ κs a r z. refl)
