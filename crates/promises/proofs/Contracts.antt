-- The table's contracts: each entry's own, as the kit makes it of the words in its lib.rt. Each is its row's, and asks
-- nothing of a call.
-- Assumes nothing.
use Rattle.records.specs.Entry.{Contract, contract, Tied}
use Rattle.records.proofs.Entries as records
use Rattle.plan.proofs.Entries as plan
use Rattle.stream.proofs.Entries as stream
use Rattle.figures.proofs.Entries as figures
use Rattle.judge.proofs.Entries as judge
use Rattle.search.proofs.Entries as search
use Rattle.arbiter.proofs.Entries as arbiter
use Rattle.text.proofs.Entries as text
use Rattle.listing.proofs.Entries as listing
use Rattle.capi.proofs.Entries as capi
use Rattle.records.proofs.or_else.Reads as records_or_else
use Rattle.records.proofs.check_range.Reads as records_check_range
use Rattle.records.proofs.wide.Reads as records_wide
use Rattle.records.proofs.kind_at.Reads as records_kind_at
use Rattle.records.proofs.check_record.Reads as records_check_record
use Rattle.records.proofs.check_record_by.Reads as records_check_record_by
use Rattle.records.proofs.check_over.Reads as records_check_over
use Rattle.plan.proofs.no_client.Reads as plan_no_client
use Rattle.plan.proofs.no_plan.Reads as plan_no_plan
use Rattle.plan.proofs.with_table.Reads as plan_with_table
use Rattle.plan.proofs.check_requirements.Reads as plan_check_requirements
use Rattle.plan.proofs.check.Reads as plan_check
use Rattle.plan.proofs.check_asked.Reads as plan_check_asked
use Rattle.stream.proofs.read.Reads as stream_read
use Rattle.stream.proofs.write.Reads as stream_write
use Rattle.stream.proofs.rewritten.Reads as stream_rewritten
use Rattle.stream.proofs.reread.Reads as stream_reread
use Rattle.figures.proofs.figure_of.Reads as figures_figure_of
use Rattle.figures.proofs.wait_for.Reads as figures_wait_for
use Rattle.figures.proofs.default_wait.Reads as figures_default_wait
use Rattle.judge.proofs.judge.Reads as judge_judge
use Rattle.judge.proofs.verdict_of.Reads as judge_verdict_of
use Rattle.search.proofs.search.Reads as search_search
use Rattle.arbiter.proofs.step.Reads as arbiter_step
use Rattle.arbiter.proofs.step_in_place.Reads as arbiter_step_in_place
use Rattle.arbiter.proofs.step_lending.Reads as arbiter_step_lending
use Rattle.text.proofs.put_refusal.Reads as text_put_refusal
use Rattle.listing.proofs.report.Reads as listing_report
use Rattle.listing.proofs.homing.Reads as listing_homing
use Rattle.capi.proofs.gwelathur_read.Reads as capi_read
use Rattle.capi.proofs.gwelathur_figures.Reads as capi_figures
use Rattle.capi.proofs.gwelathur_wait.Reads as capi_wait
use Rattle.capi.proofs.gwelathur_default_wait.Reads as capi_default_wait
use Rattle.capi.proofs.gwelathur_judge.Reads as capi_judge
use Rattle.capi.proofs.gwelathur_verdict.Reads as capi_verdict
use Rattle.capi.proofs.gwelathur_search.Reads as capi_search
use Rattle.capi.proofs.gwelathur_search_whole.Reads as capi_search_whole
use Rattle.capi.proofs.gwelathur_write.Reads as capi_write
use Rattle.capi.proofs.gwelathur_step.Reads as capi_step
use Rattle.capi.proofs.gwelathur_report.Reads as capi_report
use Rattle.capi.proofs.gwelathur_homing.Reads as capi_homing
use Rattle.promises.specs.Entries.{Name, entry}

-- the contract of each entry
abbrev pub contract_of : Name → Contract
contract_of (Name.records::or_else E) =
    contract (records_or_else.Pre E.type E.laws E.copied E.cloned E.methods)
    (records_or_else.Post E.type E.laws E.copied E.cloned E.methods)
contract_of (Name.records::check_range E) =
    contract (records_check_range.Pre E.type E.laws E.copied E.cloned E.methods)
    (records_check_range.Post E.type E.laws E.copied E.cloned E.methods)
contract_of Name.records::wide = contract records_wide.Pre records_wide.Post
contract_of Name.records::kind_at = contract records_kind_at.Pre records_kind_at.Post
contract_of Name.records::check_record = contract records_check_record.Pre records_check_record.Post
contract_of (Name.records::check_record_by E) =
    contract (records_check_record_by.Pre E.type E.laws E.copied E.cloned E.methods)
    (records_check_record_by.Post E.type E.laws E.copied E.cloned E.methods)
contract_of Name.records::check_over = contract records_check_over.Pre records_check_over.Post
contract_of Name.plan::no_client = contract plan_no_client.Pre plan_no_client.Post
contract_of Name.plan::no_plan = contract plan_no_plan.Pre plan_no_plan.Post
contract_of Name.plan::with_table = contract plan_with_table.Pre plan_with_table.Post
contract_of Name.plan::check_requirements = contract plan_check_requirements.Pre plan_check_requirements.Post
contract_of Name.plan::check = contract plan_check.Pre plan_check.Post
contract_of Name.plan::check_asked = contract plan_check_asked.Pre plan_check_asked.Post
contract_of Name.stream::read = contract stream_read.Pre stream_read.Post
contract_of Name.stream::write = contract stream_write.Pre stream_write.Post
contract_of Name.stream::rewritten = contract stream_rewritten.Pre stream_rewritten.Post
contract_of Name.stream::reread = contract stream_reread.Pre stream_reread.Post
contract_of Name.figures::figure_of = contract figures_figure_of.Pre figures_figure_of.Post
contract_of Name.figures::wait_for = contract figures_wait_for.Pre figures_wait_for.Post
contract_of Name.figures::default_wait = contract figures_default_wait.Pre figures_default_wait.Post
contract_of Name.judge::judge = contract judge_judge.Pre judge_judge.Post
contract_of Name.judge::verdict_of = contract judge_verdict_of.Pre judge_verdict_of.Post
contract_of Name.search::search = contract search_search.Pre search_search.Post
contract_of Name.arbiter::step = contract arbiter_step.Pre arbiter_step.Post
contract_of Name.arbiter::step_in_place = contract arbiter_step_in_place.Pre arbiter_step_in_place.Post
contract_of Name.arbiter::step_lending = contract arbiter_step_lending.Pre arbiter_step_lending.Post
contract_of Name.text::put_refusal = contract text_put_refusal.Pre text_put_refusal.Post
contract_of Name.listing::report = contract listing_report.Pre listing_report.Post
contract_of Name.listing::homing = contract listing_homing.Pre listing_homing.Post
contract_of Name.capi::gwelathur_read = contract capi_read.Pre capi_read.Post
contract_of Name.capi::gwelathur_figures = contract capi_figures.Pre capi_figures.Post
contract_of Name.capi::gwelathur_wait = contract capi_wait.Pre capi_wait.Post
contract_of Name.capi::gwelathur_default_wait = contract capi_default_wait.Pre capi_default_wait.Post
contract_of Name.capi::gwelathur_judge = contract capi_judge.Pre capi_judge.Post
contract_of Name.capi::gwelathur_verdict = contract capi_verdict.Pre capi_verdict.Post
contract_of Name.capi::gwelathur_search = contract capi_search.Pre capi_search.Post
contract_of Name.capi::gwelathur_search_whole = contract capi_search_whole.Pre capi_search_whole.Post
contract_of Name.capi::gwelathur_write = contract capi_write.Pre capi_write.Post
contract_of Name.capi::gwelathur_step = contract capi_step.Pre capi_step.Post
contract_of Name.capi::gwelathur_report = contract capi_report.Pre capi_report.Post
contract_of Name.capi::gwelathur_homing = contract capi_homing.Pre capi_homing.Post

-- a contract that is loosened in lib.rt, or that asks something, is refused here
pub tied : (name : Name) → Tied (entry name) (contract_of name)
tied (Name.records::or_else E) = records.or_else_tied E
tied (Name.records::check_range E) = records.range_tied E
tied Name.records::wide = records.wide_tied
tied Name.records::kind_at = records.kind_tied
tied Name.records::check_record = records.record_tied
tied (Name.records::check_record_by E) = records.record_by_tied E
tied Name.records::check_over = records.over_tied
tied Name.plan::no_client = plan.no_client_tied
tied Name.plan::no_plan = plan.no_plan_tied
tied Name.plan::with_table = plan.table_tied
tied Name.plan::check_requirements = plan.requirements_tied
tied Name.plan::check = plan.check_tied
tied Name.plan::check_asked = plan.asked_tied
tied Name.stream::read = stream.read_tied
tied Name.stream::write = stream.write_tied
tied Name.stream::rewritten = stream.rewritten_tied
tied Name.stream::reread = stream.reread_tied
tied Name.figures::figure_of = figures.figure_tied
tied Name.figures::wait_for = figures.wait_tied
tied Name.figures::default_wait = figures.default_tied
tied Name.judge::judge = judge.judge_tied
tied Name.judge::verdict_of = judge.verdict_tied
tied Name.search::search = search.search_tied
tied Name.arbiter::step = arbiter.step_tied
tied Name.arbiter::step_in_place = arbiter.in_place_tied
tied Name.arbiter::step_lending = arbiter.lending_tied
tied Name.text::put_refusal = text.put_refusal_tied
tied Name.listing::report = listing.report_tied
tied Name.listing::homing = listing.homing_tied
tied Name.capi::gwelathur_read = capi.c_read_tied
tied Name.capi::gwelathur_figures = capi.c_figures_tied
tied Name.capi::gwelathur_wait = capi.c_wait_tied
tied Name.capi::gwelathur_default_wait = capi.c_default_tied
tied Name.capi::gwelathur_judge = capi.c_judge_tied
tied Name.capi::gwelathur_verdict = capi.c_verdict_tied
tied Name.capi::gwelathur_search = capi.c_search_tied
tied Name.capi::gwelathur_search_whole = capi.c_whole_tied
tied Name.capi::gwelathur_write = capi.c_write_tied
tied Name.capi::gwelathur_step = capi.c_step_tied
tied Name.capi::gwelathur_report = capi.c_report_tied
tied Name.capi::gwelathur_homing = capi.c_homing_tied
