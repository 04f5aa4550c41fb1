-- The table of demand 1: the public entries of all crates, C's functions with them, and the row of each.
use Rattle.records.specs.Entry.{Entry, Plain, ValueOf}
use Rattle.records.specs.Entries as records
use Rattle.plan.specs.Entries as plan
use Rattle.stream.specs.Entries as stream
use Rattle.figures.specs.Entries as figures
use Rattle.judge.specs.Entries as judge
use Rattle.search.specs.Entries as search
use Rattle.arbiter.specs.Entries as arbiter
use Rattle.text.specs.Entries as text
use Rattle.listing.specs.Entries as listing
use Rattle.capi.specs.Entries as capi

-- the entries, a function of a crate each; one that is generic stands for each type that it may be called with
pub data Name : Type 2 where
  records::or_else : Plain → Name
  records::check_range : Plain → Name
  records::wide : Name
  records::kind_at : Name
  records::check_record : Name
  records::check_record_by : Plain → Name
  records::check_over : Name
  plan::no_client : Name
  plan::no_plan : Name
  plan::with_table : Name
  plan::check_requirements : Name
  plan::check : Name
  plan::check_asked : Name
  stream::read : Name
  stream::write : Name
  stream::rewritten : Name
  stream::reread : Name
  figures::figure_of : Name
  figures::wait_for : Name
  figures::default_wait : Name
  judge::judge : Name
  judge::verdict_of : Name
  search::search : Name
  arbiter::step : Name
  arbiter::step_in_place : Name
  arbiter::step_lending : Name
  text::put_refusal : Name
  listing::report : Name
  listing::homing : Name
  capi::gwelathur_read : Name
  capi::gwelathur_figures : Name
  capi::gwelathur_wait : Name
  capi::gwelathur_default_wait : Name
  capi::gwelathur_judge : Name
  capi::gwelathur_verdict : Name
  capi::gwelathur_search : Name
  capi::gwelathur_search_whole : Name
  capi::gwelathur_write : Name
  capi::gwelathur_step : Name
  capi::gwelathur_report : Name
  capi::gwelathur_homing : Name

-- what is handed in to each, what it refuses, and what comes back
abbrev pub entry : Name → Entry
entry (Name.records::or_else E) = records.or_else_entry (ValueOf E)
entry (Name.records::check_range E) = records.range_entry (ValueOf E)
entry Name.records::wide = records.wide_entry
entry Name.records::kind_at = records.kind_entry
entry Name.records::check_record = records.record_entry
entry (Name.records::check_record_by E) = records.record_by_entry (ValueOf E)
entry Name.records::check_over = records.over_entry
entry Name.plan::no_client = plan.no_client_entry
entry Name.plan::no_plan = plan.no_plan_entry
entry Name.plan::with_table = plan.table_entry
entry Name.plan::check_requirements = plan.requirements_entry
entry Name.plan::check = plan.check_entry
entry Name.plan::check_asked = plan.asked_entry
entry Name.stream::read = stream.read_entry
entry Name.stream::write = stream.write_entry
entry Name.stream::rewritten = stream.rewritten_entry
entry Name.stream::reread = stream.reread_entry
entry Name.figures::figure_of = figures.figure_entry
entry Name.figures::wait_for = figures.wait_entry
entry Name.figures::default_wait = figures.default_entry
entry Name.judge::judge = judge.judge_entry
entry Name.judge::verdict_of = judge.verdict_entry
entry Name.search::search = search.search_entry
entry Name.arbiter::step = arbiter.step_entry
entry Name.arbiter::step_in_place = arbiter.in_place_entry
entry Name.arbiter::step_lending = arbiter.step_entry
entry Name.text::put_refusal = text.put_refusal_entry
entry Name.listing::report = listing.report_entry
entry Name.listing::homing = listing.homing_entry
entry Name.capi::gwelathur_read = capi.c_read_entry
entry Name.capi::gwelathur_figures = capi.c_figures_entry
entry Name.capi::gwelathur_wait = capi.c_wait_entry
entry Name.capi::gwelathur_default_wait = capi.c_default_entry
entry Name.capi::gwelathur_judge = capi.c_judge_entry
entry Name.capi::gwelathur_verdict = capi.c_verdict_entry
entry Name.capi::gwelathur_search = capi.c_search_entry
entry Name.capi::gwelathur_search_whole = capi.c_search_entry
entry Name.capi::gwelathur_write = capi.c_write_entry
entry Name.capi::gwelathur_step = capi.c_step_entry
entry Name.capi::gwelathur_report = listing.report_entry
entry Name.capi::gwelathur_homing = listing.homing_entry
