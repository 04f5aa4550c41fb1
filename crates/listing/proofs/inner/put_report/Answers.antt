-- `listing::inner::put_report` meets its contract: the header, the lines and the last line are put.
-- Assumes nothing.
use Rattle.listing.proofs.Laws.{closing_put, report_put}
use Rattle.listing.proofs.inner.put_report.Goals as goal

pub returns-clause-puts : goal.returns-clause-puts
returns-clause-puts c =
    let plan = c.args.plan in
    let lines = c.put_lines-found in
    let closing = closing_put plan lines.result c.requires lines.ensures.judgement c.put_closing.ensures.put in
    report_put plan c.put.ensures lines.ensures.puts closing
