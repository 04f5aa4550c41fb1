-- `stream::reader::check_due` meets its contract: the length of the kind due is that of the kind found wherever it
-- matters (`due_body`).
-- Assumes nothing.
use mathlib.Core.Path.{◌∙◌}
use Rattle.stream.specs.Kind.{code}
use Rattle.stream.proofs.Records.{due_body}
use Rattle.stream.proofs.reader.check_due.Goals as goal

pub returns : goal.returns
returns c =
    let a = c.args in
    let found = rw (c.body.ensures.0, c.check_kind-found.ensures, c.kind_at.ensures) at c.check_record.ensures in
    found ∙ due_body a.s.now a.at (code a.due)
