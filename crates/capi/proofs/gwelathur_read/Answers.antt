-- `capi::gwelathur_read` meets its contract: what the checks found is what reading says.
-- Assumes nothing.
use mathlib.Core.Path.{sym, ap, ◌∙◌}
use native.Mathlib.Omega.{arith}
use Rattle.records.specs.First.{number_of, offset_of}
use Rattle.stream.proofs.Answers.{reading_found, reading_refused}
use Rattle.capi.proofs.gwelathur_read.Goals as goal

pub returns-in-Ok : goal.returns-in-Ok
returns-in-Ok c =
    let fine = (reading_found _ (sym c.read.ensures.is ∙ c.in-Ok.is)).0 in
    record { returned = sym (ap number_of fine); stored = sym (ap offset_of fine) }

pub returns-in-Err : goal.returns-in-Err
returns-in-Err c =
    let refused = reading_refused _ (sym c.read.ensures.is ∙ c.in-Err.is) in
    record {
      returned = omega (arith, c.wide.ensures.0, c.wide.ensures.1, c.into.ensures, ap number_of refused);
      stored = sym (ap offset_of refused);
    }
