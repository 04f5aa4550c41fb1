-- `records::output::Output::put` meets its contract: bytes copied to a place are stored there one by one.
-- Assumes nothing.
use mathlib.Core.Path.{refl}
use native.Mathlib.Omega.{arith}
use Rattle.std.proofs.lemmas.Grind.{common_steps}
use lib.Seq.{sets-eq}
use Rattle.records.proofs.output.Output.put.Goals as goal

pub returns : goal.returns
returns c =
    let out = c.args.self.now in
    let e = sets-eq c.args.bytes.now out.lent.now out.at c.requires in
    let copied = c.copy_from_slice.ensures in
    record {
      put = record { place = omega arith; stored = grind (arith, common_steps, e, copied.after) };
      long = grind (arith, common_steps, copied.after);
      same = refl;
    }
