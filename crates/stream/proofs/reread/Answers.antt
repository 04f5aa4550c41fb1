-- `stream::reread` meets its contract: the bytes lent hold any stream, so what is written is read, and a refusal is the
-- plan's.
-- Assumes nothing.
use mathlib.Core.Path.{refl, sym}
use lib.ListN.{replicate}
use lib.Seq.{length-take-le}
use Rattle.stream.specs.Write.{longest}
use Rattle.stream.proofs.Trips.{fitted, reread_given, reread_refused}
use Rattle.stream.proofs.reread.Goals as goal

pub slice_bounds-bytes-end : goal.slice_bounds-bytes-end
slice_bounds-bytes-end c =
    (fitted c.args.plan (replicate longest 0) _ _ _ c.write.ensures.is c.in-Ok.is).fits

pub slice_bounds-read-end : goal.slice_bounds-read-end
slice_bounds-read-end c =
    let f = fitted c.args.plan (replicate longest 0) _ _ _ c.write.ensures.is c.in-Ok.is in
    sym (length-take-le _ c.write.new.out f.fits)

pub returns-in-Ok : goal.returns-in-Ok
returns-in-Ok c =
    let w = c.write.ensures in
    let f = fitted c.args.plan (replicate longest 0) _ _ _ w.is c.in-Ok.is in
    reread_given c.args.plan _ _ _ c.read.result f.passed w.back c.in-Ok.is c.read.ensures.is

pub returns-in-Err : goal.returns-in-Err
returns-in-Err c =
    let stopped = reread_refused c.args.plan (replicate longest 0) _ _ _ refl c.write.ensures.is c.in-Err.is in
    rw (sym c.at.ensures) at stopped
