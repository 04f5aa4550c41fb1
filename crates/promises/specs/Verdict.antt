-- A client's verdict by its figures (document 01, Judging and searching).
use Rattle.std.specs.Prelude.{ℕ, ◌*◌, leb}
use Rattle.records.specs.First.{pick}
use Rattle.plan.specs.declared.Client.{Client}
use Rattle.judge.specs.declared.Verdict.{Verdict}
use Rattle.judge.specs.declared.Verdict.TheVariants.{Ok, Rate, Late}

-- "Its verdict is `rate` if it lacks rate, else `late` if it is not in time, else `ok`", where "A client has enough
-- rate when m × q ≥ p × f, and is in time when L × b ≤ a × m"
unfoldable pub verdict_by : Client → (f m L : ℕ) → Verdict
verdict_by x f m L = pick (leb (x.p * f) (m * x.q)) (pick (leb (L * x.b) (x.a * m)) Ok Late) Rate
