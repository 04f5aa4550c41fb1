-- Laws of the two listings: what is put is the line of a client, the last line, or a whole text.
-- Assumes nothing.
use mathlib.Core.Path.{◌≡◌, refl}
use mathlib.Core.List.{List, ◌++◌}
use Prim.Native.Nat.{ℕ, ◌+◌, ◌-◌, ◌<◌}
use native.Mathlib.Omega.{arith}
use Rattle.records.specs.declared.output.Output.{Output}
use Rattle.records.specs.Put.{Put, Adds}
use Rattle.std.specs.Prelude.{Result}
use Rattle.std.specs.declared.result.Result.TheVariants as result
use Rattle.records.specs.declared.refusal.At.{At}
use Rattle.records.specs.declared.refusal.Refusal.{Refusal}
use Rattle.records.specs.Refusal.{number}
use Rattle.records.specs.First.{Fine}
use Rattle.records.specs.Said.{Said}
use Rattle.records.proofs.Puts.{then}
use Rattle.plan.specs.declared.Plan.{Plan}
use Rattle.plan.specs.Check.{plan_check, asked_check}
use Rattle.plan.proofs.Laws.{plan_fine, asked_pass}
use Rattle.text.specs.Text.{bytes, refusal_line, Lines, Puts, AddsOne}
use Rattle.text.proofs.Laws.{adds_no_line, adds_line}
use Rattle.stream.specs.Read.{read_of}
use Rattle.stream.proofs.Answers.{reading_checked}
use Rattle.figures.specs.Figures.{IsWaitFor}
use Rattle.judge.specs.declared.Verdict.{Verdict}
use Rattle.judge.specs.declared.Verdict.TheVariants.{Ok, Rate, Late}
use Rattle.judge.specs.declared.Judgement.{Judgement}
use Rattle.judge.specs.Judge.{IsJudgement, IsVerdictOf}
use Rattle.judge.proofs.Laws.{judged_none, verdict_by_lem}
use Rattle.listing.specs.declared.Line.{Line}
use Rattle.listing.specs.Listing.{header, line_text, refused_text, closing_text, homing_waiting, homing_line}
use Rattle.listing.specs.Listing.{IsLine, IsReportLine, IsClosing, IsReportOf, IsHomingLine, OrRefusal}

-- ---- a client of a plan that is checked

-- it can be asked about
pub client_asked : (plan : Plan) (i : ℕ) → plan_check plan ≡ Fine → i < plan.n → asked_check plan (i + 1) ≡ Fine
client_asked plan i fine i< = asked_pass plan (i + 1) (plan_fine plan fine) (omega arith) (omega arith)

-- and judged by itself
pub judged_verdict : (plan : Plan) (i : ℕ) (found : Judgement) → plan_check plan ≡ Fine → i < plan.n
    → IsJudgement plan i (i + 1) found → IsVerdictOf plan (i + 1) (result.Ok found.verdict)
judged_verdict plan i found fine i< is =
    let e : i + 1 - 1 ≡ i = omega arith in
    let verdict = verdict_by_lem plan i (i + 1) refl found.verdict found.client found.start found.length is in
    (client_asked plan i fine i<, rw e verdict)

-- ---- the last line

pub closes_ok : (c : ℕ) (v : Verdict) → v ≡ Ok → bytes "accepted\n" ≡ closing_text c v
unfolding closing_text
closes_ok c v e = rw e

pub closes_refused : (c : ℕ) (v : Verdict) → (v ≡ Ok → ⊥) → refused_text c v ≡ closing_text c v
unfolding closing_text
closes_refused c Ok h = absurd (h refl)
closes_refused c Rate h = refl
closes_refused c Late h = refl

-- ---- what is put of a plan

-- one text added is a text added
adds_one : {Is : List ℕ → Type 0} {o p : Output} {text : List ℕ} → Is text → Adds o text p → AddsOne Is o p
adds_one {text = text} is put =
    record { puts = record { text = text; is = is; put = put.put }; long = put.long; same = put.same }

module _ {o p : Output} (plan : Plan) where
  pub line_put : (i : ℕ) (line : Line) → IsLine plan (i + 1) line → Adds o (line_text line) p
      → AddsOne (IsReportLine plan i) o p
  line_put i line is = adds_one (record { line = line; is = is; whole = refl })

  pub homing_line_put : (i : ℕ) (wait : Said ℕ) → IsWaitFor plan (i + 1) homing_waiting wait
      → Adds o (homing_line (i + 1) wait) p → AddsOne (IsHomingLine plan i) o p
  homing_line_put i wait is = adds_one (record { wait = wait; is = is; whole = refl })

  pub closing_put : (found : Judgement) → plan_check plan ≡ Fine → IsJudgement plan 0 plan.n found
      → Adds o (closing_text found.client found.verdict) p → AddsOne (IsClosing plan) o p
  closing_put found fine is = adds_one (record { found = found; is = (fine, is); whole = refl })

  pub report_put : {o₁ o₂ : Output} → Adds o header o₁ → AddsOne (Lines (IsReportLine plan) plan.n) o₁ o₂
      → AddsOne (IsClosing plan) o₂ p → Puts (IsReportOf plan) o.lent.now o.at p.lent.now p.at
  report_put first each last =
      let lines = each.puts in
      let closing = last.puts in
      record {
        text = header ++ lines.text ++ closing.text;
        is =
            record { lines = lines.text; closing = closing.text; each = lines.is; last = closing.is; whole = refl };
        put = then (then first.put lines.put) closing.put;
      }

-- what the loops cite that put the lines
pub ruleset report_lines = (plan_fine, judged_verdict, judged_none, adds_no_line)

pub ruleset homing_lines = (plan_fine, client_asked)

-- ---- of a reading r of s: one line where it is refused, else what is put of its plan

module _ {out now : List ℕ} {at next : ℕ} (Of : Plan → List ℕ → Type 0) (s : List ℕ)
    {r : Result Plan (At Refusal)} where
  pub refused_put : {refused : At Refusal} → r ≡ read_of s → r ≡ result.Err refused
      → Put out at (refusal_line (number refused.why) refused.offset) now next
      → Puts (OrRefusal Of (read_of s)) out at now next
  refused_put {refused} e h put =
      record { text = refusal_line (number refused.why) refused.offset; is = rw (← e, h) refl; put = put }

  pub plan_put : {plan : Plan} → r ≡ read_of s → r ≡ result.Ok plan → Puts (Of plan) out at now next
      → Puts (OrRefusal Of (read_of s)) out at now next
  plan_put e h puts = record { text = puts.text; is = rw (← e, h) puts.is; put = puts.put }

-- what the two texts of a stream cite
pub ruleset of_reading = (reading_checked, refused_put, plan_put)
