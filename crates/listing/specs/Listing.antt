-- The report's and the homing listing's text (document 01, Programs): what the figures, waits and verdicts of a plan's
-- clients are, their own definitions say; here is how they are written.
use Rattle.std.specs.Prelude.{◌≡◌, List, ◌++◌, ℕ, ◌+◌, Result}
use Rattle.std.specs.declared.result.Result.TheVariants as result
use Rattle.records.specs.declared.refusal.At.{At}
use Rattle.records.specs.declared.refusal.Refusal.{Refusal}
use Rattle.records.specs.Refusal.{number}
use Rattle.records.specs.Said.{Said}
use Rattle.plan.specs.declared.Plan.{Plan}
use Rattle.plan.specs.Plan.{default_waiting}
use Rattle.text.specs.Text.{bytes, decimal_of, refusal_line, Lines}
use Rattle.stream.specs.Read.{read_of}
use Rattle.figures.specs.declared.Figure.{Figure}
use Rattle.figures.specs.Figures.{IsFigures, IsWaitFor}
use Rattle.judge.specs.declared.Verdict.{Verdict}
use Rattle.judge.specs.declared.Verdict.TheVariants.{Ok, Rate, Late}
use Rattle.judge.specs.declared.Judgement.{Judgement}
use Rattle.judge.specs.Judge.{IsJudged, IsVerdictOf}
use Rattle.listing.specs.declared.Line.{Line}

-- ---- fields

-- m and L; "A client without slots has `-` for L and wait", and its m is 0: a client of a plan that was read has no
-- other refusal
unfoldable pub figures_text : Said Figure → List ℕ
figures_text (result.Ok figure) = decimal_of figure.slots ++ bytes " " ++ decimal_of figure.scaled
figures_text (result.Err why) = bytes "0 -"

-- the default wait, or `-`
unfoldable pub wait_text : Said ℕ → List ℕ
wait_text (result.Ok slots) = decimal_of slots
wait_text (result.Err why) = bytes "-"

-- a verdict's word
unfoldable pub verdict_text : Verdict → List ℕ
verdict_text Ok = bytes "ok"
verdict_text Rate = bytes "rate"
verdict_text Late = bytes "late"

-- ---- the report

-- its first line
abbrev pub header : List ℕ
header = bytes "client slots scaled wait verdict\n"

-- "Fields: number, m, L, default wait, the client's verdict"
unfoldable pub line_text : Line → List ℕ
line_text line =
    decimal_of line.client ++ bytes " " ++ figures_text line.figures ++ bytes " " ++ wait_text line.wait
    ++ bytes " " ++ verdict_text line.verdict ++ bytes "\n"

-- the line of client c: what the library answers of it
pub record IsLine (plan : Plan) (c : ℕ) (line : Line) : Type 0 where
  pub client : line.client ≡ c
  pub figures : IsFigures plan c line.figures
  pub wait : IsWaitFor plan c default_waiting line.wait
  pub verdict : IsVerdictOf plan c (result.Ok line.verdict)

-- the line of client i + 1, as text
pub record IsReportLine (plan : Plan) (i : ℕ) (text : List ℕ) : Type 0 where
  pub line : Line
  pub is : IsLine plan (i + 1) line
  pub whole : text ≡ line_text line

-- "`refused` with client and verdict"
unfoldable pub refused_text : ℕ → Verdict → List ℕ
refused_text c verdict = bytes "refused " ++ decimal_of c ++ bytes " " ++ verdict_text verdict ++ bytes "\n"

-- "The last line is `accepted`, or `refused` .."
unfoldable pub closing_text : ℕ → Verdict → List ℕ
closing_text c Ok = bytes "accepted\n"
closing_text c Rate = refused_text c Rate
closing_text c Late = refused_text c Late

-- where judging the plan stopped, as the last line
pub record IsClosing (plan : Plan) (text : List ℕ) : Type 0 where
  pub found : Judgement
  pub is : IsJudged plan (result.Ok found)
  pub whole : text ≡ closing_text found.client found.verdict

-- the header, a line for each client, the last line
pub record IsReportOf (plan : Plan) (text : List ℕ) : Type 0 where
  pub lines : List ℕ
  pub closing : List ℕ
  pub each : Lines (IsReportLine plan) plan.n lines
  pub last : IsClosing plan closing
  pub whole : text ≡ header ++ lines ++ closing

-- ---- the homing listing

-- the requests that homing waits for: its listing has the "default wait"
abbrev pub homing_waiting : ℕ
homing_waiting = default_waiting

-- "only number and default wait .. with `-` as above"
unfoldable pub homing_line : ℕ → Said ℕ → List ℕ
homing_line c wait = decimal_of c ++ bytes " " ++ wait_text wait ++ bytes "\n"

-- the line of client i + 1
pub record IsHomingLine (plan : Plan) (i : ℕ) (text : List ℕ) : Type 0 where
  pub wait : Said ℕ
  pub is : IsWaitFor plan (i + 1) homing_waiting wait
  pub whole : text ≡ homing_line (i + 1) wait

-- "one line a client, no header"
abbrev pub IsHomingOf : Plan → List ℕ → Type 0
IsHomingOf plan = Lines (IsHomingLine plan) plan.n

-- ---- of a stream

-- the text of the plan that was read, or "A refused read writes one line"
abbrev pub OrRefusal : (Plan → List ℕ → Type 0) → Result Plan (At Refusal) → List ℕ → Type 0
OrRefusal Of (result.Ok plan) text = Of plan text
OrRefusal Of (result.Err refused) text = text ≡ refusal_line (number refused.why) refused.offset

-- "The report reads a plan .. it writes"
abbrev pub IsReport : List ℕ → List ℕ → Type 0
IsReport s = OrRefusal IsReportOf (read_of s)

-- "The homing listing reads the same and writes .."
abbrev pub IsHoming : List ℕ → List ℕ → Type 0
IsHoming s = OrRefusal IsHomingOf (read_of s)
