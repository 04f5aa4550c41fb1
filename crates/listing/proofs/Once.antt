-- Any two texts that a contract of the listings allows are equal: there is one figure, wait and verdict of each client,
-- and one place where judging stops.
-- Assumes nothing.
use mathlib.Core.Path.{◌≡◌, sym, ap, ◌∙◌}
use mathlib.Core.List.{List}
use Prim.Native.Nat.{ℕ, ◌+◌}
use Rattle.std.specs.Prelude.{Result}
use Rattle.std.specs.declared.result.Result.TheVariants as result
use Rattle.records.specs.declared.refusal.At.{At}
use Rattle.records.specs.declared.refusal.Refusal.{Refusal}
use Rattle.records.specs.Said.{Said}
use Rattle.plan.specs.declared.Plan.{Plan}
use Rattle.plan.specs.Plan.{default_waiting}
use Rattle.text.proofs.Laws.{lines_once}
use Rattle.stream.specs.Read.{read_of}
use Rattle.figures.specs.declared.Figure.{Figure}
use Rattle.figures.proofs.Entries.{figure_tight, wait_tight}
use Rattle.judge.specs.declared.Judgement.{Judgement}
use Rattle.judge.specs.declared.Verdict.{Verdict}
use Rattle.judge.proofs.Once.{verdict_one, judgement_one}
use Rattle.listing.specs.declared.Line.{Line}
use Rattle.listing.specs.Listing.{line_text, closing_text, homing_waiting, homing_line, IsLine, IsReportLine}
use Rattle.listing.specs.Listing.{IsClosing, IsReportOf, IsHomingLine, IsHomingOf, OrRefusal, IsReport, IsHoming}

line_alike : (c c' : ℕ) (g g' : Said Figure) (w w' : Said ℕ) (v v' : Verdict) → c ≡ c' → g ≡ g'
    → w ≡ w' → v ≡ v' → ◌≡◌ {A = Line} (record { client = c; figures = g; wait = w; verdict = v })
    (record { client = c'; figures = g'; wait = w'; verdict = v' })
line_alike c c' g g' w w' v v' e f h k = rw (e, f, h, k)

module _ (plan : Plan) where
  line_once : (c : ℕ) (a b : Line) → IsLine plan c a → IsLine plan c b → a ≡ b
  line_once c a b is is' =
      line_alike _ _ _ _ _ _ _ _
      (is.client ∙ sym is'.client)
      (figure_tight.once plan c a.figures b.figures is.figures is'.figures)
      (wait_tight.once plan (c, default_waiting) a.wait b.wait is.wait is'.wait)
      (verdict_one _ _ _ a.verdict b.verdict is.verdict.1 is'.verdict.1)

  report_line_once : (i : ℕ) (a b : List ℕ) → IsReportLine plan i a → IsReportLine plan i b → a ≡ b
  report_line_once i a b is is' =
      is.whole ∙ ap line_text (line_once (i + 1) is.line is'.line is.is is'.is) ∙ sym is'.whole

  closing_once : (a b : List ℕ) → IsClosing plan a → IsClosing plan b → a ≡ b
  closing_once a b is is' =
      let same = judgement_one plan 0 plan.n is.found is'.found is.is.1 is'.is.1 in
      is.whole ∙ ap (λ (x : Judgement). closing_text x.client x.verdict) same ∙ sym is'.whole

  report_of_once : (a b : List ℕ) → IsReportOf plan a → IsReportOf plan b → a ≡ b
  report_of_once a b is is' =
      let lines_alike = lines_once (IsReportLine plan) report_line_once plan.n in
      let lines = lines_alike is.lines is'.lines is.each is'.each in
      let closing = closing_once is.closing is'.closing is.last is'.last in
      is.whole ∙ rw (lines, closing) (sym is'.whole)

  homing_line_once : (i : ℕ) (a b : List ℕ) → IsHomingLine plan i a → IsHomingLine plan i b → a ≡ b
  homing_line_once i a b is is' =
      let same = wait_tight.once plan (i + 1, homing_waiting) is.wait is'.wait is.is is'.is in
      is.whole ∙ ap (homing_line (i + 1)) same ∙ sym is'.whole

  homing_of_once : (a b : List ℕ) → IsHomingOf plan a → IsHomingOf plan b → a ≡ b
  homing_of_once = lines_once (IsHomingLine plan) homing_line_once plan.n

-- the one line of a refused read is one, too
or_refusal_once : (Of : Plan → List ℕ → Type 0) → ((plan : Plan) (a b : List ℕ) → Of plan a → Of plan b → a ≡ b)
    → (r : Result Plan (At Refusal)) (a b : List ℕ) → OrRefusal Of r a → OrRefusal Of r b → a ≡ b
or_refusal_once Of one (result.Ok plan) a b is is' = one plan a b is is'
or_refusal_once Of one (result.Err refused) a b is is' = is ∙ sym is'

pub report_once : (s a b : List ℕ) → IsReport s a → IsReport s b → a ≡ b
report_once s = or_refusal_once IsReportOf report_of_once (read_of s)

pub homing_once : (s a b : List ℕ) → IsHoming s a → IsHoming s b → a ≡ b
homing_once s = or_refusal_once IsHomingOf homing_of_once (read_of s)
