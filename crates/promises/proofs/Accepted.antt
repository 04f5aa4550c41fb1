-- Demand 2, judging and searching: a plan is accepted exactly when every client gets its required rate and its latency
-- is within the required one; the verdicts agree with the figures and with one another; the search gives an accepted
-- table with the fewest owned slots, and says there is none exactly when none exists.
-- Assumes nothing.
use mathlib.Core.Path.{◌≡◌, refl, sym, ap, ◌∙◌}
use mathlib.Core.Bool.{true, false}
use mathlib.Core.List.{List}
use mathlib.Core.Logic.{◌↔◌}
use Prim.Native.Nat.{ℕ, ◌+◌, ◌-◌, ◌*◌, ◌≤◌, ◌<◌}
use native.Mathlib.Decide.{dec_le}
use native.Mathlib.Omega.{arith}
use lib.Dec.{leb}
use lib.ListN.{take}
use lib.Seq.{get_or-take}
use borrow.Author.Tests.{le-leb, lt-leb}
use Rattle.records.specs.Said.{Said}
use Rattle.std.specs.declared.result.Result.TheVariants as result
use Rattle.frame.specs.Frame.{slots_of, IsScaled}
use Rattle.frame.specs.Largest.{scaled_of}
use Rattle.frame.proofs.Scaled.{scaled_is}
use Rattle.std.specs.Prelude.{Option, Some, None}
use Rattle.records.proofs.Checks.{false_true, refused_fine}
use Rattle.plan.specs.declared.Client.{Client}
use Rattle.plan.specs.declared.Plan.{Plan}
use Rattle.plan.specs.Plan.{client_of, own_of, with_table}
use Rattle.plan.proofs.Laws.{Checked, requirements_fine, requirements_pass, requirements_same, plan_fine, plan_pass}
use Rattle.plan.proofs.Laws.{asked_fine, asked_pass}
use Rattle.figures.specs.declared.Figure.{Figure}
use Rattle.figures.specs.Figures.{IsFigures}
use Rattle.figures.proofs.Laws.{frame_of}
use Rattle.judge.specs.declared.Judgement.{Judgement}
use Rattle.judge.specs.declared.Verdict.{Verdict}
use Rattle.judge.specs.declared.Verdict.TheVariants.{Ok, Rate, Late}
use Rattle.judge.specs.Rules.{enough, has_rate, IsLate, IsVerdict}
use Rattle.judge.specs.Judge.{ClientOk, Accepted, JudgedAs, IsJudged, acceptance, IsVerdictOf}
use Rattle.judge.proofs.Laws.{rate_true, rate_pass, rate_owns, late_start, late_length, in_time_by_scaled}
use Rattle.judge.proofs.Laws.{scaled_by_in_time}
use Rattle.judge.proofs.Once.{judgement_one}
use Rattle.judge.proofs.Entries.{judge_tight}
use Rattle.explore.specs.Best.{Table, owned, LexLe, NoTable}
use Rattle.search.specs.Search.{idle_plan, search_check, AcceptedIn, IsSearched}
use Rattle.search.proofs.Questions.{Searchable, search_fine, search_pass}
use Rattle.search.proofs.Same.{accepted_front}
use Rattle.arbiter.specs.Run.{SatisfiesOf}
use Rattle.arbiter.proofs.Latency.{in_time_runs}
use Rattle.promises.specs.Verdict.{verdict_by}

-- ---- accepted exactly when

-- client i + 1 has its required rate: "m × q ≥ p × f"
abbrev pub GetsRate : Plan → ℕ → Type 0
GetsRate plan i = (client_of plan i).p * plan.f ≤ slots_of (own_of plan (i + 1)) plan.f * (client_of plan i).q

-- what it requires is met by its m and its L: its rate, and "L × b ≤ a × m"
pub record Meets (plan : Plan) (i : ℕ) : Type 0 where
  pub rate : GetsRate plan i
  pub time : (L : ℕ) → IsScaled (own_of plan (i + 1)) plan.f (slots_of (own_of plan (i + 1)) plan.f) L
      → L * (client_of plan i).b ≤ (client_of plan i).a * slots_of (own_of plan (i + 1)) plan.f

ok_meets : (plan : Plan) (i : ℕ) → ClientOk plan i → Meets plan i
ok_meets plan i ok =
    record {
      rate = rate_true (client_of plan i) plan.f _ ok.rate;
      time = λ L scaled. scaled_by_in_time (client_of plan i) (own_of plan (i + 1)) plan.f L scaled ok.time;
    }

meets_ok : (plan : Plan) (i : ℕ) → 0 < plan.f → Meets plan i → ClientOk plan i
meets_ok plan i f> meets =
    let own = own_of plan (i + 1) in
    let L = scaled_of own plan.f (slots_of own plan.f) in
    let scaled = scaled_is (frame_of plan (i + 1) f>) in
    record {
      rate = rate_pass (client_of plan i) plan.f _ meets.rate;
      time = in_time_by_scaled (client_of plan i) own plan.f L scaled (meets.time L scaled);
    }

-- "A plan is accepted exactly when every drive gets its required rate and its latency is within the required one"
pub accepted_exactly : (plan : Plan) → 0 < plan.f → Accepted plan ↔ ((i : ℕ) → i < plan.n → Meets plan i)
accepted_exactly plan f> = (
  λ accepted i l. ok_meets plan i (accepted.each i (omega arith) l),
  λ meets. record { each = λ i low l. meets_ok plan i f> (meets i l) },
)

-- the required latency is one that satisfies Definition 1 on the arbiter's runs
pub record MeetsDefinition (plan : Plan) (i : ℕ) : Type 0 where
  pub rate : GetsRate plan i
  pub time : SatisfiesOf plan i (client_of plan i).a (client_of plan i).b

meets_by_definition : (plan : Plan) → Checked plan → (i : ℕ) → i < plan.n → Meets plan i ↔ MeetsDefinition plan i
meets_by_definition plan ok i i< =
    let x = client_of plan i in
    let checked = plan_pass plan ok in
    let frame = frame_of plan (i + 1) ok.bounds.f_low in (
      λ meets.
          let scaled = scaled_is frame in
          record {
            rate = meets.rate;
            time = (in_time_runs plan i i< checked frame scaled x.a x.b).0 (meets.time _ scaled);
          },
      λ meets.
          record {
            rate = meets.rate;
            time = λ L scaled. (in_time_runs plan i i< checked frame scaled x.a x.b).1 meets.time;
          },
    )

-- so a plan is accepted exactly when every client has its rate and its required latency satisfies Definition 1
pub accepted_by_definition : (plan : Plan) → Checked plan
    → Accepted plan ↔ ((i : ℕ) → i < plan.n → MeetsDefinition plan i)
accepted_by_definition plan ok =
    let by = meets_by_definition plan ok in
    let exactly = accepted_exactly plan ok.bounds.f_low in
    (λ accepted i l. (by i l).0 (exactly.0 accepted i l), λ meets. exactly.1 (λ i l. (by i l).1 (meets i l)))

-- and that is what `judge` says
pub judge_accepts : (plan : Plan) (found : Judgement) → IsJudged plan (result.Ok found)
    → (found.verdict ≡ Ok) ↔ Accepted plan
judge_accepts plan found is = (by found.verdict is.1, back)
  where
    by : (v : Verdict) → JudgedAs plan 0 plan.n v found.client found.start found.length → v ≡ Ok
        → Accepted plan
    by v h e = let ok : JudgedAs plan 0 plan.n Ok _ _ _ = rw e at h in ok.0

    back : Accepted plan → found.verdict ≡ Ok
    back accepted =
        ap (λ j. j.verdict) (judgement_one plan 0 plan.n found acceptance is.1 (accepted, refl, refl, refl))

-- ---- what is named

-- a client of the plan, with the verdict that it has by itself: the report's rows and its last line agree
pub judge_verdict : (plan : Plan) (found : Judgement) → IsJudged plan (result.Ok found)
    → (found.verdict ≡ Ok → ⊥) → IsVerdictOf plan found.client (result.Ok found.verdict)
judge_verdict plan found is = by found.verdict is.1
  where
    there : (c place : ℕ) → c ≡ place + 1 → place < plan.n → (v : Verdict)
        → IsVerdict (client_of plan place) (own_of plan (place + 1)) plan.f v → IsVerdictOf plan c (result.Ok v)
    there c place e l v holds =
        let at : c - 1 ≡ place = omega arith in
        (asked_pass plan c (plan_fine plan is.0) (omega arith) (omega arith), rw (at, e) holds)

    by : (v : Verdict) → JudgedAs plan 0 plan.n v found.client found.start found.length → (v ≡ Ok → ⊥)
        → IsVerdictOf plan found.client (result.Ok v)
    by Ok x other = absurd (other refl)
    by Rate x other = there _ x.0.place x.0.client x.0.high Rate x.0.fails
    by Late x other = there _ x.place x.client x.high Late (found.start, found.length, x.fails)

-- accepted exactly when every client, asked by itself, is ok
pub accepted_verdicts : (plan : Plan) → Checked plan
    → Accepted plan ↔ ((c : ℕ) → 1 ≤ c → c ≤ plan.n → IsVerdictOf plan c (result.Ok Ok))
accepted_verdicts plan ok = (
  λ accepted c low high.
      let place : c - 1 + 1 ≡ c = omega arith in
      let here = accepted.each (c - 1) (omega arith) (omega arith) in
      (asked_pass plan c ok low high, rw place at here),
  λ each.
      record {
        each = λ i low high.
            let place : i + 1 - 1 ≡ i = omega arith in
            rw place at (each (i + 1) (omega arith) (omega arith)).1;
      },
)

-- "and, if `late`, that stretch's start and length": a stretch that starts in the frame and is shorter than it
pub late_in_frame : (plan : Plan) (found : Judgement) → IsJudged plan (result.Ok found) → found.verdict ≡ Late
    → (found.start < plan.f) × (found.length < plan.f)
late_in_frame plan found is = by found.verdict is.1
  where
    by : (v : Verdict) → JudgedAs plan 0 plan.n v found.client found.start found.length → v ≡ Late
        → (found.start < plan.f) × (found.length < plan.f)
    by v h e =
        let first : JudgedAs plan 0 plan.n Late _ _ _ = rw e at h in
        let i = first.place in
        let frame = frame_of plan (i + 1) (plan_fine plan is.0).bounds.f_low in
        (late_start (client_of plan i) frame first.fails, late_length (client_of plan i) frame first.fails)

-- ---- verdicts and figures

module _ (plan : Plan) (c : ℕ) where
  x : Client
  x = client_of plan (c - 1)

  m : ℕ
  m = slots_of (own_of plan c) plan.f

  -- a client with this L is late exactly when L × b > a × m
  late_by : (L s j : ℕ) → IsScaled (own_of plan c) plan.f m L → IsLate x (own_of plan c) plan.f s j
      → leb (L * x.b) (x.a * m) ≡ false
  unfolding x m
  late_by L s j scaled late = lt-leb (L * x.b) (x.a * m) (by (dec_le (L * x.b) (x.a * m)))
    where
      by : Dec (L * x.b ≤ x.a * m) → x.a * m < L * x.b
      by (yes l) = false_true (sym late.fails ∙ in_time_by_scaled x (own_of plan c) plan.f L scaled l s j)
      by (no h) = omega arith

  verdict_by_scaled : (L : ℕ) → IsScaled (own_of plan c) plan.f m L → (v : Verdict)
      → IsVerdict x (own_of plan c) plan.f v → v ≡ verdict_by x plan.f m L
  unfolding verdict_by enough x m
  verdict_by_scaled L scaled Ok h =
      let time = scaled_by_in_time x (own_of plan c) plan.f L scaled h.time in
      rw (h.rate, le-leb (L * x.b) (x.a * m) time)
  verdict_by_scaled L scaled Rate h = rw h
  verdict_by_scaled L scaled Late h = rw (h.2.rate, late_by L h.0 h.1 scaled h.2)

  -- the verdict given is the one that the figures given say
  pub verdict_figures : (verdict : Verdict) (figure : Figure) → IsVerdictOf plan c (result.Ok verdict)
      → IsFigures plan c (result.Ok figure)
      → verdict ≡ verdict_by (client_of plan (c - 1)) plan.f figure.slots figure.scaled
  unfolding x m
  verdict_figures verdict figure is given =
      rw given.1.slots (verdict_by_scaled figure.scaled given.1.scaled verdict is.1)

  -- a client without slots, who has no figures, has the verdict `rate`
  pub no_slots_rate : (verdict : Verdict) → IsVerdictOf plan c (result.Ok verdict)
      → slots_of (own_of plan c) plan.f ≡ 0 → verdict ≡ Rate
  unfolding x
  no_slots_rate verdict is none = by verdict is.1
    where
      lacks : has_rate x (own_of plan c) plan.f ≡ true → ⊥
      lacks h =
          let asked = asked_fine plan c is.0 in
          let bounds = asked.0.bounds in
          let p> = (bounds.required (c - 1) (omega (arith, asked.1, asked.2))).p_low in
          omega (arith, none, rate_owns x plan.f _ p> bounds.f_low h)

      by : (v : Verdict) → IsVerdict x (own_of plan c) plan.f v → v ≡ Rate
      by Ok h = absurd (lacks h.rate)
      by Rate h = refl
      by Late h = absurd (lacks h.2.rate)

-- ---- the search

module _ (f n : ℕ) (clients : List Client) (r : Said (Option (List ℕ)))
    (is : IsSearched (idle_plan f n clients) r) where
  module _ (owners : List ℕ) (found : r ≡ result.Ok (Some owners)) where
    -- the plan with the table found
    pub found_plan : Plan
    found_plan = with_table (idle_plan f n clients) owners

    is_found : IsSearched (idle_plan f n clients) (result.Ok (Some owners))
    is_found = rw found at is

    -- "The search .. gives an accepted table": a plan that `judge` accepts
    pub found_accepted : Accepted found_plan
    unfolding found_plan
    found_accepted =
        let bounds = (search_fine (idle_plan f n clients) is_found.0).bounds in
        accepted_front (idle_plan f n clients) owners bounds.f_low is_found.1.0.good

    found_checked : Checked found_plan
    unfolding found_plan
    found_checked =
        let plan = idle_plan f n clients in
        let same = requirements_same plan found_plan (record { frame = refl; count = refl; clients = λ i l. refl }) in
        let fine = requirements_pass plan (search_fine plan is_found.0).bounds in
        record {
          bounds = requirements_fine found_plan (sym same ∙ fine);
          owned = λ x l. rw (get_or-take f owners x 0 l) at (is_found.1.0.table.most x);
        }

    pub found_judged : (j : Said Judgement) → IsJudged found_plan j → j ≡ result.Ok acceptance
    unfolding found_plan
    found_judged j judges =
        let fine = plan_pass found_plan found_checked in
        judge_tight.once found_plan tt j (result.Ok acceptance) judges (fine, (found_accepted, refl, refl, refl))

    -- "with the fewest owned slots", and "among those the least": of all tables that `judge` accepts
    pub found_best : (u : List ℕ) → Table f n u
        → IsJudged (with_table (idle_plan f n clients) u) (result.Ok acceptance)
        → (owned (take f owners) ≤ owned u) × (owned u ≡ owned (take f owners) → LexLe (take f owners) u)
    found_best u table judges =
        let best = is_found.1.0 in
        (best.fewest u table judges.1.0, best.least u table judges.1.0)

  -- "and says there is none exactly when none exists"
  pub none_exactly : Searchable (idle_plan f n clients)
      → (r ≡ result.Ok None) ↔ NoTable (AcceptedIn (idle_plan f n clients)) f n
  none_exactly ok = (λ e. (rw e at is).1, back r is)
    where
      back : (a : Said (Option (List ℕ))) → IsSearched (idle_plan f n clients) a
          → NoTable (AcceptedIn (idle_plan f n clients)) f n → a ≡ result.Ok None
      back (result.Ok (Some owners)) h none = absurd (none _ h.1.0.table h.1.0.good)
      back (result.Ok None) h none = refl
      back (result.Err why) h none =
          refused_fine (search_check (idle_plan f n clients)) why h (search_pass (idle_plan f n clients) ok)
