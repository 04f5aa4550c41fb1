-- The bench examples are right: a test of each is computed, and says that the answer is one that the contract allows;
-- and it allows no other. What a refusal or a run is asked for is computed in the same way.
-- Assumes nothing.
use mathlib.Core.Path.{◌≡◌, refl, sym, ◌∙◌, fun_ext, ap}
use mathlib.Core.Bool.{Bool, true, false}
use mathlib.Core.List.{List, [], ◌∷◌, ◌++◌}
use Prim.Native.Nat.{ℕ, ◌+◌, ◌-◌, ◌%◌, ◌≤◌, ◌<◌}
use native.Mathlib.Nat.{mod-lt, zero-add}
use native.Mathlib.Omega.{arith}
use lib.Dec.{eqb, leb, ltb}
use lib.ListN.{length, get_or, replicate}
use lib.Seq.{take_at, drop_at}
use borrow.Author.Tests.{eqb-true, leb-true, ltb-true}
use Rattle.records.specs.Said.{Said}
use Rattle.std.specs.declared.result.Result.TheVariants as result
use Rattle.frame.specs.Frame.{slots_of, within, Frame}
use Rattle.frame.specs.Largest.{largest, lack, lack_from, scaled_of, wait_of}
use Rattle.records.specs.First.{pick, among, range_check, first_of, Fine}
use Rattle.records.specs.Pieces.{firsts, onto, padded}
use Rattle.records.proofs.Checks.{both_true, one_or_none}
use Rattle.records.proofs.Lists.{get_padded}
use Rattle.plan.specs.declared.Client.{Client}
use Rattle.plan.specs.declared.Plan.{Plan}
use Rattle.plan.specs.Plan.{no_client, client_of, owner_of, own_in, own_of, default_waiting}
use Rattle.plan.specs.Check.{client_check, owner_check, client_check_of, requirements_check, owner_check_of}
use Rattle.plan.specs.Check.{owners_check, plan_check, asked_check}
use Rattle.plan.proofs.Laws.{Required, Checked, plan_fine}
use Rattle.figures.specs.declared.Figure.{Figure}
use Rattle.figures.specs.Check.{figure_check, wait_check}
use Rattle.figures.specs.Figures.{IsFigures, IsWaitFor}
use Rattle.figures.proofs.Laws.{frame_of}
use Rattle.figures.proofs.Entries.{figure_tight, wait_tight}
use Rattle.judge.specs.declared.Verdict.TheVariants.{Late}
use Rattle.judge.specs.Rules.{enough, covers, IsOk, IsLate}
use Rattle.judge.specs.Judge.{IsJudged, acceptance}
use Rattle.judge.proofs.Laws.{first_at, judged_none}
use Rattle.judge.proofs.Entries.{judge_tight}
use Rattle.explore.specs.Best.{owned}
use Rattle.search.specs.Search.{search_check, size_check, IsSearched}
use Rattle.search.proofs.Questions.{search_fine}
use Rattle.search.proofs.Entries.{search_tight}
use Rattle.arbiter.specs.declared.Arbiter.{Arbiter}
use Rattle.arbiter.specs.Step.{rule_for, served_by, less_one, advanced, position_check, arrivals_check, step_check}
use Rattle.arbiter.specs.Step.{step_of, step_said}
use Rattle.arbiter.specs.Run.{record_after, total_of, served_of, pending_of}
use Rattle.promises.specs.Bench.{Schedule, schedule_plan, search_plan, little, Question, figure, waiting}
use Rattle.promises.specs.Bench.{default_wait, refused_figure, refused_wait, accepted, late, found, none}
use Rattle.promises.specs.Bench.{search_refused, searchable, steps, step_refused, one_pending, Only, Refuses}
use Rattle.promises.specs.Bench.{OnePending, Right, AllRight, questions}
use Rattle.promises.proofs.Tests.{all_below, each_below, fine_test, fine_tested, refused_test, refused_tested}
use Rattle.promises.proofs.Tests.{said_passes, said_refuses, ok_test, ok_tested, late_test, late_tested, accept_test}
use Rattle.promises.proofs.Tests.{every_table, lex_test, better_test, none_test, none_tested, best_test, best_tested}
use Rattle.promises.proofs.Tests.{numbers_test, step_test, step_tested}
use Rattle.arbiter.proofs.Slots.{said_stopped}
use Rattle.std.specs.Prelude.{Option, Some, None}
use Rattle.judge.specs.declared.Judgement.{Judgement}
use Rattle.records.specs.declared.refusal.Refusal.{Refusal}
use Rattle.records.specs.Refusal.{number}
use Rattle.promises.proofs.Figured.{every, figure_test, wait_test, Figured, figured, figure_allowed, wait_allowed}

-- ---- a schedule as a plan

-- the client's slots, read off the schedule
own_by : Schedule → ℕ → ℕ
own_by t s = pick (among (s % t.f) t.slots) 1 0

one_by : (b : Bool) → pick (eqb (pick b 1 0) 1) 1 0 ≡ pick {A = ℕ} b 1 0
one_by true = refl
one_by false = refl

owner_schedule : (client : Client) (t : Schedule) (x : ℕ) → x < t.f
    → owner_of (schedule_plan client t) x ≡ pick (among x t.slots) 1 0
unfolding schedule_plan
owner_schedule client t x l = get_padded (λ y. pick (among y t.slots) 1 0) t.f 64 0 x l

own_schedule : (client : Client) (t : Schedule) → 1 ≤ t.f → own_of (schedule_plan client t) 1 ≡ own_by t
unfolding schedule_plan own_by own_in
own_schedule client t f> =
    fun_ext (λ s.
    let x : ℕ = s % t.f in
    rw (owner_schedule client t x (mod-lt s f>)) (one_by (among x t.slots)))

schedule_checked : (client : Client) (t : Schedule) → Required client → 1 ≤ t.f → t.f ≤ 64
    → Checked (schedule_plan client t)
unfolding schedule_plan
schedule_checked client t ok f> f≤ =
    record {
      bounds =
          record {
            f_low = f>;
            f_high = f≤;
            n_low = omega arith;
            n_high = omega arith;
            required = λ i l. rw (get_padded (λ j. client) 1 8 no_client i l) ok;
          };
      owned = λ x l. rw (owner_schedule client t x l) (one_or_none (among x t.slots));
    }

-- ---- the test of a question

-- f is 1 to 64, and the client's figures are m and L
abbrev schedule_test : Schedule → ℕ → ℕ → Bool
schedule_test t m L = every (leb 1 t.f ∷ leb t.f 64 ∷ figure_test (own_by t) t.f m L ∷ [])

-- its wait for k, with the figures that `frame` works out
abbrev schedule_wait_test : Schedule → ℕ → ℕ → Bool
schedule_wait_test t k slots =
    let m = slots_of (own_by t) t.f in
    let L = scaled_of (own_by t) t.f m in
    pick (schedule_test t m L) (wait_test t.f m L k slots) false

-- a plan's run in which client i + 1 has one request pending in each slot
abbrev one_pending_test : Plan → ℕ → Arbiter → List (List ℕ) → Bool
one_pending_test plan i arb xss =
    every (
    fine_test (plan_check plan) ∷ ltb arb.position plan.f
    ∷ all_below (length xss) (λ d. eqb (length (get_or xss d [])) plan.n)
    ∷ all_below (length xss) (λ d. eqb (pending_of plan i arb xss d) 1)
    ∷ []
    )

test : Question → Bool
test (figure t m L) = schedule_test t m L
test (waiting t k slots) = schedule_wait_test t k slots
test (default_wait t slots) = schedule_wait_test t default_waiting slots
test (refused_figure t c number) = refused_test (figure_check (schedule_plan little t) c) number
test (refused_wait t c k number) = refused_test (wait_check (schedule_plan little t) c k) number
test (accepted t client) = pick (fine_test (plan_check (schedule_plan client t))) (ok_test client (own_by t) t.f) false
test (late t client s j) =
    pick (fine_test (plan_check (schedule_plan client t))) (late_test client (own_by t) t.f s j) false
test (found f n client table) =
    pick (fine_test (search_check (search_plan f n client))) (best_test (search_plan f n client) table) false
test (none f n client) =
    pick (fine_test (search_check (search_plan f n client))) (none_test (search_plan f n client)) false
test (search_refused f n client number) = refused_test (search_check (search_plan f n client)) number
test (searchable f n client) = fine_test (search_check (search_plan f n client))
test (steps plan arb xs goes) =
    pick (fine_test (step_check plan arb.position (length xs))) (step_test (step_of plan arb xs) goes) false
test (step_refused plan arb xs number) = refused_test (step_check plan arb.position (length xs)) number
test (one_pending plan i arb xss served) =
    pick (one_pending_test plan i arb xss) (eqb (served_of plan i arb xss) served) false

-- ---- what it says

record Scheduled (t : Schedule) (m L : ℕ) : Type 0 where
  f_low : 1 ≤ t.f
  f_high : t.f ≤ 64
  figures : Figured (own_by t) t.f m L

scheduled : (t : Schedule) (m L : ℕ) → schedule_test t m L ≡ true → Scheduled t m L
scheduled t m L h =
    let a = both_true (leb 1 t.f) _ h in
    let b = both_true (leb t.f 64) _ a.1 in
    let c = both_true (figure_test (own_by t) t.f m L) true b.1 in
    record {
      f_low = leb-true 1 t.f a.0;
      f_high = leb-true t.f 64 b.0;
      figures = figured (own_by t) t.f m L c.0;
    }

-- ---- so the answer is right

-- an answer that is allowed is the only one, where any two that are allowed are equal
pub only_answer : {A : Type 0} (Is : A → Type 0) → ((r r' : A) → Is r → Is r' → r ≡ r') → (r : A) → Is r
    → Only Is r
only_answer Is once r is = record { answer = r; is = is; only = λ x allowed. once x r allowed is }

module _ (t : Schedule) (m L : ℕ) (facts : Scheduled t m L) where
  plan : Plan
  plan = schedule_plan little t

  checked : Checked plan
  unfolding plan
  checked =
      let ok : Required little = record { p_low = omega arith; p_high = omega arith; b_low = omega arith } in
      schedule_checked little t ok facts.f_low facts.f_high

  figure_right : Right (figure t m L)
  unfolding plan schedule_plan
  figure_right =
      let same = own_schedule little t facts.f_low in
      let allowed = figure_allowed plan 1 checked (omega arith) (omega arith) (own_by t) same m L facts.figures in
      let its : Figure = record { slots = m; scaled = L } in
      record {
        answer = result.Ok its;
        is = allowed;
        only = λ r is.
            record { figure = its; given = figure_tight.once plan 1 r _ is allowed; slots = refl; scaled = refl };
      }

  wait_right : (k slots : ℕ) → wait_test t.f m L k slots ≡ true → Right (waiting t k slots)
  unfolding plan schedule_plan
  wait_right k slots h =
      let same = own_schedule little t facts.f_low in
      let own = own_by t in
      let allowed = wait_allowed plan 1 checked (omega arith) (omega arith) own same m L facts.figures k slots h in
      only_answer (IsWaitFor plan 1 k) (wait_tight.once plan (1, k)) _ allowed

schedule_wait_right : (t : Schedule) (k slots : ℕ) → schedule_wait_test t k slots ≡ true → Right (waiting t k slots)
schedule_wait_right t k slots h =
    let m = slots_of (own_by t) t.f in
    let L = scaled_of (own_by t) t.f m in
    let g = both_true (schedule_test t m L) (wait_test t.f m L k slots) h in
    wait_right t m L (scheduled t m L g.0) k slots g.1

-- ---- judging a schedule, and the search

module _ (t : Schedule) (client : Client) (tested : fine_test (plan_check (schedule_plan client t)) ≡ true) where
  judged_plan : Plan
  judged_plan = schedule_plan client t

  judged_fine : plan_check judged_plan ≡ Fine
  unfolding judged_plan
  judged_fine = fine_tested (plan_check judged_plan) tested

  f_low : 1 ≤ t.f
  unfolding judged_plan schedule_plan
  f_low = (plan_fine judged_plan judged_fine).bounds.f_low

  schedule_frame : Frame (own_by t) t.f (slots_of (own_by t) t.f)
  unfolding schedule_plan
  schedule_frame = rw (own_schedule client t f_low) at (frame_of (schedule_plan client t) 1 f_low)

  -- what holds of the schedule's client holds of the plan's only one
  only : (P : Client → (ℕ → ℕ) → ℕ → Type 0) → P client (own_by t) t.f → (i : ℕ) → i < 1
      → P (client_of judged_plan i) (own_of judged_plan (i + 1)) judged_plan.f
  unfolding judged_plan schedule_plan
  only P h i l =
      let first : i ≡ 0 = omega arith in
      rw (first, get_padded (λ j. client) 1 8 no_client 0 (omega arith), own_schedule client t f_low) h

  judged_right : (r : Said Judgement) → IsJudged judged_plan r → Only (IsJudged judged_plan) r
  judged_right = only_answer (IsJudged judged_plan) (judge_tight.once judged_plan tt)

  accepted_right : ok_test client (own_by t) t.f ≡ true → Right (accepted t client)
  unfolding judged_plan schedule_plan
  accepted_right h =
      let ok = ok_tested client (own_by t) t.f schedule_frame h in
      judged_right (result.Ok acceptance)
      (judged_fine, (record { each = λ i low l. only IsOk ok i l }, refl, refl, refl))

  late_right : (s j : ℕ) → late_test client (own_by t) t.f s j ≡ true → Right (late t client s j)
  unfolding judged_plan schedule_plan
  late_right s j h =
      let bad = late_tested client (own_by t) t.f schedule_frame s j h in
      let none_before = (judged_none judged_plan 0).0 in
      judged_right (result.Ok (record { client = 1; verdict = Late; start = s; length = j })) (
        judged_fine,
        first_at judged_plan 0 1 0 _ (omega arith) (omega arith) none_before
            (only (λ x own f. IsLate x own f s j) bad 0 (omega arith)),
      )

module _ (f n : ℕ) (client : Client) (facts : fine_test (search_check (search_plan f n client)) ≡ true) where
  searched : Plan
  searched = search_plan f n client

  searched_fine : search_check searched ≡ Fine
  unfolding searched
  searched_fine = fine_tested (search_check searched) facts

  search_right : (r : Said (Option (List ℕ))) → IsSearched searched r → Only (IsSearched searched) r
  search_right = only_answer (IsSearched searched) (search_tight.once searched tt)

  found_right : (table : List ℕ) → best_test (search_plan f n client) table ≡ true → Right (found f n client table)
  unfolding searched search_plan
  found_right table h =
      let rest = replicate {A = ℕ} (64 - f) 0 in
      let best = best_tested searched (search_fine searched searched_fine).bounds.f_low table h in
      let front = take_at table rest f best.table.long in
      search_right (result.Ok (Some (table ++ rest)))
      (searched_fine, (rw front best, drop_at table rest f best.table.long))

  none_right : none_test (search_plan f n client) ≡ true → Right (none f n client)
  unfolding searched search_plan
  none_right h = search_right (result.Ok None) (searched_fine, none_tested searched h)

-- ---- a run

one_pending_tested : (plan : Plan) (i : ℕ) (arb : Arbiter) (xss : List (List ℕ))
    → one_pending_test plan i arb xss ≡ true → OnePending plan i arb xss
one_pending_tested plan i arb xss h =
    let a = both_true (fine_test (plan_check plan)) _ h in
    let b = both_true (ltb arb.position plan.f) _ a.1 in
    let c = both_true (all_below (length xss) (λ d. eqb (length (get_or xss d [])) plan.n)) _ b.1 in
    let d = both_true (all_below (length xss) (λ e. eqb (pending_of plan i arb xss e) 1)) true c.1 in
    let one : (e : ℕ) → e < length xss → pending_of plan i arb xss e ≡ 1 =
    λ e l. eqb-true (pending_of plan i arb xss e) 1 (each_below (length xss) _ d.0 e l) in
    record {
      runs =
          record {
            checked = fine_tested (plan_check plan) a.0;
            position = ltb-true arb.position plan.f b.0;
            lists = λ e l. eqb-true (length (get_or xss e [])) plan.n (each_below (length xss) _ c.0 e l);
          };
      one = one;
      always = record { fits = omega arith; each = λ e l. rw zero-add (rw (one e l) (omega arith)) };
    }

-- ---- each question

-- a refusal with this number is the one answer
refusing : {A : Type 0} (Is : Said A → Type 0) → ((r r' : Said A) → Is r → Is r' → r ≡ r') → (n : ℕ)
    → {By : Refusal → Type 0} → ((why : Refusal) → By why → Is (result.Err why))
    → (why : Refusal) × (number why ≡ n) × By why → Refuses Is n
refusing Is once n says by =
    record { why = by.0; numbered = by.1; only = only_answer Is once (result.Err by.0) (says by.0 by.2) }

right : (q : Question) → test q ≡ true → Right q
unfolding test
right (figure t m L) h = figure_right t m L (scheduled t m L h)
right (waiting t k slots) h = schedule_wait_right t k slots h
right (default_wait t slots) h = schedule_wait_right t default_waiting slots h
right (refused_figure t c number) h =
    let plan = schedule_plan little t in
    refusing (IsFigures plan c) (figure_tight.once plan c) number (λ why r. r)
    (refused_tested (figure_check plan c) number h)
right (refused_wait t c k number) h =
    let plan = schedule_plan little t in
    refusing (IsWaitFor plan c k) (wait_tight.once plan (c, k)) number (λ why r. r)
    (refused_tested (wait_check plan c k) number h)
right (accepted t client) h =
    let g = both_true (fine_test (plan_check (schedule_plan client t))) (ok_test client (own_by t) t.f) h in
    accepted_right t client g.0 g.1
right (late t client s j) h =
    let g = both_true (fine_test (plan_check (schedule_plan client t))) (late_test client (own_by t) t.f s j) h in
    late_right t client g.0 s j g.1
right (found f n client table) h =
    let g = both_true (fine_test (search_check (search_plan f n client))) (best_test (search_plan f n client) table) h
    in
    found_right f n client g.0 table g.1
right (none f n client) h =
    let g = both_true (fine_test (search_check (search_plan f n client))) (none_test (search_plan f n client)) h in
    none_right f n client g.0 g.1
right (search_refused f n client number) h =
    let plan = search_plan f n client in
    refusing (IsSearched plan) (search_tight.once plan tt) number (λ why r. r)
    (refused_tested (search_check plan) number h)
right (searchable f n client) h = fine_tested (search_check (search_plan f n client)) h
right (steps plan arb xs goes) h =
    let g = both_true (fine_test (step_check plan arb.position (length xs))) (step_test (step_of plan arb xs) goes) h in
    let fine = fine_tested (step_check plan arb.position (length xs)) g.0 in
    let e = step_tested (step_of plan arb xs) goes g.1 in
    let said : step_said plan arb xs ≡ result.Ok goes =
    said_passes plan arb xs fine ∙ ap result.Ok e in
    record { answer = result.Ok goes; is = sym said; only = λ r is. is ∙ said }
right (step_refused plan arb xs number) h =
    let refused = refused_tested (step_check plan arb.position (length xs)) number h in (
      refusing (λ r. r ≡ step_said plan arb xs) (λ r r' is is'. is ∙ sym is') number
          (λ why by. sym (said_refuses plan arb xs why by)) refused,
      said_stopped plan arb xs (said_refuses plan arb xs refused.0 refused.2),
    )
right (one_pending plan i arb xss served) h =
    let g = both_true (one_pending_test plan i arb xss) (eqb (served_of plan i arb xss) served) h in
    (one_pending_tested plan i arb xss g.0, eqb-true (served_of plan i arb xss) served g.1)

-- ---- all of them

-- the tests of a list of questions
abbrev test_all : List Question → Bool
test_all [] = true
test_all (q ∷ qs) = pick (test q) (test_all qs) false

all_right : (qs : List Question) → test_all qs ≡ true → AllRight qs
all_right [] h = tt
all_right (q ∷ qs) h = let g = both_true (test q) (test_all qs) h in (right q g.0, all_right qs g.1)

pub bench : AllRight questions
unfolding questions test own_by scaled_of lack_from largest lack within wait_of ok_test late_test fine_test none_test
    best_test accept_test every_table all_below better_test lex_test owned enough covers own_in search_plan search_check
    size_check schedule_plan plan_check requirements_check owners_check client_check_of owner_check_of client_check
    owner_check range_check first_of firsts onto padded step_test numbers_test step_of step_check
    position_check arrivals_check advanced served_by less_one rule_for refused_test figure_check wait_check asked_check
    record_after total_of
bench = all_right questions refl
