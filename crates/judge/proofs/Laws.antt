-- Laws of the two rules, and of judging client after client. Judging rests on one law of the rule of one stretch,
-- `covers_round`: a whole frame more keeps a stretch in time. So starts and lengths below f suffice, and the first
-- stretch that is late lies in the frame. A client that is ok has demand 3's inequality in every stretch, and owns a
-- slot. And every stretch is in time exactly when L × b ≤ a × m, so that the verdict and the figures agree.
-- Assumes nothing.
use mathlib.Core.Path.{◌≡◌, refl, sym, ap, ◌∙◌, subst}
use mathlib.Core.Bool.{Bool, true, false}
use mathlib.Core.Logic.{◌⊎◌, inl, inr}
use Prim.Native.Nat.{ℕ, zero, suc, ◌+◌, ◌*◌, ◌/◌, ◌%◌, ◌≤◌, ◌<◌}
use native.Mathlib.Nat.{mod-add-div', mod-lt, suc-mul, zero-mul, mul-pos, mul-le-mul_right, le_dest}
use native.Mathlib.Decide.{ℕ_discrete, dec_lt}
use native.Mathlib.Omega.{arith}
use borrow.Author.Tests.{le-leb, leb-true}
use Rattle.frame.specs.Frame.{slots_of, within, Frame, IsScaled}
use Rattle.frame.specs.Service.{Guaranteed}
use Rattle.frame.proofs.Within.{within_add, within_frame, within_later, within_mod}
use Rattle.frame.proofs.Service.{guaranteed_by}
use Rattle.records.proofs.Checks.{false_true, below_or_not}
use Rattle.plan.specs.declared.Client.{Client}
use Rattle.plan.specs.declared.Plan.{Plan}
use Rattle.plan.specs.Plan.{client_of, own_of}
use Rattle.plan.proofs.Laws.{Checked}
use Rattle.judge.specs.declared.Verdict.{Verdict}
use Rattle.judge.specs.declared.Verdict.TheVariants.{Ok, Rate, Late}
use Rattle.judge.specs.Rules.{enough, covers, has_rate, in_time, IsOk, IsLate, IsVerdict}
use Rattle.judge.specs.Judge.{ClientOk, AllOk, Accepted, First, JudgedAs, IsJudgement, acceptance}

-- ---- enough rate

pub rate_true : (x : Client) (f m : ℕ) → enough x f m ≡ true → x.p * f ≤ m * x.q
unfolding enough
rate_true x f m h = leb-true (x.p * f) (m * x.q) h

pub rate_pass : (x : Client) (f m : ℕ) → x.p * f ≤ m * x.q → enough x f m ≡ true
unfolding enough
rate_pass x f m h = le-leb (x.p * f) (m * x.q) h

-- a client that requires a rate and has it owns a slot
pub rate_owns : (x : Client) (f m : ℕ) → 1 ≤ x.p → 0 < f → enough x f m ≡ true → 0 < m
rate_owns x f zero p> f> h = absurd (omega (arith, mul-pos p> f>, rate_true x f 0 h, zero-mul x.q))
rate_owns x f (suc m) p> f> h = omega arith

-- ---- one stretch in time

covers_true : (x : Client) (f m j w : ℕ) → covers x f m j w ≡ true → m * j * x.b ≤ x.a * m + f * w * x.b
unfolding covers
covers_true x f m j w h = leb-true (m * j * x.b) (x.a * m + f * w * x.b) h

covers_pass : (x : Client) (f m j w : ℕ) → m * j * x.b ≤ x.a * m + f * w * x.b → covers x f m j w ≡ true
unfolding covers
covers_pass x f m j w h = le-leb (m * j * x.b) (x.a * m + f * w * x.b) h

-- ---- a whole frame more

-- j slots with w of the client's are in time, so are f more with all of its m; the rule of today needs no rate for it
pub covers_round : (x : Client) (f m j w : ℕ) → enough x f m ≡ true → covers x f m j w ≡ true
    → covers x f m (j + f) (w + m) ≡ true
covers_round x f m j w rate h = covers_pass x f m (j + f) (w + m) (omega (arith, covers_true x f m j w h))

module _ (x : Client) {own : ℕ → ℕ} {f : ℕ} (frame : Frame own f (slots_of own f))
    (rate : has_rate x own f ≡ true) where
  frame_later : (s j : ℕ) → in_time x own f s j ≡ true → in_time x own f s (j + f) ≡ true
  frame_later s j h = rw (within_add own s j f, within_frame frame (s + j)) (covers_round x f _ _ _ rate h)

  frames_later : (s j n : ℕ) → in_time x own f s j ≡ true → in_time x own f s (j + n * f) ≡ true
  frames_later s j zero h = let e : j + zero * f ≡ j = omega arith in rw e h
  frames_later s j (suc n) h =
      let e : j + suc n * f ≡ j + n * f + f = omega (arith, suc-mul n f) in
      rw e (frame_later s (j + n * f) (frames_later s j n h))

  -- all lengths from one start
  pub lengths_suffice : (s : ℕ) → ((j : ℕ) → j < f → in_time x own f s j ≡ true) → (j : ℕ) → in_time x own f s j ≡ true
  lengths_suffice s h j =
      subst (λ (i : ℕ). in_time x own f s i ≡ true) (mod-add-div' j f)
      (frames_later s (j % f) (j / f) (h (j % f) (mod-lt j frame.f>)))

  -- and all starts
  pub starts_suffice : ((s : ℕ) → s < f → (j : ℕ) → in_time x own f s j ≡ true) → (s j : ℕ) → in_time x own f s j ≡ true
  starts_suffice h s j = rw (← within_mod frame s j) (h (s % f) (mod-lt s frame.f>) j)

-- ---- the first stretch that is late lies in the frame

module _ (x : Client) {own : ℕ → ℕ} {f s j : ℕ} (frame : Frame own f (slots_of own f)) (late : IsLate x own f s j) where
  pub late_start : s < f
  late_start = by (dec_lt s f)
    where
      by : Dec (s < f) → s < f
      by (yes l) = l
      by (no h) =
          let before : (t : ℕ) × (f + t ≡ s) = le_dest (omega arith) in
          let t = before.0 in
          let e : t + f ≡ s = omega (arith, before.1) in
          let moved = ap (λ (k : ℕ). within own k j) e in
          let fails : in_time x own f t j ≡ false = rw (← within_later frame t j, moved) late.fails in
          false_true (sym fails ∙ late.start t j (omega (arith, frame.f>)))

  pub late_length : j < f
  late_length = by (dec_lt j f)
    where
      by : Dec (j < f) → j < f
      by (yes l) = l
      by (no h) =
          let before : (i : ℕ) × (f + i ≡ j) = le_dest (omega arith) in
          let i = before.0 in
          let e : i + f ≡ j = omega (arith, before.1) in
          let passes = late.length i (omega (arith, frame.f>)) in
          let longer : in_time x own f s (i + f) ≡ true = frame_later x frame late.rate s i passes in
          false_true (sym late.fails ∙ rw e at longer)

-- ---- what a client that is ok is guaranteed

covers_guaranteed : (x : Client) (f m j w : ℕ) → 0 < f → enough x f m ≡ true → covers x f m j w ≡ true
    → Guaranteed x.p x.q x.a x.b j w
covers_guaranteed x f m j w f> rate h =
    guaranteed_by f m x.p x.q x.a x.b j w f> (rate_true x f m rate)
    (omega (arith, covers_true x f m j w h))

-- demand 3's inequality holds of every stretch
pub ok_guaranteed : (x : Client) (own : ℕ → ℕ) (f : ℕ) → 0 < f → IsOk x own f → (s j : ℕ)
    → Guaranteed x.p x.q x.a x.b j (within own s j)
ok_guaranteed x own f f> ok s j =
    covers_guaranteed x f (slots_of own f) j (within own s j) f> ok.rate (ok.time s j)

-- ---- the rule by L

module _ (x : Client) (own : ℕ → ℕ) (f L : ℕ) (scaled : IsScaled own f (slots_of own f) L) where
  pub in_time_by_scaled : L * x.b ≤ x.a * slots_of own f → (s j : ℕ) → in_time x own f s j ≡ true
  in_time_by_scaled h s j =
      covers_pass x f (slots_of own f) j (within own s j)
      (omega (arith, mul-le-mul_right x.b (scaled.bounded.bound s j)))

  pub scaled_by_in_time : ((s j : ℕ) → in_time x own f s j ≡ true) → L * x.b ≤ x.a * slots_of own f
  scaled_by_in_time h =
      let r = scaled.reached in
      let w = within own r.start r.length in
      let there = covers_true x f (slots_of own f) r.length w (h r.start r.length) in
      omega (arith, there, ap (λ (k : ℕ). k * x.b) r.there)

-- ---- what a test found, said of the client

pub rate_tested : (x : Client) (own : ℕ → ℕ) (f m : ℕ) (t : Bool) → t ≡ enough x f m → m ≡ slots_of own f
    → has_rate x own f ≡ t
rate_tested x own f m t e h = cc

pub stretch_tested : (x : Client) (own : ℕ → ℕ) (f m s j w : ℕ) (t : Bool) → t ≡ covers x f m j w → m ≡ slots_of own f
    → w ≡ within own s j → in_time x own f s j ≡ t
stretch_tested x own f m s j w t e h k = cc

-- ---- an accepted plan, for crates above

pub accepted_owns : (plan : Plan) → Checked plan → Accepted plan → (i : ℕ) → i < plan.n
    → 0 < slots_of (own_of plan (i + 1)) plan.f
accepted_owns plan ok accepted i l =
    let bounds = ok.bounds in
    rate_owns (client_of plan i) plan.f _ (bounds.required i l).p_low bounds.f_low
    (accepted.each i (omega arith) l).rate

pub accepted_guaranteed : (plan : Plan) → 0 < plan.f → Accepted plan → (i : ℕ) → i < plan.n → (s j : ℕ)
    → Guaranteed (client_of plan i).p (client_of plan i).q (client_of plan i).a (client_of plan i).b j
    (within (own_of plan (i + 1)) s j)
accepted_guaranteed plan f> accepted i l =
    ok_guaranteed (client_of plan i) (own_of plan (i + 1)) plan.f f> (accepted.each i (omega arith) l)

-- ---- one client after the other

pub all_more : (plan : Plan) (from i : ℕ) → AllOk plan from i → ClientOk plan i → AllOk plan from (i + 1)
all_more plan from i all here = record { each = λ k low high. by k low (ℕ_discrete k i) high }
  where
    by : (k : ℕ) → from ≤ k → Dec (k ≡ i) → k < i + 1 → ClientOk plan k
    by k low (yes e) high = rw e here
    by k low (no e) high = all.each k low (omega arith)

pub first_at : (plan : Plan) (from to i : ℕ) (P : ℕ → Type 0) → from ≤ i → i < to → AllOk plan from i → P i
    → First plan from to (i + 1) P
first_at plan from to i P low high before fails =
    record { place = i; client = refl; low = low; high = high; before = before; fails = fails }

-- no client at all
pub judged_none : (plan : Plan) (from : ℕ) → IsJudgement plan from from acceptance
judged_none plan from = (record { each = λ i low high. absurd (omega arith) }, refl, refl, refl)

-- a client judged by itself
pub verdict_by_lem : (plan : Plan) (i c : ℕ) → c ≡ i + 1 → (verdict : Verdict) (k s j : ℕ)
    → JudgedAs plan i c verdict k s j
    → IsVerdict (client_of plan i) (own_of plan c) plan.f verdict
verdict_by_lem plan i c e Ok k s j h = rw e (h.0.each i (omega arith) (omega arith))
verdict_by_lem plan i c e Rate k s j h =
    let here : h.0.place ≡ i = omega (arith, h.0.low, h.0.high) in
    rw e (rw here at h.0.fails)
verdict_by_lem plan i c e Late k s j h =
    let here : h.place ≡ i = omega (arith, h.low, h.high) in
    (s, j, rw e (rw here at h.fails))

-- ---- one group after the other

all_both : (plan : Plan) (from mid to : ℕ) → AllOk plan from mid → AllOk plan mid to → AllOk plan from to
all_both plan from mid to all rest = record { each = λ i low high. by i low high (below_or_not i mid) }
  where
    by : (i : ℕ) → from ≤ i → i < to → (i < mid) ⊎ (mid ≤ i) → ClientOk plan i
    by i low high (inl l) = all.each i low l
    by i low high (inr l) = rest.each i l high

module _ (plan : Plan) (from mid to : ℕ) (c : ℕ) (P : ℕ → Type 0) where
  first_on : from ≤ mid → AllOk plan from mid → First plan mid to c P → First plan from to c P
  first_on low all first =
      record {
        place = first.place;
        client = first.client;
        low = omega (arith, first.low);
        high = first.high;
        before = all_both plan from mid first.place all first.before;
        fails = first.fails;
      }

  -- a client that fails in the first group is the first of both
  pub first_stops : mid ≤ to → First plan from mid c P → First plan from to c P
  first_stops high first =
      record {
        place = first.place;
        client = first.client;
        low = first.low;
        high = omega (arith, first.high);
        before = first.before;
        fails = first.fails;
      }

-- where all of the first group are ok, judging stops where it does in the second
pub judged_on : (plan : Plan) (from mid to : ℕ) → from ≤ mid → AllOk plan from mid → (v : Verdict) (c s j : ℕ)
    → JudgedAs plan mid to v c s j → JudgedAs plan from to v c s j
judged_on plan from mid to low all Ok c s j h = (all_both plan from mid to all h.0, h.1, h.2, h.3)
judged_on plan from mid to low all Rate c s j h = (first_on plan from mid to c _ low all h.0, h.1, h.2)
judged_on plan from mid to low all Late c s j h = first_on plan from mid to c _ low all h
