-- Plans that are the same are judged alike: places past f and past n are not read.
-- Assumes nothing.
use mathlib.Core.Path.{◌≡◌, fun_ext}
use mathlib.Core.Bool.{false}
use Prim.Native.Nat.{ℕ, ◌+◌, ◌-◌, ◌≤◌, ◌<◌}
use native.Mathlib.Omega.{arith}
use Rattle.records.specs.First.{Fine}
use Rattle.records.specs.Said.{Said}
use Rattle.records.proofs.Said.{answers_same}
use Rattle.plan.specs.declared.Client.{Client}
use Rattle.plan.specs.declared.Plan.{Plan}
use Rattle.plan.specs.Plan.{client_of, own_of, Same}
use Rattle.plan.specs.Check.{plan_check, asked_check}
use Rattle.plan.proofs.Laws.{plan_fine, asked_fine, same_check, same_asked, own_same}
use Rattle.judge.specs.declared.Verdict.{Verdict}
use Rattle.judge.specs.declared.Verdict.TheVariants.{Ok, Rate, Late}
use Rattle.judge.specs.declared.Judgement.{Judgement}
use Rattle.judge.specs.Rules.{has_rate, IsOk, IsLate, IsVerdict}
use Rattle.judge.specs.Judge.{AllOk, First, JudgedAs, IsJudgement, IsJudged, IsVerdictOf}

module _ (plan other : Plan) (same : Same plan other) (f> : 0 < plan.f) where
  -- what holds of a client in one plan holds in the other
  client_same : (P : Client → (ℕ → ℕ) → ℕ → Type 0) (i : ℕ) → i < plan.n
      → P (client_of plan i) (own_of plan (i + 1)) plan.f → P (client_of other i) (own_of other (i + 1)) other.f
  client_same P i l h = rw (same.clients i l, fun_ext (own_same plan other same f> (i + 1)), same.frame) at h

  pub all_same : (from to : ℕ) → to ≤ plan.n → AllOk plan from to → AllOk other from to
  all_same from to l all = record { each = λ i low high. client_same IsOk i (omega arith) (all.each i low high) }

  failure_same : (from to c : ℕ) → to ≤ plan.n → (P : Client → (ℕ → ℕ) → ℕ → Type 0)
      → First plan from to c (λ i. P (client_of plan i) (own_of plan (i + 1)) plan.f)
      → First other from to c (λ i. P (client_of other i) (own_of other (i + 1)) other.f)
  failure_same from to c l P first =
      let i< : first.place < plan.n = omega (arith, first.high) in
      record {
        place = first.place;
        client = first.client;
        low = first.low;
        high = first.high;
        before = all_same from first.place (omega arith) first.before;
        fails = client_same P first.place i< first.fails;
      }

  judgement_same : (from to : ℕ) → to ≤ plan.n → (v : Verdict) (c s j : ℕ) → JudgedAs plan from to v c s j
      → JudgedAs other from to v c s j
  judgement_same from to l Ok c s j h = (all_same from to l h.0, h.1, h.2, h.3)
  judgement_same from to l Rate c s j h =
      (failure_same from to c l (λ x own f. has_rate x own f ≡ false) h.0, h.1, h.2)
  judgement_same from to l Late c s j h = failure_same from to c l (λ x own f. IsLate x own f s j) h

pub verdicts_same : (plan other : Plan) → Same plan other → (c : ℕ) (r : Said Verdict) → IsVerdictOf plan c r
    → IsVerdictOf other c r
verdicts_same plan other same c = answers_same (same_asked plan other same c) by
  where
    by : asked_check plan c ≡ Fine → (verdict : Verdict)
        → IsVerdict (client_of plan (c - 1)) (own_of plan c) plan.f verdict
        → IsVerdict (client_of other (c - 1)) (own_of other c) other.f verdict
    by fine verdict is =
        let asked = asked_fine plan c fine in
        let place : c - 1 + 1 ≡ c = omega (arith, asked.1) in
        let P : Client → (ℕ → ℕ) → ℕ → Type 0 = λ x own f. IsVerdict x own f verdict in
        let i< : c - 1 < plan.n = omega (arith, asked.1, asked.2) in
        rw place at (client_same plan other same asked.0.bounds.f_low P (c - 1) i< (rw place is))

pub judged_same : (plan other : Plan) → Same plan other → (r : Said Judgement) → IsJudged plan r → IsJudged other r
judged_same plan other same = answers_same (same_check plan other same) by
  where
    by : plan_check plan ≡ Fine → (found : Judgement) → IsJudgement plan 0 plan.n found
        → IsJudgement other 0 other.n found
    by fine found is =
        let f> = (plan_fine plan fine).bounds.f_low in
        let there = judgement_same plan other same f> 0 plan.n (omega arith) found.verdict _ _ _ is in
        rw same.count at there
