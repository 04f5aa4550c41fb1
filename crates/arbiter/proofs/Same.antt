-- Plans that are the same step alike, and pending counts past n are not read.
-- Assumes nothing.
use mathlib.Core.Path.{◌≡◌, refl, sym, ap, ◌∙◌}
use mathlib.Core.List.{List}
use Prim.Native.Nat.{ℕ, zero, suc, ◌+◌, ◌<◌}
use native.Mathlib.Omega.{arith}
use lib.ListN.{length, get_or}
use Rattle.frame.specs.Queue.{Rule, queue, after}
use Rattle.std.specs.Prelude.{Ok, Err}
use Rattle.records.specs.First.{Outcome, Fine}
use Rattle.records.proofs.Lists.{get_onto, onto_same, padded_same}
use Rattle.plan.specs.declared.Plan.{Plan}
use Rattle.plan.specs.Plan.{owner_of, own_of, Same}
use Rattle.plan.proofs.Laws.{same_check}
use Rattle.arbiter.specs.declared.Arbiter.{Arbiter}
use Rattle.arbiter.specs.Step.{rule_of, count_of, arrived_of, served_by, queue_at, turned_at, joined, served_now}
use Rattle.arbiter.specs.Step.{advanced, position_check, arrivals_check, step_check, step_of, step_said}
use Rattle.arbiter.proofs.Questions.{Steps, step_fine}
use Rattle.arbiter.proofs.Slots.{step_refused, step_advances}
use Rattle.arbiter.proofs.Runs.{place_itself, step_left}
use Rattle.arbiter.proofs.Laws.{same_rule}

-- ---- plans that are the same

module _ (plan other : Plan) (same : Same plan other) (arb : Arbiter) (xs : List ℕ) where
  step_check_same : step_check plan arb.position (length xs) ≡ step_check other arb.position (length xs)
  unfolding step_check position_check arrivals_check
  step_check_same = rw (same_check plan other same, same.frame, same.count)

  advanced_same : Steps plan arb.position (length xs) → advanced plan arb xs ≡ advanced other arb xs
  unfolding advanced
  advanced_same ok =
      let rule = same_rule plan other same in
      let joins = onto_same (queue_at plan arb xs) (queue_at other arb xs) plan.n arb.pending
      (λ i l. ap (λ (r : Rule). queue r (count_of arb i) (arrived_of xs i)) (rule i l)) in
      let turns = padded_same (turned_at plan arb xs) (turned_at other arb xs) plan.n 8 0
      (λ i l. ap (λ (r : Rule). r.turns (count_of arb i) (arrived_of xs i)) (rule i l)) in
      rw (same.owners arb.position ok.below, joins, turns, same.frame, same.count)

  pub same_step : step_of plan arb xs ≡ step_of other arb xs
  same_step = by (step_check plan arb.position (length xs)) refl
    where
      by : (o : Outcome) → step_check plan arb.position (length xs) ≡ o → step_of plan arb xs ≡ step_of other arb xs
      by (Ok u) e =
          step_advances plan arb xs e ∙ advanced_same (step_fine plan _ _ e)
          ∙ sym (step_advances other arb xs (sym step_check_same ∙ e))
      by (Err refused) e =
          step_refused plan arb xs e ∙ sym (step_refused other arb xs (sym step_check_same ∙ e))

  pub same_said : step_said plan arb xs ≡ step_said other arb xs
  unfolding step_said
  same_said = rw (same_step, step_check_same)

-- ---- "Counts past n are not read"

served_same : (owner : ℕ) (counts others : List ℕ) → ((i : ℕ) → i < owner → get_or counts i 0 ≡ get_or others i 0)
    → served_by owner counts ≡ served_by owner others
unfolding served_by
served_same zero counts others e = refl
served_same (suc i) counts others e = rw (e i (omega arith))

module _ (plan : Plan) (arb other : Arbiter) (xs : List ℕ) (place : arb.position ≡ other.position)
    (counts : (i : ℕ) → i < plan.n → count_of arb i ≡ count_of other i) where
  queue_same : (i : ℕ) → i < plan.n → queue_at plan arb xs i ≡ queue_at plan other xs i
  queue_same i l = rw (counts i l)

  joined_same : (i : ℕ) → i < plan.n → get_or (joined plan arb xs) i 0 ≡ get_or (joined plan other xs) i 0
  joined_same i l =
      get_onto (queue_at plan arb xs) plan.n arb.pending 0 i l ∙ queue_same i l
      ∙ sym (get_onto (queue_at plan other xs) plan.n other.pending 0 i l)

  advanced_unread : Steps plan arb.position (length xs)
      → (advanced plan arb xs).served ≡ (advanced plan other xs).served
  unfolding advanced
  advanced_unread ok =
      let owner = ok.checked.owned arb.position ok.below in
      let served : served_now plan arb xs ≡ served_now plan other xs =
      served_same (owner_of plan arb.position) (joined plan arb xs) (joined plan other xs)
      (λ i l. joined_same i (omega (arith, l, owner)))
      ∙ ap (λ (x : ℕ). served_by (owner_of plan x) (joined plan other xs)) place in
      let turned = padded_same (turned_at plan arb xs) (turned_at plan other xs) plan.n 8 0
      (λ i l. ap (λ (v : ℕ). (rule_of plan i).turns v (arrived_of xs i)) (counts i l)) in
      rw (served, turned)

  pub served_unread : (step_of plan arb xs).served ≡ (step_of plan other xs).served
  served_unread = by (step_check plan arb.position (length xs)) refl
    where
      at_other : (o : Outcome) → step_check plan arb.position (length xs) ≡ o
          → step_check plan other.position (length xs) ≡ o
      at_other o e = rw place at e

      by : (o : Outcome) → step_check plan arb.position (length xs) ≡ o
          → (step_of plan arb xs).served ≡ (step_of plan other xs).served
      by (Ok u) e =
          rw (step_advances plan arb xs e, step_advances plan other xs (at_other Fine e))
          (advanced_unread (step_fine plan _ _ e))
      by (Err refused) e =
          rw (step_refused plan arb xs e, step_refused plan other xs (at_other (Err refused) e))

  count_goes : Steps plan arb.position (length xs) → (i : ℕ) → i < plan.n
      → count_of (step_of plan arb xs).next i ≡ count_of (step_of plan other xs).next i
  count_goes ok i l =
      let ok' : Steps plan other.position (length xs) = rw place at ok in
      let here = place_itself plan.f arb.position ok.below in
      step_left plan arb xs ok i l arb.position here
      ∙ ap (λ (v : ℕ). after (rule_of plan i) (own_of plan (i + 1) arb.position) v (arrived_of xs i)) (counts i l)
      ∙ sym (step_left plan other xs ok' i l arb.position (sym place ∙ here))

  pub count_unread : (i : ℕ) → i < plan.n
      → count_of (step_of plan arb xs).next i ≡ count_of (step_of plan other xs).next i
  count_unread i l = by (step_check plan arb.position (length xs)) refl
    where
      by : (o : Outcome) → step_check plan arb.position (length xs) ≡ o
          → count_of (step_of plan arb xs).next i ≡ count_of (step_of plan other xs).next i
      by (Ok u) e = count_goes (step_fine plan _ _ e) i l
      by (Err refused) e =
          let e' : step_check plan other.position (length xs) ≡ Err refused = rw place at e in
          rw (step_refused plan arb xs e, step_refused plan other xs e') (counts i l)
