-- There is one verdict of a client, and one judgement: one first client that is not ok, and one first stretch that
-- shows it.
-- Assumes nothing.
use mathlib.Core.Path.{◌≡◌, refl, sym, ◌∙◌}
use mathlib.Core.Bool.{false}
use Prim.Native.Nat.{ℕ, ◌+◌, ◌<◌}
use native.Mathlib.Decide.{dec_lt}
use native.Mathlib.Omega.{arith}
use Rattle.records.proofs.Checks.{false_true}
use Rattle.plan.specs.declared.Client.{Client}
use Rattle.plan.specs.declared.Plan.{Plan}
use Rattle.plan.specs.Plan.{client_of, own_of}
use Rattle.judge.specs.declared.Verdict.{Verdict}
use Rattle.judge.specs.declared.Verdict.TheVariants.{Ok, Rate, Late}
use Rattle.judge.specs.declared.Judgement.{Judgement}
use Rattle.judge.specs.Rules.{has_rate, IsOk, IsLate, IsVerdict}
use Rattle.judge.specs.Judge.{ClientOk, AllOk, First, JudgedAs, IsJudgement}

-- ---- one client

neither : (a b : ℕ) → (a < b → ⊥) → (b < a → ⊥) → a ≡ b
neither a b l h = by (dec_lt a b) (dec_lt b a)
  where
    by : Dec (a < b) → Dec (b < a) → a ≡ b
    by (yes m) d = absurd (l m)
    by (no m) (yes k) = absurd (h k)
    by (no m) (no k) = omega arith

module _ (x : Client) (own : ℕ → ℕ) (f : ℕ) where
  lacking_not_ok : has_rate x own f ≡ false → IsOk x own f → ⊥
  lacking_not_ok h ok = false_true (sym h ∙ ok.rate)

  late_not_ok : (s j : ℕ) → IsLate x own f s j → IsOk x own f → ⊥
  late_not_ok s j late ok = false_true (sym late.fails ∙ ok.time s j)

  lacking_not_late : (s j : ℕ) → has_rate x own f ≡ false → IsLate x own f s j → ⊥
  lacking_not_late s j h late = false_true (sym h ∙ late.rate)

  -- no stretch that shows the failure starts before the first one
  start_before : (s j s' j' : ℕ) → IsLate x own f s j → IsLate x own f s' j' → s < s' → ⊥
  start_before s j s' j' a b l = false_true (sym a.fails ∙ b.start s j l)

  length_before : (s j j' : ℕ) → IsLate x own f s j → IsLate x own f s j' → j < j' → ⊥
  length_before s j j' a b l = false_true (sym a.fails ∙ b.length j l)

  start_one : (s j s' j' : ℕ) → IsLate x own f s j → IsLate x own f s' j' → s ≡ s'
  start_one s j s' j' a b = neither s s' (start_before s j s' j' a b) (start_before s' j' s j b a)

  late_one : (s j s' j' : ℕ) → IsLate x own f s j → IsLate x own f s' j' → (s ≡ s') × (j ≡ j')
  late_one s j s' j' a b =
      let e = start_one s j s' j' a b in
      let b' : IsLate x own f s j' = rw e b in
      (e, neither j j' (length_before s j j' a b') (length_before s j' j b' a))

  pub verdict_one : (v v' : Verdict) → IsVerdict x own f v → IsVerdict x own f v' → v ≡ v'
  verdict_one Ok Ok a b = refl
  verdict_one Ok Rate a b = absurd (lacking_not_ok b a)
  verdict_one Ok Late a b = absurd (late_not_ok b.0 b.1 b.2 a)
  verdict_one Rate Ok a b = absurd (lacking_not_ok a b)
  verdict_one Rate Rate a b = refl
  verdict_one Rate Late a b = absurd (lacking_not_late b.0 b.1 a b.2)
  verdict_one Late Ok a b = absurd (late_not_ok a.0 a.1 a.2 b)
  verdict_one Late Rate a b = absurd (lacking_not_late a.0 a.1 b a.2)
  verdict_one Late Late a b = refl

-- ---- the first client

module _ (plan : Plan) (from to : ℕ) where
  -- a client that is not ok in the way that P says is not ok
  abbrev Spoils : (ℕ → Type 0) → Type 0
  Spoils P = (i : ℕ) → P i → ClientOk plan i → ⊥

  abbrev Lacks : ℕ → Type 0
  Lacks i = has_rate (client_of plan i) (own_of plan (i + 1)) plan.f ≡ false

  abbrev Lags : ℕ → ℕ → ℕ → Type 0
  Lags s j i = IsLate (client_of plan i) (own_of plan (i + 1)) plan.f s j

  lacks_spoils : Spoils Lacks
  lacks_spoils i = lacking_not_ok (client_of plan i) (own_of plan (i + 1)) plan.f

  lags_spoils : (s j : ℕ) → Spoils (Lags s j)
  lags_spoils s j i = late_not_ok (client_of plan i) (own_of plan (i + 1)) plan.f s j

  none_fails : (c : ℕ) (P : ℕ → Type 0) → Spoils P → AllOk plan from to → First plan from to c P → ⊥
  none_fails c P spoils all first =
      let i = first.place in
      spoils i first.fails (all.each i first.low first.high)

  place_before : (c c' : ℕ) (P Q : ℕ → Type 0) → Spoils P → (a : First plan from to c P) (b : First plan from to c' Q)
      → a.place < b.place → ⊥
  place_before c c' P Q spoils a b l = spoils a.place a.fails (b.before.each a.place a.low l)

  place_one : (c c' : ℕ) (P Q : ℕ → Type 0) → Spoils P → Spoils Q → (a : First plan from to c P)
      (b : First plan from to c' Q) → a.place ≡ b.place
  place_one c c' P Q p q a b =
      neither a.place b.place (place_before c c' P Q p a b) (place_before c' c Q P q b a)

  client_one : (c c' : ℕ) (P Q : ℕ → Type 0) → Spoils P → Spoils Q → First plan from to c P → First plan from to c' Q
      → c ≡ c'
  client_one c c' P Q p q a b = omega (arith, a.client, b.client, place_one c c' P Q p q a b)

  lacks_not_lags : (c c' s j : ℕ) → First plan from to c Lacks → First plan from to c' (Lags s j) → ⊥
  lacks_not_lags c c' s j a b =
      let e = place_one c c' Lacks (Lags s j) lacks_spoils (lags_spoils s j) a b in
      let i = b.place in
      lacking_not_late (client_of plan i) (own_of plan (i + 1)) plan.f s j (rw e at a.fails) b.fails

  fields_one : (v v' : Verdict) (c c' s s' j j' : ℕ) → JudgedAs plan from to v c s j
      → JudgedAs plan from to v' c' s' j' → (v ≡ v') × (c ≡ c') × (s ≡ s') × (j ≡ j')
  fields_one Ok Ok c c' s s' j j' a b = (refl, a.1 ∙ sym b.1, a.2 ∙ sym b.2, a.3 ∙ sym b.3)
  fields_one Ok Rate c c' s s' j j' a b = absurd (none_fails c' Lacks lacks_spoils a.0 b.0)
  fields_one Ok Late c c' s s' j j' a b = absurd (none_fails c' (Lags s' j') (lags_spoils s' j') a.0 b)
  fields_one Rate Ok c c' s s' j j' a b = absurd (none_fails c Lacks lacks_spoils b.0 a.0)
  fields_one Rate Rate c c' s s' j j' a b = (
    refl,
    client_one c c' Lacks Lacks lacks_spoils lacks_spoils a.0 b.0,
    a.1 ∙ sym b.1,
    a.2 ∙ sym b.2,
  )
  fields_one Rate Late c c' s s' j j' a b = absurd (lacks_not_lags c c' s' j' a.0 b)
  fields_one Late Ok c c' s s' j j' a b = absurd (none_fails c (Lags s j) (lags_spoils s j) b.0 a)
  fields_one Late Rate c c' s s' j j' a b = absurd (lacks_not_lags c' c s j b.0 a)
  fields_one Late Late c c' s s' j j' a b =
      let P = Lags s j in
      let Q = Lags s' j' in
      let e = place_one c c' P Q (lags_spoils s j) (lags_spoils s' j') a b in
      let i = b.place in
      let same =
      late_one (client_of plan i) (own_of plan (i + 1)) plan.f s j s' j' (rw e at a.fails) b.fails in
      (refl, client_one c c' P Q (lags_spoils s j) (lags_spoils s' j') a b, same.0, same.1)

same_judgement : (v v' : Verdict) (c c' s s' j j' : ℕ) → (v ≡ v') × (c ≡ c') × (s ≡ s') × (j ≡ j')
    → ◌≡◌ {A = Judgement}
    (record { client = c; verdict = v; start = s; length = j })
    (record { client = c'; verdict = v'; start = s'; length = j' })
same_judgement v v' c c' s s' j j' e = rw (e.0, e.1, e.2, e.3)

pub judgement_one : (plan : Plan) (from to : ℕ) (a b : Judgement) → IsJudgement plan from to a
    → IsJudgement plan from to b → a ≡ b
judgement_one plan from to a b is is' =
    same_judgement _ _ _ _ _ _ _ _ (fields_one plan from to a.verdict b.verdict _ _ _ _ _ _ is is')
