-- Tests that compute: what a check finds, whether a client is ok, a table accepted, or the best of all, and whether two
-- steps give the same. Each says what its definition says, so that the examples are settled by working them out.
-- Assumes nothing.
use mathlib.Core.Path.{◌≡◌, refl, sym, ap, ◌∙◌}
use mathlib.Core.Bool.{Bool, true, false, not}
use mathlib.Core.List.{List, [], ◌∷◌}
use mathlib.Core.Logic.{inl, inr, ⊎_elim}
use Prim.Native.Nat.{ℕ, zero, suc, ◌+◌, ◌≤◌, ◌<◌}
use native.Mathlib.Decide.{dec_lt}
use native.Mathlib.Omega.{arith}
use lib.Dec.{leb, ltb, eqb}
use lib.ListN.{length, get_or, get_or-eq_default}
use borrow.Author.Tests.{leb-true, ltb-true, eqb-true, not-true}
use Rattle.frame.specs.Frame.{slots_of, Frame}
use Rattle.std.specs.declared.result.Result.TheVariants as result
use Rattle.records.specs.declared.refusal.Refusal.{Refusal}
use Rattle.records.specs.Refusal.{number}
use Rattle.records.specs.First.{pick, RefusedBy, Outcome, Fine}
use Rattle.records.proofs.Checks.{false_true, both_true, last_or_below}
use Rattle.plan.specs.declared.Client.{Client}
use Rattle.plan.specs.declared.Plan.{Plan}
use Rattle.plan.specs.Plan.{client_of, own_of, with_table}
use Rattle.figures.proofs.Laws.{frame_of}
use Rattle.judge.specs.Rules.{has_rate, in_time, IsOk, IsLate}
use Rattle.judge.specs.Judge.{Accepted}
use Rattle.judge.proofs.Laws.{lengths_suffice, starts_suffice}
use Rattle.explore.specs.Best.{Table, owned, LexLe, IsBest, NoTable}
use Rattle.search.specs.Search.{AcceptedIn}
use Rattle.arbiter.specs.declared.Arbiter.{Arbiter}
use Rattle.arbiter.specs.declared.Stepped.{Stepped}
use Rattle.arbiter.specs.Step.{step_check, step_of, said_by, step_said}

-- ---- tests

-- all of P 0, .., P (n - 1)
unfoldable pub all_below : ℕ → (ℕ → Bool) → Bool
all_below zero P = true
all_below (suc n) P = pick (all_below n P) (P n) false

pub each_below : (n : ℕ) (P : ℕ → Bool) → all_below n P ≡ true → (i : ℕ) → i < n → P i ≡ true
unfolding all_below
each_below zero P h i l = absurd (omega arith)
each_below (suc n) P h i l =
    let b = both_true (all_below n P) (P n) h in
    ⊎_elim (λ (e : i ≡ n). rw e b.1) (λ (m : i < n). each_below n P b.0 i m) (last_or_below i n l)

below_each : (n : ℕ) (P : ℕ → Bool) → ((i : ℕ) → i < n → P i ≡ true) → all_below n P ≡ true
unfolding all_below
below_each zero P h = refl
below_each (suc n) P h = rw (below_each n P (λ i l. h i (omega arith)), h n (omega arith))

-- nothing is refused
unfoldable pub fine_test : Outcome → Bool
fine_test (result.Ok u) = true
fine_test (result.Err refused) = false

pub fine_tested : (o : Outcome) → fine_test o ≡ true → o ≡ Fine
unfolding fine_test
fine_tested (result.Ok u) h = refl
fine_tested (result.Err refused) h = false_true h

-- it is refused with this number
unfoldable pub refused_test : Outcome → ℕ → Bool
refused_test (result.Ok u) n = false
refused_test (result.Err refused) n = eqb n (number refused.why)

pub refused_tested : (o : Outcome) (n : ℕ) → refused_test o n ≡ true
    → (why : Refusal) × (number why ≡ n) × (RefusedBy o why)
unfolding refused_test
refused_tested (result.Ok u) n h = false_true h
refused_tested (result.Err refused) n h = (refused.why, sym (eqb-true n (number refused.why) h), refl)

-- ---- a client

module _ (x : Client) (own : ℕ → ℕ) (f : ℕ) where
  -- enough rate, and the starts and lengths below f in time
  unfoldable pub ok_test : Bool
  ok_test = pick (has_rate x own f) (all_below f (λ s. all_below f (in_time x own f s))) false

  pub ok_tested : Frame own f (slots_of own f) → ok_test ≡ true → IsOk x own f
  unfolding ok_test
  ok_tested frame h =
      let b = both_true (has_rate x own f) _ h in
      let starts = each_below f _ b.1 in
      record {
        rate = b.0;
        time = starts_suffice x frame b.0 (λ s l.
            lengths_suffice x frame b.0 s (each_below f (in_time x own f s) (starts s l)));
      }

  test_ok : IsOk x own f → ok_test ≡ true
  unfolding ok_test
  test_ok ok = rw ok.rate (below_each f _ (λ s l. below_each f (in_time x own f s) (λ j k. ok.time s j)))

  -- the stretch of j slots from s on is the first that is not in time
  unfoldable pub late_test : ℕ → ℕ → Bool
  late_test s j =
      pick (has_rate x own f)
      (pick (not (in_time x own f s j))
      (pick (all_below s (λ t. all_below f (in_time x own f t))) (all_below j (in_time x own f s)) false) false) false

  pub late_tested : Frame own f (slots_of own f) → (s j : ℕ) → late_test s j ≡ true → IsLate x own f s j
  unfolding late_test
  late_tested frame s j h =
      let a = both_true (has_rate x own f) _ h in
      let b = both_true (not (in_time x own f s j)) _ a.1 in
      let c = both_true (all_below s (λ t. all_below f (in_time x own f t))) _ b.1 in
      record {
        rate = a.0;
        fails = not-true (in_time x own f s j) b.0;
        start = λ t i l.
            lengths_suffice x frame a.0 t (each_below f (in_time x own f t) (each_below s _ c.0 t l)) i;
        length = each_below j (in_time x own f s) c.1;
      }

-- ---- a table

-- every client of a plan is ok
unfoldable pub accept_test : Plan → Bool
accept_test plan = all_below plan.n (λ i. ok_test (client_of plan i) (own_of plan (i + 1)) plan.f)

accept_tested : (plan : Plan) → 0 < plan.f → accept_test plan ≡ true → Accepted plan
unfolding accept_test
accept_tested plan f> h =
    record {
      each = λ i low l.
          ok_tested (client_of plan i) (own_of plan (i + 1)) plan.f (frame_of plan (i + 1) f>)
          (each_below plan.n _ h i l);
    }

test_accept : (plan : Plan) → Accepted plan → accept_test plan ≡ true
unfolding accept_test
test_accept plan accepted =
    below_each plan.n _ (λ i l.
    test_ok (client_of plan i) (own_of plan (i + 1)) plan.f (accepted.each i (omega arith) l))

-- ---- every table

-- Q holds of every table of f slots and n clients
unfoldable pub every_table : ℕ → ℕ → (List ℕ → Bool) → Bool
every_table zero n Q = Q []
every_table (suc f) n Q = all_below (suc n) (λ x. every_table f n (λ t. Q (x ∷ t)))

every_table_lem : (f n : ℕ) (Q : List ℕ → Bool) → every_table f n Q ≡ true → (u : List ℕ) → Table f n u → Q u ≡ true
unfolding every_table
every_table_lem zero n Q h [] t = h
every_table_lem zero n Q h (x ∷ u) t = absurd (omega (arith, t.long))
every_table_lem (suc f) n Q h [] t = absurd (omega (arith, t.long))
every_table_lem (suc f) n Q h (x ∷ u) t =
    let rest : Table f n u = record { long = omega (arith, t.long); most = λ i. t.most (suc i) } in
    let here = each_below (suc n) _ h x (omega (arith, t.most 0)) in
    every_table_lem f n (λ v. Q (x ∷ v)) here u rest

-- ---- the best

-- t is u or stands before it in the dictionary
unfoldable pub lex_test : List ℕ → List ℕ → Bool
lex_test [] u = true
lex_test (x ∷ t) [] = false
lex_test (x ∷ t) (y ∷ u) = pick (ltb x y) true (pick (eqb x y) (lex_test t u) false)

lex_tested : (t u : List ℕ) → lex_test t u ≡ true → LexLe t u
unfolding lex_test
lex_tested [] u h = tt
lex_tested (x ∷ t) [] h = false_true h
lex_tested (x ∷ t) (y ∷ u) h = by (ltb x y) refl h (lex_tested t u)
  where
    by : (b : Bool) → ltb x y ≡ b → pick b true (pick (eqb x y) (lex_test t u) false) ≡ true
        → (lex_test t u ≡ true → LexLe t u) → LexLe (x ∷ t) (y ∷ u)
    by true e g rest = inl (ltb-true x y e)
    by false e g rest = let a = both_true (eqb x y) (lex_test t u) g in inr (eqb-true x y a.0, rest a.1)

-- t owns fewer than u, or as many and does not stand after it
unfoldable pub better_test : List ℕ → List ℕ → Bool
better_test t u = pick (ltb (owned t) (owned u)) true (pick (eqb (owned t) (owned u)) (lex_test t u) false)

better_tested : (t u : List ℕ) → better_test t u ≡ true → (owned t ≤ owned u) × (owned u ≡ owned t → LexLe t u)
unfolding better_test
better_tested t u h = by (ltb (owned t) (owned u)) refl h
  where
    by : (b : Bool) → ltb (owned t) (owned u) ≡ b
        → pick b true (pick (eqb (owned t) (owned u)) (lex_test t u) false) ≡ true
        → (owned t ≤ owned u) × (owned u ≡ owned t → LexLe t u)
    by true e g = let l = ltb-true (owned t) (owned u) e in (omega arith, λ same. absurd (omega arith))
    by false e g =
        let a = both_true (eqb (owned t) (owned u)) (lex_test t u) g in
        (omega (arith, eqb-true (owned t) (owned u) a.0), λ same. lex_tested t u a.1)

module _ (plan : Plan) where
  -- no table is accepted
  unfoldable pub none_test : Bool
  none_test = every_table plan.f plan.n (λ u. not (accept_test (with_table plan u)))

  pub none_tested : none_test ≡ true → NoTable (AcceptedIn plan) plan.f plan.n
  unfolding none_test
  none_tested h u t accepted =
      let no = not-true (accept_test (with_table plan u)) (every_table_lem plan.f plan.n _ h u t) in
      false_true (sym no ∙ test_accept (with_table plan u) accepted)

  -- t is a table, is accepted, and is better than every other that is
  unfoldable pub best_test : List ℕ → Bool
  best_test t =
      pick (eqb (length t) plan.f)
      (pick (all_below plan.f (λ x. leb (get_or t x 0) plan.n))
      (pick (accept_test (with_table plan t))
      (every_table plan.f plan.n (λ u. pick (accept_test (with_table plan u)) (better_test t u) true)) false) false)
      false

  better : (a b : Bool) → a ≡ true → pick a b true ≡ true → b ≡ true
  better true b e h = h
  better false b e h = false_true e

  owners_most : (t : List ℕ) (f n : ℕ) → length t ≡ f → all_below f (λ x. leb (get_or t x 0) n) ≡ true → (x : ℕ)
      → get_or t x 0 ≤ n
  owners_most t f n e h x = by (dec_lt x f)
    where
      by : Dec (x < f) → get_or t x 0 ≤ n
      by (yes l) = leb-true (get_or t x 0) n (each_below f _ h x l)
      by (no l) = omega (arith, get_or-eq_default t 0 {n = x} (omega arith))

  pub best_tested : 0 < plan.f → (t : List ℕ) → best_test t ≡ true → IsBest (AcceptedIn plan) plan.f plan.n t
  unfolding best_test
  best_tested f> t h =
      let a = both_true (eqb (length t) plan.f) _ h in
      let b = both_true (all_below plan.f (λ x. leb (get_or t x 0) plan.n)) _ a.1 in
      let c = both_true (accept_test (with_table plan t)) _ b.1 in
      let long = eqb-true (length t) plan.f a.0 in
      record {
        table = record { long = long; most = owners_most t plan.f plan.n long b.0 };
        good = accept_tested (with_table plan t) f> c.0;
        fewest = λ u table good. (beats u table good c.1).0;
        least = λ u table good. (beats u table good c.1).1;
      }
    where
      beats : (u : List ℕ) → Table plan.f plan.n u → AcceptedIn plan u
          → every_table plan.f plan.n (λ v. pick (accept_test (with_table plan v)) (better_test t v) true) ≡ true
          → (owned t ≤ owned u) × (owned u ≡ owned t → LexLe t u)
      beats u table good every =
          let accepted = test_accept (with_table plan u) good in
          let here = every_table_lem plan.f plan.n _ every u table in
          better_tested t u (better (accept_test (with_table plan u)) (better_test t u) accepted here)

-- ---- steps

-- the same numbers
unfoldable pub numbers_test : List ℕ → List ℕ → Bool
numbers_test [] [] = true
numbers_test [] (y ∷ ys) = false
numbers_test (x ∷ xs) [] = false
numbers_test (x ∷ xs) (y ∷ ys) = pick (eqb x y) (numbers_test xs ys) false

numbers_tested : (xs ys : List ℕ) → numbers_test xs ys ≡ true → xs ≡ ys
unfolding numbers_test
numbers_tested [] [] h = refl
numbers_tested [] (y ∷ ys) h = false_true h
numbers_tested (x ∷ xs) [] h = false_true h
numbers_tested (x ∷ xs) (y ∷ ys) h =
    let b = both_true (eqb x y) (numbers_test xs ys) h in
    rw (eqb-true x y b.0, numbers_tested xs ys b.1)

-- r and s give the same
unfoldable pub step_test : Stepped → Stepped → Bool
step_test r s =
    pick
    (pick (eqb r.served.client s.served.client)
    (numbers_test r.served.turned s.served.turned) false)
    (pick (eqb r.next.position s.next.position) (numbers_test r.next.pending s.next.pending) false)
    false

stepped_alike : (a b : ℕ) (t u : List ℕ) (x y : ℕ) (p q : List ℕ) → a ≡ b → t ≡ u → x ≡ y → p ≡ q
    → ◌≡◌ {A = Stepped}
    (record { served = record { client = a; turned = t }; next = record { position = x; pending = p } })
    (record { served = record { client = b; turned = u }; next = record { position = y; pending = q } })
stepped_alike a b t u x y p q e f g h = rw (e, f, g, h)

pub step_tested : (r s : Stepped) → step_test r s ≡ true → r ≡ s
unfolding step_test
step_tested r s h =
    let b = both_true _ _ h in
    let said = both_true _ _ b.0 in
    let left = both_true _ _ b.1 in
    stepped_alike _ _ _ _ _ _ _ _ (eqb-true _ _ said.0) (numbers_tested _ _ said.1)
    (eqb-true _ _ left.0) (numbers_tested _ _ left.1)

-- what is said of a step whose check passes, and of one that is refused
pub said_passes : (plan : Plan) (arb : Arbiter) (xs : List ℕ) → step_check plan arb.position (length xs) ≡ Fine
    → step_said plan arb xs ≡ result.Ok (step_of plan arb xs)
unfolding step_said
said_passes plan arb xs fine = rw fine

pub said_refuses : (plan : Plan) (arb : Arbiter) (xs : List ℕ) (why : Refusal)
    → RefusedBy (step_check plan arb.position (length xs)) why → step_said plan arb xs ≡ result.Err why
unfolding step_said
said_refuses plan arb xs why = by (step_check plan arb.position (length xs))
  where
    by : (o : Outcome) → RefusedBy o why → said_by o (step_of plan arb xs) ≡ result.Err why
    by (result.Ok u) h = absurd h
    by (result.Err refused) h = ap result.Err (sym h)
