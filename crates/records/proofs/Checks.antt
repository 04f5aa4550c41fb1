-- Laws of checks in order: what a check that passes says, and which refusal comes first.
-- Assumes nothing.
use mathlib.Core.Path.{◌≡◌, refl, ap, sym, ◌∙◌}
use mathlib.Core.Bool.{Bool, true, false}
use mathlib.Core.List.{List}
use mathlib.Core.Logic.{⊎_elim, ◌⊎◌, inl, inr}
use Prim.Native.Nat.{ℕ, zero, suc, ◌+◌, ◌-◌, ◌≤◌, ◌<◌}
use native.Mathlib.Nat.{eq-or-lt_of_le, le_of_suc-le-suc}
use native.Mathlib.Numerals.{add-one}
use native.Mathlib.Omega.{arith}
use lib.Dec.{ltb, leb}
use lib.ListN.{length}
use borrow.Author.Tests.{ltb-true, ltb-false, leb-true, lt-ltb, le-ltb, le-leb, lt-leb, eq-eqb, ne_eqb}
use Rattle.std.specs.Prelude.{Result, Ok, Err}
use Rattle.records.specs.declared.refusal.Refusal.{Refusal}
use Rattle.records.specs.declared.refusal.At.{At}
use Rattle.records.specs.Refusal.{number}
use Rattle.records.specs.First.{Checked, Outcome, Fine, refuse, pick, between, unless, range_check, or_else, first_of}
use Rattle.records.specs.First.{number_of, RefusedBy}
use Rattle.records.specs.Record.{placed, record_check_by, over_check}

-- what the tests of a branch say of `ltb`, `leb` and `eqb`
pub ruleset tests = (lt-ltb, le-ltb, le-leb, lt-leb, eq-eqb, ne_eqb)

-- ---- cases

pub false_true : {A : Type 0} → false ≡ true → A
false_true h = let z : ◌≡◌ {A = ℕ} 0 1 = cc in absurd (omega arith)

pub one_or_none : (b : Bool) → pick b 1 0 ≤ 1
one_or_none true = omega arith
one_or_none false = omega arith

pub none_or_one : (b : Bool) → pick b 0 1 ≤ 1
none_or_one true = omega arith
none_or_one false = omega arith

-- below n + 1 is n, or below n
pub last_or_below : (i n : ℕ) → i < suc n → (i ≡ n) ⊎ (i < n)
last_or_below i n l = eq-or-lt_of_le (le_of_suc-le-suc l)

below_by : (x n : ℕ) (b : Bool) → ltb x n ≡ b → (x < n) ⊎ (n ≤ x)
below_by x n true e = inl (ltb-true x n e)
below_by x n false e = inr (ltb-false x n e)

pub below_or_not : (x n : ℕ) → (x < n) ⊎ (n ≤ x)
below_or_not x n = below_by x n (ltb x n) refl

pub both_true : (a b : Bool) → pick a b false ≡ true → (a ≡ true) × (b ≡ true)
both_true true b h = (refl, h)
both_true false b h = false_true h

pub between_true : (low x high : ℕ) → between low x high ≡ true → (low ≤ x) × (x ≤ high)
between_true low x high h =
    let b = both_true (leb low x) (leb x high) h in
    (leb-true low x b.0, leb-true x high b.1)

-- ---- one check, and one after another

pub not_fine : {A E : Type 0} {refused : E} → ◌≡◌ {A = Result (Unit {0}) E} (Err refused) (Ok tt) → A
not_fine h = let z : ◌≡◌ {A = ℕ} 0 1 = cc in absurd (omega arith)

pub unless_fine : {E : Type 0} (b : Bool) (why : E) (offset : ℕ) → unless b why offset ≡ Fine → b ≡ true
unless_fine true why offset h = refl
unless_fine false why offset h = not_fine h

pub range_fine : {E : Type 0} (x high : ℕ) (why : E) → range_check x high why ≡ Fine → (1 ≤ x) × (x ≤ high)
unfolding range_check
range_fine x high why h = between_true 1 x high (unless_fine (between 1 x high) why 0 h)

pub range_pass : {E : Type 0} (x high : ℕ) (why : E) → 1 ≤ x → x ≤ high → range_check x high why ≡ Fine
unfolding range_check
range_pass x high why l h = simp (le-leb 1 x l, le-leb x high h)

pub both_fine : {E : Type 0} (x y : Checked E) → or_else x y ≡ Fine → (x ≡ Fine) × (y ≡ Fine)
both_fine (Ok u) y h = (refl, h)
both_fine (Err refused) y h = not_fine h

-- v, what a check found, is a refusal
pub refuses : {v x : Outcome} {refused : At Refusal} → v ≡ x → v ≡ Err refused → RefusedBy x refused.why
refuses {v} {x} {refused} e h = let q : x ≡ Err refused = sym e ∙ h in rw q refl

pub refused_number : (o : Outcome) (why : Refusal) → RefusedBy o why → number why ≡ number_of o
refused_number (Ok u) why h = absurd h
refused_number (Err refused) why h = ap number h

-- an outcome refuses for one reason
pub refused_once : (o : Outcome) (one other : Refusal) → RefusedBy o one → RefusedBy o other → one ≡ other
refused_once (Ok u) one other h h' = absurd h
refused_once (Err refused) one other h h' = h ∙ sym h'

pub refused_fine : {A : Type 0} (o : Outcome) (why : Refusal) → RefusedBy o why → o ≡ Fine → A
refused_fine (Ok u) why h e = absurd h
refused_fine (Err refused) why h e = not_fine e

-- the first check's refusal is that of the two
pub refused_first : (x y : Outcome) (why : Refusal) → RefusedBy x why → RefusedBy (or_else x y) why
refused_first (Ok u) y why h = absurd h
refused_first (Err refused) y why h = h

abbrev reason_or : Refusal → Outcome → Refusal
reason_or other (Ok u) = other
reason_or other (Err refused) = refused.why

pub refused_why : (o : Outcome) (one why : Refusal) (offset : ℕ) → RefusedBy o one → o ≡ refuse why offset → one ≡ why
refused_why (Ok u) one why offset h e = absurd h
refused_why (Err refused) one why offset h e = h ∙ ap (reason_or why) e

-- v, what the first check found, decides where it refuses
pub stops : {v x : Outcome} {refused : At Refusal} (y : Outcome) → v ≡ x → v ≡ Err refused → Err refused ≡ or_else x y
stops {v} {x} {refused} y e h = let q : x ≡ Err refused = sym e ∙ h in rw q

-- and where it passes, what the second found
pub passes : {v x y r : Outcome} → v ≡ x → v ≡ Fine → r ≡ y → r ≡ or_else x y
passes {v} {x} {y} {r} e h f = let q : x ≡ Fine = sym e ∙ h in rw q f

-- checks that agree find the same; the second ones are looked at where the first pass
pub or_same : (x x' y y' : Outcome) → x ≡ x' → (x ≡ Fine → y ≡ y') → or_else x y ≡ or_else x' y'
or_same (Ok u) x' y y' e h = rw (← e) (h refl)
or_same (Err refused) x' y y' e h = rw (← e)

-- ---- the first that applies

-- one more check passes: v is what it found
pub first_more : (g : ℕ → Outcome) (i : ℕ) {v : Outcome} → first_of g i ≡ Fine → v ≡ g i → v ≡ Fine
    → first_of g (i + 1) ≡ Fine
unfolding first_of
first_more g i h e f = let q : g i ≡ Fine = sym e ∙ f in rw add-one (rw (h, q))

stop : (g : ℕ → Outcome) (n i : ℕ) (refused : At Refusal) → i < n → first_of g i ≡ Fine → g i ≡ Err refused
    → first_of g n ≡ Err refused
unfolding first_of
stop g zero i refused l h e = absurd (omega arith)
stop g (suc n) i refused l h e =
    ⊎_elim
    (λ (q : i ≡ n). let h' = rw q at h in let e' = rw q at e in rw (h', e'))
    (λ (m : i < n). rw (stop g n i refused m h e))
    (last_or_below i n l)

-- the first check that refuses decides, however many follow: v is what it found
pub first_stop : (g : ℕ → Outcome) (n i : ℕ) {v : Outcome} {refused : At Refusal} → i < n → first_of g i ≡ Fine
    → v ≡ g i → v ≡ Err refused → Err refused ≡ first_of g n
first_stop g n i {v} {refused} l h e f = sym (stop g n i refused l h (sym e ∙ f))

pub first_all : (g : ℕ → Outcome) (n : ℕ) → ((i : ℕ) → i < n → g i ≡ Fine) → first_of g n ≡ Fine
unfolding first_of
first_all g zero h = refl
first_all g (suc n) h = rw (first_all g n (λ i l. h i (omega arith)), h n (omega arith))

pub first_fine : (g : ℕ → Outcome) (n : ℕ) → first_of g n ≡ Fine → (i : ℕ) → i < n → g i ≡ Fine
unfolding first_of
first_fine g zero h i l = absurd (omega arith)
first_fine g (suc n) h i l =
    let b = both_fine (first_of g n) (g n) h in
    ⊎_elim (λ (e : i ≡ n). rw e b.1) (λ (m : i < n). first_fine g n b.0 i m) (last_or_below i n l)

pub first_same : (g h : ℕ → Outcome) (n : ℕ) → ((i : ℕ) → i < n → g i ≡ h i) → first_of g n ≡ first_of h n
unfolding first_of
first_same g h zero e = refl
first_same g h (suc n) e = rw (first_same g h n (λ i l. e i (omega arith)), e n (omega arith))

-- ---- a record, and the end

pub placed_fine : {E : Type 0} (due : Result (Unit {0}) E) (at : ℕ) → placed due at ≡ Fine → due ≡ Fine
placed_fine (Ok u) at h = refl
placed_fine (Err why) at h = not_fine h

pub record_fine : {E : Type 0} (s : List ℕ) (at : ℕ) (due : Result (Unit {0}) E) (body : ℕ) (ended : E)
    → record_check_by s at due body ended ≡ Fine → (due ≡ Fine) × (at + (1 + body) ≤ length s)
unfolding record_check_by
record_fine s at due body ended h =
    let a = both_fine _ _ h in
    let b = both_fine _ _ a.1 in
    let l : at < length s = ltb-true _ _ (unless_fine _ _ _ a.0) in
    let r : body < length s - at = ltb-true _ _ (unless_fine _ _ _ b.1) in
    (placed_fine due at b.0, omega arith)

pub record_pass : {E : Type 0} (s : List ℕ) (at : ℕ) (due : Result (Unit {0}) E) (body : ℕ) (ended : E) → due ≡ Fine
    → at + (1 + body) ≤ length s → record_check_by s at due body ended ≡ Fine
unfolding record_check_by
record_pass s at due body ended e h =
    rw e (simp (lt-ltb at (length s) (omega arith), lt-ltb body (length s - at) (omega arith)))

body_by : {E : Type 0} (due : Result (Unit {0}) E) (at : ℕ) (x y z : Checked E) → (due ≡ Fine → y ≡ z)
    → or_else x (or_else (placed due at) y) ≡ or_else x (or_else (placed due at) z)
body_by (Ok u) at x y z h = rw (h refl)
body_by (Err why) at x y z h = refl

-- the body matters only where the kind is due
pub record_body : {E : Type 0} (s : List ℕ) (at : ℕ) (due : Result (Unit {0}) E) (one other : ℕ) (ended : E)
    → (due ≡ Fine → one ≡ other) → record_check_by s at due one ended ≡ record_check_by s at due other ended
unfolding record_check_by
record_body {E} s at due one other ended h =
    let body : ℕ → Checked E = λ n. unless (ltb n (length s - at)) ended at in
    body_by due at (unless (ltb at (length s)) ended (length s)) (body one) (body other) (λ e. ap body (h e))

pub over_fine : (s : List ℕ) (at : ℕ) → over_check s at ≡ Fine → length s ≤ at
unfolding over_check
over_fine s at h = leb-true _ _ (unless_fine _ _ _ h)

pub over_pass : (s : List ℕ) (at : ℕ) → length s ≤ at → over_check s at ≡ Fine
unfolding over_check
over_pass s at h = simp (le-leb (length s) at h)
