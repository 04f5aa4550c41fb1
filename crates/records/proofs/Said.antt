-- Laws of what entries say, once for all of them: two answers coincide where two values do; a value is given exactly
-- where the check passes; a refusal is the check's; what the check does not read, the answer does not.
-- Assumes nothing.
use mathlib.Core.Path.{◌≡◌, refl, sym, ap, ◌∙◌}
use Prim.Native.Nat.{ℕ}
use native.Mathlib.Omega.{arith}
use Rattle.std.specs.Prelude.{Result, Ok, Err}
use Rattle.records.specs.declared.refusal.Refusal.{Refusal}
use Rattle.records.specs.First.{Outcome, Fine, refuse, number_of}
use Rattle.records.specs.Said.{Said, Answers, said_number}
use Rattle.records.proofs.Checks.{not_fine, refused_number, refused_once, refused_fine, refused_why}

-- a refusal is no value
pub not_given : {A B E : Type 0} {x : A} {why : E} → ◌≡◌ {A = Result A E} (Err why) (Ok x) → B
not_given h = let z : ◌≡◌ {A = ℕ} 0 1 = cc in absurd (omega arith)

-- ---- answers

module _ {A : Type 0} (check : Outcome) (Is : A → Type 0) where
  pub answers_once : ((x y : A) → Is x → Is y → x ≡ y) → (s t : Said A) → Answers check Is s → Answers check Is t
      → s ≡ t
  answers_once one (Ok x) (Ok y) is is' = ap Ok (one x y is.1 is'.1)
  answers_once one (Ok x) (Err k) is is' = refused_fine check k is' is.0
  answers_once one (Err k) (Ok y) is is' = refused_fine check k is is'.0
  answers_once one (Err j) (Err k) is is' =
      ap Err (refused_once check j k is is')

  pub answers_number : (s : Said A) → Answers check Is s → said_number s ≡ number_of check
  answers_number (Ok x) is = sym (ap number_of is.0)
  answers_number (Err k) is = refused_number check k is

  pub answers_given : (s : Said A) → Answers check Is s → check ≡ Fine → (x : A) × (s ≡ Ok x) × Is x
  answers_given (Ok x) is e = (x, refl, is.1)
  answers_given (Err k) is e = refused_fine check k is e

  pub answers_refused : (s : Said A) {k : Refusal} {offset : ℕ} → Answers check Is s → check ≡ refuse k offset
      → s ≡ Err k
  answers_refused (Ok x) is e = not_fine (sym e ∙ is.0)
  answers_refused (Err j) {k} {offset} is e = ap Err (refused_why check j k offset is e)

-- the same check, and the same said of a value
pub answers_same : {A : Type 0} {check check' : Outcome} {Is Is' : A → Type 0} → check ≡ check'
    → (check ≡ Fine → (x : A) → Is x → Is' x) → (s : Said A) → Answers check Is s → Answers check' Is' s
answers_same e h (Ok x) is = (sym e ∙ is.0, h is.0 x is.1)
answers_same e h (Err k) is = rw e at is
