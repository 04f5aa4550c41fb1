-- Checks in order: "The first that applies is given" (document 01, Refusal numbers).
use Rattle.std.specs.Prelude.{◌≡◌, Bool, true, false, List, [], ◌∷◌, ℕ, zero, suc, leb, eqb, Result, Ok, Err}
use Rattle.records.specs.declared.refusal.At.{At}
use Rattle.records.specs.declared.refusal.Refusal.{Refusal}
use Rattle.records.specs.Refusal.{number}

-- what a check finds, E saying why: nothing, or why it refuses and at which offset
abbrev pub Checked : Type 0 → Type 0
Checked E = Result (Unit {0}) (At E)

-- the same by document 01's refusals
abbrev pub Outcome : Type 0
Outcome = Checked Refusal

-- nothing is refused
abbrev pub Fine : {E : Type 0} → Result (Unit {0}) E
Fine = Ok tt

-- why, and the offset
abbrev pub at : {E : Type 0} → E → ℕ → At E
at why offset = record { why = why; offset = offset }

-- refused, and at this offset
abbrev pub refuse : {E : Type 0} → E → ℕ → Checked E
refuse why offset = Err (at why offset)

-- the first where the test is true, else the second
abbrev pub pick : {A : Type 0} → Bool → A → A → A
pick true x y = x
pick false x y = y

-- x is low to high
abbrev pub between : ℕ → ℕ → ℕ → Bool
between low x high = pick (leb low x) (leb x high) false

-- refused at this offset, unless the test is true
abbrev pub unless : {E : Type 0} → Bool → E → ℕ → Checked E
unless true why offset = Fine
unless false why offset = refuse why offset

-- refused where x is not 1 to high, outside reading
unfoldable pub range_check : {E : Type 0} → ℕ → ℕ → E → Checked E
range_check x high why = unless (between 1 x high) why 0

-- the first check's refusal, else what the second check finds
abbrev pub or_else : {E : Type 0} → Checked E → Checked E → Checked E
or_else (Ok u) y = y
or_else (Err refused) y = Err refused

-- the first refusal among the checks g 0, .., g (n - 1)
unfoldable pub first_of : (ℕ → Outcome) → ℕ → Outcome
first_of g zero = Fine
first_of g (suc n) = or_else (first_of g n) (g n)

-- the document's number of an outcome, 0 where nothing is refused
abbrev pub number_of : Outcome → ℕ
number_of (Ok u) = 0
number_of (Err refused) = number refused.why

-- its offset, 0 where nothing is refused
abbrev pub offset_of : {E : Type 0} → Checked E → ℕ
offset_of (Ok u) = 0
offset_of (Err refused) = refused.offset

-- an outcome that refuses, for this reason
abbrev pub RefusedBy : Outcome → Refusal → Type 0
RefusedBy (Ok u) why = ⊥
RefusedBy (Err refused) why = why ≡ refused.why

-- x stands in the list
abbrev pub among : ℕ → List ℕ → Bool
among x [] = false
among x (y ∷ ys) = pick (eqb x y) true (among x ys)

-- "Each refusal has its number": an outcome that refuses does so with one of these
abbrev pub Gives : List ℕ → Outcome → Type 0
Gives numbers (Ok u) = Unit {0}
Gives numbers (Err refused) = among (number refused.why) numbers ≡ true
