-- What holds of every refusal of each check holds of the first that applies: its number is the document's; its offset
-- lies in the stream or at its end, and is 0 outside reading.
-- Assumes nothing.
use mathlib.Core.Path.{◌≡◌, refl, sym, ap, ◌∙◌}
use mathlib.Core.Bool.{Bool, true, false}
use mathlib.Core.List.{List, [], ◌∷◌, ◌++◌}
use Prim.Native.Nat.{ℕ, zero, suc, ◌-◌, ◌≤◌, ◌<◌}
use native.Mathlib.Omega.{arith}
use lib.Dec.{ltb, leb, eqb}
use lib.ListN.{length}
use borrow.Author.Tests.{eqb-true, leb-false}
use Rattle.std.specs.Prelude.{Result, Ok, Err}
use Rattle.records.specs.declared.refusal.Refusal.{Refusal}
use Rattle.records.specs.declared.refusal.Refusal.TheVariants as refusal
use Rattle.records.specs.Refusal.{number}
use Rattle.records.specs.First.{Checked, Outcome, Fine, pick, between, unless, range_check, or_else, first_of}
use Rattle.records.specs.First.{number_of, offset_of, among, Gives}
use Rattle.records.specs.Record.{placed, record_check, record_check_by, over_check}
use Rattle.records.proofs.Checks.{false_true, both_true}

-- ---- any property of what checks find

-- the second check is reached where the first passes
pub or_reached : {E : Type 0} (P : Checked E → Type 0) (x y : Checked E) → P x → (x ≡ Fine → P y) → P (or_else x y)
or_reached P (Ok u) y p q = q refl
or_reached P (Err refused) y p q = p

pub or_each : {E : Type 0} (P : Checked E → Type 0) (x y : Checked E) → P x → P y → P (or_else x y)
or_each P x y p q = or_reached P x y p (λ e. q)

-- check i is reached where all before it pass
pub first_reached : (P : Outcome → Type 0) → P Fine → (g : ℕ → Outcome) (n : ℕ)
    → ((i : ℕ) → i < n → first_of g i ≡ Fine → P (g i)) → P (first_of g n)
unfolding first_of
first_reached P z g zero h = z
first_reached P z g (suc n) h =
    or_reached P (first_of g n) (g n) (first_reached P z g n (λ i l. h i (omega arith))) (h n (omega arith))

pub first_each : (P : Outcome → Type 0) → P Fine → (g : ℕ → Outcome) → ((i : ℕ) → P (g i)) → (n : ℕ) → P (first_of g n)
first_each P z g h n = first_reached P z g n (λ i l e. h i)

-- ---- numbers

pub unless_gives : (ks : List ℕ) (b : Bool) (why : Refusal) (offset : ℕ) → among (number why) ks ≡ true
    → Gives ks (unless b why offset)
unless_gives ks true why offset h = tt
unless_gives ks false why offset h = h

pub range_gives : (ks : List ℕ) (x high : ℕ) (why : Refusal) → among (number why) ks ≡ true
    → Gives ks (range_check x high why)
unfolding range_check
range_gives ks x high why h = unless_gives ks (between 1 x high) why 0 h

among_by : (b : Bool) {x y : Bool} → (x ≡ true → y ≡ true) → pick b true x ≡ true → pick b true y ≡ true
among_by true f h = refl
among_by false f h = f h

among_rest : (b : Bool) {x : Bool} → x ≡ true → pick b true x ≡ true
among_rest true h = refl
among_rest false h = h

among_left : (k : ℕ) (a b : List ℕ) → among k a ≡ true → among k (a ++ b) ≡ true
among_left k [] b h = false_true h
among_left k (x ∷ a) b h = among_by (eqb k x) (among_left k a b) h

among_right : (k : ℕ) (a b : List ℕ) → among k b ≡ true → among k (a ++ b) ≡ true
among_right k [] b h = h
among_right k (x ∷ a) b h = among_rest (eqb k x) (among_right k a b h)

-- the numbers of two checks, one after the other
pub or_gives : (a b : List ℕ) (x y : Outcome) → Gives a x → Gives b y → Gives (a ++ b) (or_else x y)
or_gives a b (Ok u) (Ok v) p q = tt
or_gives a b (Ok u) (Err refused) p q = among_right (number refused.why) a b q
or_gives a b (Err refused) y p q = among_left (number refused.why) a b p

pub first_gives : (ks : List ℕ) (g : ℕ → Outcome) → ((i : ℕ) → Gives ks (g i)) → (n : ℕ) → Gives ks (first_of g n)
first_gives ks = first_each (Gives ks) tt

-- a list whose numbers all stand in another
abbrev pub all_among : List ℕ → List ℕ → Bool
all_among [] b = true
all_among (x ∷ a) b = pick (among x b) (all_among a b) false

one_among : (k x : ℕ) (b : List ℕ) {rest : Bool} (c : Bool) → eqb k x ≡ c → among x b ≡ true
    → (rest ≡ true → among k b ≡ true) → pick c true rest ≡ true → among k b ≡ true
one_among k x b true q here more e = ap (λ (n : ℕ). among n b) (eqb-true k x q) ∙ here
one_among k x b false q here more e = more e

among_all : (k : ℕ) (a b : List ℕ) → all_among a b ≡ true → among k a ≡ true → among k b ≡ true
among_all k [] b h e = false_true e
among_all k (x ∷ a) b h e =
    let all = both_true (among x b) (all_among a b) h in
    one_among k x b (eqb k x) refl all.0 (among_all k a b all.1) e

pub gives_more : (a b : List ℕ) → all_among a b ≡ true → (o : Outcome) → Gives a o → Gives b o
gives_more a b h (Ok u) g = tt
gives_more a b h (Err refused) g = among_all (number refused.why) a b h g

-- a number 0 says that nothing is refused
pub gives_fine : (ks : List ℕ) → among 0 ks ≡ false → (o : Outcome) → Gives ks o → number_of o ≡ 0 → o ≡ Fine
gives_fine ks none (Ok u) h z = refl
gives_fine ks none (Err refused) h z = false_true (sym none ∙ ap (λ (n : ℕ). among n ks) (sym z) ∙ h)

-- a kind that is not due refuses with one of these
abbrev pub GivesDue : List ℕ → Result (Unit {0}) Refusal → Type 0
GivesDue ks (Ok u) = Unit {0}
GivesDue ks (Err why) = among (number why) ks ≡ true

placed_gives : (ks : List ℕ) (due : Result (Unit {0}) Refusal) (at : ℕ) → GivesDue ks due → Gives ks (placed due at)
placed_gives ks (Ok u) at h = tt
placed_gives ks (Err why) at h = h

pub record_gives : (ks : List ℕ) (s : List ℕ) (at : ℕ) (due : Result (Unit {0}) Refusal) (body : ℕ)
    → among (number refusal.Ended) ks ≡ true → GivesDue ks due → Gives ks (record_check s at due body)
unfolding record_check_by
record_gives ks s at due body l h =
    let begun : Outcome = unless (ltb at (length s)) refusal.Ended (length s) in
    let whole : Outcome = unless (ltb body (length s - at)) refusal.Ended at in
    or_each (Gives ks) begun (or_else (placed due at) whole)
    (unless_gives ks (ltb at (length s)) refusal.Ended (length s) l)
    (or_each (Gives ks) (placed due at) whole (placed_gives ks due at h)
    (unless_gives ks (ltb body (length s - at)) refusal.Ended at l))

pub over_gives : (ks : List ℕ) (s : List ℕ) (at : ℕ) → among (number refusal.Followed) ks ≡ true
    → Gives ks (over_check s at)
unfolding over_check
over_gives ks s at h = unless_gives ks (leb (length s) at) refusal.Followed at h

-- ---- offsets

pub unless_within : {E : Type 0} (most : ℕ) (b : Bool) (why : E) (offset : ℕ) → offset ≤ most
    → offset_of (unless b why offset) ≤ most
unless_within most true why offset h = omega arith
unless_within most false why offset h = h

placed_within : {E : Type 0} (most : ℕ) (due : Result (Unit {0}) E) (at : ℕ) → at ≤ most
    → offset_of (placed due at) ≤ most
placed_within most (Ok u) at h = omega arith
placed_within most (Err why) at h = h

pub record_within : {E : Type 0} (s : List ℕ) (at : ℕ) (due : Result (Unit {0}) E) (body : ℕ) (ended : E)
    → at ≤ length s → offset_of (record_check_by s at due body ended) ≤ length s
unfolding record_check_by
record_within {E} s at due body ended h =
    let In : Checked E → Type 0 = λ (o : Checked E). offset_of o ≤ length s in
    let begun : Checked E = unless (ltb at (length s)) ended (length s) in
    let whole : Checked E = unless (ltb body (length s - at)) ended at in
    or_each In begun (or_else (placed due at) whole)
    (unless_within (length s) (ltb at (length s)) ended (length s) (omega arith))
    (or_each In (placed due at) whole (placed_within (length s) due at h)
    (unless_within (length s) (ltb body (length s - at)) ended at h))

over_by : (n at : ℕ) (b : Bool) → leb n at ≡ b → offset_of (unless b refusal.Followed at) ≤ n
over_by n at true e = omega arith
over_by n at false e = omega (arith, leb-false n at e)

pub over_within : (s : List ℕ) (at : ℕ) → offset_of (over_check s at) ≤ length s
unfolding over_check
over_within s at = over_by (length s) at (leb (length s) at) refl

pub unless_offset : {E : Type 0} (b : Bool) (why : E) → offset_of (unless b why 0) ≡ 0
unless_offset true why = refl
unless_offset false why = refl

pub range_offset : {E : Type 0} (x high : ℕ) (why : E) → offset_of (range_check x high why) ≡ 0
unfolding range_check
range_offset x high why = unless_offset (between 1 x high) why
