-- Laws of text: a number's digits one by one, and how many there are; a text that is put byte by byte, or line by line.
-- Assumes nothing.
use mathlib.Core.Path.{◌≡◌, refl, ap, sym, ◌∙◌}
use mathlib.Core.List.{List, [], ◌∷◌, ◌++◌}
use mathlib.Core.Logic.{⊎_elim}
use Prim.Native.Nat.{ℕ, zero, suc, ◌+◌, ◌*◌, ◌/◌, ◌%◌, ◌^◌, ◌≤◌, ◌<◌}
use native.Mathlib.Nat.{lt_trans, div-lt_self, div-lt_iff_lt-mul, pow-suc}
use native.Mathlib.Numerals.{add-one}
use native.Mathlib.Omega.{arith}
use borrow.Author.Tests.{lt-ltb, le-ltb}
use lib.ListN.{length, length-append}
use lib.Seq.{sets, length-take-le}
use Rattle.records.specs.declared.output.Output.{Output}
use Rattle.records.proofs.Checks.{below_or_not}
use Rattle.records.proofs.Puts.{none, then}
use Rattle.text.specs.Text.{digit, decimal, decimal_of, Lines, Puts, AddsOne, Lendable}

-- ---- digits

-- one digit
decimal_short : (k x : ℕ) → x < 10 → decimal (suc k) x ≡ digit x ∷ []
unfolding decimal
decimal_short k x h = rw (lt-ltb x 10 h)

-- more: those of its tenth, and the last
decimal_long : (k x : ℕ) → 10 ≤ x → decimal (suc k) x ≡ decimal k (x / 10) ++ (digit (x % 10) ∷ [])
unfolding decimal
decimal_long k x h = rw (le-ltb x 10 h)

tenth_less : (x k : ℕ) → 10 ≤ x → x < suc k → x / 10 < k
tenth_less x k h l = omega (arith, div-lt_self {n = x} {k = 10} (omega arith) (omega arith))

-- places beyond the number's own change nothing
decimal_enough : (k i x : ℕ) → x < k → x < i → decimal k x ≡ decimal i x
decimal_enough zero i x l m = absurd (omega arith)
decimal_enough (suc k) zero x l m = absurd (omega arith)
decimal_enough (suc k) (suc i) x l m =
    ⊎_elim
    (λ (h : x < 10). decimal_short k x h ∙ sym (decimal_short i x h))
    (λ (h : 10 ≤ x). decimal_long k x h
    ∙ ap (λ (front : List ℕ). front ++ (digit (x % 10) ∷ []))
    (decimal_enough k i (x / 10) (tenth_less x k h l) (tenth_less x i h m))
    ∙ sym (decimal_long i x h))
    (below_or_not x 10)

pub one_digit : (x : ℕ) → x < 10 → decimal_of x ≡ digit x ∷ []
unfolding decimal_of
one_digit x h = decimal_short x x h

pub last_digit : (x : ℕ) → 10 ≤ x → decimal_of x ≡ decimal_of (x / 10) ++ (digit (x % 10) ∷ [])
unfolding decimal_of
last_digit x h =
    decimal_long x x h
    ∙ ap (λ (l : List ℕ). l ++ (digit (x % 10) ∷ []))
    (decimal_enough x (suc (x / 10)) (x / 10) (tenth_less x x h (omega arith)) (omega arith))

-- ---- how many

pub one_length : (x : ℕ) → x < 10 → length (decimal_of x) ≡ 1
one_length x h = ap length (one_digit x h)

pub more_length : (x : ℕ) → 10 ≤ x → length (decimal_of x) ≡ length (decimal_of (x / 10)) + 1
more_length x h = ap length (last_digit x h) ∙ length-append (decimal_of (x / 10)) (digit (x % 10) ∷ [])

-- a number below 10 ^ (k + 1) has at most k + 1 digits
digits_most : (k x : ℕ) → x < 10 ^ suc k → length (decimal_of x) ≤ suc k
digits_most zero x l = omega (arith, one_length x l)
digits_most (suc k) x l =
    ⊎_elim
    (λ (h : x < 10). omega (arith, one_length x h))
    (λ (h : 10 ≤ x).
    let few : x < 10 ^ suc k * 10 = rw (pow-suc 10 (suc k)) at l in
    let tenth : x / 10 < 10 ^ suc k = (div-lt_iff_lt-mul {k = 10} {x = x} {y = 10 ^ suc k} (omega arith)).1 few in
    omega (arith, more_length x h, digits_most k (x / 10) tenth))
    (below_or_not x 10)

-- a u64 has at most twenty
pub twenty_most : (x : ℕ) → x < 18446744073709551616 → length (decimal_of x) ≤ 20
twenty_most x l = digits_most 19 x (lt_trans l below)
  where
    below : 18446744073709551616 < 10 ^ 20
    below = omega arith

-- ---- line by line

-- no line put, and one turn of the loop that puts lines
pub puts_none : (P : ℕ → List ℕ → Type 0) (out : List ℕ) (at : ℕ) → Puts (Lines P 0) out at out at
unfolding Lines
puts_none P out at = record { text = []; is = refl; put = none out at }

pub then_line : {o₀ o₁ o₂ : List ℕ} {a₀ a₁ a₂ : ℕ} (P : ℕ → List ℕ → Type 0) (n : ℕ)
    → Puts (Lines P n) o₀ a₀ o₁ a₁ → Puts (P n) o₁ a₁ o₂ a₂ → Puts (Lines P (n + 1)) o₀ a₀ o₂ a₂
unfolding Lines
then_line P n p q =
    record {
      text = p.text ++ q.text;
      is = rw add-one (p.text, q.text, (p.is, q.is, refl));
      put = then p.put q.put;
    }

-- the same of an output
pub adds_no_line : (P : ℕ → List ℕ → Type 0) (o : Output) → AddsOne (Lines P 0) o o
adds_no_line P o = record { puts = puts_none P o.lent.now o.at; long = refl; same = refl }

pub adds_line : {o₀ o₁ o₂ : Output} (P : ℕ → List ℕ → Type 0) (n : ℕ) → AddsOne (Lines P n) o₀ o₁
    → AddsOne (P n) o₁ o₂ → AddsOne (Lines P (n + 1)) o₀ o₂
adds_line P n p q =
    record { puts = then_line P n p.puts q.puts; long = q.long ∙ p.long; same = q.same ∙ p.same }

-- where each line is one text, so are all
pub lines_once : (P : ℕ → List ℕ → Type 0) → ((i : ℕ) (a b : List ℕ) → P i a → P i b → a ≡ b) → (n : ℕ)
    (a b : List ℕ) → Lines P n a → Lines P n b → a ≡ b
unfolding Lines
lines_once P one zero a b e h = e ∙ sym h
lines_once P one (suc n) a b (front, line, (lines, last, e)) (front', line', (lines', last', e')) =
    let same = lines_once P one n front front' lines lines' in
    let alike = one n line line' last last' in
    e ∙ rw (same, alike) (sym e')

-- and there is one way to put it
pub puts_once : {out now now' : List ℕ} {at r r' : ℕ} (Is : List ℕ → Type 0)
    → ((a b : List ℕ) → Is a → Is b → a ≡ b) → Puts Is out at now r → Puts Is out at now' r'
    → (r ≡ r') × (now ≡ now')
puts_once {out} {at = at} Is one p q =
    let same = one p.text q.text p.is q.is in (
      p.put.place ∙ ap (λ (text : List ℕ). at + length text) same ∙ sym q.put.place,
      p.put.stored ∙ ap (sets out at) same ∙ sym q.put.stored,
    )

-- ---- at the front

-- a place within the output ends a part of it that can be lent
pub lendable : (r : ℕ) (out : List ℕ) → r ≤ length out → Lendable r out
lendable r out l = (l, sym (length-take-le r out l))
