-- Numbers of two bytes, both ways.
-- Assumes nothing.
use mathlib.Core.Path.{◌≡◌}
use mathlib.Core.List.{List}
use Prim.Native.Nat.{ℕ, ◌+◌, ◌*◌, ◌/◌, ◌%◌, ◌<◌}
use native.Mathlib.Nat.{add_assoc}
use native.Mathlib.Omega.{arith}
use lib.ListN.{get_or}
use Rattle.records.specs.Record.{word}

-- every element is a byte
abbrev pub Bytes : List ℕ → Type 0
Bytes s = (i : ℕ) → get_or s i 0 < 256

-- the bytes of a number that is read are those it was read from
pub word_high : (s : List ℕ) → Bytes s → (i : ℕ) → word s i / 256 % 256 ≡ get_or s i 0
word_high s b i = omega (arith, b i, b (i + 1))

pub word_low : (s : List ℕ) → Bytes s → (i : ℕ) → word s i % 256 ≡ get_or s (i + 1) 0
word_low s b i = omega (arith, b i, b (i + 1))

-- a number's bytes at at + t read as that number
pub word_same : (s : List ℕ) (at t x : ℕ) → get_or s (at + t) 0 ≡ x / 256 % 256 → get_or s (at + (t + 1)) 0 ≡ x % 256
    → x < 65536 → word s (at + t) ≡ x
word_same s at t x h l b =
    let e : x / 256 % 256 * 256 + x % 256 ≡ x = omega arith in
    rw (add_assoc at t 1) (rw (h, l) e)
