-- Text as bytes: quoted words, numbers, the one line of a refused read (document 01, Programs), texts of several lines,
-- and what it is to put a text into a lent page.
use Rattle.std.specs.Prelude.{◌≡◌, List, [], ◌∷◌, ◌++◌, ℕ, zero, suc, ◌+◌, ◌/◌, ◌%◌, ◌≤◌, ltb, length, take}
use Prim.Native.Char.{code}
use Prim.Native.String.{String}
use Prim.Native.String as str
use Rattle.records.specs.First.{pick}
use Rattle.records.specs.declared.output.Output.{Output}
use Rattle.records.specs.Put.{Put}

-- the bytes of a quoted text of ASCII
abbrev pub bytes : String → List ℕ
bytes str.[] = []
bytes (str.◌∷◌ c s) = code c ∷ bytes s

-- the byte of a digit, 0 to 9; that of 0 is 48
abbrev pub digit : ℕ → ℕ
digit d = 48 + d

-- x in decimal, where it has at most k digits
unfoldable pub decimal : ℕ → ℕ → List ℕ
decimal zero x = []
decimal (suc k) x = pick (ltb x 10) (digit x ∷ []) (decimal k (x / 10) ++ (digit (x % 10) ∷ []))

-- x in decimal, with no sign and no leading zero; it has at most x + 1 digits
unfoldable pub decimal_of : ℕ → List ℕ
decimal_of x = decimal (suc x) x

-- "A refused read writes one line, as `refusal 5 at 0`"
unfoldable pub refusal_line : ℕ → ℕ → List ℕ
refusal_line number offset =
    bytes "refusal " ++ decimal_of number ++ bytes " at " ++ decimal_of offset ++ bytes "\n"

-- text is n lines one after the other, line i with P i
unfoldable pub Lines : (ℕ → List ℕ → Type 0) → ℕ → List ℕ → Type 0
Lines P zero text = text ≡ []
Lines P (suc n) text =
    (front : List ℕ) × (line : List ℕ) × (Lines P n front × P n line × (text ≡ front ++ line))

-- a text that is as Is says is put into out at the place at
pub record Puts (Is : List ℕ → Type 0) (out : List ℕ) (at : ℕ) (now : List ℕ) (next : ℕ) : Type 0 where
  pub text : List ℕ
  pub is : Is text
  pub put : Put out at text now next

-- the same of an output, which is still over the same memory, as long as before
pub record AddsOne (Is : List ℕ → Type 0) (old new : Output) : Type 0 where
  pub puts : Puts Is old.lent.now old.at new.lent.now new.at
  pub long : length new.lent.now ≡ length old.lent.now
  pub same : new.lent.ghost_name ≡ old.lent.ghost_name

-- the first r bytes of out can be lent as `&out[..r]`: what the kit asks of a program that does so. The second part
-- follows from the first
abbrev pub Lendable : ℕ → List ℕ → Type 0
Lendable r out = (r ≤ length out) × (r ≡ length (take r out))
