-- Tables, and which one is best: "of all accepted tables, one with the fewest owned slots, and among those the least in
-- dictionary order, slot 0 first, idle lowest" (document 01, Judging and searching). P stands for "accepted".
use Rattle.std.specs.Prelude.{◌≡◌, List, [], ◌∷◌, Option, Some, None, ◌⊎◌, ℕ, ◌+◌, ◌<◌, ◌≤◌, eqb, length, get_or, take}
use Rattle.records.specs.First.{pick}

-- a table of f slots: "Each slot has an owner: 0 for idle, or a client", 1 to n
pub record Table (f n : ℕ) (t : List ℕ) : Type 0 where
  pub long : length t ≡ f
  pub most : (x : ℕ) → get_or t x 0 ≤ n

-- how many of its slots are "owned slots"
unfoldable pub owned : List ℕ → ℕ
owned [] = 0
owned (x ∷ t) = pick (eqb x 0) 0 1 + owned t

-- "dictionary order, slot 0 first, idle lowest": t is u or stands before it
abbrev pub LexLe : List ℕ → List ℕ → Type 0
LexLe [] u = Unit {0}
LexLe (x ∷ t) [] = ⊥
LexLe (x ∷ t) (y ∷ u) = (x < y) ⊎ ((x ≡ y) × LexLe t u)

-- "one with the fewest owned slots, and among those the least in dictionary order"
pub record IsBest (P : List ℕ → Type 0) (f n : ℕ) (t : List ℕ) : Type 0 where
  pub table : Table f n t
  pub good : P t
  pub fewest : (u : List ℕ) → Table f n u → P u → owned t ≤ owned u
  pub least : (u : List ℕ) → Table f n u → P u → owned u ≡ owned t → LexLe t u

-- "no table is accepted"
abbrev pub NoTable : (List ℕ → Type 0) → ℕ → ℕ → Type 0
NoTable P f n = (u : List ℕ) → Table f n u → P u → ⊥

-- the table found, t's first f owners, is the best, and where none is found no table is accepted
abbrev pub BestOf : (List ℕ → Type 0) → ℕ → ℕ → Option (List ℕ) → Type 0
BestOf P f n (Some t) = IsBest P f n (take f t)
BestOf P f n None = NoTable P f n
