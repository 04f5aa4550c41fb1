-- What the walk through the fillings has seen: it goes through them in dictionary order, and keeps the best of those
-- that it has passed. Only the functions of this crate are specified by it.
use Rattle.std.specs.Prelude.{◌≡◌, List, [], ◌∷◌, Option, Some, None, ◌⊎◌, ℕ, ◌+◌, ◌<◌, ◌≤◌, get_or, take}
use Rattle.explore.specs.declared.Best.{Best}
use Rattle.explore.specs.declared.Front.{Front}
use Rattle.explore.specs.Best.{Table, owned, LexLe}
use Rattle.explore.specs.Needs.{node_of, NoneInNeed, Sound}

-- the owners of a front, the first places of a filling
abbrev pub owners_of : Front → List ℕ
owners_of front = take front.long front.owners

-- a front is a table of its places, and carries along how many of them are given, and the node that it leads to in each
-- of n trees
pub record IsFront (n : ℕ) (front : Front) : Type 0 where
  pub long : front.long ≤ 8
  pub table : Table front.long n (owners_of front)
  pub given : front.given ≡ owned (owners_of front)
  pub nodes : (i : ℕ) → i < n → get_or front.nodes i 0 ≡ node_of (i + 1) (owners_of front)

-- in dictionary order u stands before what begins with the front p, or it begins with p and R holds of the rest
abbrev pub Past : (List ℕ → Type 0) → List ℕ → List ℕ → Type 0
Past R [] u = R u
Past R (y ∷ p) [] = ⊥
Past R (y ∷ p) (x ∷ u) = (x < y) ⊎ ((x ≡ y) × Past R p u)

-- u stands before what begins with p
abbrev pub Before : List ℕ → List ℕ → Type 0
Before = Past (λ u. ⊥)

-- u stands there, or begins with p
abbrev pub UpTo : List ℕ → List ℕ → Type 0
UpTo = Past (λ u. Unit {0})

-- of the fillings that have P, those seen are those that have Q
module _ (P : List ℕ → Type 0) (g n : ℕ) (Q : List ℕ → Type 0) where
  -- t, with this many places given, is the best that was seen
  pub record Kept (t : List ℕ) (given : ℕ) : Type 0 where
    pub table : Table g n t
    pub good : P t
    pub seen : Q t
    pub count : given ≡ owned t
    pub fewest : (u : List ℕ) → Table g n u → Q u → P u → given ≤ owned u
    pub least : (u : List ℕ) → Table g n u → Q u → P u → owned u ≡ given → LexLe t u

  -- none was seen
  pub record NoneYet : Type 0 where
    pub none : (u : List ℕ) → Table g n u → Q u → P u → ⊥

  -- what the walk holds
  abbrev pub Holds : Option Best → Type 0
  Holds (Some best) = Kept (take g best.owners) best.given
  Holds None = NoneYet

-- from one best to the next, all fillings that begin with the front p were seen
pub record Explored (trees : List ℕ) (g n : ℕ) (p : List ℕ) (from to : Option Best) : Type 0 where
  pub on : Sound trees g n → Holds (NoneInNeed trees n) g n (Before p) from → Holds (NoneInNeed trees n) g n (UpTo p) to
