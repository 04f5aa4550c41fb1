-- Trees of needs. A filling gives each of g places an owner. A client's tree says, for the first places of a filling,
-- how many of the others the client needs at least. Node 1 is the root; below node x stand 2 × x, where the next place
-- is not the client's, and 2 × x + 1, where it is. So a filling leads to a leaf, and suits the client where that is 0.
use Rattle.std.specs.Prelude.{◌≡◌, List, [], ◌∷◌, ℕ, zero, suc, ◌+◌, ◌*◌, ◌^◌, ◌<◌, ◌≤◌, eqb, get_or}
use Rattle.records.specs.First.{pick}

-- the node below node x of client c, the next place being the owner's
abbrev pub child_of : ℕ → ℕ → ℕ → ℕ
child_of c x owner = 2 * x + pick (eqb owner c) 1 0

-- the node of client c that the owners lead to from node x
abbrev pub node_from : ℕ → ℕ → List ℕ → ℕ
node_from c x [] = x
node_from c x (owner ∷ owners) = node_from c (child_of c x owner) owners

-- and from the root
unfoldable pub node_of : ℕ → List ℕ → ℕ
node_of c owners = node_from c 1 owners

-- what client i + 1 needs at node x: the trees stand one after the other, 512 numbers each
abbrev pub need_at : List ℕ → ℕ → ℕ → ℕ
need_at trees i x = get_or trees (i * 512 + x) 0

-- what the first n clients need together, each at its node
unfoldable pub need_of : List ℕ → (ℕ → ℕ) → ℕ → ℕ
need_of trees node zero = 0
need_of trees node (suc i) = need_of trees node i + need_at trees i (node i)

-- and after the front p, each at the node that it leads to
abbrev pub need_after : List ℕ → ℕ → List ℕ → ℕ
need_after trees n p = need_of trees (λ i. node_of (i + 1) p) n

-- a filling leaves none of the first n clients in need
pub record NoneInNeed (trees : List ℕ) (n : ℕ) (owners : List ℕ) : Type 0 where
  pub each : (i : ℕ) → i < n → need_at trees i (node_of (i + 1) owners) ≡ 0

-- no node above the leaves says more than a node below it allows, which is one more where the place is the client's
pub record Sound (trees : List ℕ) (g n : ℕ) : Type 0 where
  pub other : (i x : ℕ) → i < n → 0 < x → x < 2 ^ g → need_at trees i x ≤ need_at trees i (2 * x)
  pub own : (i x : ℕ) → i < n → 0 < x → x < 2 ^ g → need_at trees i x ≤ need_at trees i (2 * x + 1) + 1
