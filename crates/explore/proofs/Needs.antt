-- What the trees say that the clients need after a front is at most what is owned in any places after it that suit them
-- all: what the walk leaves a front by. One place more leads each client to a node below, which says no less than the
-- node above, or one less where the client owns the place; an owner is one client at most; and the leaves say 0.
-- Assumes nothing.
use mathlib.Core.Path.{◌≡◌, refl}
use mathlib.Core.Bool.{Bool, true, false}
use mathlib.Core.List.{List, [], ◌∷◌, ◌++◌, append-nil}
use mathlib.Core.Logic.{⊎_elim}
use Prim.Native.Nat.{ℕ, zero, suc, ◌+◌, ◌*◌, ◌^◌, ◌≤◌, ◌<◌}
use native.Mathlib.Decide.{ℕ_discrete}
use native.Mathlib.Nat.{add-zero, pow-suc, one-le-pow, pow-le-pow_right, mul-le-mul_right}
use native.Mathlib.Numerals.{add-one}
use native.Mathlib.Omega.{arith}
use borrow.Author.Tests.{ne_eqb}
use lib.Dec.{eqb}
use lib.ListN.{length, length-append}
use lib.Seq.{append_snoc}
use Rattle.records.specs.First.{pick}
use Rattle.records.proofs.Checks.{one_or_none, last_or_below}
use Rattle.explore.specs.Best.{owned}
use Rattle.explore.specs.Needs.{child_of, node_from, node_of, need_at, need_of, need_after, NoneInNeed, Sound}

-- ---- nodes

pub node_none : (c : ℕ) → node_of c [] ≡ 1
unfolding node_of
node_none c = refl

from_more : (c x : ℕ) (p : List ℕ) (owner : ℕ) → node_from c x (p ++ (owner ∷ [])) ≡ child_of c (node_from c x p) owner
from_more c x [] owner = refl
from_more c x (first ∷ p) owner = from_more c (child_of c x first) p owner

pub node_more : (c : ℕ) (p : List ℕ) (owner : ℕ) → node_of c (p ++ (owner ∷ [])) ≡ child_of c (node_of c p) owner
unfolding node_of
node_more c p owner = from_more c 1 p owner

-- each place doubles the node, and adds one at most
from_least : (c x : ℕ) (p : List ℕ) → x * 2 ^ length p ≤ node_from c x p
from_least c x [] = omega arith
from_least c x (owner ∷ p) =
    let more : 2 * x ≤ child_of c x owner = omega arith in
    let least : x * (2 ^ length p * 2) ≤ node_from c (child_of c x owner) p =
    omega (arith, from_least c (child_of c x owner) p, mul-le-mul_right (2 ^ length p) more) in
    rw (pow-suc 2 (length p)) least

pub node_least : (c : ℕ) (p : List ℕ) → 2 ^ length p ≤ node_of c p
unfolding node_of
node_least c p = omega (arith, from_least c 1 p)

node_pos : (c : ℕ) (p : List ℕ) → 0 < node_of c p
node_pos c p = omega (arith, node_least c p, one-le-pow (length p) 2 (omega arith))

from_below : (c x k : ℕ) (p : List ℕ) → x < 2 ^ k → node_from c x p < 2 ^ (k + length p)
from_below c x k [] l = rw add-zero l
from_below c x k (owner ∷ p) l =
    let e : k + suc (length p) ≡ suc k + length p = omega arith in
    rw e (from_below c (child_of c x owner) (suc k) p (omega (arith, one_or_none (eqb owner c))))

pub node_below : (c : ℕ) (p : List ℕ) (k : ℕ) → length p < k → node_of c p < 2 ^ k
unfolding node_of
node_below c p k l =
    let deeper = pow-le-pow_right {n = 2} (omega arith) {i = 1 + length p} {j = k} (omega arith) in
    omega (arith, from_below c 1 1 p (omega arith))

-- ---- needs

pub need_none : (trees : List ℕ) (node : ℕ → ℕ) → need_of trees node 0 ≡ 0
unfolding need_of
need_none trees node = refl

pub need_more : (trees : List ℕ) (node : ℕ → ℕ) (i : ℕ)
    → need_of trees node (i + 1) ≡ need_of trees node i + need_at trees i (node i)
unfolding need_of
need_more trees node i = rw add-one

-- nodes that agree need the same
pub need_same : (trees : List ℕ) (node node' : ℕ → ℕ) (n : ℕ) → ((i : ℕ) → i < n → node i ≡ node' i)
    → need_of trees node n ≡ need_of trees node' n
unfolding need_of
need_same trees node node' zero e = refl
need_same trees node node' (suc n) e = rw (need_same trees node node' n (λ i l. e i (omega arith)), e n (omega arith))

-- nothing is needed exactly where the filling suits every client
each_none : (trees : List ℕ) (n : ℕ) (p : List ℕ) → need_after trees n p ≡ 0 → (i : ℕ) → i < n
    → need_at trees i (node_of (i + 1) p) ≡ 0
unfolding need_of
each_none trees zero p z i l = absurd (omega arith)
each_none trees (suc n) p z i l =
    ⊎_elim
    (λ (e : i ≡ n). rw e (omega arith))
    (λ (m : i < n). each_none trees n p (omega arith) i m)
    (last_or_below i n l)

pub none_fits : (trees : List ℕ) (n : ℕ) (p : List ℕ) → need_after trees n p ≡ 0 → NoneInNeed trees n p
none_fits trees n p z = record { each = each_none trees n p z }

fits_none : (trees : List ℕ) (n m : ℕ) (p : List ℕ) → m ≤ n → NoneInNeed trees n p → need_after trees m p ≡ 0
unfolding need_of
fits_none trees n zero p l fits = refl
fits_none trees n (suc m) p l fits = omega (arith, fits_none trees n m p (omega arith) fits, fits.each m (omega arith))

-- ---- an owner is one client at most

-- how many of the first n clients the owner is
hits : ℕ → ℕ → ℕ
hits owner zero = 0
hits owner (suc i) = hits owner i + pick (eqb owner (i + 1)) 1 0

hits_above : (owner n : ℕ) → n < owner → hits owner n ≡ 0
unfolding hits
hits_above owner zero l = refl
hits_above owner (suc n) l =
    let e : eqb owner (n + 1) ≡ false = ne_eqb owner (n + 1) (λ h. omega arith) in
    rw e (omega (arith, hits_above owner n (omega arith)))

hits_most : (owner n : ℕ) → hits owner n ≤ pick (eqb owner 0) 0 1
unfolding hits
hits_most owner zero = omega arith
hits_most owner (suc n) =
    elim (ℕ_discrete owner (n + 1)) [
      | yes h ↦
          let e : eqb owner 0 ≡ false = ne_eqb owner 0 (λ z. omega arith) in
          rw e (omega (arith, hits_above owner n (omega arith), one_or_none (eqb owner (n + 1))))
      | no h ↦ let e : eqb owner (n + 1) ≡ false = ne_eqb owner (n + 1) h in rw e (omega (arith, hits_most owner n))
    ]

-- ---- the bound

module _ (trees : List ℕ) (g n : ℕ) (sound : Sound trees g n) where
  -- one place more for one client: b says whether it is the client's
  client_more : (i x : ℕ) (b : Bool) → i < n → 0 < x → x < 2 ^ g
      → need_at trees i x ≤ need_at trees i (2 * x + pick b 1 0) + pick b 1 0
  client_more i x true l some low = sound.own i x l some low
  client_more i x false l some low = simp add-zero (sound.other i x l some low)

  -- and for the first m
  clients_more : (p : List ℕ) (owner m : ℕ) → length p < g → m ≤ n
      → need_after trees m p ≤ need_after trees m (p ++ (owner ∷ [])) + hits owner m
  unfolding need_of hits
  clients_more p owner zero l h = omega arith
  clients_more p owner (suc i) l h =
      let x = node_of (i + 1) p in
      let here = client_more i x (eqb owner (i + 1)) (omega arith) (node_pos (i + 1) p) (node_below (i + 1) p g l) in
      rw (node_more (i + 1) p owner) (omega (arith, clients_more p owner i l (omega arith)))

  pub need_least : (v p : List ℕ) → length p + length v ≡ g → NoneInNeed trees n (p ++ v)
      → need_after trees n p ≤ owned v
  unfolding owned
  need_least [] p e fits = omega (arith, fits_none trees n n p (omega arith) (rw append-nil at fits))
  need_least (owner ∷ v) p e fits =
      let long = length-append p (owner ∷ []) in
      let rest = need_least v (p ++ (owner ∷ [])) (omega arith) (rw (append_snoc p owner v) fits) in
      omega (arith, clients_more p owner n (omega arith) (omega arith), hits_most owner n)
