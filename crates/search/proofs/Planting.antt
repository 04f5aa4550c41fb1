-- The trees: what is right while they are filled from the end, since a node's need rests on the nodes below it, which
-- stand after it. They are sound, and a filling suits all clients exactly where the table that it makes is accepted.
-- Assumes nothing.
use mathlib.Core.Path.{◌≡◌, refl, ap}
use mathlib.Core.List.{List}
use Prim.Native.Nat.{ℕ, ◌+◌, ◌*◌, ◌/◌, ◌%◌, ◌^◌, ◌≤◌, ◌<◌}
use native.Mathlib.Decide.{ℕ_discrete}
use native.Mathlib.Nat.{one-mul, mod-eq_of_lt, pow-suc, pow-le-pow_right}
use native.Mathlib.Numerals.{add-one}
use native.Mathlib.Omega.{arith}
use lib.ListN.{length, set}
use lib.Seq.{get_or-set_same, get_or-set_other}
use Rattle.plan.specs.declared.Plan.{Plan}
use Rattle.explore.specs.Needs.{node_of, need_at, NoneInNeed, Sound}
use Rattle.explore.proofs.Needs.{node_least, node_below}
use Rattle.search.specs.Search.{AcceptedIn}
use Rattle.search.specs.Trees.{filled, Suits, IsNeed, Planted}

-- ---- from the end

-- a need stored at z or before moves nothing that node x looks at
need_kept : (plan : Plan) (g : ℕ) (trees : List ℕ) (z new i x need : ℕ) → z ≤ i * 512 + x
    → IsNeed plan g trees i x need → IsNeed plan g (set trees z new) i x need
need_kept plan g trees z new i x need l is =
    record {
      above = λ x> x<.
          rw (
            get_or-set_other trees z (i * 512 + 2 * x) new 0 (λ e. omega arith),
            get_or-set_other trees z (i * 512 + (2 * x + 1)) new 0 (λ e. omega arith),
          )
          (is.above x> x<);
      leaf = is.leaf;
    }

-- the numbers from place z on are right
pub record RightFrom (plan : Plan) (g n : ℕ) (trees : List ℕ) (z : ℕ) : Type 0 where
  pub right : (i x : ℕ) → i < n → x < 512 → z ≤ i * 512 + x → IsNeed plan g trees i x (need_at trees i x)

-- one more, before them
pub right_more : (plan : Plan) (g n : ℕ) (trees : List ℕ) (z new : ℕ) → z < length trees
    → RightFrom plan g n trees (z + 1) → IsNeed plan g trees (z / 512) (z % 512) new
    → RightFrom plan g n (set trees z new) z
right_more plan g n trees z new l done is =
    record { right = λ i x i< x< z≤. by i x i< x< z≤ (ℕ_discrete (i * 512 + x) z) }
  where
    by : (i x : ℕ) → i < n → x < 512 → z ≤ i * 512 + x → Dec (i * 512 + x ≡ z)
        → IsNeed plan g (set trees z new) i x (need_at (set trees z new) i x)
    by i x i< x< z≤ (yes e) =
        let client : z / 512 ≡ i = omega arith in
        let node : z % 512 ≡ x = omega arith in
        let here : IsNeed plan g trees i x new = rw (client, node) at is in
        rw (e, get_or-set_same trees z new 0 l) (need_kept plan g trees z new i x new z≤ here)
    by i x i< x< z≤ (no e) =
        rw (get_or-set_other trees z (i * 512 + x) new 0 e)
        (need_kept plan g trees z new i x (need_at trees i x) z≤ (done.right i x i< x< (omega arith)))

-- ---- leaves

pub leaves_small : (g : ℕ) → g ≤ 8 → 2 ^ g ≤ 256
leaves_small g l = pow-le-pow_right {n = 2} (omega arith) {i = g} {j = 8} l

pub leaves_shifted : (g : ℕ) → g ≤ 8 → 1 * 2 ^ g % 2 ^ 64 ≡ 2 ^ g
leaves_shifted g l = rw one-mul (mod-eq_of_lt (omega (arith, leaves_small g l)))

pub leaves_doubled : (g : ℕ) → 2 ^ (g + 1) ≡ 2 ^ g + 2 ^ g
leaves_doubled g = omega (arith, ap (λ (k : ℕ). 2 ^ k) (add-one g), pow-suc 2 g)

-- ---- sound

pub planted_sound : (plan : Plan) (g n : ℕ) (trees : List ℕ) → g ≤ 8 → Planted plan g n trees → Sound trees g n
planted_sound plan g n trees g≤ planted =
    record {
      other = λ i x i< x> x<. omega (arith, (planted.right i x i< (omega (arith, leaves_small g g≤))).above x> x<);
      own = λ i x i< x> x<. omega (arith, (planted.right i x i< (omega (arith, leaves_small g g≤))).above x> x<);
    }

-- ---- a filling's leaf

module _ (plan : Plan) (g : ℕ) (trees : List ℕ) (g≤ : g ≤ 8) (planted : Planted plan g plan.n trees)
    (v : List ℕ) (long : length v ≡ g) where
  leaf_suits : (i : ℕ) → i < plan.n → Suits plan i v (need_at trees i (node_of (i + 1) v))
  leaf_suits i l =
      let x = node_of (i + 1) v in
      let low : 2 ^ g ≤ x = rw long at (node_least (i + 1) v) in
      let need = planted.right i x l (node_below (i + 1) v 9 (omega arith)) in
      need.leaf low v long refl

  pub no_need_accepted : NoneInNeed trees plan.n v → AcceptedIn plan (filled plan v)
  no_need_accepted fits = record { each = λ i low l. (leaf_suits i l).ok (fits.each i l) }

  pub accepted_no_need : AcceptedIn plan (filled plan v) → NoneInNeed trees plan.n v
  accepted_no_need accepted = record { each = λ i l. (leaf_suits i l).zero_if (accepted.each i (omega arith) l) }
