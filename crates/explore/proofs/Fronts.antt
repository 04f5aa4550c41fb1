-- What a front carries along: its numbers are small, the front of no places carries what it should, and so does a front
-- with one place more.
-- Assumes nothing.
use mathlib.Core.Path.{◌≡◌, refl, sym, ap, ◌∙◌}
use mathlib.Core.List.{List, [], ◌∷◌, ◌++◌}
use Prim.Native.Nat.{ℕ, zero, suc, ◌+◌, ◌*◌, ◌≤◌, ◌<◌}
use native.Mathlib.Numerals.{add-one}
use native.Mathlib.Omega.{arith}
use lib.Dec.{eqb}
use lib.ListN.{length, get_or, set, take, replicate, length-append, get_or-replicate}
use lib.Seq.{get_or-take, take-suc-set}
use Rattle.records.specs.First.{pick}
use Rattle.records.proofs.Checks.{none_or_one}
use Rattle.explore.specs.declared.Front.{Front}
use Rattle.explore.specs.Best.{Table, owned}
use Rattle.explore.specs.Needs.{child_of, node_of, need_of, need_after}
use Rattle.explore.specs.Seen.{owners_of, IsFront}
use Rattle.explore.proofs.Needs.{node_none, node_more, node_below, need_same}

-- ---- owned places

pub owned_append : (p v : List ℕ) → owned (p ++ v) ≡ owned p + owned v
unfolding owned
owned_append [] v = omega arith
owned_append (owner ∷ p) v = omega (arith, owned_append p v)

pub owned_most : (p : List ℕ) → owned p ≤ length p
unfolding owned
owned_most [] = omega arith
owned_most (owner ∷ p) = omega (arith, owned_most p, none_or_one (eqb owner 0))

-- ---- one place more

owned_more : (p : List ℕ) (owner : ℕ) → owned (p ++ (owner ∷ [])) ≡ owned p + pick (eqb owner 0) 0 1
unfolding owned
owned_more p owner = omega (arith, owned_append p (owner ∷ []))

most_more : (p : List ℕ) (owner n : ℕ) → owner ≤ n → ((x : ℕ) → get_or p x 0 ≤ n)
    → (x : ℕ) → get_or (p ++ (owner ∷ [])) x 0 ≤ n
most_more [] owner n l most zero = l
most_more [] owner n l most (suc x) = omega arith
most_more (first ∷ p) owner n l most zero = most 0
most_more (first ∷ p) owner n l most (suc x) = most_more p owner n l (λ i. most (suc i)) x

table_more : (k n : ℕ) (p : List ℕ) (owner : ℕ) → owner ≤ n → Table k n p → Table (k + 1) n (p ++ (owner ∷ []))
table_more k n p owner l t =
    record { long = omega (arith, length-append p (owner ∷ []), t.long); most = most_more p owner n l t.most }

-- ---- fronts

pub front_none : (n : ℕ) → n ≤ 8
    → IsFront n (record { long = 0; given = 0; owners = replicate 8 0; nodes = replicate 8 1 })
unfolding owned
front_none n l =
    record {
      long = omega arith;
      table = record { long = refl; most = λ x. omega arith };
      given = refl;
      nodes = λ i m. get_or-replicate 8 i 1 0 (omega arith) ∙ sym (node_none (i + 1));
    }

module _ (n : ℕ) (front : Front) (is : IsFront n front) where
  pub given_small : front.given ≤ 8
  given_small = omega (arith, owned_most (owners_of front), is.table.long)

  pub nodes_small : (i : ℕ) → i < n → get_or front.nodes i 0 < 512
  nodes_small i l = rw (is.nodes i l) (node_below (i + 1) (owners_of front) 9 (omega (arith, is.table.long)))

  -- where the loop reads what client i + 1 needs
  pub needs_small : (i : ℕ) → i < n → n ≤ 8 → i * 512 + get_or (take n front.nodes) i 0 < 4096
  needs_small i l most = rw (get_or-take n front.nodes i 0 l) (omega (arith, nodes_small i l))

  pub front_need : (trees : List ℕ)
      → need_of trees (λ i. get_or front.nodes i 0) n ≡ need_after trees n (owners_of front)
  front_need trees = need_same trees (λ i. get_or front.nodes i 0) (λ i. node_of (i + 1) (owners_of front)) n is.nodes

  pub owners_more : (owner : ℕ) → front.long < length front.owners
      → take (front.long + 1) (set front.owners front.long owner) ≡ owners_of front ++ (owner ∷ [])
  owners_more owner l = rw add-one (take-suc-set front.owners front.long owner l)

  pub front_more : (next : Front) (owner : ℕ) → owner ≤ n → front.long < 8 → next.long ≡ front.long + 1
      → owners_of next ≡ owners_of front ++ (owner ∷ []) → next.given ≡ front.given + pick (eqb owner 0) 0 1
      → ((i : ℕ) → i < n → get_or next.nodes i 0 ≡ child_of (i + 1) (get_or front.nodes i 0) owner)
      → IsFront n next
  front_more next owner l room long owners given nodes =
      let p = owners_of front in
      record {
        long = omega arith;
        table = rw (owners, long) (table_more front.long n p owner l is.table);
        given = rw owners (omega (arith, owned_more p owner));
        nodes = λ i m.
            let above = ap (λ (x : ℕ). child_of (i + 1) x owner) (is.nodes i m) in
            rw owners (nodes i m ∙ above ∙ sym (node_more (i + 1) p owner));
      }
