-- What the walk holds: a front is left where no filling that begins with it is better, a filling is taken that gives
-- fewer places than the best so far, and any other front is gone through owner by owner of its next place.
-- Assumes nothing.
use mathlib.Core.Path.{◌≡◌, refl, sym, ap, subst, ◌∙◌}
use mathlib.Core.List.{List, [], ◌∷◌, ◌++◌}
use mathlib.Core.Logic.{⊎_elim}
use Prim.Native.Nat.{ℕ, ◌+◌, ◌≤◌, ◌<◌}
use native.Mathlib.Omega.{arith}
use lib.ListN.{length, take, length-append}
use Rattle.std.specs.Prelude.{Option, Some, None}
use Rattle.explore.specs.declared.Best.{Best}
use Rattle.explore.specs.declared.Front.{Front}
use Rattle.explore.specs.Best.{Table, owned, BestOf}
use Rattle.explore.specs.Needs.{need_after, NoneInNeed, Sound}
use Rattle.explore.specs.Seen.{owners_of, IsFront, Before, UpTo, Kept, NoneYet, Holds, Explored}
use Rattle.explore.proofs.Needs.{none_fits, need_least}
use Rattle.explore.proofs.Order.{before_or_begins, before_up_to, before_least, begins_least, up_to_itself, SameTables}
use Rattle.explore.proofs.Order.{before_first, up_to_next, before_last}
use Rattle.explore.proofs.Fronts.{owned_append, owned_most}

-- there is one that gives m places at most
abbrev pub Within : ℕ → Option Best → Type 0
Within m (Some best) = best.given ≤ m
Within m None = ⊥

-- and there is none
abbrev pub Above : ℕ → Option Best → Type 0
Above m (Some best) = m < best.given
Above m None = Unit {0}

-- ---- the fillings seen

module _ (P : List ℕ → Type 0) (g n : ℕ) where
  holds_same : (Q Q' : List ℕ → Type 0) → SameTables g n Q Q' → (best : Option Best) → Holds P g n Q best
      → Holds P g n Q' best
  holds_same Q Q' same (Some best) s =
      record {
        table = s.table;
        good = s.good;
        seen = same.there (take g best.owners) s.table s.seen;
        count = s.count;
        fewest = λ u table q. s.fewest u table (same.back u table q);
        least = λ u table q. s.least u table (same.back u table q);
      }
  holds_same Q Q' same None s = record { none = λ u table q. s.none u table (same.back u table q) }

  -- no filling that begins with p gives fewer places: what was seen stays
  kept_left : (p : List ℕ) (best : Best) → ((u v : List ℕ) → u ≡ p ++ v → Table g n u → P u → best.given ≤ owned u)
      → Holds P g n (Before p) (Some best) → Holds P g n (UpTo p) (Some best)
  kept_left p best worse s =
      record {
        table = s.table;
        good = s.good;
        seen = before_up_to p (take g best.owners) s.seen;
        count = s.count;
        fewest = λ u table q good.
            ⊎_elim
            (λ h. s.fewest u table h good)
            (λ h. worse u h.0 h.1 table good)
            (before_or_begins p u q);
        least = λ u table q good e.
            ⊎_elim
            (λ h. s.least u table h good e)
            (λ h. rw h.1 (before_least p (take g best.owners) h.0 s.seen))
            (before_or_begins p u q);
      }

  -- no filling that begins with p is good: what was seen stays
  none_left : (p : List ℕ) (best : Option Best) → ((u v : List ℕ) → u ≡ p ++ v → Table g n u → P u → ⊥)
      → Holds P g n (Before p) best → Holds P g n (UpTo p) best
  none_left p (Some best) bad s = kept_left p best (λ u v e table good. absurd (bad u v e table good)) s
  none_left p None bad s =
      record {
        none = λ u table q good.
            ⊎_elim
            (λ h. s.none u table h good)
            (λ h. bad u h.0 h.1 table good)
            (before_or_begins p u q);
      }

  seen_more : (Q : List ℕ → Type 0) (best : Option Best) (m : ℕ) → Holds P g n Q best → Above m best
      → (u : List ℕ) → Table g n u → Q u → P u → m < owned u
  seen_more Q (Some best) m s l u table q good = omega (arith, s.fewest u table q good)
  seen_more Q None m s l u table q good = absurd (s.none u table q good)

  -- a filling that gives fewer places is the best
  seen_taken : (p : List ℕ) (best : Option Best) → Table g n p → P p → Above (owned p) best
      → Holds P g n (Before p) best → Kept P g n (UpTo p) p (owned p)
  seen_taken p best is_table is_good l s =
      let before = seen_more (Before p) best (owned p) s l in
      record {
        table = is_table;
        good = is_good;
        seen = up_to_itself p;
        count = refl;
        fewest = λ u table q good.
            ⊎_elim
            (λ h. omega (arith, before u table h good))
            (λ h. rw h.1 (omega (arith, owned_append p h.0)))
            (before_or_begins p u q);
        least = λ u table q good e.
            ⊎_elim
            (λ h. absurd (omega (arith, before u table h good)))
            (λ h. rw h.1 (begins_least p h.0))
            (before_or_begins p u q);
      }

-- ---- a front left, and a front taken

module _ (trees : List ℕ) (g n : ℕ) (front : Front) (is : IsFront n front) (best : Option Best) (more : ℕ)
    (need : more ≡ need_after trees n (owners_of front)) where
  -- a filling that begins with the front has room for what its clients need, and gives as many places more
  filling_least : Sound trees g n → (u v : List ℕ) → u ≡ owners_of front ++ v → Table g n u → NoneInNeed trees n u
      → (front.long + more ≤ g) × (front.given + more ≤ owned u)
  filling_least sound u v e table fits =
      let p = owners_of front in
      let long : length u ≡ length p + length v = ap length e ∙ length-append p v in
      let all : owned u ≡ owned p + owned v = ap owned e ∙ owned_append p v in
      let least = need_least trees g n sound v p (omega arith) (rw e at fits) in
      (omega (arith, is.table.long, owned_most v), omega arith)

  pub explored_short : g < front.long + more → Explored trees g n (owners_of front) best best
  explored_short l =
      record {
        on = λ sound.
            none_left (NoneInNeed trees n) g n (owners_of front) best
            (λ u v e table fits. omega (arith, filling_least sound u v e table fits));
      }

  pub explored_left : Within (front.given + more) best → Explored trees g n (owners_of front) best best
  explored_left few = by best few
    where
      by : (best : Option Best) → Within (front.given + more) best → Explored trees g n (owners_of front) best best
      by None few = absurd few
      by (Some kept) few =
          record {
            on = λ sound.
                kept_left (NoneInNeed trees n) g n (owners_of front) kept
                (λ u v e table fits. omega (arith, filling_least sound u v e table fits));
          }

  pub explored_taken : front.long ≡ g → front.long + more ≤ g → Above (front.given + more) best
      → Explored trees g n (owners_of front) best (Some (record { owners = front.owners; given = front.given }))
  explored_taken whole room fewer =
      let p = owners_of front in
      let here : take g front.owners ≡ p = ap (λ (m : ℕ). take m front.owners) (sym whole) in
      let table : Table g n p = subst (λ (m : ℕ). Table m n p) whole is.table in
      let fits = none_fits trees n p (omega arith) in
      let none : front.given + more ≡ owned p = omega (arith, is.given) in
      record {
        on = λ sound s.
            rw (here, is.given)
            (seen_taken (NoneInNeed trees n) g n p best table fits (rw none at fewer) s);
      }

-- ---- a front gone through

-- from one best to the next, the fillings were seen that begin with p and then with an owner below this one
pub record Partly (trees : List ℕ) (g n : ℕ) (p : List ℕ) (owner : ℕ) (from to : Option Best) : Type 0 where
  pub on : Sound trees g n → Holds (NoneInNeed trees n) g n (Before p) from
      → Holds (NoneInNeed trees n) g n (Before (p ++ (owner ∷ []))) to

module _ (trees : List ℕ) (g n : ℕ) (front : Front) (is : IsFront n front) (from : Option Best) where
  pub partly_none : front.long ≤ g → Partly trees g n (owners_of front) 0 from from
  partly_none l =
      let first = before_first g n (owners_of front) (omega (arith, is.table.long)) in
      record { on = λ sound. holds_same (NoneInNeed trees n) g n _ _ first from }

  pub partly_more : (best to : Option Best) (owner : ℕ) (q : List ℕ) → front.long ≤ g
      → q ≡ owners_of front ++ (owner ∷ []) → Partly trees g n (owners_of front) owner from best
      → Explored trees g n q best to
      → Partly trees g n (owners_of front) (owner + 1) from to
  partly_more best to owner q l e so more =
      let next = up_to_next g n (owners_of front) owner (omega (arith, is.table.long)) in
      let walk = rw e at more in
      record { on = λ sound s. holds_same (NoneInNeed trees n) g n _ _ next to (walk.on sound (so.on sound s)) }

  -- the last owner is n
  pub partly_all : (best to : Option Best) (owner : ℕ) (q : List ℕ) → front.long < g → owner ≡ n
      → q ≡ owners_of front ++ (owner ∷ []) → Partly trees g n (owners_of front) owner from best
      → Explored trees g n q best to → Explored trees g n (owners_of front) from to
  partly_all best to owner q l last e so more =
      let all = rw last at (partly_more best to owner q (omega arith) e so more) in
      let over = before_last g n (owners_of front) (omega (arith, is.table.long)) in
      record { on = λ sound s. holds_same (NoneInNeed trees n) g n _ _ over to (all.on sound s) }

-- ---- the whole walk

-- the owners of a best
abbrev pub table_in : Option Best → Option (List ℕ)
table_in (Some best) = Some best.owners
table_in None = None

none_begins : (P : List ℕ → Type 0) (g n : ℕ) → NoneYet P g n (Before [])
none_begins P g n = record { none = λ u table q good. q }

-- of all fillings the best, where the walk goes through all that begin with no place
pub explored_all : (trees : List ℕ) (g n : ℕ) (to : Option Best) → Sound trees g n → Explored trees g n [] None to
    → BestOf (NoneInNeed trees n) g n (table_in to)
explored_all trees g n (Some best) sound walk =
    let kept = walk.on sound (none_begins (NoneInNeed trees n) g n) in
    record {
      table = kept.table;
      good = kept.good;
      fewest = λ u table good. omega (arith, kept.count, kept.fewest u table tt good);
      least = λ u table good e. kept.least u table tt good (e ∙ sym kept.count);
    }
explored_all trees g n None sound walk =
    let kept = walk.on sound (none_begins (NoneInNeed trees n) g n) in
    λ u table good. kept.none u table tt good
