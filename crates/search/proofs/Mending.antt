-- From the best filling of the idle slots to the best table: a table that keeps the plan's owners is a filling of its
-- idle slots, it owns more by what the filling gives, and the order is the same. On an idle table every table keeps the
-- owners, so its mending is the search.
-- Assumes nothing.
use mathlib.Core.Path.{◌≡◌, sym, ap, ◌∙◌}
use mathlib.Core.List.{List}
use Prim.Native.Nat.{ℕ, ◌+◌, ◌≤◌, ◌<◌}
use native.Mathlib.Decide.{dec_lt}
use native.Mathlib.Omega.{arith}
use lib.ListN.{length, get_or, take, replicate, get_or-eq_default, get_or-replicate}
use lib.Seq.{get_or-take}
use Rattle.std.specs.Prelude.{Option, Some, None}
use Rattle.frame.proofs.Within.{within_most}
use Rattle.records.specs.Pieces.{padded}
use Rattle.records.proofs.Lists.{firsts_same, take_padded, drop_padded}
use Rattle.plan.specs.declared.Client.{Client}
use Rattle.plan.specs.declared.Plan.{Plan}
use Rattle.plan.specs.Plan.{owner_of, own_of}
use Rattle.plan.proofs.Laws.{own_most}
use Rattle.explore.specs.Best.{Table, owned, IsBest, NoTable, BestOf}
use Rattle.explore.specs.Needs.{NoneInNeed}
use Rattle.search.specs.Search.{idle_plan, AcceptedIn, Finds}
use Rattle.search.specs.Mend.{Mends, idle_of}
use Rattle.search.specs.Trees.{filled_at, filled, Planted}
use Rattle.search.proofs.Fillings.{idle, fill, rest, table_of, table_long, table_idle, filled_fill, fill_long}
use Rattle.search.proofs.Fillings.{rest_long, rest_most, fill_rest, fill_most, fill_owned, fill_lex, get_filled}
use Rattle.search.proofs.Sets.{filled_front, slot_kept}
use Rattle.search.proofs.Planting.{no_need_accepted, accepted_no_need}

-- ---- the best of two properties that tables share

module _ (P Q : List ℕ → Type 0) (f n : ℕ) (there : (t : List ℕ) → Table f n t → P t → Q t)
    (back : (t : List ℕ) → Table f n t → Q t → P t) where
  pub finds_same : (found : Option (List ℕ)) → Finds P f n found → Finds Q f n found
  finds_same (Some owners) h =
      let best = h.0 in
      let alike : IsBest Q f n (take f owners) = record {
        table = best.table;
        good = there (take f owners) best.table best.good;
        fewest = λ u t q. best.fewest u t (back u t q);
        least = λ u t q e. best.least u t (back u t q) e;
      } in (alike, h.1)
  finds_same None h = λ u t q. h u t (back u t q)

-- ---- from fillings to tables

module _ (plan : Plan) (g : ℕ) (trees : List ℕ) (room : plan.f ≤ length plan.owners) (g= : g ≡ idle_of plan)
    (g≤ : g ≤ 8) (most : (x : ℕ) → x < plan.f → owner_of plan x ≤ plan.n)
    (planted : Planted plan g plan.n trees) where
  -- the plan's table
  abbrev o : List ℕ
  o = table_of plan room

  table_most : (x : ℕ) → get_or o x 0 ≤ plan.n
  table_most x = by (dec_lt x plan.f)
    where
      by : Dec (x < plan.f) → get_or o x 0 ≤ plan.n
      by (yes l) = rw (get_or-take plan.f plan.owners x 0 l) (most x l)
      by (no h) = omega (arith, get_or-eq_default o 0 {n = x} (omega (arith, table_long plan room)))

  -- what a table that mends gives to the idle slots
  module _ (u : List ℕ) (table : Table plan.f plan.n u) (mends : Mends plan u) where
    given : Table g plan.n (rest o u)
    given =
        record {
          long = rest_long o u (table.long ∙ sym (table_long plan room)) ∙ table_idle plan room ∙ sym g=;
          most = rest_most plan.n o u table.most;
        }

    kept : (x : ℕ) → 0 < get_or o x 0 → get_or u x 0 ≡ get_or o x 0
    kept x l = by (dec_lt x plan.f)
      where
        by : Dec (x < plan.f) → get_or u x 0 ≡ get_or o x 0
        by (yes h) =
            let e = get_or-take plan.f plan.owners x 0 h in
            mends.kept x h (omega arith) ∙ sym e
        by (no h) = absurd (omega (arith, get_or-eq_default o 0 {n = x} (omega (arith, table_long plan room))))

    filled_again : fill o (rest o u) ≡ u
    filled_again = fill_rest o u (table.long ∙ sym (table_long plan room)) kept

    suits_all : NoneInNeed trees plan.n (rest o u)
    suits_all =
        accepted_no_need plan g trees g≤ planted (rest o u) given.long
        (rw (filled_fill plan room (rest o u), filled_again) mends.accepted)

    owned_more : owned u ≡ owned o + owned (rest o u)
    owned_more = ap owned (sym filled_again) ∙ fill_owned o (rest o u) (given.long ∙ g= ∙ sym (table_idle plan room))

  -- the best filling makes the best table
  filled_mends : (v : List ℕ) → Table g plan.n v → NoneInNeed trees plan.n v → Mends plan (filled plan v)
  filled_mends v table suits =
      record {
        kept = λ x l owned. get_filled plan v x l ∙ slot_kept plan v x owned;
        accepted = no_need_accepted plan g trees g≤ planted v table.long suits;
      }

  best_mends : (v : List ℕ) → IsBest (NoneInNeed trees plan.n) g plan.n v
      → IsBest (Mends plan) plan.f plan.n (filled plan v)
  best_mends v best =
      let e = filled_fill plan room v in
      let v= : length v ≡ idle o = best.table.long ∙ g= ∙ sym (table_idle plan room) in
      let long = fill_long o v ∙ table_long plan room in
      record {
        table = rw e (record { long = long; most = fill_most plan.n o v table_most best.table.most });
        good = filled_mends v best.table best.good;
        fewest = λ u t m.
            let less = best.fewest (rest o u) (given u t m) (suits_all u t m) in
            rw e (omega (arith, fill_owned o v v=, owned_more u t m));
        least = λ u t m same.
            let count : owned u ≡ owned (fill o v) = rw e at same in
            let even : owned (rest o u) ≡ owned v = omega (arith, fill_owned o v v=, owned_more u t m) in
            let rest= = (given u t m).long ∙ g= ∙ sym (table_idle plan room) in
            let before = best.least (rest o u) (given u t m) (suits_all u t m) even in
            rw (e, ← filled_again u t m) (fill_lex o v (rest o u) v= rest= before);
      }

  none_mends : NoTable (NoneInNeed trees plan.n) g plan.n → NoTable (Mends plan) plan.f plan.n
  none_mends none u t m = none (rest o u) (given u t m) (suits_all u t m)

  -- what was found is returned with 0 past f
  pub mended : (u : List ℕ) → BestOf (NoneInNeed trees plan.n) g plan.n (Some u)
      → Finds (Mends plan) plan.f plan.n (Some (padded (filled_at plan u) plan.f 64 0))
  mended u best =
      let same : filled plan u ≡ filled plan (take g u) =
      rw g= (firsts_same (filled_at plan u) (filled_at plan (take (idle_of plan) u)) plan.f (filled_front plan u)) in (
        rw (take_padded (filled_at plan u) plan.f 64 0, same) (best_mends (take g u) best),
        drop_padded (filled_at plan u) plan.f 64 0,
      )

  pub not_mended : BestOf (NoneInNeed trees plan.n) g plan.n None → Finds (Mends plan) plan.f plan.n None
  not_mended = none_mends

-- ---- an idle table

module _ (f n : ℕ) (clients : List Client) where
  -- f slots, n clients, and every slot idle
  abbrev plan : Plan
  plan = idle_plan f n clients

  idle_owner : (x : ℕ) → owner_of plan x ≡ 0
  idle_owner x = by (dec_lt x 64)
    where
      by : Dec (x < 64) → owner_of plan x ≡ 0
      by (yes l) = get_or-replicate 64 x 0 0 l
      by (no h) = get_or-eq_default (replicate {A = ℕ} 64 0) 0 {n = x} (omega arith)

  pub idle_owners : (x : ℕ) → x < f → owner_of plan x ≤ n
  idle_owners x l = omega (arith, idle_owner x)

  pub idle_slots : idle_of plan ≤ f
  idle_slots = within_most (own_of plan 0) (own_most plan.owners f 0) 0 f

  pub mends_accepted : (found : Option (List ℕ)) → Finds (Mends plan) f n found → Finds (AcceptedIn plan) f n found
  mends_accepted =
      finds_same (Mends plan) (AcceptedIn plan) f n (λ t table mends. mends.accepted)
      (λ t table accepted. record { kept = λ x l owned. absurd (omega (arith, idle_owner x)); accepted = accepted })
