-- The search reads no owners, and no requirements past n: plans with the same requirements are searched alike. And a
-- table is accepted just as well when it stands in the 64 places of a plan.
-- Assumes nothing.
use mathlib.Core.Path.{◌≡◌, refl}
use mathlib.Core.List.{List}
use Prim.Native.Nat.{ℕ, ◌<◌}
use native.Mathlib.Omega.{arith}
use lib.ListN.{take}
use lib.Seq.{get_or-take}
use Rattle.std.specs.Prelude.{Option}
use Rattle.records.specs.First.{Fine}
use Rattle.records.specs.Said.{Said}
use Rattle.records.proofs.Said.{answers_same}
use Rattle.plan.specs.declared.Plan.{Plan}
use Rattle.plan.specs.Plan.{Same, SameRequired, with_table}
use Rattle.plan.proofs.Laws.{requirements_same, required_back}
use Rattle.judge.proofs.Same.{all_same}
use Rattle.search.specs.Search.{idle_plan, search_check, size_check, AcceptedIn, Finds, IsSearched}
use Rattle.search.proofs.Questions.{search_fine}
use Rattle.search.proofs.Mending.{finds_same}

-- the checks read no owners
pub check_idle : (plan : Plan) → search_check plan ≡ search_check (idle_plan plan.f plan.n plan.clients)
unfolding search_check size_check
check_idle plan =
    let idle = idle_plan plan.f plan.n plan.clients in
    rw (requirements_same plan idle (record { frame = refl; count = refl; clients = λ i l. refl }))

-- a table's slots past f are not read
pub accepted_front : (plan : Plan) (owners : List ℕ) → 0 < plan.f → AcceptedIn plan (take plan.f owners)
    → AcceptedIn plan owners
accepted_front plan owners f> =
    let same : Same (with_table plan (take plan.f owners)) (with_table plan owners) = record {
      frame = refl;
      count = refl;
      clients = λ i l. refl;
      owners = λ x l. get_or-take plan.f owners x 0 l;
    } in all_same (with_table plan (take plan.f owners)) (with_table plan owners) same f> 0 plan.n (omega arith)

module _ (plan other : Plan) (same : SameRequired plan other) where
  search_check_same : search_check plan ≡ search_check other
  unfolding search_check size_check
  search_check_same = rw (requirements_same plan other same, same.frame, same.count)

  accepted_same : (t : List ℕ) → 0 < plan.f → AcceptedIn plan t → AcceptedIn other t
  accepted_same t f> all =
      let tables : Same (with_table plan t) (with_table other t) = record {
        frame = same.frame;
        count = same.count;
        clients = same.clients;
        owners = λ x l. refl;
      } in rw same.count at (all_same (with_table plan t) (with_table other t) tables f> 0 plan.n (omega arith) all)

pub searched_same : (plan other : Plan) → SameRequired plan other → (r : Said (Option (List ℕ))) → IsSearched plan r
    → IsSearched other r
searched_same plan other same = answers_same (search_check_same plan other same) finds
  where
    back : SameRequired other plan
    back = required_back plan other same

    finds : search_check plan ≡ Fine → (found : Option (List ℕ)) → Finds (AcceptedIn plan) plan.f plan.n found
        → Finds (AcceptedIn other) other.f other.n found
    finds fine found h =
        let f> = (search_fine plan fine).bounds.f_low in
        rw (same.frame, same.count) at
        (finds_same _ _ plan.f plan.n (λ t table. accepted_same plan other same t f>)
        (λ t table. accepted_same other plan back t (rw same.frame at f>)) found h)
