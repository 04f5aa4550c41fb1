-- What the search refuses: 16 exactly where f or n is too large, after the requirements' own checks.
-- Assumes nothing.
use mathlib.Core.Path.{◌≡◌}
use Prim.Native.Nat.{◌≤◌, ◌<◌}
use lib.Dec.{leb}
use borrow.Author.Tests.{le-leb, lt-leb, leb-true}
use Rattle.records.specs.declared.refusal.Refusal.TheVariants as refusal
use Rattle.records.specs.First.{unless, Fine, refuse}
use Rattle.records.proofs.Checks.{both_fine, unless_fine}
use Rattle.plan.specs.declared.Plan.{Plan}
use Rattle.plan.specs.Check.{requirements_check}
use Rattle.plan.proofs.Laws.{InBounds, requirements_fine, requirements_pass}
use Rattle.search.specs.Search.{most_slots, most_clients, size_check, search_check}

pub too_long : (plan : Plan) → most_slots < plan.f → size_check plan ≡ refuse refusal.TooLarge 0
unfolding size_check
too_long plan l = simp (lt-leb plan.f most_slots l)

pub too_many : (plan : Plan) → plan.f ≤ most_slots → most_clients < plan.n
    → size_check plan ≡ refuse refusal.TooLarge 0
unfolding size_check
too_many plan l h = simp (le-leb plan.f most_slots l, lt-leb plan.n most_clients h)

pub size_pass : (plan : Plan) → plan.f ≤ most_slots → plan.n ≤ most_clients → size_check plan ≡ Fine
unfolding size_check
size_pass plan l h = simp (le-leb plan.f most_slots l, le-leb plan.n most_clients h)

-- what a search has that passes
pub record Searchable (plan : Plan) : Type 0 where
  pub bounds : InBounds plan
  pub short : plan.f ≤ most_slots
  pub few : plan.n ≤ most_clients

pub search_fine : (plan : Plan) → search_check plan ≡ Fine → Searchable plan
unfolding search_check size_check
search_fine plan h =
    let a = both_fine (requirements_check plan) (size_check plan) h in
    let size = both_fine (unless (leb plan.f most_slots) refusal.TooLarge 0) _ a.1 in
    record {
      bounds = requirements_fine plan a.0;
      short = leb-true plan.f most_slots (unless_fine _ refusal.TooLarge 0 size.0);
      few = leb-true plan.n most_clients (unless_fine _ refusal.TooLarge 0 size.1);
    }

pub search_pass : (plan : Plan) → Searchable plan → search_check plan ≡ Fine
unfolding search_check
search_pass plan ok = rw (requirements_pass plan ok.bounds) (size_pass plan ok.short ok.few)
