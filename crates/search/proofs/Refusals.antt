-- The refusals of the search: their numbers.
-- Assumes nothing.
use mathlib.Core.Path.{refl}
use mathlib.Core.List.{List, [], ◌∷◌}
use Prim.Native.Nat.{ℕ}
use lib.Dec.{leb}
use Rattle.records.specs.declared.refusal.Refusal.TheVariants as refusal
use Rattle.records.specs.First.{unless, Gives}
use Rattle.records.proofs.Refusals.{or_each, unless_gives, or_gives}
use Rattle.plan.specs.declared.Plan.{Plan}
use Rattle.plan.specs.Check.{requirements_check}
use Rattle.plan.specs.Entries.{requirements_numbers}
use Rattle.plan.proofs.Refusals.{requirements_gives}
use Rattle.search.specs.Search.{most_slots, most_clients, size_check, search_check}
use Rattle.search.specs.Entries.{search_numbers}

pub search_gives : (plan : Plan) → Gives search_numbers (search_check plan)
unfolding search_check size_check
search_gives plan =
    let ks : List ℕ = 16 ∷ [] in
    or_gives requirements_numbers ks (requirements_check plan) (size_check plan) (requirements_gives plan)
    (or_each (Gives ks) (unless (leb plan.f most_slots) refusal.TooLarge 0) _
    (unless_gives ks (leb plan.f most_slots) refusal.TooLarge 0 refl)
    (unless_gives ks (leb plan.n most_clients) refusal.TooLarge 0 refl))
