-- The row of `search` holds, and is its entry's own contract.
-- Assumes nothing.
use mathlib.Core.Path.{refl}
use Rattle.records.specs.Entry.{Tight, contract, Tied}
use Rattle.records.proofs.Entry.{tight_says, tie}
use Rattle.plan.specs.Plan.{SameRequired}
use Rattle.search.specs.Search.{idle_plan, AcceptedIn}
use Rattle.search.specs.Entries.{search_entry}
use Rattle.search.proofs.Refusals.{search_gives}
use Rattle.search.proofs.Once.{finds_one}
use Rattle.search.proofs.Same.{searched_same}
use Rattle.search.proofs.search.Reads as search

pub search_tight : Tight search_entry
search_tight =
    tight_says SameRequired _ _ _ (λ plan x. finds_one (AcceptedIn plan) plan.f plan.n) (λ plan x. search_gives plan)
    refl (λ plan other same x. searched_same plan other same)

pub search_tied : Tied search_entry (contract search.Pre search.Post)
search_tied = tie (λ a. idle_plan a.0 a.1.0 a.1.1.0) (λ a. tt) (λ r z. r) (λ κs a. tt) (λ κs a r z. refl)
