-- Mending: "give idle slots to clients until it is accepted" (document 02, §3). The search is the mending of a table
-- that is all idle.
use Rattle.std.specs.Prelude.{◌≡◌, List, ℕ, ◌<◌, get_or}
use Rattle.frame.specs.Frame.{slots_of}
use Rattle.plan.specs.declared.Plan.{Plan}
use Rattle.plan.specs.Plan.{owner_of, own_of}
use Rattle.search.specs.Search.{AcceptedIn}

-- the table t is the plan's with idle slots given to clients, and is accepted
pub record Mends (plan : Plan) (t : List ℕ) : Type 0 where
  pub kept : (x : ℕ) → x < plan.f → 0 < owner_of plan x → get_or t x 0 ≡ owner_of plan x
  pub accepted : AcceptedIn plan t

-- how many slots are idle: those of owner 0
abbrev pub idle_of : Plan → ℕ
idle_of plan = slots_of (own_of plan 0) plan.f
