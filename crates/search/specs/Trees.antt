-- Tables that fillings make, and what stands in the trees of needs of a plan with g idle slots. A filling has an owner
-- for each idle slot, one after the other. Only the functions of this crate are specified by it.
use Rattle.std.specs.Prelude.{◌≡◌, List, ℕ, ◌+◌, ◌*◌, ◌^◌, ◌<◌, ◌≤◌, min, eqb, length, get_or}
use Rattle.frame.specs.Frame.{within}
use Rattle.records.specs.First.{pick}
use Rattle.records.specs.Pieces.{firsts}
use Rattle.plan.specs.declared.Plan.{Plan}
use Rattle.plan.specs.Plan.{own_in, with_table}
use Rattle.judge.specs.Judge.{ClientOk}
use Rattle.explore.specs.Needs.{node_of, need_at}

-- the owner of slot x of a frame of f slots that have these owners, when its idle slots are filled: an idle slot gets
-- the owner whose place is the count of idle slots before it
unfoldable pub filled_in : List ℕ → ℕ → List ℕ → ℕ → ℕ
filled_in owners f filling x =
    pick (eqb (get_or owners x 0) 0) (get_or filling (within (own_in owners f 0) 0 x) 0) (get_or owners x 0)

-- the owner of slot x of a plan, filled so
abbrev pub filled_at : Plan → List ℕ → ℕ → ℕ
filled_at plan = filled_in plan.owners plan.f

-- the table that this makes
abbrev pub filled : Plan → List ℕ → List ℕ
filled plan filling = firsts (filled_at plan filling) plan.f

-- the need is 0 exactly when client i + 1 is ok on the table that the filling makes
pub record Suits (plan : Plan) (i : ℕ) (filling : List ℕ) (need : ℕ) : Type 0 where
  pub ok : need ≡ 0 → ClientOk (with_table plan (filled plan filling)) i
  pub zero_if : ClientOk (with_table plan (filled plan filling)) i → need ≡ 0

-- the need of node x in the tree of client i + 1: at a leaf, that of the fillings that lead to it; above, the least
-- that the two nodes below allow
pub record IsNeed (plan : Plan) (g : ℕ) (trees : List ℕ) (i x need : ℕ) : Type 0 where
  pub above : 0 < x → x < 2 ^ g → need ≡ min (need_at trees i (2 * x)) (need_at trees i (2 * x + 1) + 1)
  pub leaf : 2 ^ g ≤ x → (filling : List ℕ) → length filling ≡ g → node_of (i + 1) filling ≡ x
      → Suits plan i filling need

-- the trees of n clients
pub record Planted (plan : Plan) (g n : ℕ) (trees : List ℕ) : Type 0 where
  pub right : (i x : ℕ) → i < n → x < 512 → IsNeed plan g trees i x (need_at trees i x)
