-- The plan as a value (document 01, Plan).
use Rattle.std.specs.Prelude.{◌≡◌, List, ℕ, ◌%◌, ◌<◌, eqb, get_or, replicate}
use Rattle.records.specs.First.{pick}
use Rattle.records.specs.Pieces.{padded}
use Rattle.plan.specs.declared.Client.{Client}
use Rattle.plan.specs.declared.Plan.{Plan}

-- a client with every number 0, as it stands past n
abbrev pub no_client : Client
no_client = record { p = 0; q = 0; a = 0; b = 0 }

-- "a plan with every number 0"
abbrev pub no_plan : Plan
no_plan = record { f = 0; n = 0; clients = replicate 8 no_client; owners = replicate 64 0 }

-- client i + 1 of a plan: "Clients are numbered from 1"
abbrev pub client_of : Plan → ℕ → Client
client_of plan i = get_or plan.clients i no_client

-- the owner of slot x: "0 for idle, or a client"
abbrev pub owner_of : Plan → ℕ → ℕ
owner_of plan x = get_or plan.owners x 0

-- 1 where x is client c, else 0
abbrev pub is_client : ℕ → ℕ → ℕ
is_client c x = pick (eqb x c) 1 0

-- the slots of client c where a frame of f slots that repeats has these owners: 1 where slot s, counted on without end,
-- is its own, else 0
unfoldable pub own_in : List ℕ → ℕ → ℕ → ℕ → ℕ
own_in owners f c s = is_client c (get_or owners (s % f) 0)

-- the slots of client c of a plan
abbrev pub own_of : Plan → ℕ → ℕ → ℕ
own_of plan = own_in plan.owners plan.f

-- "Plans are the same when f, n and the used places agree"
pub record Same (plan other : Plan) : Type 0 where
  pub frame : plan.f ≡ other.f
  pub count : plan.n ≡ other.n
  pub clients : (i : ℕ) → i < plan.n → client_of plan i ≡ client_of other i
  pub owners : (x : ℕ) → x < plan.f → owner_of plan x ≡ owner_of other x

-- and so are their requirements, whoever owns the slots
pub record SameRequired (plan other : Plan) : Type 0 where
  pub frame : plan.f ≡ other.f
  pub count : plan.n ≡ other.n
  pub clients : (i : ℕ) → i < plan.n → client_of plan i ≡ client_of other i

-- "places past f and past n .. are 0 on the way out": the same plan with 0 there
unfoldable pub used : Plan → Plan
used plan =
    record {
      f = plan.f;
      n = plan.n;
      clients = padded (client_of plan) plan.n 8 no_client;
      owners = padded (owner_of plan) plan.f 64 0;
    }

-- the plan with another table
abbrev pub with_table : Plan → List ℕ → Plan
with_table plan t = record { f = plan.f; n = plan.n; clients = plan.clients; owners = t }

-- "A wait asked without a number is for one request"
abbrev pub default_waiting : ℕ
default_waiting = 1
