-- The round trips (demand 2): "Plans written are read back the same, and streams read are written back byte for byte".
use Rattle.std.specs.Prelude.{◌≡◌, List, ℕ, ◌<◌, leb, length, take, Result, Ok}
use Rattle.records.specs.declared.refusal.Refusal.TheVariants as refusal
use Rattle.records.specs.declared.refusal.At.{At}
use Rattle.records.specs.declared.refusal.Refusal.{Refusal}
use Rattle.records.specs.First.{unless, or_else, Outcome}
use Rattle.records.specs.Said.{Said}
use Rattle.plan.specs.declared.Client.{Client}
use Rattle.plan.specs.declared.Plan.{Plan}
use Rattle.plan.specs.Plan.{client_of, used}
use Rattle.plan.specs.Check.{plan_check}
use Rattle.stream.specs.Read.{read_check, plan_if, read_of}
use Rattle.stream.specs.Write.{stream_of, written_by, bytes_by}

-- a stream s that is read: the stream of its plan is s
abbrev pub Rewritten : List ℕ → Result Plan (At Refusal) → Type 0
Rewritten s r = (plan : Plan) → r ≡ Ok plan → stream_of plan ≡ s

-- a plan that is written: the bytes written are read as that plan, 0 past f and past n
abbrev pub Reread : Plan → Said ℕ → List ℕ → Type 0
Reread plan r out = (size : ℕ) → r ≡ Ok size → read_of (take size out) ≡ Ok (used plan)

-- what the type of a client's four numbers says
pub record Words (c : Client) : Type 0 where
  pub p : c.p < 65536
  pub q : c.q < 65536
  pub a : c.a < 65536
  pub b : c.b < 65536

-- and that of a plan's clients
abbrev pub Held : Plan → Type 0
Held plan = (i : ℕ) → i < plan.n → Words (client_of plan i)

-- ---- the two trips as calls

-- a stream s read and its plan written into room bytes: reading's refusals, then 12 where s itself does not fit
unfoldable pub copy_check : List ℕ → ℕ → Outcome
copy_check s room = or_else (read_check s) (unless (leb (length s) room) refusal.Room 0)

-- the answer, r, and the lent output after, now: s itself, and past it what stood there before
pub record Copied (s out : List ℕ) (r : Said ℕ) (now : List ℕ) : Type 0 where
  pub answer : r ≡ written_by (copy_check s (length out)) (length s)
  pub bytes : now ≡ bytes_by (copy_check s (length out)) s out

-- a plan written and its stream read: the plan's own refusals, and the plan itself, 0 past f and past n
unfoldable pub reread_of : Plan → Result Plan (At Refusal)
reread_of plan = plan_if (plan_check plan) (used plan)
