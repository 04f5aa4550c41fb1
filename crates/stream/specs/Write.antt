-- The stream of a plan, and what a write gives (document 01, Plan stream and Refusal numbers).
use Rattle.std.specs.Prelude.{◌≡◌, List, [], ◌∷◌, ◌++◌, ℕ, ◌+◌, ◌*◌, ltb, leb, length, drop, Ok, Err}
use Rattle.records.specs.declared.refusal.Refusal.TheVariants as refusal
use Rattle.records.specs.First.{pick, unless, or_else, Outcome}
use Rattle.records.specs.Said.{Said}
use Rattle.records.specs.Pieces.{many, firsts}
use Rattle.records.specs.Record.{be}
use Rattle.plan.specs.declared.Client.{Client}
use Rattle.plan.specs.declared.Plan.{Plan}
use Rattle.plan.specs.Plan.{client_of, owner_of}
use Rattle.plan.specs.Check.{plan_check}
use Rattle.stream.specs.Kind.{head_kind, client_kind, row_kind, end_kind, rows_of}

-- ---- the stream

-- kind 1: f, n
abbrev pub head_record : Plan → List ℕ
head_record plan = head_kind ∷ plan.f ∷ plan.n ∷ []

-- kind 2: client number, p, q, a, b
unfoldable pub client_bytes : ℕ → Client → List ℕ
client_bytes number c = client_kind ∷ number ∷ be c.p ++ be c.q ++ be c.a ++ be c.b

-- the record of client i + 1
unfoldable pub client_record : Plan → ℕ → List ℕ
client_record plan i = client_bytes (i + 1) (client_of plan i)

-- the owner of slot x; "Places past f in the last kind 3 hold 255"
unfoldable pub slot_byte : Plan → ℕ → ℕ
slot_byte plan x = pick (ltb x plan.f) (owner_of plan x) 255

-- slot t of row j
unfoldable pub row_byte : Plan → ℕ → ℕ → ℕ
row_byte plan j t = slot_byte plan (8 * j + t)

-- kind 3: the owners of the next eight slots
unfoldable pub row_record : Plan → ℕ → List ℕ
row_record plan j = row_kind ∷ firsts (row_byte plan j) 8

-- "one kind 1, then clients 1 to n, then as many kind 3 as f needs, then kind 9"
unfoldable pub stream_of : Plan → List ℕ
stream_of plan =
    head_record plan ++ many (client_record plan) plan.n ++ many (row_record plan) (rows_of plan.f) ++ (end_kind ∷ [])

-- "The length is .. 23 to 156 bytes": that of the longest
abbrev pub longest : ℕ
longest = 156

-- ---- a write into a lent output of this many bytes

-- "All else that takes a plan checks it first .. Then: writing 12"
unfoldable pub write_check : Plan → ℕ → Outcome
write_check plan room = or_else (plan_check plan) (unless (leb (length (stream_of plan)) room) refusal.Room 0)

-- an outcome as an answer: the stream's length, or why it is refused
abbrev pub written_by : Outcome → ℕ → Said ℕ
written_by (Ok u) size = Ok size
written_by (Err refused) size = Err refused.why

-- the answer of a write
unfoldable pub written_of : Plan → ℕ → Said ℕ
written_of plan room = written_by (write_check plan room) (length (stream_of plan))

-- "A write that succeeds touches only the stream's length of bytes"; a refusal "leaves a lent output untouched"
abbrev pub bytes_by : Outcome → List ℕ → List ℕ → List ℕ
bytes_by (Ok u) stream out = stream ++ drop (length stream) out
bytes_by (Err refused) stream out = out

-- the lent bytes after a write
unfoldable pub bytes_of : Plan → List ℕ → List ℕ
bytes_of plan out = bytes_by (write_check plan (length out)) (stream_of plan) out

-- what a write into out gives, r, and leaves there, now
pub record Wrote (plan : Plan) (out : List ℕ) (r : Said ℕ) (now : List ℕ) : Type 0 where
  pub answer : r ≡ written_of plan (length out)
  pub bytes : now ≡ bytes_of plan out
