-- Plans that are the same have the same stream, and are written and read back the same: places past f and past n are
-- not written.
-- Assumes nothing.
use mathlib.Core.Path.{◌≡◌, ap, ◌∙◌}
use mathlib.Core.List.{List}
use mathlib.Core.Logic.{⊎_elim}
use Prim.Native.Nat.{ℕ, ◌+◌, ◌*◌, ◌≤◌, ◌<◌}
use borrow.Author.Tests.{le-ltb}
use Rattle.records.specs.Said.{Said}
use Rattle.records.proofs.Checks.{below_or_not}
use Rattle.records.proofs.Lists.{many_same, firsts_same}
use Rattle.plan.specs.declared.Plan.{Plan}
use Rattle.plan.specs.Plan.{Same}
use Rattle.plan.proofs.Laws.{same_used, same_check}
use Rattle.stream.specs.Kind.{rows_of}
use Rattle.stream.specs.Write.{client_bytes, client_record, slot_byte, row_byte, row_record, stream_of, write_check}
use Rattle.stream.specs.Write.{written_of, bytes_of, Wrote}
use Rattle.stream.specs.Trip.{Reread, reread_of}

slot_byte_same : (plan other : Plan) → Same plan other → (x : ℕ) → slot_byte plan x ≡ slot_byte other x
unfolding slot_byte
slot_byte_same plan other s x =
    ⊎_elim
    (λ (l : x < plan.f). rw (← s.frame, s.owners x l))
    (λ (l : plan.f ≤ x). rw (← s.frame, le-ltb x plan.f l))
    (below_or_not x plan.f)

pub same_stream : (plan other : Plan) → Same plan other → stream_of plan ≡ stream_of other
unfolding stream_of client_record row_record row_byte
same_stream plan other s =
    let clients = many_same (client_record plan) (client_record other) plan.n
    (λ i l. ap (client_bytes (i + 1)) (s.clients i l)) in
    let rows =
    many_same (row_record plan) (row_record other) (rows_of plan.f)
    (λ j l. rw (firsts_same (row_byte plan j) (row_byte other j) 8 (λ t m. slot_byte_same plan other s (8 * j + t)))) in
    rw (clients, rows, s.frame, s.count)

pub same_wrote : (plan other : Plan) → Same plan other → {out now : List ℕ} {r : Said ℕ} → Wrote plan out r now
    → Wrote other out r now
unfolding written_of bytes_of write_check
same_wrote plan other s w =
    let check = same_check plan other s in
    let stream = same_stream plan other s in
    record { answer = w.answer ∙ rw (check, stream); bytes = w.bytes ∙ rw (check, stream) }

pub same_reread : (plan other : Plan) → Same plan other → (r : Said ℕ) (now : List ℕ) → Reread plan r now
    → Reread other r now
same_reread plan other s r now back size e = back size e ∙ rw (same_used plan other s)

pub same_rereading : (plan other : Plan) → Same plan other → reread_of plan ≡ reread_of other
unfolding reread_of
same_rereading plan other s = rw (same_check plan other s, same_used plan other s)
