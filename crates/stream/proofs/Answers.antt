-- What a read and a write answer, case by case, and the round trips as their contracts state them.
-- Assumes nothing.
use mathlib.Core.Path.{◌≡◌, refl, ap, sym, ◌∙◌}
use mathlib.Core.List.{List, ◌++◌}
use Prim.Native.Nat.{ℕ, ◌≤◌, ◌<◌}
use lib.ListN.{length, take, drop}
use lib.Seq.{take_at}
use borrow.Author.Tests.{le-leb, lt-leb}
use Rattle.records.specs.declared.refusal.Refusal.TheVariants as refusal
use Rattle.std.specs.Prelude.{Result, Ok, Err}
use Rattle.records.specs.declared.refusal.At.{At}
use Rattle.records.specs.declared.refusal.Refusal.{Refusal}
use Rattle.records.specs.First.{Outcome, Fine, refuse}
use Rattle.records.proofs.Said.{not_given}
use Rattle.records.proofs.Words.{Bytes}
use Rattle.plan.specs.declared.Plan.{Plan}
use Rattle.plan.specs.Check.{plan_check}
use Rattle.stream.specs.Read.{read_check, plan_of, plan_if, read_of}
use Rattle.stream.specs.Trip.{Rewritten, Reread, Held}
use Rattle.stream.specs.Write.{stream_of, write_check, written_by, written_of, bytes_by, bytes_of, Wrote}
use Rattle.stream.proofs.WrittenBack.{written_back, plan_right}
use Rattle.stream.proofs.ReadBack.{read_back}

-- ---- reading

pub read_given : (s : List ℕ) → read_check s ≡ Fine → read_of s ≡ Ok (plan_of s)
unfolding read_of
read_given s h = rw h

pub read_refused : (s : List ℕ) {refused : At Refusal} → read_check s ≡ Err refused → read_of s ≡ Err refused
unfolding read_of
read_refused s h = rw h

-- what the checks found where a plan is read, and which plan it is
reading_by : (o : Outcome) (plan read : Plan) → plan_if o plan ≡ Ok read → (o ≡ Fine) × (read ≡ plan)
reading_by (Ok u) plan read h = (refl, cc)
reading_by (Err refused) plan read h = not_given h

refused_by : (o : Outcome) (plan : Plan) (refused : At Refusal) → plan_if o plan ≡ Err refused → o ≡ Err refused
refused_by (Ok u) plan refused h = not_given (sym h)
refused_by (Err found) plan refused h = ap Err cc

pub reading_found : (s : List ℕ) {plan : Plan} → read_of s ≡ Ok plan → (read_check s ≡ Fine) × (plan ≡ plan_of s)
unfolding read_of
reading_found s {plan} h = reading_by (read_check s) (plan_of s) plan h

pub reading_refused : (s : List ℕ) {refused : At Refusal} → read_of s ≡ Err refused → read_check s ≡ Err refused
unfolding read_of
reading_refused s {refused} h = refused_by (read_check s) (plan_of s) refused h

-- a plan that is read passes the plan's checks
pub reading_checked : (s : List ℕ) {plan : Plan} → read_of s ≡ Ok plan → plan_check plan ≡ Fine
reading_checked s h = let found = reading_found s h in rw found.1 (plan_right s found.0)

-- a stream of bytes that is read is written back
pub read_rewritten : (s : List ℕ) {r : Result Plan (At Refusal)} → Bytes s → r ≡ read_of s → Rewritten s r
read_rewritten s b e plan h = let found = reading_found s (sym e ∙ h) in rw found.1 (written_back s b found.0)

-- ---- writing: r is the answer, now the lent output after

wrote_by : (plan : Plan) (out : List ℕ) (o : Outcome) → write_check plan (length out) ≡ o
    → Wrote plan out (written_by o (length (stream_of plan))) (bytes_by o (stream_of plan) out)
unfolding written_of bytes_of
wrote_by plan out o e = record { answer = rw e; bytes = rw e }

pub plan_refused : (plan : Plan) (out : List ℕ) {refused : At Refusal} → plan_check plan ≡ Err refused
    → Wrote plan out (Err refused.why) out
unfolding write_check
plan_refused plan out {refused} e = wrote_by plan out (Err refused) (rw e)

pub room_refused : (plan : Plan) (out : List ℕ) → plan_check plan ≡ Fine → length out < length (stream_of plan)
    → Wrote plan out (Err refusal.Room) out
unfolding write_check
room_refused plan out e l =
    wrote_by plan out (refuse refusal.Room 0) (simp (e, lt-leb (length (stream_of plan)) (length out) l))

pub write_given : (plan : Plan) (out : List ℕ) → plan_check plan ≡ Fine → length (stream_of plan) ≤ length out
    → Wrote plan out (Ok (length (stream_of plan))) (stream_of plan ++ drop (length (stream_of plan)) out)
unfolding write_check
write_given plan out e l = wrote_by plan out Fine (simp (e, le-leb (length (stream_of plan)) (length out) l))

-- a plan that is written is read back
pub write_reread : (plan : Plan) (rest : List ℕ) → Held plan → plan_check plan ≡ Fine
    → Reread plan (Ok (length (stream_of plan))) (stream_of plan ++ rest)
write_reread plan rest held h size e =
    let n : size ≡ length (stream_of plan) = cc in
    ap (λ (k : ℕ). read_of (take k (stream_of plan ++ rest))) n
    ∙ ap read_of (take_at (stream_of plan) rest (length (stream_of plan)) refl)
    ∙ read_back plan held h
