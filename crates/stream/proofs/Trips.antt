-- What the two round trips give as calls, from the contracts of `read` and `write` and three laws: a plan that is read
-- passes its checks, no stream is longer than `longest`, and a plan's refusal has no offset.
-- Assumes nothing.
use mathlib.Core.Path.{◌≡◌, refl, ap, sym, ◌∙◌}
use mathlib.Core.Bool.{Bool}
use mathlib.Core.List.{List}
use Prim.Native.Nat.{ℕ, ◌≤◌}
use native.Mathlib.Omega.{arith}
use lib.Dec.{leb}
use lib.ListN.{length, take, length-append, length-drop}
use borrow.Author.Tests.{le-leb, leb-true}
use Rattle.records.specs.declared.refusal.Refusal.TheVariants as refusal
use Rattle.std.specs.Prelude.{Result, Ok, Err}
use Rattle.records.specs.declared.refusal.At.{At}
use Rattle.records.specs.declared.refusal.Refusal.{Refusal}
use Rattle.records.specs.First.{unless, or_else, Outcome, Fine, at}
use Rattle.records.specs.Said.{Said}
use Rattle.records.proofs.Said.{not_given}
use Rattle.records.proofs.Checks.{both_fine, unless_fine}
use Rattle.plan.specs.declared.Plan.{Plan}
use Rattle.plan.specs.Check.{plan_check}
use Rattle.plan.proofs.Refusals.{plan_offset}
use Rattle.stream.specs.Read.{read_of}
use Rattle.stream.specs.Trip.{Rewritten, Reread, copy_check, Copied, reread_of}
use Rattle.stream.specs.Write.{stream_of, longest, write_check, written_by, written_of, bytes_by, bytes_of, Wrote}
use Rattle.stream.proofs.Lengths.{stream_sizes}
use Rattle.stream.proofs.Answers.{reading_found, reading_refused, reading_checked}

-- ---- read, then written

pub copy_refused : (s out : List ℕ) {refused : At Refusal} → read_of s ≡ Err refused
    → Copied s out (Err refused.why) out
unfolding copy_check
copy_refused s out h = let q = reading_refused s h in record { answer = rw q; bytes = rw q }

pub copied : (s out : List ℕ) {plan : Plan} (r : Said ℕ) (now : List ℕ) → Rewritten s (read_of s)
    → read_of s ≡ Ok plan → Wrote plan out r now → Copied s out r now
unfolding copy_check write_check written_of bytes_of
copied s out {plan} r now back h w =
    let q = (reading_found s h).0 in
    let ok = reading_checked s h in
    let t : stream_of plan ≡ s = back plan h in
    record { answer = w.answer ∙ rw (ok, t, q); bytes = w.bytes ∙ rw (ok, t, q) }

-- ---- written, then read: r is what the write gave, now the bytes after

written_fine : (o : Outcome) (n size : ℕ) → written_by o n ≡ Ok size → (o ≡ Fine) × (size ≡ n)
written_fine (Ok u) n size h = (refl, cc)
written_fine (Err refused) n size h = not_given h

-- what was written lies within the bytes lent
pub record Fitted (plan : Plan) (size : ℕ) (now : List ℕ) : Type 0 where
  pub passed : plan_check plan ≡ Fine
  pub fits : size ≤ length now

bytes_length : (o : Outcome) (stream out : List ℕ) → (o ≡ Fine → length stream ≤ length out)
    → length (bytes_by o stream out) ≡ length out
bytes_length (Ok u) stream out h = let l = h refl in simp (length-append, length-drop) (omega arith)
bytes_length (Err refused) stream out h = refl

write_fine : (plan : Plan) (n : ℕ) → write_check plan n ≡ Fine
    → (plan_check plan ≡ Fine) × (length (stream_of plan) ≤ n)
unfolding write_check
write_fine plan n h =
    let test : Bool = leb (length (stream_of plan)) n in
    let b = both_fine (plan_check plan) (unless test refusal.Room 0) h in
    (b.0, leb-true (length (stream_of plan)) n (unless_fine test refusal.Room 0 b.1))

pub fitted : (plan : Plan) (out : List ℕ) (r : Said ℕ) (now : List ℕ) (size : ℕ) → Wrote plan out r now
    → r ≡ Ok size → Fitted plan size now
unfolding written_of bytes_of
fitted plan out r now size w e =
    let o : Outcome = write_check plan (length out) in
    let g = written_fine o (length (stream_of plan)) size (sym w.answer ∙ e) in
    let l = write_fine plan (length out) g.0 in
    let kept : length now ≡ length out = ap length w.bytes ∙ bytes_length o (stream_of plan) out (λ h. l.1) in
    record { passed = l.0; fits = omega (arith, g.1, l.1) }

-- and is the plan's own reading
pub reread_given : (plan : Plan) (r : Said ℕ) (now : List ℕ) (size : ℕ) (a : Result Plan (At Refusal))
    → plan_check plan ≡ Fine → Reread plan r now → r ≡ Ok size → a ≡ read_of (take size now) → a ≡ reread_of plan
unfolding reread_of
reread_given plan r now size a ok back e h = h ∙ back size e ∙ rw ok

-- a write into as many bytes as the longest stream has is refused for the plan's own fault, which has no offset
refused_by : (plan : Plan) (why : Refusal) (o : Outcome) → plan_check plan ≡ o
    → written_by (or_else o (unless (leb (length (stream_of plan)) longest) refusal.Room 0)) (length (stream_of plan))
    ≡ Err why → Err (at why 0) ≡ reread_of plan
unfolding reread_of
refused_by plan why (Ok u) h e =
    let fits = le-leb (length (stream_of plan)) longest (stream_sizes plan h).1 in
    let g : ◌≡◌ {A = Said ℕ} (Ok (length (stream_of plan))) (Err why) = rw fits at e in not_given (sym g)
refused_by plan why (Err refused) h e =
    let same : refused.why ≡ why = cc in
    let unread : refused.offset ≡ 0 = rw h at (plan_offset plan) in
    rw h (ap Err (rw (← same, ← unread)))

pub reread_refused : (plan : Plan) (out : List ℕ) (r : Said ℕ) (now : List ℕ) (why : Refusal) → length out ≡ longest
    → Wrote plan out r now → r ≡ Err why → Err (at why 0) ≡ reread_of plan
unfolding written_of write_check
reread_refused plan out r now why n w e =
    refused_by plan why (plan_check plan) refl (rw n at (sym w.answer ∙ e))
