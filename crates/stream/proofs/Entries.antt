-- The rows of `stream` hold, and are their entries' own contracts.
-- Assumes nothing.
use mathlib.Core.Path.{◌≡◌, refl, ap, subst, ◌∙◌}
use mathlib.Core.Bool.{false}
use mathlib.Core.List.{List}
use Prim.Native.Nat.{ℕ}
use lib.ListN.{length}
use Rattle.std.specs.Prelude.{Ok, Err}
use Rattle.records.specs.First.{number_of, among, Gives, Outcome}
use Rattle.records.specs.Said.{Said, said_number}
use Rattle.records.specs.Entry.{Tight, contract, Tied}
use Rattle.records.proofs.Entry.{both, offset_none, tight_fixed, tie}
use Rattle.plan.specs.declared.Plan.{Plan}
use Rattle.plan.specs.Plan.{Same}
use Rattle.plan.specs.Check.{plan_check}
use Rattle.plan.proofs.Refusals.{plan_gives, plan_offset}
use Rattle.stream.specs.Read.{read_check, plan_if, read_of}
use Rattle.stream.specs.Write.{stream_of, write_check, written_by, written_of, bytes_by, bytes_of, Wrote}
use Rattle.stream.specs.Trip.{Rewritten, Reread, copy_check, Copied, reread_of}
use Rattle.stream.specs.Entries.{write_numbers, copy_numbers, writes, reading_number, read_entry, write_entry}
use Rattle.stream.specs.Entries.{rewritten_entry, reread_entry}
use Rattle.stream.proofs.Same.{same_wrote, same_reread, same_rereading}
use Rattle.stream.proofs.Refusals.{read_gives, write_gives, copy_gives}
use Rattle.stream.proofs.read.Reads as read
use Rattle.stream.proofs.write.Reads as write
use Rattle.stream.proofs.rewritten.Reads as rewritten
use Rattle.stream.proofs.reread.Reads as reread

written_number : (o : Outcome) (size : ℕ) → said_number (written_by o size) ≡ number_of o
written_number (Ok u) size = refl
written_number (Err refused) size = refl

-- the answer where the check finds this, and the lent output after
abbrev writing : List ℕ → List ℕ → Outcome → Said ℕ × List ℕ
writing stream out o = (written_by o (length stream), bytes_by o stream out)

-- a contract that fixes both
tight_writes : {U : Type 0} (Alike : U → U → Type 0) (Is : U → List ℕ → Said ℕ → List ℕ → Type 0)
    (check : U → ℕ → Outcome) (ks : List ℕ) (stream : U → List ℕ)
    → ((u : U) (out : List ℕ) (r : Said ℕ × List ℕ) → Is u out r.0 r.1
    → r ≡ writing (stream u) out (check u (length out)))
    → ((u : U) (room : ℕ) → Gives ks (check u room)) → among 0 ks ≡ false
    → ((u u' : U) → Alike u u' → (out : List ℕ) (r : Said ℕ × List ℕ) → Is u out r.0 r.1
    → Is u' out r.0 r.1) → Tight (writes Alike Is check ks)
tight_writes Alike Is check ks stream fixed gives nonzero same =
    tight_fixed (writes Alike Is check ks) (λ u out. writing (stream u) out (check u (length out))) fixed
    (λ u out. written_number (check u (length out)) (length (stream u)))
    (λ u out why offset. ap (writing (stream u) out)) (λ u out. gives u (length out)) nonzero same

given_number : (plan : Plan) (o : Outcome) → reading_number (plan_if o plan) ≡ number_of o
given_number plan (Ok u) = refl
given_number plan (Err refused) = refl

pub read_tight : Tight read_entry
unfolding read_of
read_tight =
    tight_fixed read_entry (λ s more. read_of s) (λ s more r is. is.0) (λ s more. given_number _ (read_check s))
    (λ s more why offset e. rw e) (λ s more. read_gives s) refl
    (λ s t e more r. subst (λ v. (r ≡ read_of v) × Rewritten v r) e)

pub read_tied : Tied read_entry (contract read.Pre read.Post)
read_tied = tie (λ a. a.0.now) (λ a. tt) (λ r z. r) (λ κs a. tt) (λ κs a r z. refl)

pub write_tight : Tight write_entry
unfolding written_of bytes_of
write_tight =
    tight_writes Same (λ plan out r now. Wrote plan out r now × Reread plan r now) write_check write_numbers stream_of
    (λ plan out r is. both is.0.answer is.0.bytes) write_gives refl
    (λ plan other same out r is.
    (same_wrote plan other same is.0, same_reread plan other same r.0 r.1 is.1))

pub write_tied : Tied write_entry (contract write.Pre write.Post)
write_tied =
    tie (λ a. a.0) (λ a. a.1.0.now) (λ r z. (r, z.1.0.now)) (λ κs a. tt) (λ κs a r z. refl)

pub rewritten_tight : Tight rewritten_entry
rewritten_tight =
    tight_writes (λ s t. s ≡ t) Copied copy_check copy_numbers (λ s. s) (λ s out r is. both is.answer is.bytes)
    copy_gives refl (λ s t e out r. subst (λ v. Copied v out r.0 r.1) e)

pub rewritten_tied : Tied rewritten_entry (contract rewritten.Pre rewritten.Post)
rewritten_tied =
    tie (λ a. a.0.now) (λ a. a.1.0.now) (λ r z. (r, z.1.0.now)) (λ κs a. tt) (λ κs a r z. refl)

pub reread_tight : Tight reread_entry
unfolding reread_of
reread_tight =
    tight_fixed reread_entry (λ plan more. reread_of plan) (λ plan more r is. is)
    (λ plan more. given_number _ (plan_check plan))
    (λ plan more why offset e. rw (offset_none (plan_check plan) (plan_offset plan) e))
    (λ plan more. plan_gives plan) refl
    (λ plan other same more r is. is ∙ same_rereading plan other same)

pub reread_tied : Tied reread_entry (contract reread.Pre reread.Post)
reread_tied = tie (λ a. a.0) (λ a. tt) (λ r z. r) (λ κs a. tt) (λ κs a r z. refl)
