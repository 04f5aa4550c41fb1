-- The rows of `records` hold, and are their entries' own contracts.
-- Assumes nothing.
use mathlib.Core.Path.{◌≡◌, refl, sym, ap, subst, ◌∙◌}
use mathlib.Core.List.{List, [], ◌∷◌, Mem, not-mem-nil}
use Prim.Native.Nat.{ℕ}
use lib.ListN.{get_or}
use Rattle.std.below.core.specs.contracts.clone.Clone+copy.TheImpl as copy
use Rattle.records.specs.declared.refusal.Refusal.{Refusal}
use Rattle.records.specs.contracts.refusal.Refusal.{the_row}
use Rattle.records.proofs.refusal.Refusal.TheLaws.{the_row_laws, the_row_copy}
use Rattle.records.specs.First.{range_check, or_else}
use Rattle.records.specs.Record.{record_check, record_check_by, over_check}
use Rattle.records.specs.Entry.{Tight, contract, Plain, ValueOf, Tied}
use Rattle.records.specs.Entries.{or_else_entry, range_entry, wide_entry, kind_entry, record_entry, record_by_entry}
use Rattle.records.specs.Entries.{over_entry}
use Rattle.records.proofs.Refusals.{over_gives}
use Rattle.records.proofs.Entry.{tight_finds, tight_always, tight_equal, tie}
use Rattle.records.proofs.or_else.Reads as or_else
use Rattle.records.proofs.check_range.Reads as check_range
use Rattle.records.proofs.wide.Reads as wide
use Rattle.records.proofs.kind_at.Reads as kind_at
use Rattle.records.proofs.check_record.Reads as check_record
use Rattle.records.proofs.check_record_by.Reads as check_record_by
use Rattle.records.proofs.check_over.Reads as check_over

-- document 01's refusals are such a type
pub refusals : Plain
refusals =
    record {
      type = the_row;
      laws = the_row_laws;
      copied = the_row_copy;
      cloned = copy.ghosts the_row;
      methods = copy.dict the_row;
      lives = refl;
    }

pub refusals_are : ValueOf refusals ≡ Refusal
unfolding refusals
refusals_are = refl

-- what a call asks of the lifetimes in such a type: there are none
none_lives : (plain : Plain) (lives : List ℕ) (x : ℕ) → Mem x plain.type.lives → Mem x lives
none_lives plain lives x m = absurd (not-mem-nil (subst (Mem x) plain.lives m))

pub or_else_tight : (E : Type 0) → Tight (or_else_entry E)
or_else_tight E = tight_equal or_else

pub or_else_tied : (p : Plain)
    → Tied (or_else_entry (ValueOf p)) (contract (or_else.Pre p.type p.laws p.copied p.cloned p.methods)
    (or_else.Post p.type p.laws p.copied p.cloned p.methods))
or_else_tied p = tie (λ a. a.0) (λ a. a.1.0) (λ r z. r) (λ κs a. none_lives p _) (λ κs a r z. refl)

pub range_tight : (E : Type 0) → Tight (range_entry E)
range_tight E = tight_equal (λ x more. range_check x more.0 more.1)

pub range_tied : (p : Plain)
    → Tied (range_entry (ValueOf p)) (contract (check_range.Pre p.type p.laws p.copied p.cloned p.methods)
    (check_range.Post p.type p.laws p.copied p.cloned p.methods))
range_tied p = tie (λ a. a.0) (λ a. (a.1.0, a.1.1.0)) (λ r z. r) (λ κs a. none_lives p _) (λ κs a r z. refl)

pub wide_tight : Tight wide_entry
wide_tight = tight_always _ (λ x more r r' is is'. is.0 ∙ sym is'.0)

pub wide_tied : Tied wide_entry (contract wide.Pre wide.Post)
wide_tied = tie (λ a. a.0) (λ a. tt) (λ r z. r) (λ κs a. tt) (λ κs a r z. refl)

pub kind_tight : Tight kind_entry
kind_tight = tight_equal (λ s at. get_or s at 0)

pub kind_tied : Tied kind_entry (contract kind_at.Pre kind_at.Post)
kind_tied = tie (λ a. a.0.now) (λ a. a.1.0) (λ r z. r) (λ κs a. tt) (λ κs a r z. refl)

pub record_tight : Tight record_entry
record_tight = tight_equal (λ s more. record_check s more.0 more.1 more.2)

pub record_tied : Tied record_entry (contract check_record.Pre check_record.Post)
record_tied = tie (λ a. a.0.now) (λ a. (a.1.0, a.1.1.0, a.1.1.1.0)) (λ r z. r) (λ κs a. tt) (λ κs a r z. refl)

pub record_by_tight : (E : Type 0) → Tight (record_by_entry E)
record_by_tight E = tight_equal (λ s more. record_check_by s more.0 more.1 more.2 more.3)

pub record_by_tied : (p : Plain)
    → Tied (record_by_entry (ValueOf p)) (contract (check_record_by.Pre p.type p.laws p.copied p.cloned p.methods)
    (check_record_by.Post p.type p.laws p.copied p.cloned p.methods))
record_by_tied p =
    tie (λ a. a.0.now) (λ a. (a.1.0, a.1.1.0, a.1.1.1.0, a.1.1.1.1.0)) (λ r z. r) (λ κs a. none_lives p _)
    (λ κs a r z. refl)

pub over_tight : Tight over_entry
over_tight =
    tight_finds (λ s t. s ≡ t) (λ offset. offset) over_check (4 ∷ []) (λ s at k offset e. e)
    (λ s at. over_gives (4 ∷ []) s at refl) refl (λ s t e at. ap (λ v. over_check v at) e)

pub over_tied : Tied over_entry (contract check_over.Pre check_over.Post)
over_tied = tie (λ a. a.0.now) (λ a. a.1.0) (λ r z. r) (λ κs a. tt) (λ κs a r z. refl)
