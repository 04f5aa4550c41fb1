-- Laws of a plan stream's records and their places: what a kind is, what decides a record's check, what a record that
-- passes says, and where the next one stands.
-- Assumes nothing.
use mathlib.Core.Path.{◌≡◌, refl, ap, sym, ◌∙◌}
use mathlib.Core.Bool.{Bool, true, false}
use mathlib.Core.List.{List}
use mathlib.Core.Logic.{◌≢◌, ⊎_elim}
use Prim.Native.Nat.{ℕ, zero, suc, ◌+◌, ◌-◌, ◌*◌, ◌≤◌, ◌<◌, max}
use native.Mathlib.Numerals.{add-one}
use native.Mathlib.Omega.{arith}
use lib.Dec.{eqb}
use lib.ListN.{length, get_or, take, drop, length-take}
use lib.Seq.{get_or-take, get_or-drop}
use borrow.Author.Tests.{eqb-true, lt-ltb, le-leb, lt-leb, ne_eqb}
use Rattle.records.specs.declared.refusal.Refusal.TheVariants as refusal
use Rattle.records.specs.First.{pick, first_of, Outcome, Fine}
use Rattle.std.specs.Prelude.{Ok, Err}
use Rattle.records.specs.Record.{record_check}
use Rattle.records.proofs.Checks.{not_fine, both_fine, unless_fine, range_fine, first_fine, first_same, record_fine}
use Rattle.records.proofs.Checks.{below_or_not, record_pass, record_body, over_fine}
use Rattle.plan.specs.Check.{owner_check}
use Rattle.plan.proofs.Laws.{Required, client_fine, owner_higher}
use Rattle.stream.specs.Kind.{head_kind, client_kind, row_kind, end_kind, body_of, whole_of, is_reserved, kind_check}
use Rattle.stream.specs.Kind.{rows_of}
use Rattle.stream.specs.Read.{f_in, n_in, next_place, place, due_check, head_record_check, client_at, number_check}
use Rattle.stream.specs.Read.{client_record_check, client_due_check, slot_check, slot_due_check, row_record_check}
use Rattle.stream.specs.Read.{row_due_check, end_record_check, to_clients, to_rows, to_end, rest_check, read_check}

-- ---- what a kind is

-- 1, 2 and 3 are known, and not due where another kind is
pub class_low : (due kind : ℕ) → kind ≢ 0 → kind < 4 → kind ≢ due → kind_check due kind ≡ Err refusal.NotDue
unfolding kind_check
class_low due kind some low other =
    simp (ne_eqb kind 0 some, lt-leb 4 kind low, lt-leb 10 kind (omega arith), ne_eqb kind due other)

-- from 4 on all are reserved but 9
pub class_high : (due kind : ℕ) → 4 ≤ kind → kind ≢ 9 → kind_check due kind ≡ Err refusal.Reserved
unfolding kind_check
class_high due kind high other =
    let some = ne_eqb kind 0 (λ e. omega (arith, e)) in
    ⊎_elim
    (λ (l : kind < 9). simp (some, le-leb 4 kind high, le-leb kind 8 (omega arith)))
    (λ (l : 9 ≤ kind). simp (some, le-leb 4 kind high, lt-leb kind 8 (omega arith), le-leb 10 kind (omega arith)))
    (below_or_not kind 9)

-- ---- a record where a kind is due

-- it has that kind, and stands whole
pub record Whole (s : List ℕ) (at kind : ℕ) : Type 0 where
  pub found : get_or s at 0 ≡ kind
  pub room : at + whole_of kind ≤ length s

kind_by : (r e : Bool) → pick r (Err refusal.Reserved) (pick e (Ok tt) (Err refusal.NotDue)) ≡ Fine → e ≡ true
kind_by true e h = not_fine h
kind_by false true h = refl
kind_by false false h = not_fine h

kind_due : (due kind : ℕ) → kind_check due kind ≡ Fine → kind ≡ due
unfolding kind_check
kind_due due kind h = eqb-true kind due (kind_by (is_reserved kind) (eqb kind due) h)

-- a record's length matters only where its kind is the one due
pub due_body : (s : List ℕ) (at due : ℕ)
    → record_check s at (kind_check due (get_or s at 0)) (body_of due) ≡ due_check s at due
unfolding due_check
due_body s at due =
    let kind = get_or s at 0 in
    record_body s at (kind_check due kind) (body_of due) (body_of kind) refusal.Ended
    (λ e. ap body_of (sym (kind_due due kind e)))

pub due_fine : (s : List ℕ) (at due : ℕ) → due_check s at due ≡ Fine → Whole s at due
unfolding due_check
due_fine s at due h =
    let a = record_fine s at (kind_check due (get_or s at 0)) (body_of (get_or s at 0)) refusal.Ended h in
    let k : get_or s at 0 ≡ due = kind_due due (get_or s at 0) a.0 in
    record { found = k; room = rw k at a.1 }

-- the same of what a check found, v
pub due_found : (s : List ℕ) (at due : ℕ) {v : Outcome} → v ≡ due_check s at due → v ≡ Fine → Whole s at due
due_found s at due e h = due_fine s at due (sym e ∙ h)

pub due_pass : (s : List ℕ) (at due : ℕ) → kind_check due due ≡ Fine → Whole s at due → due_check s at due ≡ Fine
unfolding due_check
due_pass s at due e w = rw w.found (record_pass s at (kind_check due due) (body_of due) refusal.Ended e w.room)

-- ---- places

-- the record after one of this kind
pub next_whole : (s : List ℕ) (at kind : ℕ) → get_or s at 0 ≡ kind → next_place s at ≡ at + whole_of kind
unfolding next_place
next_whole s at kind h = rw h

-- records of one kind are of one length
place_whole : (s : List ℕ) (at kind k : ℕ) → ((i : ℕ) → i < k → get_or s (place s at i) 0 ≡ kind)
    → place s at k ≡ at + whole_of kind * k
unfolding place
place_whole s at kind zero h = omega arith
place_whole s at kind (suc k) h =
    next_whole s (place s at k) kind (h k (omega arith))
    ∙ omega (arith, place_whole s at kind k (λ i l. h i (omega arith)))

-- ---- what each record says that passes

-- the head's: f is 1 to 64, n is 1 to 8
pub record HeadFine (s : List ℕ) : Type 0 where
  pub whole : Whole s 0 head_kind
  pub f_low : 1 ≤ f_in s
  pub f_high : f_in s ≤ 64
  pub n_low : 1 ≤ n_in s
  pub n_high : n_in s ≤ 8

pub head_fine : (s : List ℕ) → head_record_check s ≡ Fine → HeadFine s
unfolding head_record_check
head_fine s h =
    let a = both_fine _ _ h in
    let b = both_fine _ _ a.1 in
    let f = range_fine (f_in s) 64 refusal.Frame b.0 in
    let n = range_fine (n_in s) 8 refusal.Count b.1 in
    record { whole = due_fine s 0 head_kind a.0; f_low = f.0; f_high = f.1; n_low = n.0; n_high = n.1 }

-- the same of what a check found, v
pub head_found : (s : List ℕ) {v : Outcome} → v ≡ head_record_check s → v ≡ Fine → HeadFine s
head_found s e h = head_fine s (sym e ∙ h)

-- where the clients begin
pub to_clients_lem : (s : List ℕ) → HeadFine s → to_clients s ≡ whole_of head_kind
to_clients_lem s h = next_whole s 0 head_kind h.whole.found

-- a client's: its number is the next one, and its requirements pass
pub record ClientFine (s : List ℕ) (at number : ℕ) : Type 0 where
  pub whole : Whole s at client_kind
  pub numbered : get_or s (at + 1) 0 ≡ number
  pub required : Required (client_at s at)

number_fine : (found number at : ℕ) → number_check found number at ≡ Fine → found ≡ number
unfolding number_check
number_fine found number at h = eqb-true found number (unless_fine _ _ _ h)

pub client_read_fine : (s : List ℕ) (at number : ℕ) → client_record_check s at number ≡ Fine → ClientFine s at number
unfolding client_record_check
client_read_fine s at number h =
    let a = both_fine _ _ h in
    let b = both_fine _ _ a.1 in
    record {
      whole = due_fine s at client_kind a.0;
      numbered = number_fine (get_or s (at + 1) 0) number at b.0;
      required = client_fine (client_at s at) at b.1;
    }

-- each of n clients' records, where all pass
pub clients_fine : (s : List ℕ) (at n : ℕ) → first_of (client_due_check s at) n ≡ Fine → (i : ℕ) → i < n
    → ClientFine s (place s at i) (i + 1)
unfolding client_due_check
clients_fine s at n h i l = client_read_fine s (place s at i) (i + 1) (first_fine (client_due_check s at) n h i l)

-- and where they stand
pub place_clients : (s : List ℕ) (at n : ℕ) → first_of (client_due_check s at) n ≡ Fine → (i : ℕ) → i ≤ n
    → place s at i ≡ at + whole_of client_kind * i
place_clients s at n h i l =
    place_whole s at client_kind i (λ j k. (clients_fine s at n h j (omega arith)).whole.found)

-- the next one stands past those that pass
pub client_next : (s : List ℕ) (at i : ℕ) {v : Outcome} → first_of (client_due_check s at) i ≡ Fine
    → v ≡ client_record_check s (at + whole_of client_kind * i) (i + 1) → v ≡ client_due_check s at i
unfolding client_due_check
client_next s at i h e = rw (place_clients s at i h i (omega arith)) e

-- a row's: its eight slots pass
pub record RowFine (s : List ℕ) (f n at j : ℕ) : Type 0 where
  pub whole : Whole s at row_kind
  pub slots : first_of (slot_due_check s f n at j) 8 ≡ Fine

-- the owners of a row, checked one more: the highest so far decides
pub owners_more : (g : ℕ → ℕ) (n at t highest : ℕ) {r : ℕ}
    → first_of (λ i. owner_check (g i) n at) t ≡ owner_check highest n at → r ≡ max highest (g t)
    → first_of (λ i. owner_check (g i) n at) (t + 1) ≡ owner_check r n at
unfolding first_of
owners_more g n at t highest h e = rw (add-one, h, e) (owner_higher highest (g t) n at)

-- the eight bytes of a row, taken by themselves
pub row_bytes : (s : List ℕ) (at t : ℕ) → t < length (take (at + 9 - (at + 1)) (drop (at + 1) s))
    → get_or (take (at + 9 - (at + 1)) (drop (at + 1) s)) t 0 ≡ get_or s (at + (1 + t)) 0
row_bytes s at t h =
    let e : at + 1 + t ≡ at + (1 + t) = omega arith in
    let here = get_or-take (at + 9 - (at + 1)) (drop (at + 1) s) t 0 (omega (arith, length-take {A = ℕ})) in
    rw (here, get_or-drop (at + 1) s t 0, e)

-- a row with no place past f holds owners alone
pub full_row : (s : List ℕ) (f n at j : ℕ) → 8 * j + 8 ≤ f
    → first_of (λ t. owner_check (get_or s (at + (1 + t)) 0) n at) 8 ≡ first_of (slot_due_check s f n at j) 8
unfolding slot_due_check slot_check
full_row s f n at j h = first_same _ (slot_due_check s f n at j) 8 (λ t l. rw (lt-ltb (8 * j + t) f (omega arith)))

pub row_read_fine : (s : List ℕ) (f n at j : ℕ) → row_record_check s f n at j ≡ Fine → RowFine s f n at j
unfolding row_record_check
row_read_fine s f n at j h = let a = both_fine _ _ h in record { whole = due_fine s at row_kind a.0; slots = a.1 }

-- each of m rows, where all pass
pub rows_fine : (s : List ℕ) (f n at m : ℕ) → first_of (row_due_check s f n at) m ≡ Fine → (j : ℕ) → j < m
    → RowFine s f n (place s at j) j
unfolding row_due_check
rows_fine s f n at m h j l = row_read_fine s f n (place s at j) j (first_fine (row_due_check s f n at) m h j l)

-- and where they stand
pub place_rows : (s : List ℕ) (f n at m : ℕ) → first_of (row_due_check s f n at) m ≡ Fine → (j : ℕ) → j ≤ m
    → place s at j ≡ at + whole_of row_kind * j
place_rows s f n at m h j l =
    place_whole s at row_kind j (λ i k. (rows_fine s f n at m h i (omega arith)).whole.found)

-- the next one stands past those that pass
pub row_next : (s : List ℕ) (f n at j : ℕ) {v : Outcome} → first_of (row_due_check s f n at) j ≡ Fine
    → v ≡ row_record_check s f n (at + whole_of row_kind * j) j → v ≡ row_due_check s f n at j
unfolding row_due_check
row_next s f n at j h e = rw (place_rows s f n at j h j (omega arith)) e

-- ---- a stream that passes

-- what follows the head: the clients, the rows, and an end record that is the last
pub record RestFine (s : List ℕ) (f n : ℕ) : Type 0 where
  pub clients : first_of (client_due_check s (to_clients s)) n ≡ Fine
  pub rows : first_of (row_due_check s f n (to_rows s n)) (rows_of f) ≡ Fine
  pub end : Whole s (to_end s f n) end_kind
  pub last : length s ≤ to_end s f n + whole_of end_kind

pub rest_fine : (s : List ℕ) (f n : ℕ) → rest_check s f n ≡ Fine → RestFine s f n
unfolding rest_check end_record_check
rest_fine s f n h =
    let a = both_fine _ _ h in
    let b = both_fine _ _ a.1 in
    let d = both_fine _ _ b.1 in
    let w = due_fine s (to_end s f n) end_kind d.0 in
    record {
      clients = a.0;
      rows = b.0;
      end = w;
      last = rw (next_whole s (to_end s f n) end_kind w.found) at (over_fine s (next_place s (to_end s f n)) d.1);
    }

-- all of it
pub record ReadFine (s : List ℕ) : Type 0 where
  pub head : HeadFine s
  pub rest : RestFine s (f_in s) (n_in s)

pub read_fine : (s : List ℕ) → read_check s ≡ Fine → ReadFine s
unfolding read_check
read_fine s h =
    let a = both_fine _ _ h in
    record { head = head_fine s a.0; rest = rest_fine s (f_in s) (n_in s) a.1 }

-- where its rows begin
pub to_rows_lem : (s : List ℕ) → ReadFine s → to_rows s (n_in s) ≡ whole_of head_kind + whole_of client_kind * n_in s
to_rows_lem s z =
    place_clients s (to_clients s) (n_in s) z.rest.clients (n_in s) (omega arith)
    ∙ ap (λ (k : ℕ). k + whole_of client_kind * n_in s) (to_clients_lem s z.head)
