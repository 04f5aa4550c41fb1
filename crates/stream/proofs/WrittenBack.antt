-- A stream that is read is written back byte for byte, and its plan passes the plan's own checks. Each record of the
-- plan's stream is the part of s that it was read from, and the parts in order make up s.
-- Assumes nothing.
use mathlib.Core.Path.{◌≡◌, ap, sym, ◌∙◌}
use mathlib.Core.List.{List, [], ◌∷◌, ◌++◌, append_assoc, append-nil}
use mathlib.Core.Logic.{⊎_elim}
use Prim.Native.Nat.{ℕ, ◌+◌, ◌*◌, ◌/◌, ◌%◌, ◌≤◌, ◌<◌}
use native.Mathlib.Nat.{add_assoc, add-zero}
use native.Mathlib.Omega.{arith}
use lib.Dec.{ltb, eqb}
use lib.ListN.{drop, get_or, drop_of_length-le}
use borrow.Author.Tests.{lt-ltb, le-ltb, eqb-true}
use Rattle.records.specs.declared.refusal.Refusal.TheVariants as refusal
use Rattle.records.specs.First.{pick, unless, Fine}
use Rattle.records.specs.Pieces.{many, firsts, part}
use Rattle.records.proofs.Checks.{below_or_not, unless_fine, first_fine}
use Rattle.records.proofs.Lists.{firsts_same, get_padded}
use Rattle.records.proofs.Parts.{part_run, part_rest, many_part}
use Rattle.records.proofs.Words.{Bytes, word_high, word_low}
use Rattle.plan.specs.Plan.{no_client, client_of, owner_of}
use Rattle.plan.specs.Check.{plan_check}
use Rattle.plan.proofs.Laws.{Checked, owner_fine, plan_pass}
use Rattle.stream.specs.Kind.{head_kind, client_kind, row_kind, end_kind, whole_of, rows_of}
use Rattle.stream.specs.Read.{f_in, n_in, place, client_at, slot_check, slot_due_check, to_clients, to_rows, to_end}
use Rattle.stream.specs.Read.{read_check, client_in, owner_in, plan_of}
use Rattle.stream.specs.Write.{head_record, client_bytes, client_record, slot_byte, row_byte, row_record, stream_of}
use Rattle.stream.proofs.Records.{ClientFine, RowFine, ReadFine, next_whole, clients_fine, rows_fine, read_fine}
use Rattle.stream.proofs.Lengths.{length_client, length_row}

-- ---- one record

-- a client's record is the record of the client read from it
client_back : (s : List ℕ) (at number : ℕ) → Bytes s → ClientFine s at number
    → part s at (whole_of client_kind) ≡ client_bytes number (client_at s at)
unfolding client_bytes client_at
client_back s at number b f =
    let found : get_or s (at + 0) 0 ≡ client_kind = ap (λ (x : ℕ). get_or s x 0) (add-zero at) ∙ f.whole.found in
    let numbered = f.numbered in
    part_run s at (whole_of client_kind) f.whole.room
    ∙ simp (found, numbered, word_high s b, word_low s b) (simp add_assoc)

-- what passes as the byte of a slot: its owner, or 255 past f
slot_back : (f n x byte at : ℕ) → slot_check f n x byte at ≡ Fine → pick (ltb x f) byte 255 ≡ byte
unfolding slot_check
slot_back f n x byte at h =
    ⊎_elim
    (λ (l : x < f). simp (lt-ltb x f l))
    (λ (l : f ≤ x).
    let past : unless (eqb byte 255) refusal.PastFrame at ≡ Fine = rw (le-ltb x f l) at h in
    simp (le-ltb x f l) (sym (eqb-true byte 255 (unless_fine _ _ _ past))))
    (below_or_not x f)

-- ---- a stream that passes

module _ (s : List ℕ) (z : ReadFine s) where
  client_in_lem : (i : ℕ) → i < n_in s → client_of (plan_of s) i ≡ client_at s (place s (to_clients s) i)
  unfolding plan_of client_in
  client_in_lem i l = get_padded (client_in s (to_clients s)) (n_in s) 8 no_client i l

  owner_in_lem : (x : ℕ) → x < f_in s
      → owner_of (plan_of s) x ≡ get_or s (place s (to_rows s (n_in s)) (x / 8) + (1 + x % 8)) 0
  unfolding plan_of owner_in
  owner_in_lem x l = get_padded (owner_in s (to_rows s (n_in s))) (f_in s) 64 0 x l

  -- row j of the rows
  row : (j : ℕ) → j < rows_of (f_in s) → RowFine s (f_in s) (n_in s) (place s (to_rows s (n_in s)) j) j
  row j l = rows_fine s (f_in s) (n_in s) (to_rows s (n_in s)) (rows_of (f_in s)) z.rest.rows j l

  clients_back : Bytes s
      → many (client_record (plan_of s)) (n_in s) ++ drop (to_rows s (n_in s)) s ≡ drop (to_clients s) s
  unfolding client_record place
  clients_back b =
      many_part (client_record (plan_of s)) s (place s (to_clients s)) (n_in s)
      (λ (i : ℕ) (l : i < n_in s).
      let at : ℕ = place s (to_clients s) i in
      let c = clients_fine s (to_clients s) (n_in s) z.rest.clients i l in
      let same : client_bytes (i + 1) (client_at s at) ≡ client_bytes (i + 1) (client_of (plan_of s) i) =
      ap (client_bytes (i + 1)) (sym (client_in_lem i l)) in
      let w = length_client (i + 1) (client_of (plan_of s) i) in (
        next_whole s at client_kind c.whole.found ∙ ap (λ (k : ℕ). at + k) (sym w),
        ap (part s at) w ∙ client_back s at (i + 1) b c ∙ same,
      ))

  slots_back : (j t : ℕ) → j < rows_of (f_in s) → t < 8
      → row_byte (plan_of s) j t ≡ get_or s (place s (to_rows s (n_in s)) j + (1 + t)) 0
  unfolding row_byte slot_byte slot_due_check plan_of
  slots_back j t l m =
      let f = f_in s in
      let n = n_in s in
      let at : ℕ = place s (to_rows s n) j in
      let x : ℕ = 8 * j + t in
      let byte : ℕ = get_or s (at + (1 + t)) 0 in
      let c = slot_back f n x byte at (first_fine (slot_due_check s f n at j) 8 (row j l).slots t m) in
      ⊎_elim
      (λ (y : x < f).
      let d : x / 8 ≡ j = omega arith in
      let r : x % 8 ≡ t = omega arith in
      simp (lt-ltb x f y) (owner_in_lem x y ∙ rw (d, r)))
      (λ (y : f ≤ x). simp (le-ltb x f y) (rw (le-ltb x f y) at c))
      (below_or_not x f)

  row_back : (j : ℕ) → j < rows_of (f_in s)
      → part s (place s (to_rows s (n_in s)) j) (whole_of row_kind) ≡ row_record (plan_of s) j
  unfolding row_record firsts
  row_back j l =
      let at : ℕ = place s (to_rows s (n_in s)) j in
      let w = (row j l).whole in
      let found : get_or s (at + 0) 0 ≡ row_kind = ap (λ (x : ℕ). get_or s x 0) (add-zero at) ∙ w.found in
      let slots : firsts (λ (t : ℕ). get_or s (at + (1 + t)) 0) 8 ≡ firsts (row_byte (plan_of s) j) 8 =
      firsts_same (λ (t : ℕ). get_or s (at + (1 + t)) 0) (row_byte (plan_of s) j) 8 (λ t m. sym (slots_back j t l m)) in
      part_run s at (whole_of row_kind) w.room
      ∙ ap (λ (k : ℕ). k ∷ firsts (λ (t : ℕ). get_or s (at + (1 + t)) 0) 8) found
      ∙ ap (λ (r : List ℕ). row_kind ∷ r) slots

  rows_back : many (row_record (plan_of s)) (rows_of (f_in s)) ++ drop (to_end s (f_in s) (n_in s)) s
      ≡ drop (to_rows s (n_in s)) s
  unfolding place
  rows_back =
      many_part (row_record (plan_of s)) s (place s (to_rows s (n_in s))) (rows_of (f_in s))
      (λ (j : ℕ) (l : j < rows_of (f_in s)).
      let at : ℕ = place s (to_rows s (n_in s)) j in
      let w = length_row (plan_of s) j in (
        next_whole s at row_kind (row j l).whole.found ∙ ap (λ (k : ℕ). at + k) (sym w),
        ap (part s at) w ∙ row_back j l,
      ))

  end_back : end_kind ∷ [] ≡ drop (to_end s (f_in s) (n_in s)) s
  end_back =
      let at : ℕ = to_end s (f_in s) (n_in s) in
      let w = z.rest.end in
      let found : get_or s (at + 0) 0 ≡ end_kind = ap (λ (x : ℕ). get_or s x 0) (add-zero at) ∙ w.found in
      let one : part s at (whole_of end_kind) ≡ end_kind ∷ [] =
      part_run s at (whole_of end_kind) w.room ∙ ap (λ (k : ℕ). k ∷ []) found in
      sym
      (sym (part_rest s at (whole_of end_kind))
      ∙ ap (λ (r : List ℕ). part s at (whole_of end_kind) ++ r) (drop_of_length-le s z.rest.last)
      ∙ append-nil (part s at (whole_of end_kind))
      ∙ one)

  head_back : head_record (plan_of s) ++ drop (to_clients s) s ≡ s
  unfolding plan_of
  head_back =
      let w = z.head.whole in
      let three : part s 0 (whole_of head_kind) ≡ head_kind ∷ f_in s ∷ n_in s ∷ [] =
      part_run s 0 (whole_of head_kind) w.room ∙ ap (λ (k : ℕ). k ∷ f_in s ∷ n_in s ∷ []) w.found in
      ap (λ (k : ℕ). head_record (plan_of s) ++ drop k s) (next_whole s 0 head_kind w.found)
      ∙ ap (λ (r : List ℕ). r ++ drop (whole_of head_kind) s) (sym three)
      ∙ part_rest s 0 (whole_of head_kind)

  stream_back : Bytes s → stream_of (plan_of s) ≡ s
  unfolding stream_of plan_of
  stream_back b =
      let plan = plan_of s in
      let head : List ℕ = head_record plan in
      let clients : List ℕ = many (client_record plan) (n_in s) in
      let rows : List ℕ = many (row_record plan) (rows_of (f_in s)) in
      let end : List ℕ = drop (to_end s (f_in s) (n_in s)) s in
      ap (λ (r : List ℕ). head ++ clients ++ rows ++ r) end_back
      ∙ append_assoc (head ++ clients) rows end
      ∙ ap (λ (r : List ℕ). head ++ clients ++ r) rows_back
      ∙ append_assoc head clients (drop (to_rows s (n_in s)) s)
      ∙ ap (λ (r : List ℕ). head ++ r) (clients_back b)
      ∙ head_back

  checked : Checked (plan_of s)
  unfolding plan_of slot_due_check slot_check
  checked =
      let f = f_in s in
      let n = n_in s in
      record {
        bounds =
            record {
              f_low = z.head.f_low;
              f_high = z.head.f_high;
              n_low = z.head.n_low;
              n_high = z.head.n_high;
              required =
                  λ (i : ℕ) (l : i < n).
                  rw (client_in_lem i l) (clients_fine s (to_clients s) n z.rest.clients i l).required;
            };
        owned =
            λ (x : ℕ) (l : x < f).
            let at : ℕ = place s (to_rows s n) (x / 8) in
            let e : 8 * (x / 8) + x % 8 ≡ x = omega arith in
            let slots = (row (x / 8) (omega arith)).slots in
            let slot = first_fine (slot_due_check s f n at (x / 8)) 8 slots (x % 8) (omega arith) in
            rw (owner_in_lem x l) (owner_fine (get_or s (at + (1 + x % 8)) 0) n at (rw (e, lt-ltb x f l) at slot));
      }

-- ---- the theorems

-- "streams read are written back byte for byte"
pub written_back : (s : List ℕ) → Bytes s → read_check s ≡ Fine → stream_of (plan_of s) ≡ s
written_back s b h = stream_back s (read_fine s h) b

-- a plan that is read passes the plan's own checks
pub plan_right : (s : List ℕ) → read_check s ≡ Fine → plan_check (plan_of s) ≡ Fine
plan_right s h = plan_pass (plan_of s) (checked s (read_fine s h))
