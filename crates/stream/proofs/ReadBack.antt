-- A plan that is written is read back: the same plan, 0 past f and past n. Each record stands in the stream where the
-- records before it end, so every check passes there and every number is found there.
-- Assumes nothing.
use mathlib.Core.Path.{◌≡◌, refl, ap, sym, ◌∙◌}
use mathlib.Core.List.{List, [], ◌∷◌, ◌++◌, append_assoc, append-nil}
use mathlib.Core.Logic.{⊎_elim}
use Prim.Native.Nat.{ℕ, zero, suc, ◌+◌, ◌*◌, ◌/◌, ◌%◌, ◌≤◌, ◌<◌}
use native.Mathlib.Numerals.{one-add}
use native.Mathlib.Omega.{arith}
use lib.ListN.{length, get_or, length-append}
use lib.Seq.{get_or_at}
use borrow.Author.Tests.{lt-ltb, le-ltb, eq-eqb}
use Rattle.records.specs.declared.refusal.Refusal.TheVariants as refusal
use Rattle.std.specs.Prelude.{Ok}
use Rattle.records.specs.First.{first_of, Fine}
use Rattle.records.specs.Pieces.{many, firsts, part}
use Rattle.records.specs.Record.{over_check}
use Rattle.records.proofs.Checks.{below_or_not, range_pass, first_all, over_pass}
use Rattle.records.proofs.Lists.{get_firsts, padded_same}
use Rattle.records.proofs.Parts.{part_get, part_first, part_many, many_room}
use Rattle.records.proofs.Words.{word_same}
use Rattle.plan.specs.declared.Client.{Client}
use Rattle.plan.specs.declared.Plan.{Plan}
use Rattle.plan.specs.Plan.{no_client, client_of, owner_of, used}
use Rattle.plan.specs.Check.{frame_check, count_check, client_check, plan_check}
use Rattle.plan.proofs.Laws.{Checked, Required, client_pass, owner_pass, plan_fine}
use Rattle.stream.specs.Kind.{head_kind, client_kind, row_kind, end_kind, whole_of, kind_check, rows_of}
use Rattle.stream.specs.Read.{next_place, place, due_check, head_record_check, client_at, number_check}
use Rattle.stream.specs.Read.{client_record_check, client_due_check, slot_check, slot_due_check, row_record_check}
use Rattle.stream.specs.Read.{row_due_check, end_record_check, to_clients, to_rows, to_end, rest_check, read_check}
use Rattle.stream.specs.Read.{client_in, owner_in, plan_of, read_of}
use Rattle.stream.specs.Trip.{Words, Held}
use Rattle.stream.specs.Write.{head_record, client_bytes, client_record, slot_byte, row_byte, row_record, stream_of}
use Rattle.stream.proofs.Records.{Whole, due_pass, next_whole}
use Rattle.stream.proofs.Lengths.{length_client, length_row, length_parts}

-- ---- a record that stands in a stream

-- the bytes r at the place at of s
pub record Stands (s : List ℕ) (at : ℕ) (r : List ℕ) : Type 0 where
  pub bytes : part s at (length r) ≡ r
  pub room : at + length r ≤ length s

-- a byte of it
byte : (s : List ℕ) (at : ℕ) (r : List ℕ) → Stands s at r → (t : ℕ) → t < length r → get_or s (at + t) 0 ≡ get_or r t 0
byte s at r h t l = part_get s at (length r) r h.bytes t l

-- its kind, where it is as long as its kind says
whole : (s : List ℕ) (at kind : ℕ) (r : List ℕ) → Stands s at r → get_or r 0 0 ≡ kind → length r ≡ whole_of kind
    → Whole s at kind
whole s at kind r h e n =
    record {
      found = part_first s at (length r) r h.bytes (omega (arith, n)) ∙ e;
      room = rw n at h.room;
    }

-- each of many records, where the ones before it end
stands_many : (a r : List ℕ) (g : ℕ → List ℕ) (n i : ℕ) → i < n
    → Stands (a ++ (many g n ++ r)) (length (a ++ many g i)) (g i)
stands_many a r g n i l = record { bytes = part_many a r g n i l; room = many_room a r g n i l }

-- records that are each as long as their kind says follow one another as `place` has it
place_many : (a r : List ℕ) (g : ℕ → List ℕ) (n : ℕ) → ((i : ℕ) → length (g i) ≡ whole_of (get_or (g i) 0 0))
    → (i : ℕ) → i ≤ n → place (a ++ (many g n ++ r)) (length a) i ≡ length (a ++ many g i)
unfolding place many
place_many a r g n w zero l = ap length (sym (append-nil a))
place_many a r g n w (suc i) l =
    let s : List ℕ = a ++ (many g n ++ r) in
    let h = stands_many a r g n i (omega arith) in
    let found = (whole s (length (a ++ many g i)) (get_or (g i) 0 0) (g i) h refl (w i)).found in
    ap (next_place s) (place_many a r g n w i (omega arith))
    ∙ next_whole s (length (a ++ many g i)) (get_or (g i) 0 0) found
    ∙ simp length-append (omega (arith, w i))

-- ---- a client's record

client_same : (s : List ℕ) (at number : ℕ) (c : Client) → Stands s at (client_bytes number c) → Words c
    → client_at s at ≡ c
unfolding client_bytes client_at
client_same s at number c h w =
    let b : (t : ℕ) → t < whole_of client_kind → get_or s (at + t) 0 ≡ get_or (client_bytes number c) t 0 =
    byte s at (client_bytes number c) h in
    let p = word_same s at 2 c.p (b 2 (omega arith)) (b 3 (omega arith)) w.p in
    let q = word_same s at 4 c.q (b 4 (omega arith)) (b 5 (omega arith)) w.q in
    let a = word_same s at 6 c.a (b 6 (omega arith)) (b 7 (omega arith)) w.a in
    let d = word_same s at 8 c.b (b 8 (omega arith)) (b 9 (omega arith)) w.b in
    rw (p, q, a, d)

client_forth : (s : List ℕ) (at number : ℕ) (c : Client) → Stands s at (client_bytes number c) → Words c → Required c
    → client_record_check s at number ≡ Fine
unfolding client_record_check client_bytes kind_check number_check
client_forth s at number c h w r =
    let due : due_check s at client_kind ≡ Fine =
    due_pass s at client_kind refl (whole s at client_kind (client_bytes number c) h refl (length_client number c)) in
    let next : number_check (get_or s (at + 1) 0) number at ≡ Fine =
    simp (eq-eqb (get_or s (at + 1) 0) number (byte s at (client_bytes number c) h 1 (omega arith))) in
    let required : client_check (client_at s at) at ≡ Fine = rw (client_same s at number c h w) (client_pass c at r) in
    simp (due, next, required)

-- ---- a row

slot_same : (plan : Plan) (s : List ℕ) (at j t : ℕ) → Stands s at (row_record plan j) → t < 8
    → get_or s (at + (1 + t)) 0 ≡ row_byte plan j t
unfolding row_record
slot_same plan s at j t h l =
    byte s at (row_record plan j) h (1 + t) (omega (arith, length_row plan j))
    ∙ ap (λ (x : ℕ). get_or (row_record plan j) x 0) (one-add t)
    ∙ ap (λ (x : List ℕ). get_or x t 0) (sym (append-nil (firsts (row_byte plan j) 8)))
    ∙ get_firsts (row_byte plan j) 0 [] 8 t l

slot_forth : (plan : Plan) (s : List ℕ) (at j t : ℕ) → Checked plan → Stands s at (row_record plan j) → t < 8
    → slot_due_check s plan.f plan.n at j t ≡ Fine
unfolding slot_due_check slot_check row_byte slot_byte
slot_forth plan s at j t ok h l =
    let x : ℕ = 8 * j + t in
    let e = slot_same plan s at j t h l in
    ⊎_elim
    (λ (y : x < plan.f).
    let own : get_or s (at + (1 + t)) 0 ≡ owner_of plan x = rw (lt-ltb x plan.f y) at e in
    rw (lt-ltb x plan.f y, own) (owner_pass (owner_of plan x) plan.n at (ok.owned x y)))
    (λ (y : plan.f ≤ x). simp (le-ltb x plan.f y, e))
    (below_or_not x plan.f)

row_forth : (plan : Plan) (s : List ℕ) (at j : ℕ) → Checked plan → Stands s at (row_record plan j)
    → row_record_check s plan.f plan.n at j ≡ Fine
unfolding row_record_check row_record kind_check
row_forth plan s at j ok h =
    let due : due_check s at row_kind ≡ Fine =
    due_pass s at row_kind refl (whole s at row_kind (row_record plan j) h refl (length_row plan j)) in
    let slots : first_of (slot_due_check s plan.f plan.n at j) 8 ≡ Fine =
    first_all (slot_due_check s plan.f plan.n at j) 8 (λ t l. slot_forth plan s at j t ok h l) in
    simp (due, slots)

-- ---- the stream of a plan that passes

module _ (plan : Plan) (ok : Checked plan) (held : Held plan) where
  front : List ℕ
  front = head_record plan ++ many (client_record plan) plan.n

  rows : List ℕ
  rows = many (row_record plan) (rows_of plan.f)

  f_at : get_or (stream_of plan) 1 0 ≡ plan.f
  unfolding stream_of
  f_at = refl

  n_at : get_or (stream_of plan) 2 0 ≡ plan.n
  unfolding stream_of
  n_at = refl

  -- where the clients' records stand
  from_clients : stream_of plan ≡ head_record plan ++ (many (client_record plan) plan.n ++ (rows ++ (end_kind ∷ [])))
  unfolding stream_of rows
  from_clients =
      ap (λ (r : List ℕ). head_record plan ++ r) (append_assoc (many (client_record plan) plan.n) rows (end_kind ∷ []))

  clients_at : to_clients (stream_of plan) ≡ length (head_record plan)
  unfolding stream_of next_place
  clients_at = refl

  client_place : (i : ℕ) → i ≤ plan.n
      → place (stream_of plan) (to_clients (stream_of plan)) i
      ≡ length (head_record plan ++ many (client_record plan) i)
  unfolding client_record client_bytes
  client_place i l =
      ap (λ (k : ℕ). place (stream_of plan) k i) clients_at
      ∙ ap (λ (s : List ℕ). place s (length (head_record plan)) i) from_clients
      ∙ place_many (head_record plan) (rows ++ (end_kind ∷ [])) (client_record plan) plan.n (λ k. refl) i l

  client_stands : (i : ℕ) → i < plan.n
      → Stands (stream_of plan) (place (stream_of plan) (to_clients (stream_of plan)) i) (client_record plan i)
  client_stands i l =
      rw (client_place i (omega arith), from_clients)
      (stands_many (head_record plan) (rows ++ (end_kind ∷ [])) (client_record plan) plan.n i l)

  -- where the rows stand
  from_rows : stream_of plan ≡ front ++ (rows ++ (end_kind ∷ []))
  unfolding stream_of front rows
  from_rows = append_assoc front rows (end_kind ∷ [])

  rows_at : to_rows (stream_of plan) plan.n ≡ length front
  unfolding front
  rows_at = client_place plan.n (omega arith)

  row_place : (j : ℕ) → j ≤ rows_of plan.f
      → place (stream_of plan) (to_rows (stream_of plan) plan.n) j ≡ length (front ++ many (row_record plan) j)
  unfolding row_record firsts rows
  row_place j l =
      ap (λ (k : ℕ). place (stream_of plan) k j) rows_at
      ∙ ap (λ (s : List ℕ). place s (length front) j) from_rows
      ∙ place_many front (end_kind ∷ []) (row_record plan) (rows_of plan.f) (λ k. refl) j l

  row_stands : (j : ℕ) → j < rows_of plan.f
      → Stands (stream_of plan) (place (stream_of plan) (to_rows (stream_of plan) plan.n) j) (row_record plan j)
  unfolding rows
  row_stands j l =
      rw (row_place j (omega arith), from_rows) (stands_many front (end_kind ∷ []) (row_record plan)
      (rows_of plan.f) j l)

  -- where the end record stands
  end_at : to_end (stream_of plan) plan.f plan.n ≡ length (front ++ rows)
  unfolding rows
  end_at = row_place (rows_of plan.f) (omega arith)

  end_length : length (stream_of plan) ≡ to_end (stream_of plan) plan.f plan.n + whole_of end_kind
  unfolding stream_of front rows
  end_length = rw end_at (length-append (front ++ rows) (end_kind ∷ []))

  end_whole : Whole (stream_of plan) (to_end (stream_of plan) plan.f plan.n) end_kind
  unfolding stream_of front rows
  end_whole =
      record {
        found = get_or_at (front ++ rows) end_kind [] 0 (to_end (stream_of plan) plan.f plan.n) (sym end_at);
        room = omega (arith, end_length);
      }

  -- every check passes
  head_forth : head_record_check (stream_of plan) ≡ Fine
  unfolding head_record_check stream_of kind_check
  head_forth =
      let n = length_parts plan in
      let due : due_check (stream_of plan) 0 head_kind ≡ Fine =
      due_pass (stream_of plan) 0 head_kind refl (record { found = refl; room = omega arith }) in
      let b = ok.bounds in
      let frame : frame_check plan.f ≡ Fine = range_pass plan.f 64 refusal.Frame b.f_low b.f_high in
      let count : count_check plan.n ≡ Fine = range_pass plan.n 8 refusal.Count b.n_low b.n_high in
      simp (due, frame, count)

  clients_forth : first_of (client_due_check (stream_of plan) (to_clients (stream_of plan))) plan.n ≡ Fine
  unfolding client_due_check client_record
  clients_forth =
      first_all (client_due_check (stream_of plan) (to_clients (stream_of plan))) plan.n
      (λ (i : ℕ) (l : i < plan.n).
      client_forth (stream_of plan) (place (stream_of plan) (to_clients (stream_of plan)) i) (i + 1) (client_of plan i)
      (client_stands i l) (held i l) (ok.bounds.required i l))

  rows_forth : first_of (row_due_check (stream_of plan) plan.f plan.n (to_rows (stream_of plan) plan.n))
      (rows_of plan.f) ≡ Fine
  unfolding row_due_check
  rows_forth =
      first_all (row_due_check (stream_of plan) plan.f plan.n (to_rows (stream_of plan) plan.n)) (rows_of plan.f)
      (λ (j : ℕ) (l : j < rows_of plan.f).
      row_forth plan (stream_of plan) (place (stream_of plan) (to_rows (stream_of plan) plan.n) j) j ok
      (row_stands j l))

  end_forth : end_record_check (stream_of plan) (to_end (stream_of plan) plan.f plan.n) ≡ Fine
  unfolding end_record_check kind_check
  end_forth =
      let s : List ℕ = stream_of plan in
      let at : ℕ = to_end s plan.f plan.n in
      let due : due_check s at end_kind ≡ Fine = due_pass s at end_kind refl end_whole in
      let next = next_whole s at end_kind end_whole.found in
      let over : over_check s (next_place s at) ≡ Fine =
      over_pass s (next_place s at) (omega (arith, next, end_length)) in
      simp (due, over)

  read_forth : read_check (stream_of plan) ≡ Fine
  unfolding read_check rest_check
  read_forth = rw (head_forth, f_at, n_at, clients_forth, rows_forth, end_forth)

  -- every number is found
  client_read_back : (i : ℕ) → i < plan.n
      → client_in (stream_of plan) (to_clients (stream_of plan)) i ≡ client_of plan i
  unfolding client_in client_record
  client_read_back i l =
      client_same (stream_of plan) (place (stream_of plan) (to_clients (stream_of plan)) i) (i + 1) (client_of plan i)
      (client_stands i l) (held i l)

  owner_read_back : (x : ℕ) → x < plan.f
      → owner_in (stream_of plan) (to_rows (stream_of plan) plan.n) x ≡ owner_of plan x
  unfolding owner_in row_byte slot_byte
  owner_read_back x l =
      let j : ℕ = x / 8 in
      let e : 8 * j + x % 8 ≡ x = omega arith in
      let at : ℕ = place (stream_of plan) (to_rows (stream_of plan) plan.n) j in
      slot_same plan (stream_of plan) at j (x % 8) (row_stands j (omega arith)) (omega arith)
      ∙ ap (slot_byte plan) e
      ∙ simp (lt-ltb x plan.f l)

  plan_forth : plan_of (stream_of plan) ≡ used plan
  unfolding plan_of used
  plan_forth =
      let s : List ℕ = stream_of plan in
      let clients = padded_same (client_in s (to_clients s)) (client_of plan) plan.n 8 no_client client_read_back in
      let owners = padded_same (owner_in s (to_rows s plan.n)) (owner_of plan) plan.f 64 0 owner_read_back in
      rw (f_at, n_at, clients, owners)

-- ---- the theorem

-- "Plans written are read back the same"
pub read_back : (plan : Plan) → Held plan → plan_check plan ≡ Fine
    → read_of (stream_of plan) ≡ Ok (used plan)
unfolding read_of
read_back plan held h =
    let ok = plan_fine plan h in
    rw (read_forth plan ok held, plan_forth plan ok held)
