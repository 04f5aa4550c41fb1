-- The entry of `text` as a row of demand 1's table, and the rows of entries that put a text into a page.
use Rattle.std.specs.Prelude.{List, ℕ}
use Rattle.records.specs.Put.{Put}
use Rattle.records.specs.Entry.{Entry, always}
use Rattle.text.specs.Text.{refusal_line, Puts, Lendable}

-- an entry that puts a text into a page: its length is returned
abbrev pub puts : {U : Type 0} → (U → List ℕ → Type 0) → Entry
puts Is = always (λ u out (r : ℕ × List ℕ). Puts (Is u) out 0 r.1 r.0 × Lendable r.0 r.1)

-- `put_refusal`, of a number and an offset
abbrev pub put_refusal_entry : Entry
put_refusal_entry =
    always (λ (what : ℕ × ℕ) (out : List ℕ) (r : ℕ × List ℕ).
    Put out 0 (refusal_line what.0 what.1) r.1 r.0 × Lendable r.0 r.1)
