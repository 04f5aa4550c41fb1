-- The kinds of a plan stream's records: document 01, Plan stream, its table and what follows it.
use Rattle.std.specs.Prelude.{Bool, true, List, [], ◌∷◌, ℕ, ◌+◌, ◌/◌, leb, eqb, get_or, Result, Ok, Err}
use Rattle.records.specs.declared.refusal.Refusal.{Refusal}
use Rattle.records.specs.declared.refusal.Refusal.TheVariants as refusal
use Rattle.records.specs.First.{pick, between}
use Rattle.stream.specs.declared.kind.Kind.{Kind}
use Rattle.stream.specs.declared.kind.Kind.TheVariants as kind

-- f, n
abbrev pub head_kind : ℕ
head_kind = 1

-- client number, p, q, a, b
abbrev pub client_kind : ℕ
client_kind = 2

-- owners of the next eight slots: a row
abbrev pub row_kind : ℕ
row_kind = 3

-- end
abbrev pub end_kind : ℕ
end_kind = 9

-- a kind's byte
abbrev pub code : Kind → ℕ
code kind.Head = head_kind
code kind.Client = client_kind
code kind.Row = row_kind
code kind.End = end_kind

-- "Body lengths stand in a constant table by kind, 0 to 15"
abbrev pub bodies : List ℕ
bodies = 0 ∷ 2 ∷ 9 ∷ 8 ∷ 0 ∷ 0 ∷ 0 ∷ 0 ∷ 0 ∷ 0 ∷ 0 ∷ 0 ∷ 0 ∷ 0 ∷ 0 ∷ 0 ∷ []

-- a kind's body length; 0 past the table, where every kind is reserved
abbrev pub body_of : ℕ → ℕ
body_of kind = get_or bodies kind 0

-- "A record is one byte of kind, then a body whose length the kind fixes"
abbrev pub whole_of : ℕ → ℕ
whole_of kind = 1 + body_of kind

-- "Kinds 0, 4 to 8 and 10 to 255 are reserved"
abbrev pub is_reserved : ℕ → Bool
is_reserved kind = pick (eqb kind 0) true (pick (between 4 kind 8) true (leb 10 kind))

-- nothing where the kind is due; else 2, reserved, or 3, known but not due here
unfoldable pub kind_check : ℕ → ℕ → Result (Unit {0}) Refusal
kind_check due kind = pick (is_reserved kind) (Err refusal.Reserved) (pick (eqb kind due) (Ok tt) (Err refusal.NotDue))

-- "as many kind 3 as f needs": f/8 rounded up
abbrev pub rows_of : ℕ → ℕ
rows_of f = (f + 7) / 8
