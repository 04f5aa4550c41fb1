-- What an entry says, one shape for all: a value, or the refusal that its check gives (document 01, Refusal numbers).
use Rattle.std.specs.Prelude.{◌≡◌, ℕ, Result, Ok, Err}
use Rattle.records.specs.declared.refusal.Refusal.{Refusal}
use Rattle.records.specs.Refusal.{number}
use Rattle.records.specs.First.{Outcome, Fine, RefusedBy}

-- a value, or why it is refused
abbrev pub Said : Type 0 → Type 0
Said A = Result A Refusal

-- what is said is right: a value where the check passes, and Is says which; else the refusal that the check gives
abbrev pub Answers : {A : Type 0} → Outcome → (A → Type 0) → Said A → Type 0
Answers check Is (Ok x) = (check ≡ Fine) × Is x
Answers check Is (Err why) = RefusedBy check why

-- its number, 0 where nothing is refused
abbrev pub said_number : {A : Type 0} → Said A → ℕ
said_number (Ok x) = 0
said_number (Err why) = number why

-- its value: "A refusal .. returns its number with all other results 0", here z
abbrev pub said_or : {A : Type 0} → A → Said A → A
said_or z (Ok x) = x
said_or z (Err why) = z
