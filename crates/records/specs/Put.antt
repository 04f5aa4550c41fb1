-- Bytes put into a lent output: what every lent byte holds after, and the next place.
use Rattle.std.specs.Prelude.{◌≡◌, List, ℕ, ◌+◌, ◌≤◌, length}
use Rattle.std.proofs.lemmas.List.Edits.{sets}
use Rattle.records.specs.declared.output.Output.{Output}

-- from out comes now by storing bytes one by one from the place at on; next is the place after them
pub record Put (out : List ℕ) (at : ℕ) (bytes now : List ℕ) (next : ℕ) : Type 0 where
  pub place : next ≡ at + length bytes
  pub stored : now ≡ sets out at bytes

-- an output has room for k bytes more
abbrev pub HasRoom : Output → ℕ → Type 0
HasRoom output k = output.at + k ≤ length output.lent.now

-- bytes are put at an output's place, which moves past them; what is lent is the same memory, as long as before
pub record Adds (old : Output) (bytes : List ℕ) (new : Output) : Type 0 where
  pub put : Put old.lent.now old.at bytes new.lent.now new.at
  pub long : length new.lent.now ≡ length old.lent.now
  pub same : new.lent.ghost_name ≡ old.lent.ghost_name
