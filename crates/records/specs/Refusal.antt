-- The refusal numbers of document 01: its table "Refusal numbers", line by line.
use Rattle.std.specs.Prelude.{◌≡◌, ℕ}
use Rattle.records.specs.declared.refusal.Refusal.{Refusal}
use Rattle.records.specs.declared.refusal.Refusal.TheVariants as refusal

-- a refusal's number
abbrev pub number : Refusal → ℕ
number refusal.Ended = 1
number refusal.Reserved = 2
number refusal.NotDue = 3
number refusal.Followed = 4
number refusal.Frame = 5
number refusal.Count = 6
number refusal.NotNext = 7
number refusal.Rate = 8
number refusal.Latency = 9
number refusal.Owner = 10
number refusal.PastFrame = 11
number refusal.Room = 12
number refusal.Asked = 13
number refusal.NoSlot = 14
number refusal.Waiting = 15
number refusal.TooLarge = 16
number refusal.Position = 17
number refusal.Arrivals = 18

-- n is a refusal's number
abbrev pub IsNumber : Refusal → ℕ → Type 0
IsNumber why n = n ≡ number why
