-- Document 01's report as bytes: the stream of its plan, and the two texts that the programs write of it. `report_told`
-- and `homing_told` in proofs/Texts.antt prove that these are what the contracts allow, and no other.
use Rattle.std.specs.Prelude.{List, [], ◌∷◌, ◌++◌, ℕ}
use Rattle.text.specs.Text.{bytes}

-- document 01, Programs: "rate 1/2, latency 2/1 for client 1; rate 1/4, latency 3/1 for client 2; owners 1 1 1 2 0 1 0
-- 2", as the records of Plan stream
unfoldable pub report_stream : List ℕ
report_stream =
    (1 ∷ 8 ∷ 2 ∷ [])
    ++ (2 ∷ 1 ∷ 0 ∷ 1 ∷ 0 ∷ 2 ∷ 0 ∷ 2 ∷ 0 ∷ 1 ∷ [])
    ++ (2 ∷ 2 ∷ 0 ∷ 1 ∷ 0 ∷ 4 ∷ 0 ∷ 3 ∷ 0 ∷ 1 ∷ [])
    ++ (3 ∷ 1 ∷ 1 ∷ 1 ∷ 2 ∷ 0 ∷ 1 ∷ 0 ∷ 2 ∷ [])
    ++ (9 ∷ [])

-- "it writes", line by line
unfoldable pub report_text : List ℕ
report_text = bytes "client slots scaled wait verdict\n1 4 12 5 late\n2 2 6 7 ok\nrefused 1 late\n"

-- "The homing listing .. writes only number and default wait, one line a client, no header"
unfoldable pub homing_text : List ℕ
homing_text = bytes "1 5\n2 7\n"
