-- Streams and what reading each gives, worked out by hand from document 01: two plans, every refusal number of reading,
-- and which comes first where two apply. `worked` in proofs/Worked.antt computes them all.
use Rattle.std.specs.Prelude.{List, [], ◌∷◌, ◌++◌, ℕ, Result, Ok, Err, replicate}
use Rattle.records.specs.declared.refusal.At.{At}
use Rattle.records.specs.declared.refusal.Refusal.{Refusal}
use Rattle.records.specs.Refusal.{number}
use Rattle.plan.specs.declared.Plan.{Plan}
use Rattle.plan.specs.Plan.{no_client}

-- what a reading gives, its refusal as document 01 writes it: "A refused read returns the number, the offset"
abbrev pub gives : Result Plan (At Refusal) → Result Plan (ℕ × ℕ)
gives (Ok plan) = Ok plan
gives (Err refused) = Err (number refused.why, refused.offset)

-- a stream, and what reading it gives
pub record Example : Type 0 where
  pub stream : List ℕ
  pub reading : Result Plan (ℕ × ℕ)

-- nothing is refused, and the stream's plan is this one
abbrev pub read_as : List ℕ → Plan → Example
read_as s plan = record { stream = s; reading = Ok plan }

-- the read is refused with this number, at this offset
abbrev pub refused_with : List ℕ → (number offset : ℕ) → Example
refused_with s number offset = record { stream = s; reading = Err (number, offset) }

-- a head: f 2, n 1
abbrev pub head : List ℕ
head = 1 ∷ 2 ∷ 1 ∷ []

-- its client: rate 2/4, latency 3/1
abbrev pub client : List ℕ
client = 2 ∷ 1 ∷ 0 ∷ 2 ∷ 0 ∷ 4 ∷ 0 ∷ 3 ∷ 0 ∷ 1 ∷ []

-- its row: owners 1 and 0
abbrev pub row : List ℕ
row = 3 ∷ 1 ∷ 0 ∷ 255 ∷ 255 ∷ 255 ∷ 255 ∷ 255 ∷ 255 ∷ []

-- that plan: "2/4 stays 2/4", and what lies past n and past f is 0
abbrev pub plan : Plan
plan =
    record {
      f = 2;
      n = 1;
      clients = record { p = 2; q = 4; a = 3; b = 1 } ∷ replicate 7 no_client;
      owners = 1 ∷ 0 ∷ replicate 62 0;
    }

-- f 9, n 2: two clients, and two rows
abbrev pub longer : List ℕ
longer =
    (1 ∷ 9 ∷ 2 ∷ [])
    ++ (2 ∷ 1 ∷ 0 ∷ 1 ∷ 0 ∷ 2 ∷ 0 ∷ 2 ∷ 0 ∷ 1 ∷ [])
    ++ (2 ∷ 2 ∷ 1 ∷ 2 ∷ 3 ∷ 4 ∷ 5 ∷ 6 ∷ 7 ∷ 8 ∷ [])
    ++ (3 ∷ 1 ∷ 1 ∷ 1 ∷ 2 ∷ 0 ∷ 1 ∷ 0 ∷ 2 ∷ [])
    ++ (3 ∷ 2 ∷ 255 ∷ 255 ∷ 255 ∷ 255 ∷ 255 ∷ 255 ∷ 255 ∷ [])
    ++ (9 ∷ [])

-- that plan: "the high byte first", so 1 2 is 258
abbrev pub longer_plan : Plan
longer_plan =
    record {
      f = 9;
      n = 2;
      clients =
          record { p = 1; q = 2; a = 2; b = 1 } ∷ record { p = 258; q = 772; a = 1286; b = 1800 }
          ∷ replicate 6 no_client;
      owners = (1 ∷ 1 ∷ 1 ∷ 2 ∷ 0 ∷ 1 ∷ 0 ∷ 2 ∷ 2 ∷ []) ++ replicate 55 0;
    }

-- two whole plans, and then each refusal of reading
unfoldable pub examples : List Example
examples =
    read_as (head ++ client ++ row ++ (9 ∷ [])) plan
    ∷ read_as longer longer_plan
    -- 1: no kind byte, at the stream's length; a body that is short, at its kind byte
    ∷ refused_with [] 1 0
    ∷ refused_with head 1 3
    ∷ refused_with (head ++ client ++ row) 1 22
    ∷ refused_with (1 ∷ 0 ∷ []) 1 0
    -- 2 and 3: a reserved kind before one that is not due, and both before a short body
    ∷ refused_with (4 ∷ []) 2 0
    ∷ refused_with (9 ∷ []) 3 0
    ∷ refused_with (head ++ (3 ∷ [])) 3 3
    ∷ refused_with (head ++ client ++ (16 ∷ [])) 2 13
    -- "Kinds 0, 4 to 8 and 10 to 255 are reserved": their ends
    ∷ refused_with (0 ∷ []) 2 0
    ∷ refused_with (head ++ (8 ∷ [])) 2 3
    ∷ refused_with (head ++ client ++ row ++ (10 ∷ [])) 2 22
    ∷ refused_with (head ++ client ++ row ++ (255 ∷ [])) 2 22
    -- 4: last, at the first byte too many
    ∷ refused_with (head ++ client ++ row ++ (9 ∷ 9 ∷ [])) 4 23
    -- 5 before 6
    ∷ refused_with (1 ∷ 0 ∷ 0 ∷ []) 5 0
    ∷ refused_with (1 ∷ 65 ∷ 1 ∷ []) 5 0
    ∷ refused_with (1 ∷ 64 ∷ 9 ∷ []) 6 0
    -- 7 before 8, 8 before 9
    ∷ refused_with (head ++ (2 ∷ 2 ∷ 0 ∷ 0 ∷ 0 ∷ 2 ∷ 0 ∷ 3 ∷ 0 ∷ 0 ∷ [])) 7 3
    ∷ refused_with (head ++ (2 ∷ 1 ∷ 0 ∷ 3 ∷ 0 ∷ 2 ∷ 0 ∷ 3 ∷ 0 ∷ 0 ∷ [])) 8 3
    ∷ refused_with (head ++ (2 ∷ 1 ∷ 0 ∷ 2 ∷ 0 ∷ 2 ∷ 0 ∷ 3 ∷ 0 ∷ 0 ∷ [])) 9 3
    -- 10 before 11 in one row, and both before 4
    ∷ refused_with (head ++ client ++ (3 ∷ 1 ∷ 2 ∷ 0 ∷ 255 ∷ 255 ∷ 255 ∷ 255 ∷ 255 ∷ 255 ∷ [])) 10 13
    ∷ refused_with (head ++ client ++ (3 ∷ 1 ∷ 0 ∷ 255 ∷ 255 ∷ 255 ∷ 255 ∷ 255 ∷ 0 ∷ 9 ∷ 9 ∷ [])) 11 13
    ∷ []
