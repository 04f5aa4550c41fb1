-- What C callers are told. A plan is handed in as the bytes of its stream. Each answer is the library's own about the
-- plan that was read, or reading's refusal. A refusal's number is returned, and the answer's values stand in lent
-- memory: "A refusal .. returns its number with all other results 0".
use Rattle.std.specs.Prelude.{◌≡◌, List, [], ◌∷◌, Option, Some, None, ℕ, Result, get_or}
use Rattle.std.specs.declared.result.Result.TheVariants as result
use Rattle.records.specs.declared.refusal.At.{At}
use Rattle.records.specs.declared.refusal.Refusal.{Refusal}
use Rattle.records.specs.First.{number_of, offset_of}
use Rattle.records.specs.Said.{Said, said_number, said_or}
use Rattle.records.specs.Pieces.{part}
use Rattle.records.specs.Put.{Put}
use Rattle.plan.specs.declared.Plan.{Plan}
use Rattle.plan.specs.Plan.{with_table}
use Rattle.stream.specs.Read.{read_check, read_of}
use Rattle.stream.specs.Trip.{Copied}
use Rattle.stream.specs.Write.{stream_of}
use Rattle.figures.specs.declared.Figure.{Figure}
use Rattle.judge.specs.declared.Verdict.{Verdict}
use Rattle.judge.specs.declared.Judgement.{Judgement}
use Rattle.judge.specs.Judge.{verdict_number}
use Rattle.search.specs.Search.{idle_plan, IsSearched}
use Rattle.arbiter.specs.declared.Served.{Served}
use Rattle.arbiter.specs.declared.Arbiter.{Arbiter}
use Rattle.arbiter.specs.declared.Stepped.{Stepped}
use Rattle.arbiter.specs.Step.{refused_step, step_said}

-- ---- an answer's values, in the order in which they are stored, and what stands in for them in a refusal

-- m and L
abbrev pub figure_values : Figure → List ℕ
figure_values figure = figure.slots ∷ figure.scaled ∷ []

-- "all other results 0"
abbrev pub no_figure : Figure
no_figure = record { slots = 0; scaled = 0 }

-- the wait
abbrev pub wait_values : ℕ → List ℕ
wait_values wait = wait ∷ []

-- a verdict's number; that of `ok`, 0, stands in a refusal, too
abbrev pub verdict_values : Verdict → List ℕ
verdict_values verdict = verdict_number verdict ∷ []

-- client, verdict, start and length; those of an accepted plan, all 0, stand in a refusal, too
abbrev pub judgement_values : Judgement → List ℕ
judgement_values found = found.client ∷ verdict_number found.verdict ∷ found.start ∷ found.length ∷ []

-- ---- what is told

-- of reading: the refusal's number and offset, 0 and 0 where nothing is refused
pub record ToldRead (s : List ℕ) (r offset : ℕ) : Type 0 where
  pub returned : r ≡ number_of (read_check s)
  pub stored : offset ≡ offset_of (read_check s)

-- "The first that applies is given": reading's refusal, else what is said of the plan that was read
abbrev pub OfRead : {A : Type 0} → (Plan → Said A → Type 0) → Result Plan (At Refusal) → Said A → Type 0
OfRead Is (result.Ok plan) said = Is plan said
OfRead Is (result.Err refused) said = said ≡ result.Err refused.why

-- of a question about the plan of a stream, Is saying what its answer is: r is returned, and the values of what the
-- answer says, or of zero, are those that are lent, after the call
pub record Told {A : Type 0} (Is : Plan → Said A → Type 0) (zero : A) (values : A → List ℕ) (s : List ℕ) (r : ℕ)
    (lent : List ℕ) : Type 0 where
  pub answer : Said A
  pub is : OfRead Is (read_of s) answer
  pub returned : r ≡ said_number answer
  pub stored : lent ≡ values (said_or zero answer)

-- of a stream that is read and written back into out: its own bytes, and their number
pub record ToldWrite (s out : List ℕ) (r size : ℕ) (now : List ℕ) : Type 0 where
  pub answer : Said ℕ
  pub is : Copied s out answer now
  pub returned : r ≡ said_number answer
  pub stored : size ≡ said_or 0 answer

-- ---- the search

-- a plan's frame and requirements, all of its slots idle
abbrev pub emptied : Plan → Plan
emptied plan = idle_plan plan.f plan.n plan.clients

-- the search for these
abbrev pub IsSearchedFor : Plan → Said (Option (List ℕ)) → Type 0
IsSearchedFor plan = IsSearched (emptied plan)

-- the stream of the plan with the table found; no bytes where there is none, and in a refusal
abbrev pub found_stream : Result Plan (At Refusal) → Option (List ℕ) → List ℕ
found_stream (result.Ok plan) (Some owners) = stream_of (with_table plan owners)
found_stream (result.Ok plan) None = []
found_stream (result.Err refused) found = []

-- of a search: that stream stands at the front of out, all past it as it was, and its length is stored
pub record ToldSearch (s out : List ℕ) (r size : ℕ) (now : List ℕ) : Type 0 where
  pub answer : Said (Option (List ℕ))
  pub is : OfRead IsSearchedFor (read_of s) answer
  pub returned : r ≡ said_number answer
  pub put : Put out 0 (found_stream (read_of s) (said_or None answer)) now size

-- ---- the step

-- "Its record holds the position and a pending count of 0 to 255 for each client": in nine bytes
abbrev pub record_in : List ℕ → Arbiter
record_in bytes = record { position = get_or bytes 0 0; pending = part bytes 1 8 }

-- those bytes
abbrev pub record_bytes : Arbiter → List ℕ
record_bytes arb = arb.position ∷ arb.pending

-- "The result names the client served, or 0, and each client's turned-away count": in nine bytes
abbrev pub served_bytes : Served → List ℕ
served_bytes served = served.client ∷ served.turned

-- a step with this record and these arrivals is what is said
abbrev pub IsStep : Arbiter → List ℕ → Plan → Said Stepped → Type 0
IsStep arb arrivals plan said = said ≡ step_said plan arb arrivals

-- of a step with the record in these bytes and these arrivals: the record's and the answer's bytes after it, in a
-- refusal the record as it was and zeros
pub record ToldStep (s bytes arrivals : List ℕ) (r : ℕ) (after answer : List ℕ) : Type 0 where
  pub said : Said Stepped
  pub is : OfRead (IsStep (record_in bytes) arrivals) (read_of s) said
  pub returned : r ≡ said_number said
  pub kept : after ≡ record_bytes (said_or (refused_step (record_in bytes)) said).next
  pub stored : answer ≡ served_bytes (said_or (refused_step (record_in bytes)) said).served
