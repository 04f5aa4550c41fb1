-- Demand 2; judging and searching stand in Accepted.antt. Plan files: "Plans written are read back the same, and
-- streams read are written back byte for byte". The hypotheses that a list holds bytes (Bytes) and that a plan's
-- numbers have two bytes (Held) are what the types say: the contracts of `stream`'s `read`, `write`, `rewritten` and
-- `reread` have none. Figures: the latency L/m is the least one of Definition 1, over the arbiter's runs.
-- Assumes nothing.
use mathlib.Core.Path.{◌≡◌, refl}
use mathlib.Core.List.{List}
use Prim.Native.Nat.{ℕ, ◌+◌, ◌-◌, ◌*◌, ◌≤◌, ◌<◌}
use native.Mathlib.Omega.{arith}
use lib.ListN.{length}
use Rattle.std.specs.declared.result.Result.TheVariants as result
use Rattle.frame.specs.Frame.{Consecutive}
use Rattle.frame.proofs.Limits.{scaled_least, scaled_most, scaled_small, scaled_consecutive, wait_small}
use Rattle.std.specs.Prelude.{Result}
use Rattle.records.specs.declared.refusal.At.{At}
use Rattle.records.specs.declared.refusal.Refusal.{Refusal}
use Rattle.records.specs.First.{number_of, Fine}
use Rattle.records.proofs.Refusals.{gives_fine}
use Rattle.records.proofs.Words.{Bytes}
use Rattle.plan.specs.declared.Plan.{Plan}
use Rattle.plan.specs.Plan.{own_of, Same, used}
use Rattle.plan.specs.Check.{plan_check}
use Rattle.plan.proofs.Laws.{plan_pass, used_same, same_used, same_check}
use Rattle.plan.proofs.Refusals.{plan_gives}
use Rattle.stream.specs.Kind.{rows_of}
use Rattle.stream.specs.Read.{read_of}
use Rattle.stream.specs.Trip.{Held, reread_of}
use Rattle.stream.specs.Write.{stream_of, longest}
use Rattle.stream.proofs.Lengths.{length_stream, stream_sizes}
use Rattle.stream.proofs.ReadBack.{read_back as stream_read_back}
use Rattle.stream.proofs.Answers.{read_rewritten, reading_checked}
use Rattle.plan.specs.Entries.{plan_numbers}
use Rattle.figures.specs.declared.Figure.{Figure}
use Rattle.figures.specs.Figures.{IsFigures, IsWaitFor}
use Rattle.figures.proofs.Laws.{frame_of}
use Rattle.figures.proofs.Questions.{Asked, figure_fine, wait_fine}
use Rattle.figures.proofs.Answers.{given_frame, given_scaled, given_owns}
use Rattle.arbiter.specs.Run.{SatisfiesEmptyOf, IsLatencyOf}
use Rattle.arbiter.proofs.Latency.{least_empty_runs, latency_runs}

-- ---- plan files

-- what is read is written back byte for byte
pub written_back : (s : List ℕ) → Bytes s → (plan : Plan) → read_of s ≡ result.Ok plan → stream_of plan ≡ s
written_back s b = read_rewritten s b refl

-- every plan that is read passes the checks
pub read_checked : (s : List ℕ) (plan : Plan) → read_of s ≡ result.Ok plan → plan_check plan ≡ Fine
read_checked s plan = reading_checked s

-- what is written is read back: nothing is refused, and the plan is the same, with zeros past f and n
pub record ReadBack (plan : Plan) (r : Result Plan (At Refusal)) : Type 0 where
  pub read : Plan
  pub is : r ≡ result.Ok read
  pub same : Same plan read
  pub zeros : read ≡ used plan

pub read_back : (plan : Plan) → Held plan → number_of (plan_check plan) ≡ 0 → ReadBack plan (read_of (stream_of plan))
read_back plan held h =
    record {
      read = used plan;
      is = stream_read_back plan held (gives_fine plan_numbers refl _ (plan_gives plan) h);
      same = used_same plan;
      zeros = refl;
    }

-- "Plans are the same when f, n and the used places agree": they are read back as one
pub reread_same : (plan other : Plan) → Same plan other → reread_of plan ≡ reread_of other
unfolding reread_of
reread_same plan other s = rw (same_check plan other s, same_used plan other s)

-- "The length is 4 + 10n + 9 × (f/8 rounded up): 23 to 156 bytes"
pub record Sized (plan : Plan) : Type 0 where
  pub exact : length (stream_of plan) ≡ 4 + 10 * plan.n + 9 * rows_of plan.f
  pub least : 23 ≤ length (stream_of plan)
  pub most : length (stream_of plan) ≤ longest

pub sized : (plan : Plan) → number_of (plan_check plan) ≡ 0 → Sized plan
sized plan h =
    let b = stream_sizes plan (gives_fine plan_numbers refl _ (plan_gives plan) h) in
    record { exact = length_stream plan; least = b.0; most = b.1 }

-- ---- figures

module _ (plan : Plan) (i : ℕ) (figure : Figure) (is : IsFigures plan (i + 1) (result.Ok figure)) where
  asked : Asked plan (i + 1)
  asked = figure_fine plan (i + 1) is.0

  -- "The latency given for a drive that owns a slot is exactly the least one that satisfies Definition 1 .. at its
  -- allocated rate": it is L/m, and the rate m/f, on the arbiter's own runs
  pub latency : IsLatencyOf plan i figure.scaled figure.slots
  latency =
      let i< : i < plan.n = omega (arith, asked.high) in
      let frame = frame_of plan (i + 1) asked.checked.bounds.f_low in
      rw is.1.slots
      (latency_runs plan i i< (plan_pass plan asked.checked) frame is.1.scaled asked.owns)

  -- no smaller one satisfies it even in the busy periods that start with an empty queue
  pub latency_empty : (x y : ℕ) → SatisfiesEmptyOf plan i x y → figure.scaled * y ≤ x * figure.slots
  latency_empty x y sat =
      let i< : i < plan.n = omega (arith, asked.high) in
      let frame = frame_of plan (i + 1) asked.checked.bounds.f_low in
      rw is.1.slots
      (least_empty_runs plan i i< (plan_pass plan asked.checked) frame is.1.scaled x y sat)

module _ (plan : Plan) (c : ℕ) (figure : Figure) (is : IsFigures plan c (result.Ok figure)) where
  f_high : plan.f ≤ 64
  f_high = (figure_fine plan c is.0).checked.bounds.f_high

  -- "For m above 0, always f − m ≤ L ≤ m × (f − m)"
  pub limits : (plan.f - figure.slots ≤ figure.scaled)
      × (figure.scaled ≤ figure.slots * (plan.f - figure.slots))
      × (figure.scaled ≤ 1024)
  limits =
      let frame = given_frame plan c figure is in
      let scaled = given_scaled plan c figure is in
      let owns = given_owns plan c figure is in
      (scaled_least frame scaled owns, scaled_most frame scaled, scaled_small frame scaled f_high)

  -- "consecutive slots reach the upper end"
  pub consecutive : (s : ℕ) → Consecutive (own_of plan c) s figure.slots
      → figure.scaled ≡ figure.slots * (plan.f - figure.slots)
  consecutive s all = scaled_consecutive (given_frame plan c figure is) (given_scaled plan c figure is) s all

-- ---- waits

pub wait_limit : (plan : Plan) (c k slots : ℕ) → IsWaitFor plan c k (result.Ok slots) → slots ≤ 16383
wait_limit plan c k slots is =
    let ok = wait_fine plan c k is.0 in
    let bounds = ok.asked.checked.bounds in
    let most = scaled_most (frame_of plan c bounds.f_low) is.1.scaled in
    wait_small ok.asked.owns bounds.f_high most ok.high is.1.least
