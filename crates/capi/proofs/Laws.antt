-- Laws of what C callers are told: the stream of a plan found, and nine bytes.
-- Assumes nothing.
use mathlib.Core.Path.{◌≡◌, refl, sym, ap}
use mathlib.Core.List.{List, []}
use Prim.Native.Nat.{ℕ, ◌≤◌, ◌<◌}
use native.Mathlib.Omega.{arith}
use lib.ListN.{length, get_or}
use Rattle.std.specs.Prelude.{Result, Option, Some, None}
use Rattle.std.specs.declared.result.Result.TheVariants as result
use Rattle.records.specs.declared.refusal.At.{At}
use Rattle.records.specs.declared.refusal.Refusal.{Refusal}
use Rattle.records.specs.Refusal.{number}
use Rattle.records.specs.First.{Fine}
use Rattle.records.specs.Put.{Put}
use Rattle.records.specs.Said.{Said, Answers, said_or}
use Rattle.records.proofs.Parts.{run, part_run}
use Rattle.plan.specs.declared.Plan.{Plan}
use Rattle.plan.specs.Plan.{owner_of, with_table}
use Rattle.stream.specs.Read.{read_of}
use Rattle.stream.specs.Write.{stream_of, longest}
use Rattle.stream.proofs.Lengths.{length_stream}
use Rattle.search.specs.Search.{search_check}
use Rattle.search.proofs.Questions.{search_fine}
use Rattle.arbiter.specs.declared.Arbiter.{Arbiter}
use Rattle.arbiter.specs.declared.Stepped.{Stepped}
use Rattle.arbiter.specs.Step.{joined, served_now, advanced, step_check, refused_step, step_of}
use Rattle.arbiter.proofs.Questions.{step_fine, owner_small}
use Rattle.arbiter.proofs.Slots.{served_at_most, either, said_given}
use Rattle.arbiter.proofs.Runs.{passes_again}
use Rattle.capi.specs.Calls.{OfRead, emptied, IsSearchedFor, found_stream, ToldSearch, IsStep, record_in}

-- ---- the stream of a plan found

-- the output has room for it
pub found_fits : (plan : Plan) (owners : List ℕ) → IsSearchedFor plan (result.Ok (Some owners))
    → (plan.f ≤ 64) × (plan.n ≤ 8) × (length (stream_of (with_table plan owners)) ≤ longest)
found_fits plan owners is =
    let ok = search_fine (emptied plan) is.0 in
    let short = ok.short in
    let few = ok.few in
    let long = length_stream (with_table plan owners) in
    (omega arith, omega arith, omega arith)

-- and is told where one is found
pub found_told : {A : Type 0} (said : Said (Option A)) (x : A) → said_or None said ≡ Some x → said ≡ result.Ok (Some x)
found_told (result.Ok found) x h = ap result.Ok h
found_told (result.Err why) x h = let z : ◌≡◌ {A = ℕ} 0 1 = cc in absurd (omega arith)

-- where none is found nothing is put
pub found_none : (r : Result Plan (At Refusal)) → found_stream r None ≡ []
found_none (result.Ok plan) = refl
found_none (result.Err refused) = refl

-- what the checks of the search refuse the search refuses
pub refused_searched : (r : Result Plan (At Refusal)) (why : Refusal)
    → OfRead (λ plan. Answers (search_check (emptied plan)) (λ (u : Unit {0}). Unit {0})) r (result.Err why)
    → OfRead IsSearchedFor r (result.Err why)
refused_searched (result.Ok plan) why h = h
refused_searched (result.Err refused) why h = let same : why ≡ refused.why = cc in ap result.Err same

-- and what is told of it
pub told_refused : {s out now : List ℕ} {r size : ℕ} (why : Refusal)
    → OfRead (λ plan. Answers (search_check (emptied plan)) (λ (u : Unit {0}). Unit {0})) (read_of s) (result.Err why)
    → r ≡ number why → Put out 0 [] now size → ToldSearch s out r size now
told_refused {s = s} why h n put =
    record {
      answer = result.Err why;
      is = refused_searched (read_of s) why h;
      returned = n;
      put = rw (found_none (read_of s)) put;
    }

-- ---- nine bytes

-- the record that nine bytes hold
pub nine_hold : (bytes : List ℕ) {position : ℕ} → 9 ≤ length bytes → position ≡ get_or bytes 0 0
    → record { position = position; pending = run bytes 1 0 8 } ≡ record_in bytes
nine_hold bytes long e = rw e (rw (part_run bytes 1 8 (omega arith)))

-- a step's position and the client that it names fit into a byte, where the record's position does
pub step_small : (plan : Plan) (arb : Arbiter) (xs : List ℕ) → arb.position < 256
    → ((step_of plan arb xs).next.position < 256) × ((step_of plan arb xs).served.client < 256)
unfolding advanced
step_small plan arb xs small =
    either (λ (r : Stepped). (r.next.position < 256) × (r.served.client < 256)) plan arb xs (small, omega arith) by
  where
    by : step_check plan arb.position (length xs) ≡ Fine
        → ((advanced plan arb xs).next.position < 256) × (served_now plan arb xs < 256)
    by fine =
        let ok = step_fine plan arb.position (length xs) fine in
        let next = (step_fine plan _ (length xs) (passes_again plan arb xs ok)).below in
        let high = ok.checked.bounds.f_high in
        let owner = owner_small plan arb.position (length xs) ok in
        let most = served_at_most (owner_of plan arb.position) (joined plan arb xs) in
        (omega arith, omega arith)

-- so do those that are told
pub told_small : (arb : Arbiter) (xs : List ℕ) → arb.position < 256 → (r : Result Plan (At Refusal))
    (said : Said Stepped)
    → OfRead (IsStep arb xs) r said
    → ((said_or (refused_step arb) said).next.position < 256) × ((said_or (refused_step arb) said).served.client < 256)
told_small arb xs small (result.Err refused) said e = rw e (small, omega arith)
told_small arb xs small (result.Ok plan) (result.Err why) e = (small, omega arith)
told_small arb xs small (result.Ok plan) (result.Ok stepped) e =
    rw (said_given plan arb xs (sym e)) at (step_small plan arb xs small)
