-- A plan's refusals: their numbers, the offset that is handed in and, outside reading, offset 0.
-- Assumes nothing.
use mathlib.Core.Path.{◌≡◌, refl}
use mathlib.Core.Bool.{true}
use mathlib.Core.List.{List, [], ◌∷◌}
use Prim.Native.Nat.{ℕ, ◌≤◌}
use lib.Dec.{leb}
use Rattle.records.specs.declared.refusal.Refusal.TheVariants as refusal
use Rattle.records.specs.Refusal.{number}
use Rattle.records.specs.First.{between, unless, range_check, or_else, first_of, offset_of, among, Gives, Outcome}
use Rattle.records.specs.First.{Fine}
use Rattle.records.proofs.Refusals.{or_each, first_each, unless_gives, range_gives, or_gives, first_gives}
use Rattle.records.proofs.Refusals.{unless_within, unless_offset, range_offset}
use Rattle.plan.specs.declared.Client.{Client}
use Rattle.plan.specs.declared.Plan.{Plan}
use Rattle.plan.specs.Plan.{client_of, owner_of}
use Rattle.plan.specs.Check.{frame_check, count_check, client_check, owner_check, client_check_of, requirements_check}
use Rattle.plan.specs.Check.{owner_check_of, owners_check, plan_check, asked_check}
use Rattle.plan.specs.Entries.{requirements_numbers, plan_numbers, asked_numbers}

-- what holds of what each check finds holds of what the requirements' check finds
requirements_each : (P : Outcome → Type 0) → P Fine → ((f : ℕ) → P (frame_check f)) → ((n : ℕ) → P (count_check n))
    → ((c : Client) → P (client_check c 0)) → (plan : Plan) → P (requirements_check plan)
unfolding requirements_check client_check_of
requirements_each P z frame count client plan =
    let clients : Outcome = first_of (client_check_of plan) plan.n in
    or_each P (frame_check plan.f) (or_else (count_check plan.n) clients) (frame plan.f)
    (or_each P (count_check plan.n) clients (count plan.n)
    (first_each P z (client_check_of plan) (λ i. client (client_of plan i)) plan.n))

-- and with the owners' of what the plan's check finds
plan_each : (P : Outcome → Type 0) → P Fine → ((owner n : ℕ) → P (owner_check owner n 0)) → (plan : Plan)
    → P (requirements_check plan) → P (plan_check plan)
unfolding plan_check owners_check owner_check_of
plan_each P z owner plan requirements =
    or_each P (requirements_check plan) (owners_check plan) requirements
    (first_each P z (owner_check_of plan) (λ x. owner (owner_of plan x) plan.n) plan.f)

-- ---- numbers

pub client_gives : (ks : List ℕ) (c : Client) (offset : ℕ) → among (number refusal.Rate) ks ≡ true
    → among (number refusal.Latency) ks ≡ true → Gives ks (client_check c offset)
unfolding client_check
client_gives ks c offset rate latency =
    or_each (Gives ks)
    (unless (between 1 c.p c.q) refusal.Rate offset) (unless (leb 1 c.b) refusal.Latency offset)
    (unless_gives ks (between 1 c.p c.q) refusal.Rate offset rate)
    (unless_gives ks (leb 1 c.b) refusal.Latency offset latency)

pub owner_gives : (ks : List ℕ) (owner n offset : ℕ) → among (number refusal.Owner) ks ≡ true
    → Gives ks (owner_check owner n offset)
unfolding owner_check
owner_gives ks owner n offset h = unless_gives ks (leb owner n) refusal.Owner offset h

pub requirements_gives : (plan : Plan) → Gives requirements_numbers (requirements_check plan)
requirements_gives =
    let ks : List ℕ = requirements_numbers in
    requirements_each (Gives ks) tt (λ f. range_gives ks f 64 refusal.Frame refl)
    (λ n. range_gives ks n 8 refusal.Count refl) (λ c. client_gives ks c 0 refl refl)

pub plan_gives : (plan : Plan) → Gives plan_numbers (plan_check plan)
unfolding plan_check owners_check owner_check_of
plan_gives plan =
    let ks : List ℕ = 10 ∷ [] in
    or_gives requirements_numbers ks (requirements_check plan) (owners_check plan) (requirements_gives plan)
    (first_gives ks (owner_check_of plan) (λ x. owner_gives ks (owner_of plan x) plan.n 0 refl) plan.f)

pub asked_gives : (plan : Plan) (c : ℕ) → Gives asked_numbers (asked_check plan c)
unfolding asked_check
asked_gives plan c =
    let ks : List ℕ = 13 ∷ [] in
    or_gives plan_numbers ks (plan_check plan) (range_check c plan.n refusal.Asked) (plan_gives plan)
    (range_gives ks c plan.n refusal.Asked refl)

-- ---- offsets

pub client_within : (most : ℕ) (c : Client) (offset : ℕ) → offset ≤ most → offset_of (client_check c offset) ≤ most
unfolding client_check
client_within most c offset h =
    or_each (λ (o : Outcome). offset_of o ≤ most)
    (unless (between 1 c.p c.q) refusal.Rate offset) (unless (leb 1 c.b) refusal.Latency offset)
    (unless_within most (between 1 c.p c.q) refusal.Rate offset h)
    (unless_within most (leb 1 c.b) refusal.Latency offset h)

pub owner_within : (most owner n offset : ℕ) → offset ≤ most → offset_of (owner_check owner n offset) ≤ most
unfolding owner_check
owner_within most owner n offset h = unless_within most (leb owner n) refusal.Owner offset h

-- the offset outside reading
abbrev NoOffset : Outcome → Type 0
NoOffset o = offset_of o ≡ 0

pub requirements_offset : (plan : Plan) → offset_of (requirements_check plan) ≡ 0
unfolding client_check
requirements_offset =
    requirements_each NoOffset refl
    (λ f. range_offset f 64 refusal.Frame)
    (λ n. range_offset n 8 refusal.Count)
    (λ c.
    or_each NoOffset
    (unless (between 1 c.p c.q) refusal.Rate 0) (unless (leb 1 c.b) refusal.Latency 0)
    (unless_offset (between 1 c.p c.q) refusal.Rate) (unless_offset (leb 1 c.b) refusal.Latency))

pub plan_offset : (plan : Plan) → offset_of (plan_check plan) ≡ 0
unfolding owner_check
plan_offset plan =
    plan_each NoOffset refl (λ owner n. unless_offset (leb owner n) refusal.Owner) plan (requirements_offset plan)

pub asked_offset : (plan : Plan) (c : ℕ) → offset_of (asked_check plan c) ≡ 0
unfolding asked_check
asked_offset plan c =
    or_each NoOffset (plan_check plan) (range_check c plan.n refusal.Asked) (plan_offset plan)
    (range_offset c plan.n refusal.Asked)
