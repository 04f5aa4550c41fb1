-- What one slot gives each client: the counts after arrivals, the client served, and the counts after service.
-- Assumes nothing.
use mathlib.Core.Path.{◌≡◌, refl, sym, ◌∙◌}
use mathlib.Core.Bool.{Bool, true, false}
use mathlib.Core.List.{List}
use mathlib.Core.Logic.{◌≢◌, ◌⊎◌, inl, inr, ⊎_elim}
use Prim.Native.Nat.{ℕ, zero, suc, ◌+◌, ◌-◌, ◌≤◌, ◌<◌}
use native.Mathlib.Decide.{ℕ_discrete, dec_lt}
use native.Mathlib.Omega.{arith}
use lib.Dec.{ltb}
use lib.ListN.{length, get_or, set, replicate}
use lib.Seq.{get_or-set_same, get_or-set_other}
use borrow.Author.Tests.{lt-ltb, le-ltb}
use Rattle.frame.specs.Frame.{next_of}
use Rattle.frame.specs.Queue.{serve}
use Rattle.std.specs.Prelude.{Ok, Err}
use Rattle.records.specs.declared.refusal.Refusal.{Refusal}
use Rattle.records.specs.First.{pick, number_of, Outcome, Fine, refuse}
use Rattle.records.specs.Said.{Said, said_number}
use Rattle.records.specs.Pieces.{onto, padded}
use Rattle.plan.specs.declared.Plan.{Plan}
use Rattle.plan.specs.Plan.{owner_of, is_client}
use Rattle.plan.proofs.Laws.{client_is, client_not}
use Rattle.arbiter.specs.declared.Arbiter.{Arbiter}
use Rattle.arbiter.specs.declared.Served.{Served}
use Rattle.arbiter.specs.declared.Stepped.{Stepped}
use Rattle.arbiter.specs.Step.{served_by, less_one, turned_at, joined, served_now, advanced, step_check}
use Rattle.arbiter.specs.Step.{refused_step, stepped_by, step_of, said_by, step_said, served_said}

-- ---- the client served

pub served_idle : (owner : ℕ) (counts : List ℕ) → owner < 1 → 0 ≡ served_by owner counts
unfolding served_by
served_idle zero counts l = refl
served_idle (suc i) counts l = absurd (omega arith)

served_some : (owner i : ℕ) (counts : List ℕ) → owner ≡ suc i
    → served_by owner counts ≡ pick (ltb 0 (get_or counts i 0)) owner 0
unfolding served_by
served_some owner i counts e = rw e

pub served_owner : (owner : ℕ) (counts : List ℕ) → 1 ≤ owner → 0 < get_or counts (owner - 1) 0
    → owner ≡ served_by owner counts
served_owner owner counts l h =
    rw (served_some owner (owner - 1) counts (omega arith), lt-ltb 0 (get_or counts (owner - 1) 0) h)

pub served_nobody : (owner : ℕ) (counts : List ℕ) → 1 ≤ owner → get_or counts (owner - 1) 0 ≤ 0
    → 0 ≡ served_by owner counts
served_nobody owner counts l h =
    rw (served_some owner (owner - 1) counts (omega arith), le-ltb 0 (get_or counts (owner - 1) 0) h)

-- nobody but the slot's owner
served_either : (owner : ℕ) (counts : List ℕ) → (served_by owner counts ≡ 0) ⊎ (served_by owner counts ≡ owner)
unfolding served_by
served_either zero counts = inl refl
served_either (suc i) counts = by (ltb 0 (get_or counts i 0))
  where
    by : (b : Bool) → (pick b (suc i) 0 ≡ 0) ⊎ (pick b (suc i) 0 ≡ suc i)
    by true = inr refl
    by false = inl refl

pub served_at_most : (owner : ℕ) (counts : List ℕ) → served_by owner counts ≤ owner
served_at_most owner counts =
    ⊎_elim (λ (e : served_by owner counts ≡ 0). omega arith) (λ (e : served_by owner counts ≡ owner). omega arith)
    (served_either owner counts)

served_other : (owner c : ℕ) (counts : List ℕ) → 0 < c → owner ≢ c → served_by owner counts ≢ c
served_other owner c counts c> other e =
    ⊎_elim (λ (h : served_by owner counts ≡ 0). omega arith) (λ (h : served_by owner counts ≡ owner). other (sym h ∙ e))
    (served_either owner counts)

-- ---- the counts after service

pub less_none : (served : ℕ) (counts : List ℕ) → served < 1 → counts ≡ less_one served counts
unfolding less_one
less_none zero counts l = refl
less_none (suc i) counts l = absurd (omega arith)

less_at : (served i : ℕ) (counts : List ℕ) → served ≡ suc i
    → less_one served counts ≡ set counts i (get_or counts i 0 - 1)
unfolding less_one
less_at served i counts e = rw e

pub less_some : (served : ℕ) (counts : List ℕ) → 1 ≤ served
    → set counts (served - 1) (get_or counts (served - 1) 0 - 1) ≡ less_one served counts
less_some served counts l = sym (less_at served (served - 1) counts (omega arith))

-- what decides a slot's service, case by case
pub ruleset service = (served_idle, served_owner, served_nobody, less_none, less_some)

-- ---- what client i + 1 sees of both

-- it is served where the slot is its own and it has a request pending
pub serves_is : (owner i : ℕ) (counts : List ℕ)
    → is_client (i + 1) (served_by owner counts) ≡ serve (is_client (i + 1) owner) (get_or counts i 0)
serves_is owner i counts = by (ℕ_discrete owner (i + 1)) (dec_lt 0 (get_or counts i 0))
  where
    by : Dec (owner ≡ i + 1) → Dec (0 < get_or counts i 0)
        → is_client (i + 1) (served_by owner counts) ≡ serve (is_client (i + 1) owner) (get_or counts i 0)
    by (yes e) (yes h) =
        let named : served_by owner counts ≡ owner =
        rw (served_some owner i counts (omega arith), lt-ltb 0 (get_or counts i 0) h) in
        rw (named, client_is (i + 1) owner e) (omega arith)
    by (yes e) (no h) =
        let named : served_by owner counts ≡ 0 =
        rw (served_some owner i counts (omega arith), le-ltb 0 (get_or counts i 0) (omega arith)) in
        rw (named, client_is (i + 1) owner e, client_not (i + 1) 0 (omega arith)) (omega arith)
    by (no e) h =
        let other = served_other owner (i + 1) counts (omega arith) e in
        rw (client_not (i + 1) owner e, client_not (i + 1) (served_by owner counts) other) (omega arith)

pub less_other : (served i : ℕ) (counts : List ℕ) → served ≢ i + 1
    → get_or (less_one served counts) i 0 ≡ get_or counts i 0
unfolding less_one
less_other zero i counts h = refl
less_other (suc k) i counts h = get_or-set_other counts k i (get_or counts k 0 - 1) 0 (λ e. h (omega arith))

-- its count is then one less
pub less_is : (served i : ℕ) (counts : List ℕ) → i < length counts
    → get_or (less_one served counts) i 0 ≡ get_or counts i 0 - is_client (i + 1) served
less_is served i counts l = by (ℕ_discrete served (i + 1))
  where
    by : Dec (served ≡ i + 1) → get_or (less_one served counts) i 0 ≡ get_or counts i 0 - is_client (i + 1) served
    by (yes e) =
        rw (less_at served i counts (omega arith), client_is (i + 1) served e)
        (get_or-set_same counts i (get_or counts i 0 - 1) 0 l)
    by (no e) = rw (client_not (i + 1) served e) (less_other served i counts e ∙ omega arith)

-- ---- the whole step

-- the slot's work, and the position after it
pub advances : (plan : Plan) (arb : Arbiter) (xs left turned : List ℕ) (served next : ℕ)
    → served ≡ served_now plan arb xs → left ≡ less_one served (joined plan arb xs)
    → turned ≡ onto (turned_at plan arb xs) plan.n (replicate 8 0) → next ≡ next_of plan.f arb.position
    → record {
      served = record { client = served; turned = turned };
      next = record { position = next; pending = left };
    } ≡ advanced plan arb xs
unfolding advanced padded
advances plan arb xs left turned served next s l t p = rw (l, s, t, p)

pub step_refused : (plan : Plan) (arb : Arbiter) (xs : List ℕ) {why : Refusal} {offset : ℕ}
    → step_check plan arb.position (length xs) ≡ refuse why offset → step_of plan arb xs ≡ refused_step arb
unfolding step_of
step_refused plan arb xs h = rw h

pub step_advances : (plan : Plan) (arb : Arbiter) (xs : List ℕ)
    → step_check plan arb.position (length xs) ≡ Fine → step_of plan arb xs ≡ advanced plan arb xs
unfolding step_of
step_advances plan arb xs h = rw h

pub said_refused : (plan : Plan) (arb : Arbiter) (xs : List ℕ) {why : Refusal} {offset : ℕ}
    → step_check plan arb.position (length xs) ≡ refuse why offset → step_said plan arb xs ≡ Err why
unfolding step_said
said_refused plan arb xs h = rw h

-- a step that is said is the one that is given
pub said_given : (plan : Plan) (arb : Arbiter) (xs : List ℕ) {stepped : Stepped} → step_said plan arb xs ≡ Ok stepped
    → step_of plan arb xs ≡ stepped
unfolding step_said step_of
said_given plan arb xs = by (step_check plan arb.position (length xs)) (advanced plan arb xs)
  where
    by : (o : Outcome) (goes : Stepped) {stepped : Stepped} → said_by o (stepped_by o goes arb) ≡ Ok stepped
        → stepped_by o goes arb ≡ stepped
    by (Ok u) goes h = cc
    by (Err refused) goes h = cc

-- and one that is refused leaves the record
pub said_stopped : (plan : Plan) (arb : Arbiter) (xs : List ℕ) {why : Refusal} → step_said plan arb xs ≡ Err why
    → step_of plan arb xs ≡ refused_step arb
unfolding step_said step_of
said_stopped plan arb xs = by (step_check plan arb.position (length xs)) (advanced plan arb xs)
  where
    by : (o : Outcome) (goes : Stepped) {why : Refusal} → said_by o (stepped_by o goes arb) ≡ Err why
        → stepped_by o goes arb ≡ refused_step arb
    by (Ok u) goes h = cc
    by (Err refused) goes h = refl

-- whom it serves and the record that it leaves are the whole step
pub said_parts : (plan : Plan) (arb next : Arbiter) (xs : List ℕ) {served : Served}
    → served_said (step_said plan arb xs) ≡ Ok served → next ≡ (step_of plan arb xs).next
    → Ok (record { served = served; next = next }) ≡ step_said plan arb xs
unfolding step_said
said_parts plan arb next xs {served} = by (step_check plan arb.position (length xs)) (step_of plan arb xs)
  where
    by : (o : Outcome) (goes : Stepped) → served_said (said_by o goes) ≡ Ok served → next ≡ goes.next
        → Ok (record { served = served; next = next }) ≡ said_by o goes
    by (Ok u) goes h e = let same : goes.served ≡ served = cc in rw (e, ← same)
    by (Err refused) goes h e = cc

number_by : (o : Outcome) (goes : Stepped) → said_number (said_by o goes) ≡ number_of o
number_by (Ok u) goes = refl
number_by (Err refused) goes = refl

-- its number is the first refusal's
pub step_number : (plan : Plan) (arb : Arbiter) (xs : List ℕ)
    → said_number (step_said plan arb xs) ≡ number_of (step_check plan arb.position (length xs))
unfolding step_said
step_number plan arb xs = number_by (step_check plan arb.position (length xs)) (step_of plan arb xs)

pub served_number : (s : Said Stepped) → said_number (served_said s) ≡ said_number s
served_number (Ok stepped) = refl
served_number (Err why) = refl

-- what holds of a step that is refused and of one that is not
pub either : (P : Stepped → Type 0) (plan : Plan) (arb : Arbiter) (xs : List ℕ)
    → P (refused_step arb) → (step_check plan arb.position (length xs) ≡ Fine → P (advanced plan arb xs))
    → P (step_of plan arb xs)
unfolding step_of
either P plan arb xs refused goes = by (step_check plan arb.position (length xs)) refl
  where
    by : (o : Outcome) → step_check plan arb.position (length xs) ≡ o → P (stepped_by o (advanced plan arb xs) arb)
    by (Ok u) e = goes e
    by (Err why) e = refused

-- it names nobody but the slot's owner
pub step_named : (plan : Plan) (arb : Arbiter) (xs : List ℕ)
    → ((step_of plan arb xs).served.client ≡ 0)
    ⊎ ((step_of plan arb xs).served.client ≡ owner_of plan arb.position)
unfolding advanced
step_named plan arb xs =
    either (λ (r : Stepped). (r.served.client ≡ 0)
    ⊎ (r.served.client ≡ owner_of plan arb.position)) plan arb xs (inl refl)
    (λ fine. served_either (owner_of plan arb.position) (joined plan arb xs))
