-- Laws of a plan and its checks: a plan passes exactly when it is in bounds, a question about a client when it names
-- one besides; plans that are the same are checked alike; and a client's slots repeat with the frame.
-- Assumes nothing.
use mathlib.Core.Path.{◌≡◌, refl, ap, sym}
use mathlib.Core.List.{List}
use mathlib.Core.Logic.{◌≢◌, ⊎_elim}
use Prim.Native.Nat.{ℕ, ◌+◌, ◌%◌, ◌≤◌, ◌<◌, max}
use native.Mathlib.Nat.{add-mod_right, mod-lt}
use native.Mathlib.Omega.{arith}
use lib.Dec.{eqb}
use lib.ListN.{get_or}
use borrow.Author.Tests.{leb-true, le-leb, lt-leb, eq-eqb, ne_eqb}
use Rattle.records.specs.declared.refusal.Refusal.TheVariants as refusal
use Rattle.records.specs.First.{or_else, Fine}
use Rattle.records.proofs.Checks.{between_true, both_fine, unless_fine, range_fine, range_pass, first_fine, first_all}
use Rattle.records.proofs.Checks.{first_same, one_or_none, below_or_not}
use Rattle.records.proofs.Lists.{get_padded, padded_same}
use Rattle.plan.specs.declared.Client.{Client}
use Rattle.plan.specs.declared.Plan.{Plan}
use Rattle.plan.specs.Plan.{no_client, client_of, owner_of, is_client, own_in, own_of, Same, SameRequired, used}
use Rattle.plan.specs.Check.{client_check, owner_check, client_check_of, requirements_check, owner_check_of}
use Rattle.plan.specs.Check.{owners_check, plan_check, asked_check}

-- ---- one check

-- what a client's requirements have that pass
pub record Required (c : Client) : Type 0 where
  pub p_low : 1 ≤ c.p
  pub p_high : c.p ≤ c.q
  pub b_low : 1 ≤ c.b

pub client_fine : (c : Client) (offset : ℕ) → client_check c offset ≡ Fine → Required c
unfolding client_check
client_fine c offset h =
    let a = both_fine _ _ h in
    let r = between_true 1 c.p c.q (unless_fine _ _ _ a.0) in
    record { p_low = r.0; p_high = r.1; b_low = leb-true 1 c.b (unless_fine _ _ _ a.1) }

pub client_pass : (c : Client) (offset : ℕ) → Required c → client_check c offset ≡ Fine
unfolding client_check
client_pass c offset r = simp (le-leb 1 c.p r.p_low, le-leb c.p c.q r.p_high, le-leb 1 c.b r.b_low)

pub owner_fine : (owner n offset : ℕ) → owner_check owner n offset ≡ Fine → owner ≤ n
unfolding owner_check
owner_fine owner n offset h = leb-true owner n (unless_fine _ _ _ h)

pub owner_pass : (owner n offset : ℕ) → owner ≤ n → owner_check owner n offset ≡ Fine
unfolding owner_check
owner_pass owner n offset h = simp (le-leb owner n h)

-- of two owners checked at one place, the higher decides: the other one where the first passes
owner_other : (one other n offset : ℕ) → one ≤ n → owner_check other n offset ≡ owner_check (max one other) n offset
unfolding owner_check
owner_other one other n offset h =
    ⊎_elim
    (λ (k : n < other). simp (lt-leb other n k, lt-leb (max one other) n (omega arith)))
    (λ (k : other ≤ n). simp (le-leb other n k, le-leb (max one other) n (omega arith)))
    (below_or_not n other)

pub owner_higher : (one other n offset : ℕ)
    → or_else (owner_check one n offset) (owner_check other n offset) ≡ owner_check (max one other) n offset
unfolding owner_check
owner_higher one other n offset =
    ⊎_elim
    (λ (h : n < one). simp (lt-leb one n h, lt-leb (max one other) n (omega arith)))
    (λ (h : one ≤ n). rw (le-leb one n h) (owner_other one other n offset h))
    (below_or_not n one)

-- ---- the whole: a plan passes exactly when it is in bounds

-- f, n and the clients' requirements are as they may be
pub record InBounds (plan : Plan) : Type 0 where
  pub f_low : 1 ≤ plan.f
  pub f_high : plan.f ≤ 64
  pub n_low : 1 ≤ plan.n
  pub n_high : plan.n ≤ 8
  pub required : (i : ℕ) → i < plan.n → Required (client_of plan i)

-- and so are the owners
pub record Checked (plan : Plan) : Type 0 where
  pub bounds : InBounds plan
  pub owned : (x : ℕ) → x < plan.f → owner_of plan x ≤ plan.n

pub requirements_fine : (plan : Plan) → requirements_check plan ≡ Fine → InBounds plan
unfolding requirements_check client_check_of
requirements_fine plan h =
    let a = both_fine _ _ h in
    let b = both_fine _ _ a.1 in
    let f = range_fine plan.f 64 refusal.Frame a.0 in
    let n = range_fine plan.n 8 refusal.Count b.0 in
    record {
      f_low = f.0;
      f_high = f.1;
      n_low = n.0;
      n_high = n.1;
      required = λ i l. client_fine (client_of plan i) 0 (first_fine (client_check_of plan) plan.n b.1 i l);
    }

pub requirements_pass : (plan : Plan) → InBounds plan → requirements_check plan ≡ Fine
unfolding requirements_check client_check_of
requirements_pass plan b =
    rw (
      range_pass plan.f 64 refusal.Frame b.f_low b.f_high,
      range_pass plan.n 8 refusal.Count b.n_low b.n_high,
    )
    (first_all (client_check_of plan) plan.n (λ i l. client_pass (client_of plan i) 0 (b.required i l)))

pub plan_fine : (plan : Plan) → plan_check plan ≡ Fine → Checked plan
unfolding plan_check owners_check owner_check_of
plan_fine plan h =
    let a = both_fine _ _ h in
    record {
      bounds = requirements_fine plan a.0;
      owned = λ x l. owner_fine (owner_of plan x) plan.n 0 (first_fine (owner_check_of plan) plan.f a.1 x l);
    }

pub plan_pass : (plan : Plan) → Checked plan → plan_check plan ≡ Fine
unfolding plan_check owners_check owner_check_of
plan_pass plan c =
    rw (requirements_pass plan c.bounds)
    (first_all (owner_check_of plan) plan.f (λ x l. owner_pass (owner_of plan x) plan.n 0 (c.owned x l)))

-- a question about a client passes exactly when its plan does and it names one
pub asked_fine : (plan : Plan) (c : ℕ) → asked_check plan c ≡ Fine → Checked plan × (1 ≤ c) × (c ≤ plan.n)
unfolding asked_check
asked_fine plan c h =
    let a = both_fine _ _ h in
    let r = range_fine c plan.n refusal.Asked a.1 in
    (plan_fine plan a.0, r.0, r.1)

pub asked_pass : (plan : Plan) (c : ℕ) → Checked plan → 1 ≤ c → c ≤ plan.n → asked_check plan c ≡ Fine
unfolding asked_check
asked_pass plan c ok low high = rw (plan_pass plan ok) (range_pass c plan.n refusal.Asked low high)

-- ---- plans that are the same

-- what is 0 past f and past n is the same plan
pub used_same : (plan : Plan) → Same plan (used plan)
unfolding used
used_same plan =
    record {
      frame = refl;
      count = refl;
      clients = λ i l. sym (get_padded (client_of plan) plan.n 8 no_client i l);
      owners = λ x l. sym (get_padded (owner_of plan) plan.f 64 0 x l);
    }

-- and there is one such plan
pub same_used : (plan other : Plan) → Same plan other → used plan ≡ used other
unfolding used
same_used plan other s =
    let c = padded_same (client_of plan) (client_of other) plan.n 8 no_client s.clients in
    let o = padded_same (owner_of plan) (owner_of other) plan.f 64 0 s.owners in
    rw (c, o, s.frame, s.count)

-- plans with the same requirements are refused alike before their owners are looked at
pub same_required : (plan other : Plan) → Same plan other → SameRequired plan other
same_required plan other s = record { frame = s.frame; count = s.count; clients = s.clients }

pub requirements_same : (plan other : Plan) → SameRequired plan other
    → requirements_check plan ≡ requirements_check other
unfolding requirements_check client_check_of
requirements_same plan other s =
    let c = first_same (client_check_of plan) (client_check_of other) plan.n
    (λ i l. ap (λ (x : Client). client_check x 0) (s.clients i l)) in
    rw (c, s.frame, s.count)

-- either way round
pub required_back : (plan other : Plan) → SameRequired plan other → SameRequired other plan
required_back plan other s =
    record {
      frame = sym s.frame;
      count = sym s.count;
      clients = λ i l. sym (s.clients i (omega (arith, s.count)));
    }

-- the same plan is refused alike
pub same_check : (plan other : Plan) → Same plan other → plan_check plan ≡ plan_check other
unfolding plan_check owners_check owner_check_of
same_check plan other s =
    let r = requirements_same plan other (same_required plan other s) in
    let o = first_same (owner_check_of plan) (owner_check_of other) plan.f (λ x l. rw (s.owners x l, s.count)) in
    rw (r, o, s.frame)

-- and so is a question about it
pub same_asked : (plan other : Plan) → Same plan other → (c : ℕ) → asked_check plan c ≡ asked_check other c
unfolding asked_check
same_asked plan other s c = rw (same_check plan other s, s.count)

-- ---- a client's slots

pub client_most : (c x : ℕ) → is_client c x ≤ 1
client_most c x = one_or_none (eqb x c)

pub client_is : (c x : ℕ) → x ≡ c → is_client c x ≡ 1
client_is c x e = rw (eq-eqb x c e)

pub client_not : (c x : ℕ) → x ≢ c → is_client c x ≡ 0
client_not c x h = rw (ne_eqb x c h)

pub own_most : (owners : List ℕ) (f c s : ℕ) → own_in owners f c s ≤ 1
unfolding own_in
own_most owners f c s = client_most c (get_or owners (s % f) 0)

pub own_round : (owners : List ℕ) (f c s : ℕ) → own_in owners f c (s + f) ≡ own_in owners f c s
unfolding own_in
own_round owners f c s = rw (add-mod_right s f)

-- a client of plans that are the same has the same slots
pub own_same : (plan other : Plan) → Same plan other → 0 < plan.f → (c s : ℕ) → own_of plan c s ≡ own_of other c s
unfolding own_in
own_same plan other same f> c s =
    let e : owner_of plan (s % plan.f) ≡ owner_of other (s % plan.f) = same.owners (s % plan.f) (mod-lt s f>) in
    rw (e, same.frame)
