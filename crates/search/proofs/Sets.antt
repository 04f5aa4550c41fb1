-- Fillings that lead to the same leaf of a client's tree give the client the same slots, so a client judged on one of
-- them is judged on all. With the laws of the two loops that make such a table: the places that lead to a leaf, from
-- the last one on, and the slots, filled one after the other.
-- Assumes nothing.
use mathlib.Core.Path.{◌≡◌, refl, sym, ap, ◌∙◌, fun_ext}
use mathlib.Core.Bool.{Bool, true, false}
use mathlib.Core.List.{List, [], ◌∷◌}
use Prim.Native.Nat.{ℕ, zero, suc, ◌+◌, ◌-◌, ◌*◌, ◌/◌, ◌%◌, ◌^◌, ◌≤◌, ◌<◌}
use native.Mathlib.Nat.{mod-lt, pow-suc}
use native.Mathlib.Numerals.{add-one}
use native.Mathlib.Omega.{arith}
use lib.Dec.{eqb}
use lib.ListN.{length, get_or, take, drop, set, length-take, drop_of_length-le}
use lib.Seq.{get_or-take, length-take-le, take-set-lt, set_split, drop_at}
use borrow.Author.Tests.{eqb-true, ne_eqb}
use Rattle.frame.specs.Frame.{within}
use Rattle.frame.proofs.Within.{within_grows, within_more}
use Rattle.records.specs.First.{pick}
use Rattle.records.specs.Pieces.{padded}
use Rattle.records.proofs.Lists.{get_padded}
use Rattle.plan.specs.declared.Plan.{Plan}
use Rattle.plan.specs.Plan.{client_of, owner_of, is_client, own_in, own_of, with_table}
use Rattle.plan.proofs.Laws.{client_most}
use Rattle.figures.proofs.Laws.{place_first}
use Rattle.judge.specs.declared.Verdict.{Verdict}
use Rattle.judge.specs.declared.Verdict.TheVariants.{Ok}
use Rattle.judge.specs.Rules.{IsVerdict}
use Rattle.judge.specs.Judge.{ClientOk}
use Rattle.judge.proofs.Once.{verdict_one}
use Rattle.explore.specs.Needs.{child_of, node_from, node_of}
use Rattle.search.specs.Mend.{idle_of}
use Rattle.search.specs.Trees.{filled_in, filled_at, filled, Suits}
use Rattle.search.proofs.Fillings.{get_filled}

-- ---- leaves

-- one node below: the node above and whose the place is
child_one : (c x y d e : ℕ) → child_of c x d ≡ child_of c y e → (x ≡ y) × (is_client c d ≡ is_client c e)
child_one c x y d e h =
    let a = client_most c d in
    let b = client_most c e in
    (omega arith, omega arith)

-- a leaf tells where the client's places are
from_one : (c x y : ℕ) (u v : List ℕ) → length u ≡ length v → node_from c x u ≡ node_from c y v
    → (x ≡ y) × ((j : ℕ) → is_client c (get_or u j 0) ≡ is_client c (get_or v j 0))
from_one c x y [] [] e h = (h, λ j. refl)
from_one c x y [] (b ∷ v) e h = absurd (omega arith)
from_one c x y (a ∷ u) [] e h = absurd (omega arith)
from_one c x y (a ∷ u) (b ∷ v) e h =
    let below = from_one c (child_of c x a) (child_of c y b) u v (omega arith) h in
    let here = child_one c x y a b below.0 in
    (here.0, place here.1 below.1)
  where
    place : is_client c a ≡ is_client c b → ((j : ℕ) → is_client c (get_or u j 0) ≡ is_client c (get_or v j 0))
        → (j : ℕ)
        → is_client c (get_or (a ∷ u) j 0) ≡ is_client c (get_or (b ∷ v) j 0)
    place first later zero = first
    place first later (suc j) = later j

leaf_places : (c : ℕ) (u v : List ℕ) → length u ≡ length v → node_of c u ≡ node_of c v → (j : ℕ)
    → is_client c (get_or u j 0) ≡ is_client c (get_or v j 0)
unfolding node_of
leaf_places c u v e h = (from_one c 1 1 u v e h).1

-- ---- the owners that lead to a leaf, from the last place on

drop_set : (owners : List ℕ) (g j owner : ℕ) → j < g → g ≤ length owners
    → drop j (take g (set owners j owner)) ≡ owner ∷ drop (suc j) (take g owners)
drop_set owners g j owner l h =
    let long = length-take-le g owners h in
    let front = length-take-le j (take g owners) (omega arith) in
    ap (drop j) (take-set-lt g owners j owner l ∙ set_split (take g owners) j owner (omega arith))
    ∙ drop_at (take j (take g owners)) (owner ∷ drop (suc j) (take g owners)) j front

pub leads_none : (c g node : ℕ) (owners : List ℕ) → node_from c node (drop g (take g owners)) ≡ node
leads_none c g node owners = rw (drop_of_length-le (take g owners) {i = g} (omega (arith, length-take g owners)))

pub leads_more : (c g node : ℕ) (owners : List ℕ) (above j owner : ℕ) → j < g → g ≤ length owners
    → child_of c (above / 2) owner ≡ above → node_from c above (drop (suc j) (take g owners)) ≡ node
    → node_from c (above / 2) (drop j (take g (set owners j owner))) ≡ node
leads_more c g node owners above j owner l h child leads =
    ap (node_from c (above / 2)) (drop_set owners g j owner l h)
    ∙ ap (λ (x : ℕ). node_from c x (drop (suc j) (take g owners))) child ∙ leads

pub leads_all : (c g node above j : ℕ) (owners : List ℕ) → j ≡ 0 → above ≡ 1
    → node_from c above (drop j (take g owners)) ≡ node → node_of c (take g owners) ≡ node
unfolding node_of
leads_all c g node above j owners e h leads = rw (e, h) at leads

-- half of a node stands one place higher
pub half : (j above : ℕ) → 2 ^ (j + 1) ≤ above → above < 2 ^ (j + 1 + 1)
    → (2 ^ j ≤ above / 2) × (above / 2 < 2 ^ (j + 1))
half j above l h =
    let one : 2 ^ (j + 1) ≡ 2 ^ j * 2 = rw add-one (pow-suc 2 j) in
    let two : 2 ^ (j + 1 + 1) ≡ 2 ^ (j + 1) * 2 = ap (λ (k : ℕ). 2 ^ k) (add-one (j + 1)) ∙ pow-suc 2 (j + 1) in
    (omega arith, omega arith)

-- ---- slots

-- an idle slot has fewer idle slots before it than there are
pub idle_before : (plan : Plan) (x : ℕ) → x < plan.f → owner_of plan x ≡ 0 → within (own_of plan 0) 0 x < idle_of plan
unfolding own_in
idle_before plan x l e =
    let own = own_of plan 0 in
    let here : own (0 + x) ≡ 1 = rw (← place_first plan.f x l, e) in
    omega (arith, within_more own 0 x, within_grows own 0 (x + 1) plan.f (omega arith))

-- what the loop stores at an idle slot, and at an owned one
pub slot_idle : (owners : List ℕ) (f : ℕ) (filling : List ℕ) (x j : ℕ) → j ≡ within (own_in owners f 0) 0 x
    → get_or owners x 0 ≡ 0 → get_or filling j 0 ≡ filled_in owners f filling x
unfolding filled_in
slot_idle owners f filling x j e idle = rw (e, idle)

pub slot_owned : (owners : List ℕ) (f : ℕ) (filling : List ℕ) (x : ℕ) → eqb (get_or owners x 0) 0 ≡ false
    → get_or owners x 0 ≡ filled_in owners f filling x
unfolding filled_in
slot_owned owners f filling x owned = rw owned

-- an owned slot keeps its owner
pub slot_kept : (plan : Plan) (u : List ℕ) (x : ℕ) → 0 < owner_of plan x → filled_at plan u x ≡ owner_of plan x
unfolding filled_in
slot_kept plan u x l = rw (ne_eqb (owner_of plan x) 0 (λ e. omega arith))

-- owners that h does not tell apart fill each slot so that h does not
slot_map : (h : ℕ → ℕ) (plan : Plan) (u v : List ℕ)
    → ((j : ℕ) → j < idle_of plan → h (get_or u j 0) ≡ h (get_or v j 0)) → (x : ℕ) → x < plan.f
    → h (filled_at plan u x) ≡ h (filled_at plan v x)
unfolding filled_in
slot_map h plan u v alike x l = by (eqb (owner_of plan x) 0) refl
  where
    j : ℕ
    j = within (own_of plan 0) 0 x

    by : (b : Bool) → eqb (owner_of plan x) 0 ≡ b
        → h (pick b (get_or u j 0) (owner_of plan x)) ≡ h (pick b (get_or v j 0) (owner_of plan x))
    by true e = alike j (idle_before plan x l (eqb-true (owner_of plan x) 0 e))
    by false e = refl

-- places of a filling past the idle slots are not read
pub filled_front : (plan : Plan) (u : List ℕ) (x : ℕ) → x < plan.f
    → filled_at plan u x ≡ filled_at plan (take (idle_of plan) u) x
filled_front plan u =
    slot_map (λ owner. owner) plan u (take (idle_of plan) u) (λ j l. sym (get_or-take (idle_of plan) u j 0 l))

-- ---- a client's slots

module _ (plan : Plan) (f> : 0 < plan.f) (c : ℕ) where
  own_padded : (u : List ℕ) (s : ℕ) → own_in (padded (filled_at plan u) plan.f 64 0) plan.f c s
      ≡ is_client c (filled_at plan u (s % plan.f))
  unfolding own_in
  own_padded u s = ap (is_client c) (get_padded (filled_at plan u) plan.f 64 0 (s % plan.f) (mod-lt s f>))

  own_filled : (u : List ℕ) (s : ℕ) → own_in (filled plan u) plan.f c s ≡ is_client c (filled_at plan u (s % plan.f))
  unfolding own_in
  own_filled u s = ap (is_client c) (get_filled plan u (s % plan.f) (mod-lt s f>))

  -- owners that lead to the same leaf give the client the same slots
  own_leaf : (u v : List ℕ) → length v ≡ idle_of plan → idle_of plan ≤ length u
      → node_of c (take (idle_of plan) u) ≡ node_of c v
      → own_in (padded (filled_at plan u) plan.f 64 0) plan.f c ≡ own_in (filled plan v) plan.f c
  own_leaf u v e l h =
      let g = idle_of plan in
      let places = leaf_places c (take g u) v (length-take-le g u l ∙ sym e) h in
      let alike = slot_map (is_client c) plan u v (λ j b. ap (is_client c) (sym (get_or-take g u j 0 b)) ∙ places j) in
      fun_ext (λ s. own_padded u s ∙ alike (s % plan.f) (mod-lt s f>) ∙ sym (own_filled v s))

-- ---- what judging says of a leaf

-- the client is judged on one filling that leads to its node, so on every one
pub leaf_judged : (plan : Plan) (i g node : ℕ) (u table : List ℕ) (verdict : Verdict) → 0 < plan.f → g ≡ idle_of plan
    → g ≤ length u → node_of (i + 1) (take g u) ≡ node → table ≡ padded (filled_at plan u) plan.f 64 0
    → IsVerdict (client_of plan (i + 1 - 1)) (own_in table plan.f (i + 1)) plan.f verdict
    → (v : List ℕ) → length v ≡ g → node_of (i + 1) v ≡ node
    → IsVerdict (client_of plan i) (own_in (filled plan v) plan.f (i + 1)) plan.f verdict
leaf_judged plan i g node u table verdict f> g= l leads made judged v long leads' =
    let place : i + 1 - 1 ≡ i = omega arith in
    let same = own_leaf plan f> (i + 1) u v (long ∙ g=) (omega arith) (rw g= at (leads ∙ sym leads')) in
    rw (place, made, same) at judged

pub suits_by : (plan : Plan) (i : ℕ) (v : List ℕ) (verdict : Verdict) (need : ℕ)
    → IsVerdict (client_of plan i) (own_in (filled plan v) plan.f (i + 1)) plan.f verdict
    → (need ≡ 0 → verdict ≡ Ok) → (verdict ≡ Ok → need ≡ 0) → Suits plan i v need
suits_by plan i v verdict need judged there back =
    record {
      ok = λ z. ok_by verdict judged (there z);
      zero_if = λ ok. back (verdict_one _ _ _ verdict Ok judged ok);
    }
  where
    ok_by : (verdict : Verdict)
        → IsVerdict (client_of plan i) (own_in (filled plan v) plan.f (i + 1)) plan.f verdict → verdict ≡ Ok
        → ClientOk (with_table plan (filled plan v)) i
    ok_by verdict judged e = rw e at judged
