-- What the loops over a plan's frame keep: a client's slots counted along, the place in the frame, and the most that a
-- stretch lacks so far; and that their numbers are small.
-- Assumes nothing.
use mathlib.Core.Path.{◌≡◌, refl, sym, ap, ◌∙◌}
use mathlib.Core.List.{List}
use Prim.Native.Nat.{ℕ, ◌+◌, ◌-◌, ◌*◌, ◌%◌, ◌≤◌, ◌<◌}
use native.Mathlib.Nat.{zero-add, add-zero, add_assoc, mod-eq_of_lt, mod-lt, mul-le-mul}
use native.Mathlib.Omega.{arith}
use lib.ListN.{get_or}
use Rattle.frame.specs.Frame.{next_of, within, slots_of, Frame, IsScaled}
use Rattle.frame.specs.Largest.{largest, lack, lack_from, scaled_of}
use Rattle.frame.proofs.Within.{next_mod, within_more, within_most}
use Rattle.frame.proofs.Scaled.{scaled_is}
use Rattle.plan.specs.declared.Plan.{Plan}
use Rattle.plan.specs.Plan.{is_client, own_in, own_of}
use Rattle.plan.proofs.Laws.{own_most, own_round}

-- a plan's frame as one client sees it
pub frame_of : (plan : Plan) (c : ℕ) → 0 < plan.f → Frame (own_of plan c) plan.f (slots_of (own_of plan c) plan.f)
frame_of plan c f> =
    record {
      f> = f>;
      most = own_most plan.owners plan.f c;
      round = own_round plan.owners plan.f c;
      slots = refl;
    }

-- ---- small numbers

pub product_small : (a b : ℕ) → a ≤ 64 → b ≤ 64 → a * b ≤ 4096
product_small a b l h = mul-le-mul l h

pub count_small : (owners : List ℕ) (f c s j : ℕ) → j ≤ 64 → within (own_in owners f c) s j ≤ 64
count_small owners f c s j l = omega (arith, within_most (own_in owners f c) (own_most owners f c) s j)

pub slots_small : (plan : Plan) (c m : ℕ) → m ≡ slots_of (own_of plan c) plan.f → plan.f ≤ 64 → m ≤ 64
slots_small plan c m e l = omega (arith, count_small plan.owners plan.f c 0 plan.f l)

-- ---- one slot on

-- the place is one of the frame
pub in_frame : (f s j at : ℕ) → s < f → at ≡ (s + j) % f → at < f
in_frame f s j at l e = let f> : 0 < f = omega arith in omega (arith, mod-lt (s + j) f>)

pub count_on : (owners : List ℕ) (f c s j w at o : ℕ) → w ≡ within (own_in owners f c) s j → at ≡ (s + j) % f
    → o ≡ is_client c (get_or owners at 0) → w + o ≡ within (own_in owners f c) s (j + 1)
unfolding own_in
count_on owners f c s j w at o e p h =
    let here : o ≡ own_in owners f c (s + j) = h ∙ ap (λ (x : ℕ). is_client c (get_or owners x 0)) p in
    omega (arith, within_more (own_in owners f c) s j)

pub place_first : (f at : ℕ) → at < f → at ≡ (0 + at) % f
place_first f at l = sym (ap (λ (x : ℕ). x % f) (zero-add at) ∙ mod-eq_of_lt l)

pub place_zero : (f s : ℕ) → s < f → s ≡ (s + 0) % f
place_zero f s l = sym (ap (λ (x : ℕ). x % f) (add-zero s) ∙ mod-eq_of_lt l)

pub place_on : (f s j at : ℕ) → at ≡ (s + j) % f → next_of f at ≡ (s + (j + 1)) % f
place_on f s j at e = ap (next_of f) e ∙ next_mod f (s + j) ∙ ap (λ (x : ℕ). x % f) (add_assoc s j 1)

pub lack_at : (own : ℕ → ℕ) (f m s j w x : ℕ) → w ≡ within own s j → x ≡ m * j - f * w → x ≡ lack own f m s j
unfolding lack
lack_at own f m s j w x e h = h ∙ ap (λ (n : ℕ). m * j - f * n) e

-- ---- every start and every length tried

pub scaled_all : (plan : Plan) (c m most : ℕ) → 0 < plan.f → m ≡ slots_of (own_of plan c) plan.f
    → most ≡ largest plan.f (lack_from (own_of plan c) plan.f m)
    → IsScaled (own_of plan c) plan.f m most
unfolding scaled_of
scaled_all plan c m most f> e h = rw (h, e) (scaled_is (frame_of plan c f>))
