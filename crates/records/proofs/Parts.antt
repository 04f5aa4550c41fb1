-- A part of a list by place and length: its elements, and a list as its parts in order.
-- Assumes nothing.
use mathlib.Core.Path.{◌≡◌, refl, ap, sym, ◌∙◌}
use mathlib.Core.List.{List, [], ◌∷◌, ◌++◌, append_assoc}
use mathlib.Core.Logic.{⊎_elim}
use Prim.Native.Nat.{ℕ, zero, suc, ◌+◌, ◌≤◌, ◌<◌}
use native.Mathlib.Nat.{add-zero}
use native.Mathlib.Omega.{arith}
use lib.ListN.{length, take, drop, get_or, length-append, take-append-drop}
use lib.Seq.{take_at, drop_at, drop-drop, drop-cons, get_or-take, get_or-drop}
use Rattle.records.specs.Pieces.{many, part}
use Rattle.records.proofs.Checks.{last_or_below}
use Rattle.records.proofs.Lists.{within_many}

-- the elements of s from the place at + k on, w of them, one by one
abbrev pub run : List ℕ → ℕ → ℕ → ℕ → List ℕ
run s at k zero = []
run s at k (suc w) = get_or s (at + k) 0 ∷ run s at (suc k) w

run_from : (s : List ℕ) (at k w : ℕ) → at + (k + w) ≤ length s → part s (at + k) w ≡ run s at k w
unfolding part
run_from s at k zero h = refl
run_from s at k (suc w) h =
    let e : suc (at + k) ≡ at + suc k = omega arith in
    ap (take (suc w)) (drop-cons s (at + k) 0 (omega arith))
    ∙ ap (λ (x : List ℕ). get_or s (at + k) 0 ∷ x)
    (ap (λ (x : ℕ). take w (drop x s)) e ∙ run_from s at (suc k) w (omega arith))

pub part_run : (s : List ℕ) (at w : ℕ) → at + w ≤ length s → part s at w ≡ run s at 0 w
part_run s at w h = ap (λ (x : ℕ). part s x w) (sym (add-zero at)) ∙ run_from s at 0 w (omega arith)

-- an element of a part that is known
pub part_get : (s : List ℕ) (at w : ℕ) (r : List ℕ) → part s at w ≡ r → (t : ℕ) → t < w
    → get_or s (at + t) 0 ≡ get_or r t 0
unfolding part
part_get s at w r e t h =
    sym (get_or-take w (drop at s) t 0 h ∙ get_or-drop at s t 0) ∙ ap (λ (x : List ℕ). get_or x t 0) e

pub part_first : (s : List ℕ) (at w : ℕ) (r : List ℕ) → part s at w ≡ r → 0 < w → get_or s at 0 ≡ get_or r 0 0
part_first s at w r e h = ap (λ (x : ℕ). get_or s x 0) (sym (add-zero at)) ∙ part_get s at w r e 0 h

-- what is left at a place: a part, and what is left past it
pub part_rest : (s : List ℕ) (at w : ℕ) → part s at w ++ drop (at + w) s ≡ drop at s
unfolding part
part_rest s at w =
    ap (λ (x : List ℕ). take w (drop at s) ++ x) (sym (drop-drop w at s)) ∙ take-append-drop w (drop at s)

pub part_at : (a b r : List ℕ) → part (a ++ (b ++ r)) (length a) (length b) ≡ b
unfolding part
part_at a b r = ap (take (length b)) (drop_at a (b ++ r) (length a) refl) ∙ take_at b r (length b) refl

-- a piece stands where the pieces before it end
pub part_many : (a r : List ℕ) (g : ℕ → List ℕ) (n i : ℕ) → i < n
    → part (a ++ (many g n ++ r)) (length (a ++ many g i)) (length (g i)) ≡ g i
unfolding many
part_many a r g zero i l = absurd (omega arith)
part_many a r g (suc n) i l =
    ap (λ (x : List ℕ). part (a ++ x) (length (a ++ many g i)) (length (g i))) (append_assoc (many g n) (g n) r)
    ∙ ⊎_elim
    (λ (q : i ≡ n).
    rw q
    (ap (λ (x : List ℕ). part x (length (a ++ many g n)) (length (g n))) (sym (append_assoc a (many g n) (g n ++ r)))
    ∙ part_at (a ++ many g n) (g n) r))
    (λ (m : i < n). part_many a (g n ++ r) g n i m)
    (last_or_below i n l)

-- and ends within the whole
pub many_room : (a r : List ℕ) (g : ℕ → List ℕ) (n i : ℕ) → i < n
    → length (a ++ many g i) + length (g i) ≤ length (a ++ (many g n ++ r))
many_room a r g n i l = simp length-append (omega (arith, within_many g n i l))

-- pieces that are the parts of s at the places at 0, at 1, .., each where the one before ends, make up s there
pub many_part : (g : ℕ → List ℕ) (s : List ℕ) (at : ℕ → ℕ) (n : ℕ)
    → ((i : ℕ) → i < n → (at (suc i) ≡ at i + length (g i)) × (part s (at i) (length (g i)) ≡ g i))
    → many g n ++ drop (at n) s ≡ drop (at 0) s
unfolding many
many_part g s at zero h = refl
many_part g s at (suc n) h =
    let e = h n (omega arith) in
    append_assoc (many g n) (g n) (drop (at (suc n)) s)
    ∙ ap (λ (x : ℕ). many g n ++ (g n ++ drop x s)) e.0
    ∙ ap (λ (x : List ℕ). many g n ++ (x ++ drop (at n + length (g n)) s)) (sym e.1)
    ∙ ap (λ (x : List ℕ). many g n ++ x) (part_rest s (at n) (length (g n)))
    ∙ many_part g s at n (λ i l. h i (omega arith))
