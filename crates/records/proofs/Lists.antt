-- Laws of lists made piece by piece: lengths, elements, and one more turn of the loop that makes them.
-- Assumes nothing.
use mathlib.Core.Path.{◌≡◌, refl, ap, sym, ◌∙◌}
use mathlib.Core.List.{List, [], ◌∷◌, ◌++◌, append_assoc}
use mathlib.Core.Logic.{⊎_elim}
use Prim.Native.Nat.{ℕ, zero, suc, ◌+◌, ◌-◌, ◌*◌, ◌≤◌, ◌<◌}
use native.Mathlib.Nat.{mul-suc, mul-zero}
use native.Mathlib.Numerals.{add-one}
use native.Mathlib.Omega.{arith}
use lib.ListN.{length, get_or, set, take, drop, replicate, length-append, length-replicate}
use lib.Seq.{set_at, take_at, drop_at, append_snoc, get_or_at, drop-cons, get_or-append-add, get_or-drop}
use Rattle.records.specs.Pieces.{many, firsts, onto, padded}
use Rattle.records.proofs.Checks.{last_or_below}

-- ---- pieces

pub many_more : {A : Type 0} (g : ℕ → List A) (n : ℕ) → many g (n + 1) ≡ many g n ++ g n
unfolding many
many_more g n = rw add-one

pub length_many : {A : Type 0} (g : ℕ → List A) (w : ℕ) → ((i : ℕ) → length (g i) ≡ w) → (n : ℕ)
    → length (many g n) ≡ w * n
unfolding many
length_many g w h zero = sym (mul-zero w)
length_many g w h (suc n) = length-append (many g n) (g n) ∙ (rw (length_many g w h n, h n) (sym (mul-suc w n)))

-- a piece ends within the whole
pub within_many : {A : Type 0} (g : ℕ → List A) (n i : ℕ) → i < n
    → length (many g i) + length (g i) ≤ length (many g n)
unfolding many
within_many g zero i l = absurd (omega arith)
within_many g (suc n) i l =
    let e = length-append (many g n) (g n) in
    ⊎_elim
    (λ (q : i ≡ n). rw q (omega arith))
    (λ (m : i < n). omega (arith, within_many g n i m))
    (last_or_below i n l)

pub many_same : {A : Type 0} (g h : ℕ → List A) (n : ℕ) → ((i : ℕ) → i < n → g i ≡ h i) → many g n ≡ many h n
unfolding many
many_same g h zero e = refl
many_same g h (suc n) e = rw (many_same g h n (λ i l. e i (omega arith)), e n (omega arith))

-- ---- single elements

pub length_firsts : {A : Type 0} (f : ℕ → A) (n : ℕ) → length (firsts f n) ≡ n
unfolding firsts
length_firsts f zero = refl
length_firsts f (suc n) = length-append (firsts f n) (f n ∷ []) ∙ omega (arith, length_firsts f n)

pub firsts_more : {A : Type 0} (f : ℕ → A) (n : ℕ) → firsts f (n + 1) ≡ firsts f n ++ (f n ∷ [])
unfolding firsts
firsts_more f n = rw add-one

pub firsts_same : {A : Type 0} (f g : ℕ → A) (n : ℕ) → ((i : ℕ) → i < n → f i ≡ g i) → firsts f n ≡ firsts g n
unfolding firsts
firsts_same f g zero e = refl
firsts_same f g (suc n) e = rw (firsts_same f g n (λ i l. e i (omega arith)), e n (omega arith))

pub get_firsts : {A : Type 0} (f : ℕ → A) (d : A) (r : List A) (n i : ℕ) → i < n → get_or (firsts f n ++ r) i d ≡ f i
unfolding firsts
get_firsts f d r zero i l = absurd (omega arith)
get_firsts {A} f d r (suc n) i l =
    ap (λ (x : List A). get_or x i d) (append_assoc (firsts f n) (f n ∷ []) r)
    ∙ ⊎_elim
    (λ (q : i ≡ n). get_or_at (firsts f n) (f n) r d i (length_firsts f n ∙ sym q) ∙ ap f (sym q))
    (λ (m : i < n). get_firsts f d (f n ∷ r) n i m)
    (last_or_below i n l)

-- ---- an array that is filled from the front

pub get_onto : {A : Type 0} (f : ℕ → A) (n : ℕ) (l : List A) (d : A) (i : ℕ) → i < n → get_or (onto f n l) i d ≡ f i
unfolding onto
get_onto f n l d i h = get_firsts f d (drop n l) n i h

-- the other places are kept
pub onto_past : {A : Type 0} (f : ℕ → A) (n : ℕ) (l : List A) (d : A) (i : ℕ) → n ≤ i
    → get_or (onto f n l) i d ≡ get_or l i d
unfolding onto
onto_past f n l d i h =
    let e : i ≡ n + (i - n) = omega arith in
    rw e
    (rw (length_firsts f n) at (get_or-append-add (firsts f n) (drop n l) (i - n) d) ∙ get_or-drop n l (i - n) d)

pub onto_reaches : {A : Type 0} (f : ℕ → A) (n : ℕ) (l : List A) → n ≤ length (onto f n l)
unfolding onto
onto_reaches f n l = omega (arith, length-append (firsts f n) (drop n l), length_firsts f n)

pub onto_same : {A : Type 0} (f g : ℕ → A) (n : ℕ) (l : List A) → ((i : ℕ) → i < n → f i ≡ g i)
    → onto f n l ≡ onto g n l
unfolding onto
onto_same f g n l e = rw (firsts_same f g n e)

pub onto_none : {A : Type 0} (f : ℕ → A) (l : List A) → l ≡ onto f 0 l
unfolding onto firsts
onto_none f l = refl

-- one turn of the loop that fills it
pub onto_more : {A : Type 0} (f : ℕ → A) (n : ℕ) (l : List A) → n < length l
    → set (onto f n l) n (f n) ≡ onto f (n + 1) l
unfolding onto
onto_more f n l h =
    rw (drop-cons l n (f n) h, firsts_more, add-one)
    (set_at (firsts f n) _ (drop (suc n) l) (f n) n (length_firsts f n) ∙ sym
    (append_snoc (firsts f n) (f n) (drop (suc n) l)))

-- ---- the same with one value in the other places

pub get_replicate : {A : Type 0} (size : ℕ) (z : A) (i : ℕ) → get_or (replicate size z) i z ≡ z
get_replicate zero z i = refl
get_replicate (suc size) z zero = refl
get_replicate (suc size) z (suc i) = get_replicate size z i

pub get_padded : {A : Type 0} (f : ℕ → A) (n size : ℕ) (z : A) (i : ℕ) → i < n → get_or (padded f n size z) i z ≡ f i
unfolding padded
get_padded f n size z i l = get_onto f n (replicate size z) z i l

-- and z past n
pub padded_past : {A : Type 0} (f : ℕ → A) (n size : ℕ) (z : A) (i : ℕ) → n ≤ i → get_or (padded f n size z) i z ≡ z
unfolding padded
padded_past f n size z i l = onto_past f n (replicate size z) z i l ∙ get_replicate size z i

pub padded_same : {A : Type 0} (f g : ℕ → A) (n size : ℕ) (z : A) → ((i : ℕ) → i < n → f i ≡ g i)
    → padded f n size z ≡ padded g n size z
unfolding padded
padded_same f g n size z e = onto_same f g n (replicate size z) e

pub padded_none : {A : Type 0} (f : ℕ → A) (size : ℕ) (z : A) → replicate size z ≡ padded f 0 size z
unfolding padded
padded_none f size z = onto_none f (replicate size z)

pub padded_more : {A : Type 0} (f : ℕ → A) (n size : ℕ) (z : A) → n < size
    → set (padded f n size z) n (f n) ≡ padded f (n + 1) size z
unfolding padded
padded_more f n size z h = onto_more f n (replicate size z) (omega (arith, length-replicate size z))

pub take_padded : {A : Type 0} (f : ℕ → A) (n size : ℕ) (z : A) → take n (padded f n size z) ≡ firsts f n
unfolding padded onto
take_padded f n size z = take_at (firsts f n) _ n (length_firsts f n)

drop_replicate : {A : Type 0} (n size : ℕ) (z : A) → drop n (replicate size z) ≡ replicate (size - n) z
drop_replicate zero size z = let e : size ≡ size - 0 = omega arith in ap (λ (k : ℕ). replicate k z) e
drop_replicate (suc n) zero z = let e : 0 ≡ 0 - suc n = omega arith in ap (λ (k : ℕ). replicate k z) e
drop_replicate (suc n) (suc size) z =
    let e : size - n ≡ suc size - suc n = omega arith in
    drop_replicate n size z ∙ ap (λ (k : ℕ). replicate k z) e

pub drop_padded : {A : Type 0} (f : ℕ → A) (n size : ℕ) (z : A)
    → drop n (padded f n size z) ≡ replicate (size - n) z
unfolding padded onto
drop_padded f n size z = drop_at (firsts f n) _ n (length_firsts f n) ∙ drop_replicate n size z
