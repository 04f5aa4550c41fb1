-- Lists made piece by piece, and a part of a list.
use Rattle.std.specs.Prelude.{List, [], ◌∷◌, ◌++◌, ℕ, zero, suc, take, drop, replicate}

-- the pieces g 0, .., g (n - 1), one after the other
unfoldable pub many : {A : Type 0} → (ℕ → List A) → ℕ → List A
many g zero = []
many g (suc n) = many g n ++ g n

-- the elements f 0, .., f (n - 1)
unfoldable pub firsts : {A : Type 0} → (ℕ → A) → ℕ → List A
firsts f zero = []
firsts f (suc n) = firsts f n ++ (f n ∷ [])

-- a list with the elements f 0, .., f (n - 1) in its first n places, the others kept
unfoldable pub onto : {A : Type 0} → (ℕ → A) → ℕ → List A → List A
onto f n l = firsts f n ++ drop n l

-- the elements f 0, .., f (n - 1), and z in the places from n up to size
unfoldable pub padded : {A : Type 0} → (ℕ → A) → ℕ → ℕ → A → List A
padded f n size z = onto f n (replicate size z)

-- the w elements from the place at on
unfoldable pub part : {A : Type 0} → List A → ℕ → ℕ → List A
part s at w = take w (drop at s)
