-- Dictionary order: there is one best table; where a table stands that begins with a front, or stands before it; and
-- that the tables passed grow, owner by owner of a front's next place, from those before the front to those up to it.
-- Assumes nothing.
use mathlib.Core.Path.{◌≡◌, refl, sym, ◌∙◌}
use mathlib.Core.List.{List, [], ◌∷◌, ◌++◌, append-nil}
use mathlib.Core.Logic.{◌⊎◌, inl, inr, ⊎_elim}
use Prim.Native.Nat.{ℕ, suc, ◌+◌, ◌-◌, ◌≤◌, ◌<◌}
use native.Mathlib.Nat.{zero-add}
use native.Mathlib.Omega.{arith}
use lib.ListN.{length}
use Rattle.records.proofs.Checks.{last_or_below}
use Rattle.explore.specs.Best.{Table, owned, LexLe, IsBest}
use Rattle.explore.specs.Seen.{Past, Before, UpTo}

-- ---- one best table

lex_one : (t u : List ℕ) → length t ≡ length u → LexLe t u → LexLe u t → t ≡ u
lex_one [] [] e h k = refl
lex_one [] (y ∷ u) e h k = absurd (omega arith)
lex_one (x ∷ t) [] e h k = absurd (omega arith)
lex_one (x ∷ t) (y ∷ u) e (inl l) (inl m) = absurd (omega arith)
lex_one (x ∷ t) (y ∷ u) e (inl l) (inr k) = absurd (omega (arith, k.0))
lex_one (x ∷ t) (y ∷ u) e (inr h) (inl m) = absurd (omega (arith, h.0))
lex_one (x ∷ t) (y ∷ u) e (inr h) (inr k) = rw (h.0, lex_one t u (omega arith) h.1 k.1)

pub best_one : (P : List ℕ → Type 0) (f n : ℕ) (t u : List ℕ) → IsBest P f n t → IsBest P f n u → t ≡ u
best_one P f n t u a b =
    let same : owned u ≡ owned t =
    omega (arith, a.fewest u b.table b.good, b.fewest t a.table a.good) in
    lex_one t u (a.table.long ∙ sym b.table.long) (a.least u b.table b.good same)
    (b.least t a.table a.good (sym same))

-- ---- a table and a front

pub before_or_begins : (p u : List ℕ) → UpTo p u → Before p u ⊎ ((v : List ℕ) × (u ≡ p ++ v))
before_or_begins [] u h = inr (u, refl)
before_or_begins (y ∷ p) [] h = absurd h
before_or_begins (y ∷ p) (x ∷ u) (inl l) = inl (inl l)
before_or_begins (y ∷ p) (x ∷ u) (inr h) =
    ⊎_elim (λ b. inl (inr (h.0, b))) (λ b. inr (b.0, cc (h.0, b.1))) (before_or_begins p u h.1)

pub before_up_to : (p u : List ℕ) → Before p u → UpTo p u
before_up_to [] u h = absurd h
before_up_to (y ∷ p) [] h = h
before_up_to (y ∷ p) (x ∷ u) (inl l) = inl l
before_up_to (y ∷ p) (x ∷ u) (inr h) = inr (h.0, before_up_to p u h.1)

pub before_least : (p u v : List ℕ) → Before p u → LexLe u (p ++ v)
before_least [] u v h = absurd h
before_least (y ∷ p) [] v h = absurd h
before_least (y ∷ p) (x ∷ u) v (inl l) = inl l
before_least (y ∷ p) (x ∷ u) v (inr h) = inr (h.0, before_least p u v h.1)

pub begins_least : (p v : List ℕ) → LexLe p (p ++ v)
begins_least [] v = tt
begins_least (y ∷ p) v = inr (refl, begins_least p v)

pub up_to_itself : (p : List ℕ) → UpTo p p
up_to_itself [] = tt
up_to_itself (y ∷ p) = inr (refl, up_to_itself p)

-- ---- the tables passed

-- of the tables of g places, those that have Q have Q', and the other way round
pub record SameTables (g n : ℕ) (Q Q' : List ℕ → Type 0) : Type 0 where
  pub there : (u : List ℕ) → Table g n u → Q u → Q' u
  pub back : (u : List ℕ) → Table g n u → Q' u → Q u

-- what goes over for the k places after p goes over for all
past_map : (R R' : List ℕ → Type 0) (q q' : List ℕ) (k n : ℕ)
    → ((v : List ℕ) → Table k n v → Past R q v → Past R' q' v)
    → (p u : List ℕ) → Table (length p + k) n u → Past R (p ++ q) u → Past R' (p ++ q') u
past_map R R' q q' k n f [] u t h = f u (rw zero-add at t) h
past_map R R' q q' k n f (y ∷ p) [] t h = h
past_map R R' q q' k n f (y ∷ p) (x ∷ u) t (inl l) = inl l
past_map R R' q q' k n f (y ∷ p) (x ∷ u) t (inr h) =
    let rest : Table (length p + k) n u = record { long = omega (arith, t.long); most = λ i. t.most (suc i) } in
    inr (h.0, past_map R R' q q' k n f p u rest h.1)

past_same : (R R' : List ℕ → Type 0) (q q' : List ℕ) (g n : ℕ) (p : List ℕ) → length p ≤ g
    → SameTables (g - length p) n (Past R q) (Past R' q') → SameTables g n (Past R (p ++ q)) (Past R' (p ++ q'))
past_same R R' q q' g n p l s =
    let k = g - length p in
    let e : length p + k ≡ g = omega arith in
    record {
      there = λ u t. past_map R R' q q' k n s.there p u (rw e t);
      back = λ u t. past_map R' R q' q k n s.back p u (rw e t);
    }

-- no owner is below 0
none_below : (v : List ℕ) → Before (0 ∷ []) v → ⊥
none_below [] h = h
none_below (x ∷ v) (inl l) = omega arith
none_below (x ∷ v) (inr h) = h.1

pub before_first : (g n : ℕ) (p : List ℕ) → length p ≤ g → SameTables g n (Before p) (Before (p ++ (0 ∷ [])))
before_first g n p l =
    let s : SameTables (g - length p) n (Before []) (Before (0 ∷ [])) =
    record { there = λ v t h. absurd h; back = λ v t h. none_below v h } in
    rw append-nil at (past_same _ _ [] (0 ∷ []) g n p l s)

-- up to an owner is below the next
up_to_below : (owner : ℕ) (v : List ℕ) → UpTo (owner ∷ []) v → Before ((owner + 1) ∷ []) v
up_to_below owner [] h = h
up_to_below owner (x ∷ v) (inl l) = inl (omega arith)
up_to_below owner (x ∷ v) (inr h) = inl (omega (arith, h.0))

below_up_to : (owner : ℕ) (v : List ℕ) → Before ((owner + 1) ∷ []) v → UpTo (owner ∷ []) v
below_up_to owner [] h = h
below_up_to owner (x ∷ v) (inl l) =
    ⊎_elim (λ (e : x ≡ owner). inr (e, tt)) (λ (m : x < owner). inl m) (last_or_below x owner (omega arith))
below_up_to owner (x ∷ v) (inr h) = absurd h.1

pub up_to_next : (g n : ℕ) (p : List ℕ) (owner : ℕ) → length p ≤ g
    → SameTables g n (UpTo (p ++ (owner ∷ []))) (Before (p ++ ((owner + 1) ∷ [])))
up_to_next g n p owner l =
    let s : SameTables (g - length p) n (UpTo (owner ∷ [])) (Before ((owner + 1) ∷ [])) =
    record { there = λ v t h. up_to_below owner v h; back = λ v t h. below_up_to owner v h } in
    past_same _ _ (owner ∷ []) ((owner + 1) ∷ []) g n p l s

-- every owner is below n + 1
all_below : (k n : ℕ) (v : List ℕ) → 0 < k → Table k n v → Before ((n + 1) ∷ []) v
all_below k n [] l t = absurd (omega (arith, t.long))
all_below k n (x ∷ v) l t = inl (omega (arith, t.most 0))

pub before_last : (g n : ℕ) (p : List ℕ) → length p < g → SameTables g n (Before (p ++ ((n + 1) ∷ []))) (UpTo p)
before_last g n p l =
    let s : SameTables (g - length p) n (Before ((n + 1) ∷ [])) (UpTo []) =
    record { there = λ v t h. tt; back = λ v t h. all_below (g - length p) n v (omega arith) t } in
    rw append-nil at (past_same _ _ ((n + 1) ∷ []) [] g n p (omega arith) s)
