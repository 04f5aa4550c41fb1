-- A filled table slot by slot: `fill o v` gives the idle slots of o to the owners v, `rest o u` is what a table u gives
-- to them. The tables that keep the owners of o are just the fillings of o; a filling owns what o and v own, and
-- fillings stand in the dictionary as the v do.
-- Assumes nothing.
use mathlib.Core.Path.{◌≡◌, refl, sym, ap, ◌∙◌}
use mathlib.Core.Bool.{false}
use mathlib.Core.List.{List, [], ◌∷◌, append-nil}
use mathlib.Core.Logic.{⊎_elim, inl, inr}
use Prim.Native.Nat.{ℕ, zero, suc, ◌+◌, ◌%◌, ◌≤◌, ◌<◌}
use native.Mathlib.Nat.{mod-eq_of_lt, zero-add}
use native.Mathlib.Numerals.{add-one}
use native.Mathlib.Omega.{arith}
use lib.Dec.{eqb}
use lib.ListN.{length, get_or, take}
use lib.Seq.{length-take-le, get_or-take, take-take, ext_get_or}
use borrow.Author.Tests.{ne_eqb}
use Rattle.frame.specs.Frame.{within}
use Rattle.frame.proofs.Within.{within_none, within_more}
use Rattle.records.specs.First.{pick}
use Rattle.records.proofs.Lists.{length_firsts, get_firsts}
use Rattle.plan.specs.declared.Plan.{Plan}
use Rattle.plan.specs.Plan.{owner_of, is_client, own_in}
use Rattle.explore.specs.Best.{owned, LexLe}
use Rattle.search.specs.Mend.{idle_of}
use Rattle.search.specs.Trees.{filled_in, filled_at, filled}

-- ---- slot by slot

-- how many slots of a table are idle
pub idle : List ℕ → ℕ
idle [] = 0
idle (zero ∷ o) = suc (idle o)
idle (suc x ∷ o) = idle o

-- a table with its idle slots given to these owners, one after the other
pub fill : List ℕ → List ℕ → List ℕ
fill [] v = []
fill (zero ∷ o) [] = 0 ∷ fill o []
fill (zero ∷ o) (y ∷ v) = y ∷ fill o v
fill (suc x ∷ o) v = suc x ∷ fill o v

-- what another table has in its idle slots
pub rest : List ℕ → List ℕ → List ℕ
rest [] u = []
rest (x ∷ o) [] = []
rest (zero ∷ o) (y ∷ u) = y ∷ rest o u
rest (suc x ∷ o) (y ∷ u) = rest o u

-- ---- the same table as `filled`

get_none : (x : ℕ) → get_or {A = ℕ} [] x 0 ≡ 0
get_none zero = refl
get_none (suc x) = refl

owner_not_idle : (x : ℕ) → eqb (suc x) 0 ≡ false
owner_not_idle x = ne_eqb (suc x) 0 (λ e. omega arith)

idle_suc : (o : List ℕ) (x : ℕ) → x < length o → idle (take (suc x) o) ≡ idle (take x o) + is_client 0 (get_or o x 0)
unfolding idle
idle_suc [] x l = absurd (omega arith)
idle_suc (zero ∷ o) zero l = refl
idle_suc (suc y ∷ o) zero l = rw (owner_not_idle y)
idle_suc (zero ∷ o) (suc x) l = omega (arith, idle_suc o x (omega arith))
idle_suc (suc y ∷ o) (suc x) l = idle_suc o x (omega arith)

-- the idle slots before slot x are those of owner 0
idle_within : (owners : List ℕ) (f x : ℕ) → x ≤ f → x ≤ length owners
    → idle (take x owners) ≡ within (own_in owners f 0) 0 x
unfolding idle own_in
idle_within owners f zero l h = sym (within_none (own_in owners f 0) 0)
idle_within owners f (suc x) l h =
    let place : (0 + x) % f ≡ x = rw zero-add (mod-eq_of_lt (omega arith)) in
    let here = ap (λ (k : ℕ). is_client 0 (get_or owners k 0)) place in
    let more = rw add-one at (within_more (own_in owners f 0) 0 x) in
    omega (arith, idle_suc owners x (omega arith), idle_within owners f x (omega arith) (omega arith))

fill_at : (o v : List ℕ) (x : ℕ) → x < length o
    → get_or (fill o v) x 0 ≡ pick (eqb (get_or o x 0) 0) (get_or v (idle (take x o)) 0) (get_or o x 0)
unfolding fill idle
fill_at [] v x l = absurd (omega arith)
fill_at (zero ∷ o) [] zero l = refl
fill_at (zero ∷ o) (y ∷ v) zero l = refl
fill_at (suc y ∷ o) v zero l = rw (owner_not_idle y)
fill_at (zero ∷ o) [] (suc x) l = rw (← get_none (idle (take x o))) (fill_at o [] x (omega arith))
fill_at (zero ∷ o) (y ∷ v) (suc x) l = fill_at o v x (omega arith)
fill_at (suc y ∷ o) v (suc x) l = fill_at o v x (omega arith)

pub fill_long : (o v : List ℕ) → length (fill o v) ≡ length o
unfolding fill
fill_long [] v = refl
fill_long (zero ∷ o) [] = ap suc (fill_long o [])
fill_long (zero ∷ o) (y ∷ v) = ap suc (fill_long o v)
fill_long (suc x ∷ o) v = ap suc (fill_long o v)

pub get_filled : (plan : Plan) (v : List ℕ) (x : ℕ) → x < plan.f → get_or (filled plan v) x 0 ≡ filled_at plan v x
get_filled plan v x l =
    ap (λ (t : List ℕ). get_or t x 0) (sym (append-nil (filled plan v)))
    ∙ get_firsts (filled_at plan v) 0 [] plan.f x l

module _ (plan : Plan) (room : plan.f ≤ length plan.owners) where
  -- the plan's table
  abbrev pub table_of : List ℕ
  table_of = take plan.f plan.owners

  pub table_long : length table_of ≡ plan.f
  table_long = length-take-le plan.f plan.owners room

  pub table_idle : idle table_of ≡ idle_of plan
  table_idle = idle_within plan.owners plan.f plan.f (omega arith) room

  slot_filled : (v : List ℕ) (x : ℕ) → x < plan.f → get_or (fill table_of v) x 0 ≡ filled_at plan v x
  unfolding filled_in
  slot_filled v x l =
      let count = ap idle (take-take x plan.f plan.owners (omega arith))
      ∙ idle_within plan.owners plan.f x (omega arith) (omega arith) in
      let here : get_or table_of x 0 ≡ owner_of plan x = get_or-take plan.f plan.owners x 0 l in
      rw (← here, ← count) (fill_at table_of v x (omega (arith, table_long)))

  pub filled_fill : (v : List ℕ) → filled plan v ≡ fill table_of v
  filled_fill v =
      let long = length_firsts (filled_at plan v) plan.f in
      ext_get_or 0 (filled plan v) (fill table_of v) (long ∙ sym (fill_long table_of v ∙ table_long))
      (λ x l. get_filled plan v x (omega arith) ∙ sym (slot_filled v x (omega arith)))

-- ---- fillings are the tables that keep the owners

pub rest_long : (o u : List ℕ) → length u ≡ length o → length (rest o u) ≡ idle o
unfolding rest idle
rest_long [] u e = refl
rest_long (x ∷ o) [] e = absurd (omega arith)
rest_long (zero ∷ o) (y ∷ u) e = omega (arith, rest_long o u (omega arith))
rest_long (suc x ∷ o) (y ∷ u) e = rest_long o u (omega arith)

pub rest_most : (n : ℕ) (o u : List ℕ) → ((x : ℕ) → get_or u x 0 ≤ n) → (x : ℕ) → get_or (rest o u) x 0 ≤ n
unfolding rest
rest_most n [] u h x = omega (arith, get_none x)
rest_most n (z ∷ o) [] h x = omega (arith, get_none x)
rest_most n (zero ∷ o) (y ∷ u) h zero = h 0
rest_most n (zero ∷ o) (y ∷ u) h (suc x) = rest_most n o u (λ k. h (suc k)) x
rest_most n (suc z ∷ o) (y ∷ u) h x = rest_most n o u (λ k. h (suc k)) x

pub fill_rest : (o u : List ℕ) → length u ≡ length o → ((x : ℕ) → 0 < get_or o x 0 → get_or u x 0 ≡ get_or o x 0)
    → fill o (rest o u) ≡ u
unfolding rest fill
fill_rest [] [] e h = refl
fill_rest [] (y ∷ u) e h = absurd (omega arith)
fill_rest (x ∷ o) [] e h = absurd (omega arith)
fill_rest (zero ∷ o) (y ∷ u) e h = ap (λ (t : List ℕ). y ∷ t) (fill_rest o u (omega arith) (λ x. h (suc x)))
fill_rest (suc z ∷ o) (y ∷ u) e h =
    ap (λ (t : List ℕ). suc z ∷ t) (fill_rest o u (omega arith) (λ x. h (suc x)))
    ∙ ap (λ (k : ℕ). k ∷ u) (sym (h 0 (omega arith)))

pub fill_most : (n : ℕ) (o v : List ℕ) → ((x : ℕ) → get_or o x 0 ≤ n) → ((x : ℕ) → get_or v x 0 ≤ n) → (x : ℕ)
    → get_or (fill o v) x 0 ≤ n
unfolding fill
fill_most n [] v ho hv x = omega (arith, get_none x)
fill_most n (zero ∷ o) [] ho hv zero = omega arith
fill_most n (zero ∷ o) [] ho hv (suc x) = fill_most n o [] (λ k. ho (suc k)) hv x
fill_most n (zero ∷ o) (y ∷ v) ho hv zero = hv 0
fill_most n (zero ∷ o) (y ∷ v) ho hv (suc x) = fill_most n o v (λ k. ho (suc k)) (λ k. hv (suc k)) x
fill_most n (suc z ∷ o) v ho hv zero = ho 0
fill_most n (suc z ∷ o) v ho hv (suc x) = fill_most n o v (λ k. ho (suc k)) hv x

-- ---- what they own, and their order

pub fill_owned : (o v : List ℕ) → length v ≡ idle o → owned (fill o v) ≡ owned o + owned v
unfolding fill idle owned
fill_owned [] [] e = refl
fill_owned [] (y ∷ v) e = absurd (omega arith)
fill_owned (zero ∷ o) [] e = absurd (omega arith)
fill_owned (zero ∷ o) (y ∷ v) e = omega (arith, fill_owned o v (omega arith))
fill_owned (suc x ∷ o) v e = omega (arith, fill_owned o v (omega arith))

pub fill_lex : (o v u : List ℕ) → length v ≡ idle o → length u ≡ idle o → LexLe v u → LexLe (fill o v) (fill o u)
unfolding fill idle
fill_lex [] v u e d h = tt
fill_lex (zero ∷ o) [] u e d h = absurd (omega arith)
fill_lex (zero ∷ o) (y ∷ v) [] e d h = absurd (omega arith)
fill_lex (zero ∷ o) (y ∷ v) (z ∷ u) e d h =
    ⊎_elim (λ l. inl l) (λ p. inr (p.0, fill_lex o v u (omega arith) (omega arith) p.1)) h
fill_lex (suc x ∷ o) v u e d h = inr (refl, fill_lex o v u (omega arith) (omega arith) h)
