-- Any two answers that the contract of the search allows are equal: there is one best table, and either there is one or
-- there is none.
-- Assumes nothing.
use mathlib.Core.Path.{◌≡◌, refl, sym, ap, ◌∙◌}
use mathlib.Core.List.{List, ◌++◌}
use Prim.Native.Nat.{ℕ}
use lib.ListN.{take, drop, take-append-drop}
use Rattle.std.specs.Prelude.{Option, Some, None}
use Rattle.explore.specs.Best.{IsBest, NoTable}
use Rattle.explore.proofs.Order.{best_one}
use Rattle.search.specs.Search.{Finds}

-- a list is its first f elements and the rest
take_drop_one : (f : ℕ) (s t : List ℕ) → take f s ≡ take f t → drop f s ≡ drop f t → s ≡ t
take_drop_one f s t e h =
    sym (take-append-drop f s) ∙ ap (λ (l : List ℕ). l ++ drop f s) e ∙ ap (λ (l : List ℕ). take f t ++ l) h
    ∙ take-append-drop f t

not_none : (P : List ℕ → Type 0) (f n : ℕ) (t : List ℕ) → IsBest P f n t → NoTable P f n → ⊥
not_none P f n t best none = none t best.table best.good

-- one answer, whatever P is
pub finds_one : (P : List ℕ → Type 0) (f n : ℕ) (a b : Option (List ℕ)) → Finds P f n a → Finds P f n b → a ≡ b
finds_one P f n (Some s) (Some t) x y = ap Some (take_drop_one f s t (best_one P f n _ _ x.0 y.0) (x.1 ∙ sym y.1))
finds_one P f n (Some s) None x y = absurd (not_none P f n _ x.0 y)
finds_one P f n None (Some t) x y = absurd (not_none P f n _ y.0 x)
finds_one P f n None None x y = refl
