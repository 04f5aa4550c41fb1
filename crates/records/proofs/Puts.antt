-- Bytes put one after the other are bytes put: `then` composes with no side condition.
-- Assumes nothing.
use mathlib.Core.Path.{◌≡◌, refl, ap, sym, ◌∙◌}
use mathlib.Core.List.{List, [], ◌∷◌, ◌++◌}
use Prim.Native.Nat.{ℕ, suc, ◌+◌, ◌≤◌}
use native.Mathlib.Nat.{add-zero, zero-add, add-suc, suc-add}
use native.Mathlib.Omega.{arith}
use lib.ListN.{length, drop, set, length-append}
use lib.Seq.{sets, sets-eq, length-sets}
use Rattle.records.specs.Pieces.{many, firsts}
use Rattle.records.specs.declared.output.Output.{Output}
use Rattle.records.specs.Put.{Put, Adds}
use Rattle.records.proofs.Lists.{many_more, firsts_more}

sets_append : (l : List ℕ) (i : ℕ) (a b : List ℕ) → sets l i (a ++ b) ≡ sets (sets l i a) (i + length a) b
sets_append l i [] b = ap (λ (k : ℕ). sets l k b) (sym (add-zero i))
sets_append l i (x ∷ a) b =
    sets_append (set l i x) (suc i) a b
    ∙ ap (λ (k : ℕ). sets (sets (set l i x) (suc i) a) k b) (suc-add i (length a) ∙ sym (add-suc i (length a)))

-- nothing put
pub none : (out : List ℕ) (at : ℕ) → Put out at [] out at
none out at = record { place = sym (add-zero at); stored = refl }

-- bytes put, and then others at the next place
pub then : {o₀ o₁ o₂ s t : List ℕ} {a₀ a₁ a₂ : ℕ} → Put o₀ a₀ s o₁ a₁ → Put o₁ a₁ t o₂ a₂
    → Put o₀ a₀ (s ++ t) o₂ a₂
then {o₀} {o₁} {o₂} {s} {t} {a₀} {a₁} {a₂} p q =
    let e = p.place in
    let f = q.place in
    record {
      place = simp length-append (omega arith);
      stored =
          q.stored
          ∙ ap (λ (k : ℕ). sets o₁ k t) e
          ∙ ap (λ (l : List ℕ). sets l (a₀ + length s) t) p.stored
          ∙ sym (sets_append o₀ a₀ s t);
    }

-- the lent output keeps its length
pub put_length : {o₀ o₁ t : List ℕ} {a r : ℕ} → Put o₀ a t o₁ r → length o₁ ≡ length o₀
put_length {o₀} {o₁} {t} {a} p = ap length p.stored ∙ length-sets o₀ a t

-- from the front, with room: the bytes, and what stood past them
pub put_front : {o₀ o₁ t : List ℕ} {r : ℕ} → Put o₀ 0 t o₁ r → length t ≤ length o₀
    → o₁ ≡ t ++ drop (length t) o₀
put_front {o₀} {o₁} {t} p h =
    p.stored ∙ sets-eq t o₀ 0 (omega arith) ∙ ap (λ (k : ℕ). t ++ drop k o₀) (zero-add (length t))

-- ---- an output

-- nothing added
pub adds_none : (o : Output) → Adds o [] o
adds_none o = record { put = none o.lent.now o.at; long = refl; same = refl }

-- bytes added, and then others
pub adds_then : {o₀ o₁ o₂ : Output} {s t : List ℕ} → Adds o₀ s o₁ → Adds o₁ t o₂ → Adds o₀ (s ++ t) o₂
adds_then p q = record { put = then p.put q.put; long = q.long ∙ p.long; same = q.same ∙ p.same }

-- one turn of a loop that adds pieces, or single bytes
pub adds_piece : {o₀ o₁ o₂ : Output} (g : ℕ → List ℕ) (i : ℕ) → Adds o₀ (many g i) o₁ → Adds o₁ (g i) o₂
    → Adds o₀ (many g (i + 1)) o₂
adds_piece g i p q = rw many_more (adds_then p q)

pub adds_single : {o₀ o₁ o₂ : Output} (f : ℕ → ℕ) (i : ℕ) → Adds o₀ (firsts f i) o₁ → Adds o₁ (f i ∷ []) o₂
    → Adds o₀ (firsts f (i + 1)) o₂
adds_single f i p q = rw firsts_more (adds_then p q)
