-- The row of `text` holds, and is its entry's own contract; a row that puts a text holds where there is one such text.
-- Assumes nothing.
use mathlib.Core.Path.{◌≡◌, refl, sym, ◌∙◌}
use mathlib.Core.List.{List}
use Prim.Native.Nat.{ℕ}
use Rattle.records.specs.Entry.{Tight, contract, Tied}
use Rattle.records.proofs.Entry.{both, tight_always, tie}
use Rattle.text.specs.Entries.{puts, put_refusal_entry}
use Rattle.text.proofs.Laws.{puts_once}
use Rattle.text.proofs.put_refusal.Reads as put_refusal

pub tight_puts : {U : Type 0} (Is : U → List ℕ → Type 0) → ((u : U) (a b : List ℕ) → Is u a → Is u b → a ≡ b)
    → Tight (puts Is)
tight_puts Is one =
    tight_always _ (λ u out r r' is is'.
    let same = puts_once (Is u) (one u) is.0 is'.0 in
    both same.0 same.1)

pub put_refusal_tight : Tight put_refusal_entry
put_refusal_tight =
    tight_always _ (λ what out r r' is is'.
    both (is.0.place ∙ sym is'.0.place) (is.0.stored ∙ sym is'.0.stored))

pub put_refusal_tied : Tied put_refusal_entry (contract put_refusal.Pre put_refusal.Post)
put_refusal_tied =
    tie (λ a. (a.1.0, a.1.1.0)) (λ a. a.0.now) (λ r z. (r, z.0.now)) (λ κs a. tt) (λ κs a r z. refl)
