-- What every row of demand 1's table has for the asking: of an entry that says a value or a refusal, of one whose
-- contract fixes the reply as a value, of one that returns what a check finds, and of one that refuses nothing.
-- Assumes nothing.
use mathlib.Core.Path.{◌≡◌, refl, sym, ap, subst, ◌∙◌}
use mathlib.Core.Bool.{false}
use mathlib.Core.List.{List}
use Prim.Native.Nat.{ℕ}
use Rattle.std.specs.Prelude.{Err}
use Rattle.records.specs.declared.refusal.Refusal.{Refusal}
use Rattle.records.specs.First.{Outcome, Fine, refuse, number_of, offset_of, among, Gives}
use Rattle.records.specs.Said.{Said, Answers}
use Rattle.records.specs.Entry.{Entry, Tight, Contract, Tied, says, says_by, finds, always}
use Rattle.records.proofs.Checks.{not_fine}
use Rattle.records.proofs.Refusals.{gives_fine}
use Rattle.records.proofs.Said.{answers_once, answers_number, answers_refused}

-- what is returned and what is lent
pub both : {A B : Type 0} {r r' : A × B} → r.0 ≡ r'.0 → r.1 ≡ r'.1 → r ≡ r'
both p q = λ i. (p i, q i)

-- outside reading the offset is 0
pub offset_none : (o : Outcome) {why : Refusal} {offset : ℕ} → offset_of o ≡ 0 → o ≡ refuse why offset
    → o ≡ refuse why 0
offset_none o {why} h e = e ∙ ap (refuse why) (sym (ap offset_of e) ∙ h)

-- a contract of the shape of `Answers`: two replies that say the same are equal, two values coincide, and the same is
-- answered of what is the same
pub tight_says_by : {U X A R : Type 0} (Same : U → U → Type 0) (Is : U → X → A → Type 0) (check : U → X → Outcome)
    (ks : List ℕ) (say : R → Said A) (refuse : Refusal → R) → ((why : Refusal) → say (refuse why) ≡ Err why)
    → ((r r' : R) → say r ≡ say r' → r ≡ r') → ((u : U) (x : X) (a b : A) → Is u x a → Is u x b → a ≡ b)
    → ((u : U) (x : X) → Gives ks (check u x)) → among 0 ks ≡ false
    → ((u u' : U) → Same u u' → (x : X) (r : R) → Answers (check u x) (Is u x) (say r)
    → Answers (check u' x) (Is u' x) (say r))
    → Tight (says_by Same (λ u x r. Answers (check u x) (Is u x) (say r)) check ks say refuse)
tight_says_by Same Is check ks say refuse right alike one gives nonzero same =
    record {
      once = λ u x r r' is is'. alike r r' (answers_once (check u x) (Is u x) (one u x) (say r) (say r') is is');
      number = λ u x r. answers_number (check u x) (Is u x) (say r);
      refused = λ u x r why offset is e.
          alike r (refuse why) (answers_refused (check u x) (Is u x) (say r) is e ∙ sym (right why));
      numbers = gives;
      nonzero = nonzero;
      unread = same;
    }

-- the same of a reply that is what it says
pub tight_says : {U X A : Type 0} (Same : U → U → Type 0) (Is : U → X → A → Type 0) (check : U → X → Outcome)
    (ks : List ℕ) → ((u : U) (x : X) (a b : A) → Is u x a → Is u x b → a ≡ b)
    → ((u : U) (x : X) → Gives ks (check u x)) → among 0 ks ≡ false
    → ((u u' : U) → Same u u' → (x : X) (r : Said A) → Answers (check u x) (Is u x) r
    → Answers (check u' x) (Is u' x) r)
    → Tight (says Same (λ u x r. Answers (check u x) (Is u x) r) check ks)
tight_says Same Is check ks one gives nonzero same =
    tight_says_by Same Is check ks (λ r. r) (λ why. Err why) (λ why. refl) (λ r r' e. e) one gives nonzero same

module _ (e : Entry) where
  -- a contract that fixes the reply as a value, by an equation say
  pub tight_fixed : (value : e.Subject → e.More → e.Reply)
      → ((u : e.Subject) (x : e.More) (r : e.Reply) → e.Is u x r → r ≡ value u x)
      → ((u : e.Subject) (x : e.More) → e.number (value u x) ≡ number_of (e.check u x))
      → ((u : e.Subject) (x : e.More) (why : Refusal) (offset : ℕ) → e.check u x ≡ refuse why offset
      → e.Refuses x why offset (value u x))
      → ((u : e.Subject) (x : e.More) → Gives e.numbers (e.check u x)) → among 0 e.numbers ≡ false
      → ((u u' : e.Subject) → e.Same u u' → (x : e.More) (r : e.Reply) → e.Is u x r → e.Is u' x r) → Tight e
  tight_fixed value fixed number stops gives nonzero same =
      record {
        once = λ u x r r' is is'. fixed u x r is ∙ sym (fixed u x r' is');
        number = λ u x r is. ap e.number (fixed u x r is) ∙ number u x;
        refused = λ u x r why offset is h.
            subst (e.Refuses x why offset) (sym (fixed u x r is)) (stops u x why offset h);
        numbers = gives;
        nonzero = nonzero;
        unread = same;
      }

  -- so of every row: a reply has number 0 exactly where the check passes
  pub exactly : Tight e → (u : e.Subject) (x : e.More) (r : e.Reply) → e.Is u x r
      → (e.number r ≡ 0 → e.check u x ≡ Fine) × (e.check u x ≡ Fine → e.number r ≡ 0)
  exactly t u x r is = (
    λ z. gives_fine e.numbers t.nonzero (e.check u x) (t.numbers u x) (sym (t.number u x r is) ∙ z),
    λ fine. t.number u x r is ∙ ap number_of fine,
  )

pub tight_finds : {U X : Type 0} (Same : U → U → Type 0) (at : ℕ → ℕ) (check : U → X → Outcome) (ks : List ℕ)
    → ((u : U) (x : X) (why : Refusal) (offset : ℕ) → check u x ≡ refuse why offset
    → check u x ≡ refuse why (at offset))
    → ((u : U) (x : X) → Gives ks (check u x)) → among 0 ks ≡ false
    → ((u u' : U) → Same u u' → (x : X) → check u x ≡ check u' x) → Tight (finds Same at check ks)
tight_finds Same at check ks stops gives nonzero same =
    tight_fixed (finds Same at check ks) check (λ u x r is. is) (λ u x. refl) stops gives nonzero
    (λ u u' alike x r is. is ∙ same u u' alike x)

pub tight_always : {U X R : Type 0} (Is : U → X → R → Type 0)
    → ((u : U) (x : X) (r r' : R) → Is u x r → Is u x r' → r ≡ r') → Tight (always Is)
tight_always Is one =
    record {
      once = one;
      number = λ u x r is. refl;
      refused = λ u x r why offset is e. not_fine (sym e);
      numbers = λ u x. tt;
      nonzero = refl;
      unread = λ u u' e x r is. subst (λ v. Is v x r) e is;
    }

-- such a row by an equation
pub tight_equal : {U X R : Type 0} (value : U → X → R) → Tight (always (λ (u : U) (x : X) (r : R). r ≡ value u x))
tight_equal value = tight_always _ (λ u x r r' is is'. is ∙ sym is')

-- the tie of a row to a contract: what of the arguments is the subject and what is more, what of the result and of the
-- arguments at the end is the reply; that nothing is asked, and that the contract is the row's
pub tie : {e : Entry} {c : Contract} (subject : c.Arguments → e.Subject) (more : c.Arguments → e.More)
    (reply : c.Result → c.Last → e.Reply) → ((κs : c.Lifetimes) (a : c.Arguments) → c.Pre κs a)
    → ((κs : c.Lifetimes) (a : c.Arguments) (r : c.Result) (z : c.Last)
    → c.Post κs a r z ≡ e.Is (subject a) (more a) (reply r z)) → Tied e c
tie subject more reply free same =
    record { subject = subject; more = more; reply = reply; asks_nothing = free; same = same }
