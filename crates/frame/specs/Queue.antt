-- One client's queue over a run of slots (document 01, The arbiter). A run starts at slot s with v pending, and a list
-- has the client's arrivals, slot by slot.
use Rattle.std.specs.Prelude.{ℕ, suc, ◌+◌, ◌-◌, ◌≤◌, min, List, [], ◌∷◌, take, drop, get_or}

-- what a queue does with x requests that arrive behind v pending slots: the slots that join, the requests turned away
pub record Rule : Type 0 where
  pub takes : ℕ → ℕ → ℕ
  pub turns : ℕ → ℕ → ℕ

-- "a pending count of 0 to 255"
abbrev pub most_pending : ℕ
most_pending = 255

-- "arrivals (0 to 255)"
abbrev pub most_arriving : ℕ
most_arriving = 255

-- what holds of every rule: no more are pending, and the most that can arrive fill an empty queue for a whole frame
pub record Lawful (rule : Rule) : Type 0 where
  pub room : (v x : ℕ) → v ≤ most_pending → v + rule.takes v x ≤ most_pending
  pub fills : 64 ≤ rule.takes 0 most_arriving

-- "Each client's arrivals .. join its pending count up to 255. The rest are turned away", one slot a request
abbrev pub one_slot : Rule
one_slot = record { takes = λ v x. min x (most_pending - v); turns = λ v x. x - min x (most_pending - v) }

-- a list of a client's arrivals, slot by slot, each 0 to 255
abbrev pub Arrivals : List ℕ → Type 0
Arrivals xs = (d : ℕ) → get_or xs d 0 ≤ most_arriving

-- "If the slot has an owner and its pending count is above 0, one of its requests is served": of q pending; o is 1
-- where the slot is the client's
abbrev pub serve : ℕ → ℕ → ℕ
serve o q = min o q

module _ (rule : Rule) where
  -- pending in a slot, "after arrivals, before service": v were pending before, x arrive
  abbrev pub queue : ℕ → ℕ → ℕ
  queue v x = v + rule.takes v x

  -- pending after the slot, which is the client's where o is 1
  abbrev pub after : ℕ → ℕ → ℕ → ℕ
  after o v x = queue v x - serve o (queue v x)

module _ (rule : Rule) (own : ℕ → ℕ) where
  -- pending at the end of a run
  unfoldable pub left : ℕ → ℕ → List ℕ → ℕ
  left s v [] = v
  left s v (x ∷ xs) = left (suc s) (after rule (own s) v x) xs

  -- a run's sum of what `by` counts in each slot, from the slot, what was pending before it, and its arrivals
  unfoldable pub total : (ℕ → ℕ → ℕ → ℕ) → ℕ → ℕ → List ℕ → ℕ
  total by s v [] = 0
  total by s v (x ∷ xs) = by s v x + total by (suc s) (after rule (own s) v x) xs

  -- the slots' worth of requests that join in a run
  abbrev pub taken : ℕ → ℕ → List ℕ → ℕ
  taken = total (λ s v x. rule.takes v x)

  -- the requests turned away in a run
  abbrev pub turned : ℕ → ℕ → List ℕ → ℕ
  turned = total (λ s v x. rule.turns v x)

  -- how often the client is served in a run
  abbrev pub served : ℕ → ℕ → List ℕ → ℕ
  served = total (λ s v x. serve (own s) (queue rule v x))

  -- pending in slot d of a run, "after arrivals, before service"
  abbrev pub pending : ℕ → ℕ → List ℕ → ℕ → ℕ
  pending s v xs d = queue rule (left s v (take d xs)) (get_or xs d 0)

  -- how often the client is served in the j slots from slot i of a run
  abbrev pub served_in : ℕ → ℕ → List ℕ → ℕ → ℕ → ℕ
  served_in s v xs i j = served (s + i) (left s v (take i xs)) (take j (drop i xs))
