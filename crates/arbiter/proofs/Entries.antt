-- The rows of `arbiter` hold, and are their entries' own contracts.
-- Assumes nothing.
use mathlib.Core.Path.{refl, ap, ◌∙◌}
use lib.ListN.{length}
use Rattle.records.specs.Entry.{Tight, contract, Tied}
use Rattle.records.proofs.Entry.{both, tight_fixed, tie}
use Rattle.arbiter.specs.declared.Stepped.{Stepped}
use Rattle.arbiter.specs.Step.{step_of, step_said, served_said}
use Rattle.arbiter.specs.Entries.{step_entry, in_place_entry}
use Rattle.arbiter.proofs.Refusals.{step_gives}
use Rattle.arbiter.proofs.Slots.{step_refused, said_refused, served_number, step_number}
use Rattle.arbiter.proofs.Same.{same_step, same_said}
use Rattle.arbiter.proofs.step.Reads as step
use Rattle.arbiter.proofs.step_lending.Reads as step_lending
use Rattle.arbiter.proofs.step_in_place.Reads as step_in_place

pub step_tight : Tight step_entry
step_tight =
    tight_fixed step_entry (λ plan more. step_said plan more.0 more.1) (λ plan more r is. is)
    (λ plan more. step_number plan more.0 more.1)
    (λ plan more why offset h. said_refused plan more.0 more.1 h)
    (λ plan more. step_gives plan more.0.position (length more.1)) refl
    (λ plan other same more r is. is ∙ same_said plan other same more.0 more.1)

pub step_tied : Tied step_entry (contract step.Pre step.Post)
step_tied = tie (λ a. a.0) (λ a. (a.1.0, a.1.1.0.now)) (λ r z. r) (λ κs a. tt) (λ κs a r z. refl)

pub lending_tied : Tied step_entry (contract step_lending.Pre step_lending.Post)
lending_tied = tie (λ a. a.0) (λ a. (a.1.0, a.1.1.0.now)) (λ r z. r) (λ κs a. tt) (λ κs a r z. refl)

pub in_place_tight : Tight in_place_entry
in_place_tight =
    tight_fixed in_place_entry
    (λ plan more. (served_said (step_said plan more.0 more.1), (step_of plan more.0 more.1).next))
    (λ plan more r is. both is.0 is.1)
    (λ plan more. served_number (step_said plan more.0 more.1) ∙ step_number plan more.0 more.1)
    (λ plan more why offset h.
    both (ap served_said (said_refused plan more.0 more.1 h))
    (ap (λ (x : Stepped). x.next) (step_refused plan more.0 more.1 h)))
    (λ plan more. step_gives plan more.0.position (length more.1)) refl
    (λ plan other same more r is. (
      is.0 ∙ ap served_said (same_said plan other same more.0 more.1),
      is.1 ∙ ap (λ (x : Stepped). x.next) (same_step plan other same more.0 more.1),
    ))

pub in_place_tied : Tied in_place_entry (contract step_in_place.Pre step_in_place.Post)
in_place_tied =
    tie (λ a. a.0) (λ a. (a.1.0.now, a.1.1.0.now)) (λ r z. (r, z.1.0.now))
    (λ κs a. tt) (λ κs a r z. refl)
