-- The rows of `listing` hold, and are their entries' own contracts.
-- Assumes nothing.
use mathlib.Core.Path.{refl}
use Rattle.records.specs.Entry.{Tight, contract, Tied}
use Rattle.records.proofs.Entry.{tie}
use Rattle.text.proofs.Entries.{tight_puts}
use Rattle.listing.specs.Listing.{IsReport, IsHoming}
use Rattle.listing.specs.Entries.{report_entry, homing_entry}
use Rattle.listing.proofs.Once.{report_once, homing_once}
use Rattle.listing.proofs.report.Reads as report
use Rattle.listing.proofs.homing.Reads as homing

pub report_tight : Tight report_entry
report_tight = tight_puts IsReport report_once

pub report_tied : Tied report_entry (contract report.Pre report.Post)
report_tied =
    tie (λ a. a.0.now) (λ a. a.1.0.now) (λ r z. (r, z.1.0.now)) (λ κs a. tt) (λ κs a r z. refl)

pub homing_tight : Tight homing_entry
homing_tight = tight_puts IsHoming homing_once

pub homing_tied : Tied homing_entry (contract homing.Pre homing.Post)
homing_tied =
    tie (λ a. a.0.now) (λ a. a.1.0.now) (λ r z. (r, z.1.0.now)) (λ κs a. tt) (λ κs a r z. refl)
