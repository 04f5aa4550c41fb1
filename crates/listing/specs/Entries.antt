-- The entries of `listing` as rows of demand 1's table: "A refused read writes one line", so they refuse nothing.
use Rattle.records.specs.Entry.{Entry}
use Rattle.text.specs.Entries.{puts}
use Rattle.listing.specs.Listing.{IsReport, IsHoming}

-- `report`
abbrev pub report_entry : Entry
report_entry = puts IsReport

-- `homing`
abbrev pub homing_entry : Entry
homing_entry = puts IsHoming
