-- The rows of `figures` hold, and are their entries' own contracts.
-- Assumes nothing.
use mathlib.Core.Path.{refl, ap, ◌∙◌}
use Rattle.records.specs.First.{number_of}
use Rattle.records.specs.Entry.{Tight, contract, Tied}
use Rattle.records.proofs.Entry.{tight_says, tie}
use Rattle.plan.specs.Plan.{Same, default_waiting}
use Rattle.figures.specs.Check.{figure_check}
use Rattle.figures.specs.Entries.{figure_entry, wait_entry, default_entry}
use Rattle.figures.proofs.Once.{figure_one, waits_one}
use Rattle.figures.proofs.Refusals.{figure_gives, wait_gives, default_check}
use Rattle.figures.proofs.Same.{figures_same, waits_same}
use Rattle.figures.proofs.figure_of.Reads as figure_of
use Rattle.figures.proofs.wait_for.Reads as wait_for
use Rattle.figures.proofs.default_wait.Reads as default_wait

pub figure_tight : Tight figure_entry
figure_tight = tight_says Same _ figure_check _ (λ plan c. figure_one) figure_gives refl figures_same

pub figure_tied : Tied figure_entry (contract figure_of.Pre figure_of.Post)
figure_tied = tie (λ a. a.0) (λ a. a.1.0) (λ r z. r) (λ κs a. tt) (λ κs a r z. refl)

pub wait_tight : Tight wait_entry
wait_tight =
    tight_says Same _ _ _ (λ plan x. waits_one) (λ plan x. wait_gives plan x.0 x.1) refl
    (λ plan other same x. waits_same plan other same x.0 x.1)

pub wait_tied : Tied wait_entry (contract wait_for.Pre wait_for.Post)
wait_tied = tie (λ a. a.0) (λ a. (a.1.0, a.1.1.0)) (λ r z. r) (λ κs a. tt) (λ κs a r z. refl)

-- it is the wait for the default number, which is never refused for that number
pub default_tight : Tight default_entry
default_tight =
    record {
      once = λ plan c. wait_tight.once plan (c, default_waiting);
      number = λ plan c r is. wait_tight.number plan (c, default_waiting) r is ∙ ap number_of (default_check plan c);
      refused = λ plan c r why offset is e.
          wait_tight.refused plan (c, default_waiting) r why offset is (default_check plan c ∙ e);
      numbers = figure_gives;
      nonzero = refl;
      unread = λ plan other same c. wait_tight.unread plan other same (c, default_waiting);
    }

pub default_tied : Tied default_entry (contract default_wait.Pre default_wait.Post)
default_tied = tie (λ a. a.0) (λ a. a.1.0) (λ r z. r) (λ κs a. tt) (λ κs a r z. refl)
