-- How often a zone's mark was set tells whether it still stands.
use Rattle.std.specs.Prelude.{◌≡◌, ℕ}
use Rattle.vms_core.specs.declared.steps.Facts.{Facts}
use Rattle.vms_core.specs.Cells.{mark_at, mark_sets_at}
use Rattle.vms_core.specs.Pages.{History, state_after}

-- this mark of a zone stands, and it was set so many times
pub record MarkStands (facts : Facts) (h : History) (g m sets : ℕ) : Type 0 where
  pub mark : mark_at (state_after facts h) g ≡ m
  pub number : mark_sets_at (state_after facts h) g ≡ sets
