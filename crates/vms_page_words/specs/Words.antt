-- What the words of the page counters keep of a history.
use Rattle.std.specs.Prelude.{◌≡◌}
use Rattle.vms_core.specs.declared.states.State.{State}
use Rattle.vms_core.specs.declared.steps.Facts.{Facts}
use Rattle.vms_core.specs.Common.{History, state_after}
use Rattle.vms_page_words.specs.declared.words.PageWords.{PageWords}

-- the state that the words are
abbrev pub state_of : PageWords → State
state_of r = record {
  place = r.place;
  system = r.system;
  diff = r.diff;
  threshold = r.threshold;
  mark = r.mark;
  cpu = r.cpu;
  acknowledged = r.acknowledged;
  threshold_sets = r.threshold_sets;
  mark_sets = r.mark_sets;
}

-- the state that stands after the history
abbrev pub KeepsWords : Facts → History → PageWords → Type 0
KeepsWords facts h r = state_of r ≡ state_after facts h
