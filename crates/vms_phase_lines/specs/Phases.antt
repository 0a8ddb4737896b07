-- A phase of page events in the order of its lines, under the kernel's rules of thresholds.
use Rattle.std.specs.Prelude.{◌*◌, List, length}
use Rattle.vms_world.specs.Common.{HasWon, Header, Item, State, facts_of, lanes_of, pages}
use Rattle.vms_core.specs.Pages.{History, IsComplete}
use Rattle.vms_file_order.specs.Common.{Follow, IsFileOrder, StandsOpen, page_passes}
use Rattle.vms_plain_control.specs.Common.{KnowsPeaks, SetAtMost}
use Rattle.vms_phase_lines.specs.declared.phases.PhaseWriter.{PhaseWriter}
use Rattle.vms_phase_lines.specs.Acts.{lane_makes}
use Rattle.vms_phase_lines.specs.Fitting.{FitPages}
use Rattle.vms_phase_lines.specs.Lanes.{HaveBegun}

-- these page events are the phase of these lines, in their order, from this state: they are legal, and every pass has
-- ended
pub record IsPhaseInOrder (header : Header) (base : State) (items : List Item) (h : History) : Type 0 where
  pub complete : IsComplete (facts_of header base) h
  pub order : IsFileOrder page_passes (lane_makes header base) HasWon header.layout items h

-- the first lines of a phase of all these lines have come to this history, after which the page counters and the peaks
-- are those of the writer. Each line has set each threshold and each mark at most twice
pub record IsWriting (header : Header) (base : State) (all items : List Item) (h : History) (writer : PhaseWriter)
    : Type 0 where
  pub fit : FitPages header base all
  pub begins : HaveBegun header (lanes_of header.layout all) writer.lanes
  pub follow : Follow page_passes (lane_makes header base) HasWon (lanes_of header.layout all) items h
  pub stands : StandsOpen pages page_passes (facts_of header base) (lanes_of header.layout all) h writer.pages
  pub peaks : KnowsPeaks (facts_of header base) h writer.peaks
  pub sets : SetAtMost header.layout (2 * length items) writer.pages
