-- The world in which the histories were closed is the one that they leave.
use Rattle.std.proofs.Common.{◌≡◌, List, map, ap, subst, sym, ◌∙◌}
use Rattle.vms_world.specs.Common.{Header, State, EventState, PcpuState, start_at_end, line_of, Item, IsWorldPhase}
use Rattle.vms_world.specs.Common.{TableHistories, left_by}
use Rattle.vms_file_order.specs.Common.{IsStartOf}
use Rattle.vms_world.specs.declared.worlds.Volumes.{Volumes}
use Rattle.vms_world.specs.declared.worlds.World.{World}
use Rattle.vms_phase.specs.Common.{IsClosedWorld}
use Rattle.vms_phase.proofs.laws.fitting_lanes_make_phases.Goals as goal

abbrev world : State → EventState → PcpuState → Volumes → World
world pages events counters volumes =
    record { pages = pages; events = events; counters = counters; volumes = volumes }

is_left : (header : Header) (w : World) (items : List Item) (hs : TableHistories) (next : World)
    → IsClosedWorld header w items hs next → next ≡ left_by header w items hs
is_left header w items hs next closed =
    let left = left_by header w items hs in
    ap (λ pages. world pages next.events next.counters next.volumes) closed.pages
    ∙ ap (λ events. world left.pages events next.counters next.volumes) closed.events
    ∙ ap (λ counters. world left.pages left.events counters next.volumes) closed.counters
    ∙ ap (world left.pages left.events left.counters) closed.volumes

pub returns-clause-left : goal.returns-clause-left
returns-clause-left g c header w items hs next closed = is_left header w items hs next closed

pub returns-clause-phase : goal.returns-clause-phase
returns-clause-phase g c header w items hs told next start is fits made closed =
    subst (IsWorldPhase header g.R.ThresholdRules.pressure g.R.ThresholdRules.normal w items hs)
    (sym (is_left header w items hs next closed))
    (c.fitting_phases_are_phases.ensures.phase header w items hs start is fits
    (c.lanes_make_phases.ensures.makes header w items hs told made))

pub returns-clause-start : goal.returns-clause-start
returns-clause-start g c header w items hs told next start is fits made closed =
    subst (IsStartOf header (start_at_end start (map line_of items)))
    (sym (is_left header w items hs next closed))
    (c.fitting_phases_are_phases.ensures.start header w items hs start is fits
    (c.lanes_make_phases.ensures.makes header w items hs told made))
