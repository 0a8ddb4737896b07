use Rattle.vms_lane.proofs.passes.control_passes_are_live.Goals as goal

pub returns : goal.returns
returns c = record {
  pages = c.is_live.ensures;
  events = c.is_control.ensures.live;
  counters = c.is_ready.ensures.ready.live;
}
