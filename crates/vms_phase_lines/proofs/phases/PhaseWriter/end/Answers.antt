-- All passes have ended.
use Rattle.std.proofs.Common.{◌∙◌}
use Rattle.vms_world.specs.Common.{lanes_of}
use Rattle.vms_phase_lines.proofs.PhaseEnds.{IsPhaseInOrder-ended, more, settled-ended}
use Rattle.vms_phase_lines.proofs.phases.PhaseWriter.end.Goals as goal

pub returns-clause-ok : goal.returns-clause-ok
returns-clause-ok c = λ header base items h is. (
  more header base items h c.args.self is,
  IsPhaseInOrder-ended header base items h c.args.self is,
  c.in_ok-end.ensures.ok (lanes_of header.layout items) is.begins.count,
  c.settled.ensures ∙ settled-ended header base items h c.args.self is,
)
