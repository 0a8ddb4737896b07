use Rattle.std.proofs.Common.{◌≡◌, []}
use Rattle.vms_core.specs.Pages.{History}
use Rattle.vms_phase_lines.specs.Common.{IsWriting}
use Rattle.vms_world.specs.Common.{State}
use Rattle.vms_recording.proofs.OpenPhases.{IsOpen}
use Rattle.vms_recording.proofs.phase_pieces.write_lines.Given as goal

-- the lines so far are made, and no write has failed
abbrev pub invariant-loop-item : goal.invariant-loop-item
invariant-loop-item g l = record {
  is_open : (s : State) (h : History) → IsWriting l.header s l.items [] h l.fn.phase
      → IsOpen l.header s l.items h l.fn.waiting.items (g.K.Sink.written l.fn.out) l.item-index l.phase
      l.waiting.items (g.K.Sink.written l.out);
  none_fails : g.K.Sink.faults l.out ≡ g.K.Sink.faults l.fn.out;
}
