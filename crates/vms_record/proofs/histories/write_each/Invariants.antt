use Rattle.std.proofs.Common.{◌≡◌, ℕ, List, drop, map, take}
use Rattle.std.specs.Io.KnownBytes.{Appends}
use Rattle.vms_core.specs.Pages.{History}
use Rattle.vms_recording.specs.Common.{IsRecording}
use Rattle.vms_world.specs.Common.{AreSegments, Start, State}
use Rattle.vms_trace_parts.specs.Common.{part_of, segments_of_parts}
use Rattle.vms_record.proofs.histories.write_each.Given as goal

-- the parts so far are recorded, and those that are left may stand there
abbrev pub invariant-loop-part : goal.invariant-loop-part
invariant-loop-part g l = (hs : List History) × (start : Start) × (s : State) × (moved : List ℕ)
    × IsRecording l.header (segments_of_parts (take l.part-index (map part_of l.parts))) hs start s moved l.writer
    × Appends (g.K.Sink.written l.fn.out) (g.K.Sink.written l.out) moved
    × AreSegments l.header start (segments_of_parts (drop l.part-index (map part_of l.parts)))
    × (g.K.Sink.faults l.out ≡ g.K.Sink.faults l.fn.out)
