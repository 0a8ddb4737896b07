-- The page counters may begin a phase, and are kept with their peaks.
use Rattle.std.proofs.Common.{refl}
use Rattle.vms_phase_lines.proofs.phases.PhaseWriter.make.Goals as goal

pub make-requires : goal.make-requires
make-requires c = c.requires.opening

pub make-requires-2 : goal.make-requires-2
make-requires-2 c =
    record { shape = c.args.header.now.layout; is_layout = c.requires.layout; opening = c.requires.opening }

pub returns : goal.returns
returns c = (refl, c.make-2.ensures, c.in_ok-peaks.ensures c.args.header.now.sizes)
