use Rattle.std.proofs.Common.{arith, sym, ◌∙◌}
use Rattle.vms_line.proofs.LineWords.{known_cpu-large}
use Rattle.vms_line.proofs.parsing.lane_cpu.Goals as goal

pub returns-in-None : goal.returns-in-None
returns-in-None c =
    sym (known_cpu-large c.args.header.now c.args.digits.now
    (omega (arith, c.requires.header.is_layout.cpus_most)) c.requires.number
    (sym c.read_unsigned.ensures ∙ c.in-None.is))
