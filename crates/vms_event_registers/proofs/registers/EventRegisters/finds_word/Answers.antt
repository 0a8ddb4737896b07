-- The word of a CPU of the layout stands in the list.
use Rattle.std.proofs.Common.{arith}
use Rattle.vms_event_registers.proofs.Bounds.{word-stands}
use Rattle.vms_event_registers.proofs.registers.EventRegisters.finds_word.Goals as goal

pub word-requires : goal.word-requires
word-requires c =
    word-stands c.args.facts.now c.args.self.now.state c.args.cpu.number c.args.event.number c.requires.shaped
    (omega arith) (omega arith)
