-- The word of a CPU of the layout stands in the list.
use Rattle.vms_event_registers.proofs.Bounds.{word-stands}
use Rattle.vms_event_registers.proofs.registers.EventRegisters.carry.Goals as goal

pub set_word-requires : goal.set_word-requires
set_word-requires c =
    word-stands c.args.facts.now c.args.self.now.state c.args.cpu.number c.args.event.number c.requires.kept.shaped
    c.requires.cpu c.requires.event
