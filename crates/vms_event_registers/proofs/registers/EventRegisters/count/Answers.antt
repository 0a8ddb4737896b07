-- The word of a CPU of the layout stands in the list.
use Rattle.vms_event_registers.proofs.Bounds.{word-stands}
use Rattle.vms_event_registers.proofs.registers.EventRegisters.count.Goals as goal

pub grow-requires-clause-within : goal.grow-requires-clause-within
grow-requires-clause-within c =
    word-stands c.args.facts.now c.args.self.now.state c.args.cpu.number c.args.event.number c.requires.kept.shaped
    c.requires.cpu c.requires.event
