-- The eight cells of a group stand in the list, which is short.
use Rattle.vms_page_words.proofs.StateCells.{group-ends, group-small}
use Rattle.vms_page_words.proofs.cells.group_cell.Goals as goal

pub returns-clause-within : goal.returns-clause-within
returns-clause-within c =
    rw c.counters.ensures.value
    (group-ends c.args.layout.now c.args.cpu.number c.args.group.number c.requires.cpu c.requires.group)

pub returns-clause-small : goal.returns-clause-small
returns-clause-small c =
    rw c.counters.ensures.value
    (group-small c.args.layout.now c.args.cpu.number c.args.group.number c.counters.ensures.is_layout c.requires.cpu
    c.requires.group)
