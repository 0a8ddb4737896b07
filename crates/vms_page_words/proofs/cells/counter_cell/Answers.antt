-- A cell stands in a list of so many counters for each CPU.
use Rattle.vms_history.specs.Common.{counter_count}
use Rattle.vms_base.proofs.Common.{cell-lt}
use Rattle.vms_page_words.proofs.cells.counter_cell.Goals as goal

pub returns-clause-within : goal.returns-clause-within
returns-clause-within c =
    rw c.counters.ensures.value
    (cell-lt (counter_count c.args.layout.now) c.args.layout.now.cpus c.args.cpu.number c.args.counter.number
    c.requires.cpu c.requires.counter)
