-- The facts of a phase on the page counters, from its header and the state in which it begins.
use Rattle.vms_history.specs.Common.{Header}
use Rattle.vms_core.specs.declared.states.State.{State}
use Rattle.vms_core.specs.declared.steps.Facts.{Facts}

-- what the page table is told of a phase from this state
abbrev pub facts_of : Header → State → Facts
facts_of header s = record { layout = header.layout; sizes = header.sizes; base = s }
