-- a cell stands within the list
use Rattle.std.proofs.Common.{◌∙◌, ap}
use Rattle.vms_history.specs.Common.{cell, counter_count}
use Rattle.vms_base.proofs.Common.{cell-lt}
use Rattle.vms_core.proofs.states.State.diff_at.Goals as goal

pub get-requires : goal.get-requires
get-requires c =
    rw (
      c.cell.ensures ∙ ap (λ w. cell w c.args.cpu.number c.args.counter.number) c.counters-width.ensures.value,
      c.requires.shaped.diff,
    )
    (cell-lt (counter_count c.args.layout.now) c.args.layout.now.cpus c.args.cpu.number c.args.counter.number
    c.requires.cpu c.requires.counter)
