-- The volume stands in the list.
use Rattle.std.proofs.Common.{arith}
use Rattle.vms_world.specs.Common.{counter_count}
use Rattle.vms_base.proofs.Common.{cell-lt}
use Rattle.vms_replay_phase.proofs.volumes.spend_pages.Goals as goal

pub raise-requires-clause-within : goal.raise-requires-clause-within
raise-requires-clause-within c = rw c.counters-width.ensures.value (omega (
  arith,
  cell-lt (counter_count c.args.header.now.layout) c.args.header.now.layout.cpus c.args.cpu.number
      c.args.counter.number c.requires.cpu c.requires.counter,
  c.requires.volumes.pages.one_each,
))
