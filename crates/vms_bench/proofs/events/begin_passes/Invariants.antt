use Rattle.std.proofs.Common.{All}
use Rattle.vms_seats.specs.Common.{IsFrom}
use Rattle.vms_bench_base.specs.Common.{cpu_number}
use Rattle.vms_bench.specs.Events.{IsUnused}
use Rattle.vms_bench.proofs.events.begin_passes.Given as goal

abbrev pub invariant-loop-thread : goal.invariant-loop-thread
invariant-loop-thread l =
    IsFrom l.main l.table × IsUnused (cpu_number l.distance l.thread) l.main.seen × All (λ p. IsFrom p.pass l.table) l.passes.items
