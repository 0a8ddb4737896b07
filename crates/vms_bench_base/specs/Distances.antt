-- The CPUs of threads.
use Rattle.std.specs.Prelude.{ℕ, ◌*◌, ◌<◌}
use Rattle.vms_bench_base.specs.declared.machines.Distance.{Distance}
use Rattle.vms_bench_base.specs.declared.machines.Distance.TheVariants.{Near, Apart}

-- the number of a thread's CPU
abbrev pub cpu_number : Distance → ℕ → ℕ
cpu_number Near thread = thread
cpu_number Apart thread = 16 * thread

-- so many threads have CPUs of a machine with so many
abbrev pub HasCpus : Distance → ℕ → ℕ → Type 0
HasCpus distance threads cpus = (thread : ℕ) → thread < threads → cpu_number distance thread < cpus
