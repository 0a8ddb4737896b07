-- For other crates too: the CPUs of threads ascend, and four threads have CPUs of a machine with 64.
use Rattle.std.proofs.Common.{ℕ, ◌+◌, ◌*◌, ◌<◌, ◌≤◌, arith}
use Rattle.vms_bench_base.specs.declared.machines.Distance.{Distance}
use Rattle.vms_bench_base.specs.declared.machines.Distance.TheVariants.{Near, Apart}
use Rattle.vms_bench_base.specs.Common.{HasCpus, cpu_number}

pub cpu_number-rises : (distance : Distance) (thread : ℕ) → cpu_number distance thread < cpu_number distance (thread + 1)
cpu_number-rises Near thread = omega arith
cpu_number-rises Apart thread = omega arith

pub cpu_number-few : (distance : Distance) (thread : ℕ) → thread < 4 → cpu_number distance thread < 64
cpu_number-few Near thread few = omega (arith, few)
cpu_number-few Apart thread few = omega (arith, few)

pub cpus-few : (distance : Distance) (threads cpus : ℕ) → threads ≤ 4 → 64 ≤ cpus → HasCpus distance threads cpus
cpus-few distance threads cpus few many thread thread_in =
    let below = cpu_number-few distance thread (omega (arith, few, thread_in)) in omega (arith, below, many)

-- where the last thread has a CPU of the machine, all have
pub cpus-known : (distance : Distance) (threads cpus last : ℕ) → threads ≤ last + 1
    → cpu_number distance last < cpus → HasCpus distance threads cpus
cpus-known Near threads cpus last all below thread thread_in = omega (arith, all, below, thread_in)
cpus-known Apart threads cpus last all below thread thread_in = omega (arith, all, below, thread_in)
