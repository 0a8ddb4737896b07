-- The definitions that other crates and this one's proofs cite, passed on from one place. Declares nothing.
pub use Rattle.vms_bench_base.specs.Beginnings.{OwnsBelow}
pub use Rattle.vms_bench_base.specs.Distances.{HasCpus, cpu_number}
pub use Rattle.vms_bench_base.specs.Levels.{IsLevel}
pub use Rattle.vms_bench_base.specs.Machines.{AreOnline, size_of_zones}
pub use Rattle.vms_bench_base.specs.ReadyPasses.{IsReady, IsUnused}
pub use Rattle.vms_bench_base.specs.Starts.{IsHeaderOf}
