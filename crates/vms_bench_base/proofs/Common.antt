-- For other crates too: the lemmas that they cite, passed on from one place. Declares nothing.
pub use Rattle.vms_bench_base.proofs.Beginning.{begun-owns_below, owns_below-free}
pub use Rattle.vms_bench_base.proofs.ThreadCpus.{cpu_number-few, cpu_number-rises, cpus-few, cpus-known}
