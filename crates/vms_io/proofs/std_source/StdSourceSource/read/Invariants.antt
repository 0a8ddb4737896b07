use Rattle.std.proofs.Common.{◌≡◌}
use Rattle.std.specs.Io.KnownBytes.{Keeps}
use Rattle.vms_io.proofs.std_source.StdSourceSource.read.Given as goal

abbrev pub invariant-loop : goal.invariant-loop
invariant-loop g l = Keeps (g.R.Read.remaining l.initial.self.reader) (g.R.Read.remaining l.self.reader)
    × (l.self.errors ≡ l.initial.self.errors)
    × (l.self.calls ≡ l.initial.self.calls)
