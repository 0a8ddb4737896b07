-- Those so far were copied.
use Rattle.std.proofs.Common.{◌≡◌, ◌++◌, drop}
use Rattle.vms_trace_parts.proofs.copies.copied_counters.Given as goal

abbrev pub invariant-loop-decl : goal.invariant-loop-decl
invariant-loop-decl l = l.copies.items ++ drop l.decl-index l.counters ≡ l.counters
