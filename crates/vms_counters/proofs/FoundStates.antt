-- A control handle that has loaded a CPU's state carries nothing.
use Rattle.std.proofs.Common.{[], ◌∷◌}
use Rattle.vms_calls.proofs.Common.{still-leaves}
use Rattle.vms_world.specs.Common.{CpuId, CpuState, Facts, LoadO, Step, own, pages}
use Rattle.vms_seats.specs.Common.{MadeOne, Pass, Shared}
use Rattle.vms_counters.specs.Handles.{IsBetweenCalls}
use Rattle.vms_counters.proofs.Between.{between-left}

pub between-found : (words : Shared Facts) (new old : Pass Facts Step) (cpu : CpuId) (state : CpuState)
    → MadeOne pages new old (LoadO cpu state) → IsBetweenCalls words old → IsBetweenCalls words new
between-found words new old cpu state made between =
    between-left words new old (LoadO cpu state ∷ []) made.all between
    (still-leaves words.facts.layout old.number (LoadO cpu state ∷ []) (own old.seen old.number) (tt, tt))
