use Rattle.std.proofs.Common.{◌≡◌, ◌∷◌, [], ◌++◌, codes, flat_map, map, take}
use Rattle.std.specs.Fmt.{signed_decimal}
use Rattle.std.specs.List.{enumerate_from}
use Rattle.vms_world.specs.Common.{sentence}
use Rattle.vms_report.specs.Common.{pcpu_total}
use Rattle.vms_report.proofs.totals.write_percpu.Given as goal

-- the lines of the percpu counters so far
abbrev pub invariant-loop-counter : goal.invariant-loop-counter
invariant-loop-counter l =
    l.out.items ≡ l.initial.out.items ++ flat_map sentence
    (map (λ (j, decl). codes "counter" ∷ decl.name ∷ signed_decimal (pcpu_total l.header l.world j) ∷ [])
    (enumerate_from 0 (take l.counter l.header.counters)))
