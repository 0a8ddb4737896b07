use Rattle.vms_calls.specs.Common.{CarriesNothing}
use Rattle.vms_bench.specs.Common.{IsOwn, IsTarget, own_of}
use Rattle.vms_bench.proofs.pages.change_often.Given as goal

abbrev pub invariant-loop : goal.invariant-loop
invariant-loop l =
    IsTarget l.table.facts.layout l.target × IsOwn l.pass l.table l.target.cpu
    × CarriesNothing l.table.facts.layout (own_of l.pass)
