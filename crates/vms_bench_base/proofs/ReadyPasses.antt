-- For other crates too: a pass that made steps and carries nothing then is ready again.
use Rattle.std.proofs.Common.{[], List, refl, ◌∙◌}
use Rattle.vms_calls.specs.Common.{Shape, own, Facts, Step, CarriesNothing, pages}
use Rattle.vms_seats.specs.Common.{Shared, Made}
use Rattle.vms_words.specs.Common.{OwningPass}
use Rattle.vms_bench_base.specs.Common.{IsReady}

pub none-carried : (shape : Shape) → CarriesNothing shape []
none-carried shape = record { counters = λ k. refl; items = λ i. refl }

pub made-ready : (table : Shared Facts) (new old : OwningPass) (steps : List Step) → IsReady table old
    → Made pages new.pass old.pass steps → CarriesNothing table.facts.layout (own new.pass.seen new.pass.number)
    → IsReady table new
made-ready table new old steps ready made none = record {
  of = record { table = made.table ∙ ready.of.table; facts = made.facts ∙ ready.of.facts };
  cpu = ready.cpu;
  owns = made.cpu ∙ ready.owns;
  known = ready.known;
  idle = none;
}
