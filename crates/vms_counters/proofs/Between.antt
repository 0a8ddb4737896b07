-- A handle carries nothing between two calls: its pass begins so, and calls that change no counter leave it so.
use Rattle.std.proofs.Common.{◌≡◌, List, [], Option, refl, ap, sym, ◌∙◌, subst}
use Rattle.vms_core.specs.Own.{CarriesNothing, carried}
use Rattle.vms_world.specs.Common.{CpuId, Facts, LeavesCaller, Shape, Step, after, carried_of_item, own, pages}
use Rattle.vms_core.specs.declared.steps.Step.TheVariants.{Split}
use Rattle.vms_seats.specs.Common.{HasBegun, IsFrom, Made, Pass, Shared}
use Rattle.vms_seats.proofs.Common.{is_of-begun}
use Rattle.vms_words.specs.Common.{begins_it}
use Rattle.vms_counters.specs.Handles.{IsBetweenCalls}

none-carried : (shape : Shape) → CarriesNothing shape []
none-carried shape = record { counters = λ k. refl; items = λ i. refl }

pub between-begun : (words : Shared Facts) (new old pass : Pass Facts Step) (who : Option CpuId)
    → HasBegun pages Split new old pass who → IsFrom old words → IsBetweenCalls words pass
between-begun words new old pass who begun of = record {
  of = is_of-begun pages Split begins_it words new old pass who begun of;
  nothing = subst (CarriesNothing words.facts.layout) (sym begun.no_steps) (none-carried words.facts.layout);
}

module _ (words : Shared Facts) (new old : Pass Facts Step) (steps : List Step) (made : Made pages new old steps)
    (between : IsBetweenCalls words old) where
  pub of-made : IsFrom new words
  of-made = record { table = made.table ∙ between.of.table; facts = made.facts ∙ between.of.facts }

  pub between-left : LeavesCaller words.facts.layout old.number steps (own old.seen old.number)
      → IsBetweenCalls words new
  between-left leaves =
      let mine : own new.seen new.number ≡ after old.number steps (own old.seen old.number) =
      ap (own new.seen) made.number ∙ made.made.made in
      record {
        of = of-made;
        nothing = record {
          counters = λ k. ap (carried k) mine ∙ leaves.carries.counters k ∙ between.nothing.counters k;
          items = λ i. ap (carried_of_item words.facts.layout i) mine ∙ leaves.carries.items i
              ∙ between.nothing.items i;
        };
      }
