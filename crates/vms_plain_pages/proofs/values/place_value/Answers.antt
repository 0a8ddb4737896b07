-- The load is the only step.
use Rattle.std.proofs.Common.{[], ◌∷◌, refl, rules}
use Rattle.vms_calls.specs.Common.{LoadG, value_at}
use Rattle.vms_plain_pages.proofs.values.place_value.Goals as goal

pub returns-clause-made : goal.returns-clause-made
returns-clause-made c = λ who. (
  LoadG c.args.counter (value_at c.args.pages.now c.args.counter.number) ∷ [],
  record { value = value_at c.args.pages.now c.args.counter.number; in_order = refl; answers = search rules },
  (refl, refl),
)
