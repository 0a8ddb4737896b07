-- The load is the only step.
use Rattle.std.proofs.Common.{[], ◌∷◌, refl, rules}
use Rattle.vms_calls.specs.Common.{LoadS, system_at}
use Rattle.vms_plain_pages.proofs.values.system_value.Goals as goal

pub returns-clause-made : goal.returns-clause-made
returns-clause-made c = λ who. (
  LoadS c.args.item (system_at c.args.pages.now c.args.item.number) ∷ [],
  record { value = system_at c.args.pages.now c.args.item.number; in_order = refl; answers = search rules },
  (refl, refl),
)
