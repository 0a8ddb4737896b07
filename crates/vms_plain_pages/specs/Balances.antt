-- What a balance test of a node answers, by the state.
use Rattle.std.specs.Prelude.{ℕ, Option, Some, None}
use Rattle.std.specs.List.{find}
use Rattle.vms_calls.specs.Common.{Header, PlaceId, High, State, node_number, zones_up_to}
use Rattle.vms_calls.specs.declared.answers.Balance.{Balance}
use Rattle.vms_calls.specs.declared.answers.Balance.TheVariants.{Yes, No}
use Rattle.vms_plain_pages.specs.Orders.{order_verdict_at, zone_passes}

-- the answer that names this zone
abbrev pub balance_of : Header → (most order : ℕ) → State → Option ℕ → Balance
balance_of header most order s None = No
balance_of header most order s (Some g) =
    Yes (record { number = g }) (order_verdict_at header g High most order s)

-- the answer names the first zone of the node that passes, of those up to a zone index
abbrev pub balance_at : Header → PlaceId → (order most : ℕ) → State → Balance
balance_at header n order most s = balance_of header most order s
    (find (λ g. zone_passes header g High most order s)
    (zones_up_to header.layout most (node_number header.layout n)))
