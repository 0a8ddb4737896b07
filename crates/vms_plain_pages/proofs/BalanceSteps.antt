-- For other crates too: the steps of a balance test: zones are tested up to the first that passes.
use Rattle.std.proofs.Common.{◌≡◌, ℕ, suc, ◌^◌, ◌<◌, Bool, true, false, List, [], ◌∷◌, ◌++◌, length, Option, Some, refl}
use Rattle.std.proofs.Common.{if◌then◌else◌, arith}
use Rattle.std.specs.List.{find}
use Rattle.std.specs.Prelude.{All}
use Rattle.vms_calls.specs.Common.{Header, CpuId, PlaceId, High, IsHeader, LeadsOn, State, Step, node_number, Balances}
use Rattle.vms_calls.specs.Common.{IsBalanceTest, no_zone, fails, passes}
use Rattle.vms_history.proofs.Common.{LeadsOn-append}
use Rattle.vms_plain_pages.specs.Common.{IsSmallState, CallLeadsAlone, balance_at, balance_of, order_verdict_at}
use Rattle.vms_plain_pages.specs.Common.{zone_passes, pages_by_state}
use Rattle.vms_plain_pages.proofs.OrderSteps.{order-made}
use Rattle.vms_calls.proofs.Common.{zones_below-known}

module _ (header : Header) (valid : IsHeader header) (s : State) (room : IsSmallState header.layout (2 ^ 61) s)
    (who : Option CpuId) (most order : ℕ) where
  abbrev test : ℕ → Bool
  test g = zone_passes header g High most order s

  zones-tested : (gs : List ℕ) → All (λ g. g < length header.layout.zones) gs
      → (steps : List Step) × Balances header most order gs steps (balance_of header most order s (find test gs))
      × LeadsOn pages_by_state who steps s s
  zones-tested [] known = ([], no_zone, refl)
  zones-tested (g ∷ gs) known =
      by (zone_passes header g High most order s) refl (zones-tested gs (λ n d less. known (suc n) d (omega arith)))
    where
      by : (b : Bool) → zone_passes header g High most order s ≡ b
          → (steps : List Step) × Balances header most order gs steps (balance_of header most order s (find test gs))
          × LeadsOn pages_by_state who steps s s
          → (steps : List Step) × Balances header most order (g ∷ gs) steps
          (balance_of header most order s (if b then Some g else find test gs))
          × LeadsOn pages_by_state who steps s s
      by true is rest =
          let one = order-made header valid s room (record { number = g }) (known 0 g (omega arith)) who High most order
          in
          (one.0, passes g gs one.0 (order_verdict_at header g High most order s) one.1 is, one.2)
      by false is rest =
          let one = order-made header valid s room (record { number = g }) (known 0 g (omega arith)) who High most order
          in (
            one.0 ++ rest.0,
            fails g gs one.0 rest.0 (order_verdict_at header g High most order s)
                (balance_of header most order s (find test gs)) one.1 is rest.1,
            LeadsOn-append pages_by_state who one.0 rest.0 s s s one.2 rest.2,
          )

  -- a test is made, and answers what the state tells
  pub balance-made : (n : PlaceId)
      → CallLeadsAlone who (λ steps. IsBalanceTest header n order most steps (balance_at header n order most s)) s s
  balance-made n = zones-tested _
      (zones_below-known header.layout most (node_number header.layout n) (length header.layout.zones))
