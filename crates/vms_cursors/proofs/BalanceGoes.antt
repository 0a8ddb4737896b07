-- How a balance test goes on from zone to zone.
use Rattle.std.proofs.Common.{◌≡◌, ℕ, suc, zero, ◌+◌, ◌<◌, ◌≤◌, Bool, true, false, [], ◌∷◌, ◌++◌, length, if◌then◌else◌}
use Rattle.std.proofs.Common.{refl, sym, ap, ◌∙◌, arith}
use Rattle.vms_calls.specs.Common.{Header, PlaceId, node_number}
use Rattle.vms_calls.specs.declared.answers.Balance.TheVariants.{Yes, No}
use Rattle.vms_calls.specs.declared.answers.OrderVerdict.{OrderVerdict}
use Rattle.vms_calls.proofs.Common.{zones_below, zones_below-next}
use Rattle.vms_plans.specs.Common.{balance_plan, either, ends, zones_plan}
use Rattle.vms_cursors.specs.Balances.{IsBalanceEnded, IsBalanceSettled, balance_at, judged_plan, tests_from}
use Rattle.vms_cursors.specs.Balances.{tests_zone}
use Rattle.vms_cursors.specs.Cursors.{IsUnended}
use Rattle.vms_cursors.specs.Kept.{kept_from}
use Rattle.vms_cursors.specs.Orders.{order_at}
use Rattle.vms_cursors.specs.declared.balance_positions.BalancePosition.{BalancePosition}
use Rattle.vms_cursors.specs.declared.balance_positions.BalancePosition.TheVariants.{Ended, Zone}
use Rattle.vms_cursors.specs.declared.order_positions.OrderPosition.TheVariants.{Tests}
use Rattle.vms_cursors.specs.declared.test_positions.TestPosition.TheVariants.{Begun}
use Rattle.vms_cursors.specs.declared.turns.Turn.{Turn}
use Rattle.vms_cursors.proofs.FlaggedCpus.{all_left}
use Rattle.vms_cursors.proofs.Followed.{followed-unended}
use Rattle.vms_cursors.proofs.KeptNumbers.{kept-last, kept-none, kept-some}
use Rattle.vms_cursors.proofs.OrderGoes.{order-unended}

module _ (header : Header) (turn : Turn) where
  abbrev test : ℕ → Bool
  test = tests_zone header.layout turn

  abbrev count : ℕ
  count = length header.layout.zones

  -- a balance test tests from zone 0 on
  zones-are : (n : ℕ) → zones_below header.layout turn.most (node_number header.layout turn.node) n
      ≡ kept_from test 0 n
  zones-are zero = refl
  zones-are (suc n) =
      let start : n ≡ 0 + n = omega arith in
      zones_below-next header.layout turn.most (node_number header.layout turn.node) n
      ∙ ap (λ xs. xs ++ (if test n then n ∷ [] else [])) (zones-are n)
      ∙ ap (λ k. kept_from test 0 n ++ (if test k then k ∷ [] else [])) start
      ∙ sym (kept-last test 0 n)

  pub balance-begins : balance_plan header turn.node turn.order turn.most ≡ tests_from header turn 0
  balance-begins = ap (zones_plan header turn.most turn.order)
      (zones-are count ∙ ap (kept_from test 0) (sym (all_left count)))

  -- the next zone
  pub zone-tested : (g : ℕ) → g < count → test g ≡ true
      → tests_from header turn g ≡ balance_at header turn (Zone (record { number = g }) (Tests Begun))
  zone-tested g less is = ap (zones_plan header turn.most turn.order) (kept-some test count g less is)

  pub none-tested : (g : ℕ) → count ≤ g → tests_from header turn g ≡ ends No
  none-tested g most = ap (zones_plan header turn.most turn.order) (kept-none test count g most)

  -- the verdict on a zone
  pub zone-passes : (g : PlaceId) (verdict : OrderVerdict) → verdict.yes ≡ true
      → judged_plan header turn g verdict ≡ ends (Yes g verdict)
  zone-passes g verdict passes =
      ap (λ b. either b (ends (Yes g verdict)) (tests_from header turn (g.number + 1))) passes

  pub zone-fails : (g : PlaceId) (verdict : OrderVerdict) → verdict.yes ≡ false
      → judged_plan header turn g verdict ≡ tests_from header turn (g.number + 1)
  zone-fails g verdict fails =
      ap (λ b. either b (ends (Yes g verdict)) (tests_from header turn (g.number + 1))) fails

  -- a balance test that has not ended
  pub balance-unended : (at : BalancePosition) → IsBalanceSettled header turn at → (IsBalanceEnded at → ⊥)
      → IsUnended (balance_at header turn at)
  balance-unended (Zone g at) settled unended = followed-unended (order_at header g turn at) (judged_plan header turn g)
      (order-unended header g turn at settled.0 settled.1)
  balance-unended (Ended balance) settled unended = absurd (unended (tt {0}))
