-- A turn of kswapd: pressure thresholds, a balance test, and what follows it.
use Rattle.std.proofs.Common.{◌≡◌, ℕ, List, ◌++◌, None, refl, sym, ◌∙◌, subst}
use Rattle.vms_calls.specs.Common.{Header, PlaceId, ZoneSize, IsHeader, after, GoesOnTo, LeadsOn, State, pages}
use Rattle.vms_calls.specs.Common.{facts_of, MakesBalanceTest, SetsPressure, node_number, IsBalanceTest, IsTurn}
use Rattle.vms_calls.specs.Common.{SetsAfterYes, zones_up_to}
use Rattle.vms_history.proofs.Common.{after-steps, LeadsOn-append, call-goes_on}
use Rattle.vms_calls.specs.MayMake as making
use Rattle.vms_calls.specs.declared.answers.Balance.{Balance}
use Rattle.vms_calls.proofs.Common.{balance-each}
use Rattle.vms_plain_pages.specs.Common.{CallLeadsAlone, pages_by_state, pages_are_by_state}
use Rattle.vms_plain_control.specs.Common.{ControlMakes, KnowsPeaks}
use Rattle.vms_plain_control.proofs.ControlledHistories.{Controls-after, GoesOnTo-both}
use Rattle.vms_plain_control.proofs.UntouchedPeaks.{KnowsPeaks-left, LeavesPeaks, looks-leave}

module _ (header : Header) (is_header : IsHeader header) (pressure normal : ZoneSize → ℕ → ℕ → Type 0) (n : PlaceId)
    (order most : ℕ) (answer : Balance) (s mid next : State) (peaks some known : List ℕ) where
  pub turn-makes : MakesBalanceTest
      → ControlMakes header (λ base p h steps.
      SetsPressure (facts_of header base) pressure normal n p h steps) s peaks mid
      some
      → CallLeadsAlone None (λ steps. IsBalanceTest header n order most steps answer) mid mid
      → ControlMakes header (λ base p h steps.
      SetsAfterYes (facts_of header base) normal n p answer h steps) mid some next
      known
      → ControlMakes header (λ base p h steps. IsTurn header base pressure normal n order most p h steps answer) s peaks
      next known
  turn-makes may first test second base h p controls =
      let facts = facts_of header base in
      let one = first base h p controls in
      let pressed = after p one.0 h in
      let after_one = Controls-after header base h p s peaks controls one.0 mid some one.3 one.4 in
      let goes : GoesOnTo pages facts p test.0 pressed mid =
      call-goes_on pages making.Tells pages_by_state pages_are_by_state facts p None pressed
      (λ ks. (told : Balance) × IsBalanceTest header n order most ks told) test.0 mid
      after_one.control.living.legal after_one.control.living.lives after_one.control.control
      (may header base pressed p n order most is_header after_one.control.living) (answer, test.1)
      (subst (λ (x : State). LeadsOn pages_by_state None test.0 x mid) (sym after_one.stands) test.2) in
      let after_test = Controls-after header base pressed p mid some after_one test.0 mid some goes
      (KnowsPeaks-left facts p test.0 (balance-each LeavesPeaks looks-leave header most order
      (zones_up_to header.layout most (node_number header.layout n)) test.0 answer test.1) pressed some one.4) in
      let two = second base (after p test.0 pressed) p after_test in
      let steps = one.0 ++ (test.0 ++ two.0) in
      let whole : after p steps h ≡ after p two.0 (after p test.0 pressed) =
      after-steps p one.0 (test.0 ++ two.0) h ∙ after-steps p test.0 two.0 pressed in (
        steps,
        record {
          pressed = one.0;
          presses = one.1;
          test = test.0;
          tests = test.1;
          further = two.0;
          settles = subst (λ k. SetsAfterYes facts normal n p answer k two.0)
              (sym (after-steps p one.0 test.0 h)) two.1;
          in_order = refl;
        },
        LeadsOn-append pages_by_state None one.0 (test.0 ++ two.0) s mid next one.2
            (LeadsOn-append pages_by_state None test.0 two.0 mid mid next test.2 two.2),
        GoesOnTo-both facts p one.0 (test.0 ++ two.0) h mid next one.3
            (GoesOnTo-both facts p test.0 two.0 pressed mid next goes two.3),
        subst (λ k. KnowsPeaks facts k known) (sym whole) two.4,
      )
