-- The acts of a lane in a legal history, under rules that allow what others answered.
use Rattle.std.proofs.Common.{ℕ, ◌+◌, List, [], ◌∷◌, ◌++◌, length, sym, ap, ◌∙◌, subst, append_assoc, append-nil}
use Rattle.std.specs.Prelude.{Option, Some, None}
use Rattle.vms_calls.specs.PageCalls.{IsPageCall}
use Rattle.vms_calls.specs.RatingReadings.{SomeOnline}
use Rattle.vms_calls.specs.declared.page_calls.PageAnswer.{PageAnswer}
use Rattle.vms_calls.specs.declared.page_calls.PageAnswer.TheVariants as answer
use Rattle.vms_calls.specs.declared.page_calls.PageCall.{PageCall}
use Rattle.vms_calls.specs.declared.page_calls.PageCall.TheVariants.{Bury, Change, Fold, SetNormal, SetPressure}
use Rattle.vms_calls.specs.declared.page_calls.PageCall.TheVariants.{Snapshot, System, Test, Turn, Value}
use Rattle.vms_world.specs.Common.{IsBase, Act, Balance, ByNormal, ByPressure, CallSteps, Choice, CpuId, Facts, Header}
use Rattle.vms_world.specs.Common.{IsTurn, Lane, MakesActs, No, PageSteps, PlaceId, RatesNode, Refreshes, SetO}
use Rattle.vms_world.specs.Common.{SetsAfterYes, State, Step, Yes, ZoneSize, act as one_act, after, facts_of, in_turn}
use Rattle.vms_world.specs.Common.{largest_on, online_from, own, owner_of, page_call, pages, state_steps}
use Rattle.vms_world.specs.Common.{threshold_steps}
use Rattle.vms_core.specs.Pages.{History, IsLegal}
use Rattle.vms_history.proofs.Common.{base_can_begin, prefix_is_legal}
use Rattle.vms_world.specs.Lanes.MakesActs.{none as no_act}
use Rattle.vms_written_rules.specs.Rules.{Allows}
use Rattle.vms_written_rules.proofs.OnlineStates.{HasMade, states-online}
use Rattle.vms_written_rules.proofs.OtherRatings.{Buries-allowed, Follows-normal, Follows-pressure, RatesNode-follow}

module _ (header : Header) (base : State) (pressure normal pressure' normal' : ZoneSize → ℕ → ℕ → Type 0)
    (by_pressure : Allows pressure' pressure) (by_normal : Allows normal' normal) (p : ℕ) where
  abbrev facts : Facts
  facts = facts_of header base

  module _ (later earlier : History) (legal : IsLegal facts later) where
    can-begin : IsBase facts
    can-begin = base_can_begin pages facts later legal

    abbrev Made : List Step → Type 0
    Made steps = HasMade facts p later earlier legal steps

    -- calls that stand among the steps found a CPU online
    node-online : (Chooses : Choice) (n : PlaceId) (h : History) (call xs ys : List Step)
        (rates : RatesNode facts Chooses n p h call) → Made (xs ++ (call ++ ys)) → SomeOnline rates.states
    node-online Chooses n h call xs ys rates has =
        let loads = in_turn state_steps 0 rates.states in
        states-online facts p later earlier legal rates.states xs (rates.further ++ ys) rates.one_each
        (subst (λ (ks : List Step). Made (xs ++ ks))
        (ap (λ (ks : List Step). ks ++ ys) rates.in_order ∙ append_assoc loads rates.further ys) has)

    refresh-online : (h : History) (call xs : List Step) (refresh : Refreshes facts normal p h call)
        → Made (xs ++ call) → SomeOnline refresh.states
    refresh-online h call xs refresh has =
        let loads = in_turn state_steps 0 refresh.states in
        let nodes = in_turn (λ i node. threshold_steps (length facts.layout.zones + i)
        (largest_on facts.layout refresh.thresholds node) (online_from 0 refresh.states)) 0 facts.layout.nodes in
        states-online facts p later earlier legal refresh.states xs (refresh.further ++ nodes) refresh.one_each
        (subst (λ (ks : List Step). Made (xs ++ ks))
        (refresh.in_order ∙ append_assoc loads refresh.further nodes) has)

    settles-allowed : (n : PlaceId) (balance : Balance) (h : History) (steps xs : List Step)
        → Made (xs ++ steps) → SetsAfterYes facts normal n p balance h steps
        → SetsAfterYes facts normal' n p balance h steps
    settles-allowed n (Yes g verdict) h steps xs has settles =
        RatesNode-follow facts can-begin p (ByNormal normal) (ByNormal normal') (Follows-normal normal normal' by_normal)
        n h steps settles
        (node-online (ByNormal normal) n h steps xs [] settles
        (subst (λ (ks : List Step). Made (xs ++ ks)) (sym (append-nil steps)) has))
    settles-allowed n No h steps xs has settles = settles

    turn-allowed : (n : PlaceId) (order most : ℕ) (steps : List Step) (balance : Balance) → Made steps
        → IsTurn header base pressure normal n order most p earlier steps balance
        → IsTurn header base pressure' normal' n order most p earlier steps balance
    turn-allowed n order most steps balance has is =
        let made = subst Made is.in_order has in
        record {
          pressed = is.pressed;
          presses = RatesNode-follow facts can-begin p (ByPressure pressure normal) (ByPressure pressure' normal')
              (Follows-pressure pressure normal pressure' normal' by_pressure by_normal) n earlier is.pressed is.presses
              (node-online (ByPressure pressure normal) n earlier is.pressed [] (is.test ++ is.further) is.presses made);
          test = is.test;
          tests = is.tests;
          further = is.further;
          settles = settles-allowed n balance (after p (is.pressed ++ is.test) earlier) is.further
              (is.pressed ++ is.test) (subst Made (sym (append_assoc is.pressed is.test is.further)) made) is.settles;
          in_order = is.in_order;
        }

    call-allowed : (call : PageCall) (owner : Option CpuId) (steps : List Step) (told : PageAnswer) → Made steps
        → IsPageCall header base pressure normal call owner p earlier steps told
        → IsPageCall header base pressure' normal' call owner p earlier steps told
    call-allowed (Change k delta how) (Some own) steps answer.Done has is = is
    call-allowed (Fold c) owner steps answer.Done has is = is
    call-allowed (Test g mark most) owner steps (answer.Tested verdict) has is = is
    call-allowed (Value k) owner steps (answer.Value n) has is = is
    call-allowed (Snapshot k) owner steps (answer.Snapshot n) has is = is
    call-allowed (System i) owner steps (answer.System n) has is = is
    call-allowed (SetPressure n) None steps answer.Done has is =
        RatesNode-follow facts can-begin p (ByPressure pressure normal) (ByPressure pressure' normal')
        (Follows-pressure pressure normal pressure' normal' by_pressure by_normal) n earlier steps is
        (node-online (ByPressure pressure normal) n earlier steps [] [] is (subst Made (sym (append-nil steps)) has))
    call-allowed (SetNormal n) None steps answer.Done has is =
        RatesNode-follow facts can-begin p (ByNormal normal) (ByNormal normal') (Follows-normal normal normal' by_normal)
        n earlier steps is
        (node-online (ByNormal normal) n earlier steps [] [] is (subst Made (sym (append-nil steps)) has))
    call-allowed (Bury c) None steps answer.Done has is =
        Buries-allowed facts can-begin p normal normal' by_normal c earlier steps is
        (refresh-online (after p (is.fold ++ (SetO c ∷ [])) earlier) is.refresh (is.fold ++ (SetO c ∷ [])) is.refreshes
        (subst Made (is.in_order ∙ sym (append_assoc is.fold (SetO c ∷ []) is.refresh)) has))
    call-allowed (Turn n order most) None steps (answer.Balanced balance) has is =
        turn-allowed n order most steps balance has is
    call-allowed _ _ steps _ has is = absurd is

    steps-allowed : (call : Option PageCall) (owner : Option CpuId) (steps : List Step) → Made steps
        → CallSteps (λ one ks told. IsPageCall header base pressure normal one owner p earlier ks told) call steps
        → CallSteps (λ one ks told. IsPageCall header base pressure' normal' one owner p earlier ks told) call steps
    steps-allowed None owner steps has none = none
    steps-allowed (Some call) owner steps has (told, is) = (told, call-allowed call owner steps told has is)

  pub acts-allowed : (lane : Lane) (acts : List Act) (h : History) → IsLegal facts h
      → MakesActs (PageSteps header base pressure normal lane p) p acts h
      → MakesActs (PageSteps header base pressure' normal' lane p) p acts h
  acts-allowed lane acts h legal (no_act h' nothing) = no_act h' nothing
  acts-allowed lane acts h legal (one_act before next h' more steps made making own_is) =
      one_act before next h' more steps
      (acts-allowed lane before h' (prefix_is_legal pages facts more h' legal) made)
      (steps-allowed (more ++ h') h' legal (page_call lane next) (owner_of lane) steps own_is making) own_is
