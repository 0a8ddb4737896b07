-- For other crates too: the thresholds that a turn set last stand after it, whatever others did meanwhile.
use Rattle.std.proofs.Common.{◌≡◌, ℕ, ◌&&◌, nat_eq, Bool, true, false, List, [], ◌∷◌, length, Option, Some, None}
use Rattle.std.proofs.Common.{if◌then◌else◌, sym, subst, ◌∙◌, arith}
use Rattle.std.proofs.lemmas.Option.{same_Some}
use Rattle.vms_calls.specs.Common.{Header, PlaceId, CpuState, ZoneSize, online_from, IsPlace, size_at, facts_of}
use Rattle.vms_calls.specs.Common.{KnowsByOwnSteps, HasMade, LeavesByRule, last_set, IsTurn, State, Facts, Step, SetT}
use Rattle.vms_calls.specs.Common.{IsControl, History, threshold_in, after}
use Rattle.vms_calls.specs.declared.answers.Balance.{Balance}
use Rattle.vms_calls.specs.declared.answers.Balance.TheVariants.{Yes, No}
use Rattle.vms_calls.proofs.Common.{LeavesNormal-holds, LeavesPressure-holds}
use Rattle.vms_core.proofs.Common.{laws-kept}
use Rattle.vms_kswapd.specs.Common.{LeavesRule, StandsByRule}

-- the threshold that steps set last stands after them
last-set_stands : (facts : Facts) (p c g : ℕ) (steps : List Step) (h : History) (before : Option ℕ) (t : ℕ)
    → ((u : ℕ) → before ≡ Some u → threshold_in facts c g h ≡ u) → last_set c g steps before ≡ Some t
    → threshold_in facts c g (after p steps h) ≡ t
last-set_stands facts p c g [] h before t stands last = stands t last
last-set_stands facts p c g (SetT d f u ∷ steps) h before t stands last =
    last-set_stands facts p c g steps (record { caller = p; step = SetT d f u } ∷ h)
    (if nat_eq d.number c && nat_eq f.number g then Some u else before) t
    (by (nat_eq d.number c && nat_eq f.number g)) last
  where
    by : (b : Bool) (x : ℕ) → (if b then Some u else before) ≡ Some x
        → (if b then u else threshold_in facts c g h) ≡ x
    by true x is = same_Some u x is
    by false x is = stands x is
last-set_stands facts p c g (step ∷ steps) h before t stands last =
    last-set_stands facts p c g steps (record { caller = p; step = step } ∷ h) before t stands last

module _ (header : Header) (base : State) (p : ℕ) (later h : History) (steps : List Step)
    (has : HasMade (facts_of header base) later h p steps) (know : KnowsByOwnSteps) (control : IsControl h p) where
  rule-stands : (rule : ZoneSize → ℕ → ℕ → Type 0) (states : List CpuState) (call : List Step)
      → LeavesByRule header.sizes rule states call steps
      → StandsByRule (facts_of header base) rule states call later
  rule-stands rule states call leaves g c zone c_in found is =
      let facts = facts_of header base in
      let left = leaves g c found is in
      let place : IsPlace facts.layout g = omega arith in
      let stands = (laws-kept facts later has.legal).told_thresholds c.number g c_in place
      ∙ (know facts later h p steps has control).thresholds c.number g
      ∙ last-set_stands facts p c.number g steps h None left.t (λ u none. absurd cc) left.last in
      subst (rule (size_at header.sizes g) (length (online_from 0 states))) (sym stands) left.by_rule

  pub rules-stand : (pressure normal : ZoneSize → ℕ → ℕ → Type 0) (n : PlaceId) (order most : ℕ) (answer : Balance)
      (turn : IsTurn header base pressure normal n order most p h steps answer)
      → LeavesRule header base pressure normal n order most p h steps answer turn later
  rules-stand pressure normal n order most (Yes g verdict) turn =
      rule-stands normal turn.settles.states turn.further
      (LeavesNormal-holds pressure normal header base n order most p h steps g verdict turn)
  rules-stand pressure normal n order most No turn =
      rule-stands pressure turn.presses.states turn.pressed
      (LeavesPressure-holds pressure normal header base n order most p h steps turn)
