-- For other crates too: what holds of the plan at a cursor, from the position at which its call stands.
use Rattle.std.proofs.Common.{◌≡◌, ℕ, [], ◌∷◌, sym, subst}
use Rattle.std.specs.Prelude.{Option, Some, None, IfSome}
use Rattle.vms_calls.specs.Common.{CpuId, Header, History, State, Step, ZoneSize, after, facts_of}
use Rattle.vms_plans.specs.declared.due_steps.DueStep.{DueStep}
use Rattle.vms_plans.specs.Common.{Plan, and_then, ends}
use Rattle.vms_cursors.specs.BurialClauses.{BurialDue}
use Rattle.vms_cursors.specs.Burials.{burial_at}
use Rattle.vms_cursors.specs.Calls.{answer_of, cursor_at}
use Rattle.vms_cursors.specs.declared.burial_positions.BurialPosition.{BurialPosition}
use Rattle.vms_cursors.specs.Cursors.{GoesOn, HasEnded, IsDue, Stops}
use Rattle.vms_cursors.specs.RatingClauses.{RatingDue}
use Rattle.vms_cursors.specs.Ratings.{rating_at}
use Rattle.vms_cursors.specs.TurnClauses.{TurnDue}
use Rattle.vms_cursors.specs.Turns.{turn_at}
use Rattle.vms_cursors.specs.declared.cursors.Cursor.{Cursor}
use Rattle.vms_cursors.specs.declared.rating_calls.RatingCall.{RatingCall}
use Rattle.vms_cursors.specs.declared.rating_positions.RatingPosition.{RatingPosition}
use Rattle.vms_cursors.specs.declared.turn_positions.TurnPosition.{TurnPosition}
use Rattle.vms_cursors.specs.declared.turns.Turn.{Turn}
use Rattle.vms_cursors.proofs.Goes.{answering-due}

pub some-due : {A B : Type 0} (tell : A → B) (plan : Plan A) (due : Option DueStep) → IfSome due (λ d. IsDue plan d)
    → IfSome due (λ d. IsDue (and_then plan (λ x. ends (tell x))) d)
some-due tell plan None is = is
some-due tell plan (Some d) is = answering-due tell plan d is

module _ (header : Header) (base : State) (p : ℕ) (pressure normal : ZoneSize → ℕ → ℕ → Type 0) (h : History)
    (self whole : Cursor) (is : self ≡ whole) where
  pub goes-as : (step : Step) (later : Cursor) → GoesOn (cursor_at header base p pressure normal h whole) step
      (cursor_at header base p pressure normal (after p (step ∷ []) h) later)
      → GoesOn (cursor_at header base p pressure normal h self) step
      (cursor_at header base p pressure normal (after p (step ∷ []) h) later)
  goes-as step later goes = subst (λ s. GoesOn (cursor_at header base p pressure normal h s) step
      (cursor_at header base p pressure normal (after p (step ∷ []) h) later)) (sym is) goes

  pub stops-as : (step : Step) → Stops (cursor_at header base p pressure normal h whole) step → Stops
      (cursor_at header base p pressure normal h self) step
  stops-as step stops = subst (λ s. Stops (cursor_at header base p pressure normal h s) step) (sym is) stops

  pub due-as : (due : Option DueStep) → IfSome due (λ d. IsDue (cursor_at header base p pressure normal h whole) d)
      → IfSome due (λ d. IsDue (cursor_at header base p pressure normal h self) d)
  due-as due holds = subst (λ s. IfSome due (λ d. IsDue (cursor_at header base p pressure normal h s) d)) (sym is) holds

  pub ended-as : HasEnded (cursor_at header base p pressure normal h whole) (answer_of header whole)
      → HasEnded (cursor_at header base p pressure normal h self) (answer_of header self)
  ended-as ended = subst (λ s. HasEnded (cursor_at header base p pressure normal h s) (answer_of header s))
      (sym is) ended

-- what a position of a call that gives thresholds says of the plan in a header
module _ (header : Header) (base : State) (p : ℕ) (pressure normal : ZoneSize → ℕ → ℕ → Type 0) (h : History) where
  pub rates-due : (call : RatingCall) (at : RatingPosition) (due : Option DueStep)
      → IfSome due (λ d. RatingDue header.layout pressure normal call at d)
      → IfSome due (λ d. IsDue (rating_at (facts_of header base) p pressure normal call h at) d)
  rates-due call at None is = is
  rates-due call at (Some d) is = is header.sizes base p h

  -- and a position of a burial
  pub buries-due : (c : CpuId) (at : BurialPosition) (due : Option DueStep)
      → IfSome due (λ d. BurialDue header.layout pressure normal c at d)
      → IfSome due (λ d. IsDue (burial_at (facts_of header base) p pressure normal c h at) d)
  buries-due c at None is = is
  buries-due c at (Some d) is = is header.sizes base p h

  -- and a position of a turn of kswapd
  pub turns-due : (turn : Turn) (at : TurnPosition) (due : Option DueStep)
      → IfSome due (λ d. TurnDue header pressure normal turn at d)
      → IfSome due (λ d. IsDue (turn_at header base p pressure normal turn h at) d)
  turns-due turn at None is = is
  turns-due turn at (Some d) is = is base p h
