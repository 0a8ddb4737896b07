-- Where a cursor goes on by a step of its pass, the walk stands after the step.
use Rattle.std.proofs.Common.{ℕ, List, [], ◌∷◌, sym, subst}
use Rattle.std.specs.Prelude.{Some}
use Rattle.vms_core.specs.Pages.{History}
use Rattle.vms_plans.specs.Common.{PlansAreCalls}
use Rattle.vms_cursors.specs.Calls.{cursor_at}
use Rattle.vms_cursors.specs.Cursors.{GoesOn}
use Rattle.vms_cursors.specs.declared.cursors.Cursor.{Cursor}
use Rattle.vms_world.specs.Common.{Act, Header, Lane, State, Step, ZoneSize, after, own}
use Rattle.vms_own_acts.specs.Common.{IsFunction}
use Rattle.vms_own_acts.proofs.Ways.{way-on}
use Rattle.vms_walks.specs.Walks.{StandsBy}
use Rattle.vms_walks.proofs.WalkSteps.{with_step}

module _ (header : Header) (base : State) (pressure normal : ZoneSize → ℕ → ℕ → Type 0) (lane : Lane) (p : ℕ)
    (plans : PlansAreCalls pressure normal) (is_p : IsFunction pressure) (is_n : IsFunction normal) where
  pub steps-on : (acts : List Act) (begun : ℕ) (cursor later : Cursor) (k : Step) (h : History)
      → StandsBy header base pressure normal lane p acts begun (Some cursor) (own h p)
      → GoesOn (cursor_at header base p pressure normal (own h p) cursor) k
      (cursor_at header base p pressure normal (after p (k ∷ []) (own h p)) later)
      → StandsBy header base pressure normal lane p acts begun (Some later)
      (own (record { caller = p; step = k } ∷ h) p)
  steps-on acts begun cursor later k h stands goes =
      subst (λ mine. StandsBy header base pressure normal lane p acts begun (Some later) mine)
      (sym (with_step header base pressure normal lane p plans is_p is_n k h)) (
        stands.0,
        stands.1,
        stands.2,
        way-on header base pressure normal lane p stands.0 stands.1
            (cursor_at header base p pressure normal (own h p) cursor)
            (cursor_at header base p pressure normal (after p (k ∷ []) (own h p)) later)
            (own h p) k goes stands.3,
      )
