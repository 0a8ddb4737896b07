-- What a step in place makes of a call that gives thresholds.
use Rattle.std.specs.Prelude.{◌≡◌, ℕ, ◌-◌, ◌<◌, true, List}
use Rattle.vms_calls.specs.Common.{History, Shape, State, Step, ZoneSize}
use Rattle.vms_cursors.specs.Cursors.{IsUnended}
use Rattle.vms_cursors.specs.OnlineCpus.{flagged, is_flagged}
use Rattle.vms_cursors.specs.RatingClauses.{RatingGoes, facts_with}
use Rattle.vms_cursors.specs.Ratings.{rating_at}
use Rattle.vms_cursors.specs.declared.online_cpus.OnlineCpus.{OnlineCpus}
use Rattle.vms_cursors.specs.declared.rating_calls.RatingCall.{RatingCall}
use Rattle.vms_cursors.specs.declared.rating_positions.RatingPosition.{RatingPosition}

-- this CPU is the first of those that were found online from one on
pub record IsNextOnline (online : OnlineCpus) (cpus from c : ℕ) : Type 0 where
  pub same : flagged online.flags from (cpus - from) ≡ flagged online.flags c (cpus - c)
  pub less : c < cpus
  pub on : is_flagged online.flags c ≡ true

module _ (shape : Shape) (pressure normal : ZoneSize → ℕ → ℕ → Type 0) (call : RatingCall) where
  -- it goes on by the step, and hasn't ended before
  pub record RatesOn (at : RatingPosition) (step : Step) (later : RatingPosition) : Type 0 where
    pub goes : RatingGoes shape pressure normal call at step later
    pub unended : (sizes : List ZoneSize) (base : State) (p : ℕ) (h : History)
        → IsUnended (rating_at (facts_with shape sizes base) p pressure normal call h at)
