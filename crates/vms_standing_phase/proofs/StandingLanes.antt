-- What holds of the jobs of a phase holds of the same jobs as values that borrow nothing of it.
use Rattle.std.proofs.Common.{◌≡◌, ℕ, zero, suc, ◌<◌, List, [], ◌∷◌, All, length, ap, arith, refl, subst, sym, ◌∙◌}
use Rattle.std.specs.Prelude.{Result, IfOk, slice_index_or}
use Rattle.std.proofs.lemmas.List.Elements.{All-cons, All-head, All-nil, All-tail}
use Rattle.vms_world.specs.Common.{Header, IsHeader, IsThresholdRule, Item, Lane, Memory, ZoneSize, lane_items}
use Rattle.vms_world.specs.declared.worlds.World.{World}
use Rattle.vms_tables.specs.declared.tables.Tables.{Tables}
use Rattle.vms_tables.specs.Common.{AreTables}
use Rattle.vms_phase.specs.declared.jobs.LaneDone.{LaneDone}
use Rattle.vms_phase.specs.declared.jobs.LaneJob.{LaneJob}
use Rattle.vms_phase.specs.Common.{AreJobs, HasRunJob, HaveRunJobs, MayRunJob}
use Rattle.vms_standing.specs.Common.{Pairs}
use Rattle.vms_standing_phase.specs.declared.shares.PhaseShare.{PhaseShare}
use Rattle.vms_standing_phase.specs.Lanes.{MayBeMade, StandingLane, WasMade}

module _ (header : Header) (tables : Tables) (w : World) (items : List Item) where
  -- the lines of a job are those of its lane
  pub lines-own : (number : ℕ) (lanes : List Lane) (jobs : List LaneJob)
      → AreJobs header tables w items number lanes jobs
      → All (λ (job : LaneJob). job.lines ≡ lane_items job.lane items) jobs
  lines-own number [] [] are = All-nil (λ (job : LaneJob). job.lines ≡ lane_items job.lane items)
  lines-own number [] (job ∷ jobs) are = absurd are
  lines-own number (lane ∷ lanes) [] are = absurd are
  lines-own number (lane ∷ lanes) (job ∷ jobs) are =
      All-cons (λ (job : LaneJob). job.lines ≡ lane_items job.lane items) job jobs
      (are.0.lines ∙ ap (λ (l : Lane). lane_items l items) (sym are.0.is))
      (lines-own (suc number) lanes jobs are.1)

module _ {N P : Type 0} (share : PhaseShare N P) where
  -- a job with what its phase shares
  abbrev pub Stands : LaneJob → StandingLane N P → Type 0
  Stands job one = one ≡ record { share = share; job = job }

  pub may-stand : (normal_accepts : N → ZoneSize → ℕ → Type 0) (normal_answers : N → ZoneSize → ℕ → ℕ → Type 0)
      (pressure_accepts : P → ZoneSize → ℕ → Type 0) (pressure_answers : P → ZoneSize → ℕ → ℕ → Type 0)
      → IsThresholdRule (normal_accepts share.normal) (normal_answers share.normal)
      → IsThresholdRule (pressure_accepts share.pressure) (pressure_answers share.pressure)
      → IsHeader share.header → AreTables share.header share.tables
      → (jobs : List LaneJob) (made : List (StandingLane N P)) → Pairs Stands jobs made
      → All (MayRunJob share.header share.tables) jobs
      → All (MayBeMade normal_accepts normal_answers pressure_accepts pressure_answers) made
  may-stand na n pa p normal pressure known of [] [] pairs may = All-nil (MayBeMade na n pa p)
  may-stand na n pa p normal pressure known of [] (one ∷ made) pairs may = absurd pairs
  may-stand na n pa p normal pressure known of (job ∷ jobs) [] pairs may = absurd pairs
  may-stand na n pa p normal pressure known of (job ∷ jobs) (one ∷ made) pairs may =
      All-cons (MayBeMade na n pa p) one made
      (subst (MayBeMade na n pa p) (sym pairs.0) (record {
        known = known;
        of = of;
        may = All-head (MayRunJob share.header share.tables) job jobs may;
        normal = normal;
        pressure = pressure;
      }))
      (may-stand na n pa p normal pressure known of jobs made pairs.1
      (All-tail (MayRunJob share.header share.tables) job jobs may))

  module _ (pressure : P → ZoneSize → ℕ → ℕ → Type 0) (normal : N → ZoneSize → ℕ → ℕ → Type 0) where
    run-cons : (job : LaneJob) (jobs : List LaneJob) (r : Result LaneDone Memory)
        (results : List (Result LaneDone Memory))
        → IfOk r (HasRunJob share.header (pressure share.pressure) (normal share.normal) share.tables job)
        → HaveRunJobs share.header (pressure share.pressure) (normal share.normal) share.tables jobs results
        → HaveRunJobs share.header (pressure share.pressure) (normal share.normal) share.tables (job ∷ jobs)
        (r ∷ results)
    run-cons job jobs r results first rest = record { one_each = ap suc rest.one_each; each = by }
      where
        by : (i : ℕ) (other : LaneJob) (result : Result LaneDone Memory) → i < length (job ∷ jobs)
            → IfOk (slice_index_or (r ∷ results) i result) (HasRunJob share.header (pressure share.pressure)
            (normal share.normal) share.tables (slice_index_or (job ∷ jobs) i other))
        by zero other result below = first
        by (suc i) other result below = rest.each i other result (omega (arith, below))

    pub have-run : (jobs : List LaneJob) (made : List (StandingLane N P)) (results : List (Result LaneDone Memory))
        → Pairs Stands jobs made → Pairs (WasMade pressure normal) made results
        → HaveRunJobs share.header (pressure share.pressure) (normal share.normal) share.tables jobs results
    have-run [] [] [] stand ran = record { one_each = refl; each = λ i job result below. absurd (omega (arith, below)) }
    have-run [] [] (r ∷ results) stand ran = absurd ran
    have-run [] (one ∷ made) results stand ran = absurd stand
    have-run (job ∷ jobs) [] results stand ran = absurd stand
    have-run (job ∷ jobs) (one ∷ made) [] stand ran = absurd ran
    have-run (job ∷ jobs) (one ∷ made) (r ∷ results) stand ran =
        run-cons job jobs r results (subst (λ (one : StandingLane N P). WasMade pressure normal one r) stand.0 ran.0)
        (have-run jobs made results stand.1 ran.1)
