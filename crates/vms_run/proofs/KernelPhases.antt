-- A phase by rules which go by the kernel's formulas is one by the kernel's rules.
use Rattle.std.proofs.Common.{ℕ, suc, List}
use Rattle.std.specs.Prelude.{Result, Ok, Err, IfOk}
use Rattle.vms_world.specs.Common.{Memory, Header, ZoneSize, normal_threshold_of, pressure_threshold_of, Event, Act}
use Rattle.vms_world.specs.Common.{Item, PageSteps, MakesActs, acts_of, lane_at, lanes_of, act as one_act}
use Rattle.vms_world.specs.Common.{TableHistories}
use Rattle.vms_world.specs.declared.worlds.World.{World}
use Rattle.vms_world.specs.Lanes.MakesActs.{none as no_act}
use Rattle.vms_file_order.specs.Common.{MakeInAnyOrder}
use Rattle.vms_file_order.proofs.Common.{Includes, PageSteps-more}
use Rattle.vms_phase.specs.declared.phases.PhaseDone.{PhaseDone}
use Rattle.vms_phase.specs.Common.{histories_of}
use Rattle.vms_replay.specs.Common.{GoesBy, normal_rule, pressure_rule}
use Rattle.vms_run.specs.Common.{makes_on_threads}

-- acts by some steps are acts by more
module _ {K : Type 0} (makes more : Act → List (Event K) → List K → Type 0) (p : ℕ)
    (includes : (act : Act) (h : List (Event K)) (steps : List K) → makes act h steps → more act h steps) where
  MakesActs-more : (acts : List Act) (h : List (Event K)) → MakesActs makes p acts h → MakesActs more p acts h
  MakesActs-more acts h (no_act k nothing) = no_act k nothing
  MakesActs-more acts h (one_act before next k front steps made making own_is) =
      one_act before next k front steps (MakesActs-more before k made) (includes next k steps making) own_is

module _ (pressure normal : ZoneSize → ℕ → ℕ → Type 0) (by_pressure : GoesBy pressure_threshold_of pressure)
    (by_normal : GoesBy normal_threshold_of normal) (header : Header) (w : World) where
  in_pressure : Includes pressure pressure_rule
  in_pressure = λ size online t answer valid least most. by_pressure size online t valid least most answer

  in_normal : Includes normal normal_rule
  in_normal = λ size online t answer valid least most. by_normal size online t valid least most answer

  MakeInAnyOrder-kernel : (items : List Item) (hs : TableHistories) → MakeInAnyOrder header pressure normal w items hs
      → makes_on_threads header w items hs
  MakeInAnyOrder-kernel items hs phase =
      let lanes = lanes_of header.layout items in
      record {
        complete = phase.complete;
        page_lanes = phase.page_lanes;
        event_lanes = phase.event_lanes;
        pcpu_lanes = phase.pcpu_lanes;
        page_lines = λ n below.
            MakesActs-more (PageSteps header w.pages pressure normal (lane_at lanes n) (suc n))
            (PageSteps header w.pages pressure_rule normal_rule (lane_at lanes n) (suc n)) (suc n)
            (PageSteps-more pressure pressure_rule in_pressure normal normal_rule in_normal header w.pages
            (lane_at lanes n) (suc n)) (acts_of (lane_at lanes n) items) hs.pages
            (phase.page_lines n below);
        event_lines = phase.event_lines;
        pcpu_lines = phase.pcpu_lines;
      }

  -- the same of a phase that was run
  pub makes_on_threads-kernel : (items : List Item) (result : Result PhaseDone Memory)
      → IfOk result (λ done. MakeInAnyOrder header pressure normal w items (histories_of done.histories))
      → IfOk result (λ done. makes_on_threads header w items (histories_of done.histories))
  makes_on_threads-kernel items (Ok done) phase = MakeInAnyOrder-kernel items (histories_of done.histories) phase
  makes_on_threads-kernel items (Err error) phase = tt
