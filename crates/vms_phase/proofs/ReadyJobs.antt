-- The jobs of lanes whose lines fit may be run.
use Rattle.std.proofs.Common.{◌≡◌, ℕ, ◌<◌, length, Bool, true, false, cond, List, [], ◌∷◌, map, filter, refl, sym}
use Rattle.std.proofs.Common.{subst, arith}
use Rattle.std.specs.Prelude.{All}
use Rattle.std.proofs.lemmas.List.Elements.{All-cons, All-head, All-nil, All-tail}
use Rattle.vms_world.specs.Common.{Header, CpuId, IsCpu, counter_count, event_count, IsActOf, IsLineOf, LaneItem, Fits}
use Rattle.vms_world.specs.Common.{is_lane, lane_item, lane_items, Start, line_of, Item, Lane, Cpu}
use Rattle.vms_tables.specs.declared.passes.CpuPasses.{CpuPasses}
use Rattle.vms_tables.specs.declared.tables.Tables.{Tables}
use Rattle.vms_world.specs.declared.worlds.World.{World}
use Rattle.vms_file_order.specs.Common.{IsStartOf}
use Rattle.vms_file_order.proofs.Common.{is_lane-same}
use Rattle.vms_lane.specs.declared.passes.LanePasses.{LanePasses}
use Rattle.vms_lane.specs.declared.passes.LanePasses.TheVariants.{Cpu as OfCpu, Control as OfControl}
use Rattle.vms_lane.specs.Common.{AreReadyFor, MayMakeActs, acts_in, HaveRoom, spent_by_all}
use Rattle.vms_phase.specs.declared.jobs.LaneJob.{LaneJob}
use Rattle.vms_phase.specs.Common.{HaveVolumesFor, IsJob, MayRunJob, HaveVolumesOf, LeaveRoom}
use Rattle.vms_phase.proofs.LaneRooms.{LeaveRoom-fitting}

module _ (header : Header) where
  -- the acts of a lane's lines are of the lane
  pub lane-acts : (lane : Lane) (items : List Item) → All (λ (item : Item). IsLineOf header (line_of item)) items
      → All (λ (item : LaneItem). IsActOf header lane item.act) (lane_items lane items)
  lane-acts lane [] known = All-nil (λ (item : LaneItem). IsActOf header lane item.act)
  lane-acts lane (item ∷ items) known =
      by (is_lane lane item.lane) refl
      (lane-acts lane items (All-tail (λ (i : Item). IsLineOf header (line_of i)) item items known))
    where
      of_lane : List Item
      of_lane = filter (λ (i : Item). is_lane lane i.lane) items

      here : IsLineOf header (line_of item)
      here = All-head (λ (i : Item). IsLineOf header (line_of i)) item items known

      by : (b : Bool) → is_lane lane item.lane ≡ b
          → All (λ (i : LaneItem). IsActOf header lane i.act) (map lane_item of_lane)
          → All (λ (i : LaneItem). IsActOf header lane i.act) (map lane_item (cond b (item ∷ of_lane) of_lane))
      by true same rest = All-cons (λ (i : LaneItem). IsActOf header lane i.act) (lane_item item)
          (map lane_item of_lane)
          (subst (λ (l : Lane). IsActOf header l item.act) (sym (is_lane-same lane item.lane same)) here.1) rest
      by false same rest = rest

  -- volumes that are those of a CPU have room for what leaves room in them
  HaveRoom-volumes : (w : World) (c : CpuId) (passes : CpuPasses) (script : List LaneItem)
      → HaveVolumesOf header w c.number passes → LeaveRoom header w c.number (acts_in script)
      → HaveRoom (spent_by_all (acts_in script)) passes
  HaveRoom-volumes w c passes script have room = record {
    page = λ k inside. let k_in : k < counter_count header.layout = omega (arith, inside, have.pages_each) in
        omega (arith, have.pages k k_in, room.pages k k_in);
    event = λ k inside. let k_in : k < event_count = omega (arith, inside, have.events_each) in
        omega (arith, have.events k k_in, room.events k k_in);
    pcpu = λ j inside. let j_in : j < length header.counters = omega (arith, inside, have.counters_each) in
        omega (arith, have.counters j j_in, room.counters j j_in);
  }

  pub MayRunJob-fitting : (tables : Tables) (w : World) (start : Start) (items : List Item) (number : ℕ)
      (c : CpuId) (job : LaneJob) → IsStartOf header start w → Fits header start items → IsCpu header.layout c.number
      → IsJob header tables w items number (Cpu c) job → MayRunJob header tables job
  MayRunJob-fitting tables w start items number c job is fits c_in job_is = record {
    acts = subst (λ (lane : Lane). All (λ (item : LaneItem). IsActOf header lane item.act) job.lines) (sym job_is.is)
        (subst (All (λ (item : LaneItem). IsActOf header (Cpu c) item.act)) (sym job_is.lines)
        (lane-acts (Cpu c) items fits.known));
    ready = subst (λ (lane : Lane). AreReadyFor tables lane job.passes) (sym job_is.is) job_is.ready;
    may = by job.passes job_is.ready job_is.volumes;
  }
    where
      room : LeaveRoom header w c.number (acts_in job.lines)
      room = subst (λ (lines : List LaneItem). LeaveRoom header w c.number (acts_in lines)) (sym job_is.lines)
          (LeaveRoom-fitting header w start items is fits c c_in)

      by : (passes : LanePasses) → AreReadyFor tables (Cpu c) passes → HaveVolumesFor header w (Cpu c) passes
          → MayMakeActs tables (acts_in job.lines) passes
      by (OfCpu passes) ready volumes = HaveRoom-volumes w c passes job.lines volumes room
      by (OfControl passes) ready volumes = absurd ready
