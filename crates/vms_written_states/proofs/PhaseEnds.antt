-- For other crates too: page counters of a start, as a run begins, and after a written phase of lines that fit.
use Rattle.std.proofs.Common.{◌≡◌, ℕ, ◌*◌, ◌+◌, ◌^◌, ◌<◌, ◌≤◌, List, length, map, pos, sym, subst, ◌∙◌, arith}
use Rattle.std.specs.Prelude.{replicate}
use Rattle.vms_history.proofs.Common.{count_below-same}
use Rattle.vms_world.specs.Common.{Header, ZoneSize, IsCpu, IsCounter, cell, counter_count, event_count, State, Item}
use Rattle.vms_world.specs.Common.{Start, start_at_end, line_of, Fits, IsBase, IsWithinVolumes, IsWorldOf, AreVolumes}
use Rattle.vms_world.specs.Common.{AreWithinVolumes, facts_of, grown, listed_by_cpu, page_volume, page_volume_after}
use Rattle.vms_world.specs.Common.{AreAnswers, GivesThresholds, IsHeader, bare_pages, first_start, refreshed, settled}
use Rattle.vms_world.specs.Common.{spent_on_counter, volume}
use Rattle.vms_world.specs.declared.worlds.World.{World}
use Rattle.vms_world.proofs.Common.{get_or-listed_by_cpu}
use Rattle.vms_world.proofs.ListedReads.{length-listed_by_cpu}
use Rattle.vms_core.specs.Pages.{History, state_after}
use Rattle.vms_core.specs.Totals.{spent}
use Rattle.vms_core.proofs.Common.{IsBase-ended, get_or-copies, within-volumes}
use Rattle.vms_script.proofs.Common.{FittingScriptsStayWithin-holds}
use Rattle.vms_file_order.specs.Common.{HasStates, IsStartOf}
use Rattle.vms_file_order.proofs.Common.{IsStartOf-first, pages-spend_lines}
use Rattle.vms_file_order.proofs.CpuStates.{cpu_at-lines}
use Rattle.vms_file_order.proofs.PhaseVolumes.{GrowsBy, GrowsBy-lines}
use Rattle.vms_written.specs.Common.{IsWrittenPhase}
use Rattle.vms_written_states.specs.PageStarts.{IsPageStart, world_with}
use Rattle.vms_written_states.proofs.PassOrder.{HasLanes-written, MakesLines-written, StandOnce-written}
use Rattle.vms_written_states.proofs.PassOrder.{control-written, lanes, no_other-written}

module _ (header : Header) (pressure normal : ZoneSize → ℕ → ℕ → Type 0) (start : Start) (s : State)
    (items : List Item) (h : History) (before : List ℕ)
    (is : IsStartOf header start (world_with header before s)) (fits : Fits header start items)
    (phase : IsWrittenPhase header pressure normal s items h) where
  abbrev w : World
  w = world_with header before s

  abbrev end : Start
  end = start_at_end start (map line_of items)

  abbrev next : State
  next = settled (state_after (facts_of header s) h)

  abbrev after : List ℕ
  after = listed_by_cpu (page_volume_after header w items) header.layout.cpus (counter_count header.layout)

  grows : GrowsBy start end (map line_of items)
  grows = GrowsBy-lines start (map line_of items)

  end-within : (c k : ℕ) → end.counters c k ≤ 2 ^ 48
  end-within = (FittingScriptsStayWithin-holds header start items fits is.within).counters

  spends : (c k : ℕ) → IsCpu header.layout c → spent h c k ≡ volume (spent_on_counter k) c (map line_of items)
  spends c k c_in = pages-spend_lines header is.world.page_base.layout s pressure normal (record { number = c }) k
      (lanes header pressure normal s items h phase) (StandOnce-written header pressure normal s items h phase) items
      (no_other-written header pressure normal s items h phase (record { number = c }) c_in) h phase.complete.legal
      (HasLanes-written header pressure normal s items h phase)
      (MakesLines-written header pressure normal s items h phase)

  after-most : (c k : ℕ) → IsCpu header.layout c → IsCounter header.layout k
      → page_volume_after header w items c k ≤ 2 ^ 48
  after-most c k c_in k_in = omega (arith, is.volumes.pages c k c_in k_in, grows.counters c k, end-within c k)

  volumes : AreWithinVolumes header.layout (grown (page_volume header w) h)
  volumes c k c_in k_in = omega (arith, spends c k c_in, after-most c k c_in k_in)

  base : IsBase (facts_of header next)
  base = IsBase-ended (facts_of header s) h phase.complete (page_volume header w) is.world.pages_within volumes

  volume-after : (c k : ℕ) → IsCpu header.layout c → IsCounter header.layout k
      → page_volume header (world_with header after next) c k ≡ page_volume_after header w items c k
  volume-after c k c_in k_in = get_or-listed_by_cpu (page_volume_after header w items) header.layout.cpus
      (counter_count header.layout) c k 0 c_in k_in

  within : IsWithinVolumes header.layout (page_volume header (world_with header after next)) next
  within =
      let so_far = within-volumes (facts_of header s) h phase.complete (page_volume header w) is.world.pages_within
      volumes in
      record {
        totals = λ k k_in. omega (
          arith,
          so_far.totals k k_in,
          count_below-same (λ c. grown (page_volume header w) h c k)
              (λ c. page_volume header (world_with header after next) c k) header.layout.cpus
              (λ c c_in. omega (arith, spends c k c_in, volume-after c k c_in k_in)),
        );
        systems = so_far.systems;
      }

  areas : AreVolumes header.layout (counter_count header.layout) after
  areas = record {
    one_each = length-listed_by_cpu (page_volume_after header w items) header.layout.cpus
        (counter_count header.layout);
    most = λ c k c_in k_in. omega (arith, volume-after c k c_in k_in, after-most c k c_in k_in);
  }

  world : IsWorldOf header (world_with header after next)
  world =
      let was = is.world in
      record {
        page_base = base;
        event_base = record {
          layout = was.event_base.layout;
          one_state_each = base.opening.shaped.cpu;
          shaped = was.event_base.shaped;
          some_online = base.opening.some_online;
          absent = λ c k c_in gone k_in.
              get_or-copies {X = ℕ} (header.layout.cpus * event_count) (cell event_count c k) 0;
          sums = was.event_base.sums;
        };
        pcpu_base = record {
          layout = was.pcpu_base.layout;
          lengths = record {
            one_state_each = base.opening.shaped.cpu;
            one_count_each = was.pcpu_base.lengths.one_count_each;
            one_local_each = was.pcpu_base.lengths.one_local_each;
          };
          some_online = base.opening.some_online;
          counters = λ j j_in.
              let one = was.pcpu_base.counters j j_in in
              record { batch_least = one.batch_least; batch_most = one.batch_most; count = one.count };
          locals = λ c c_in j j_in.
              let one = was.pcpu_base.locals c c_in j j_in in
              record {
                within = one.within;
                absent = λ gone. get_or-copies (header.layout.cpus * length header.counters) _ (pos 0);
              };
        };
        batches = was.batches;
        page_volumes = areas;
        event_volumes = was.event_volumes;
        pcpu_volumes = was.pcpu_volumes;
        pages_within = within;
        events_within = was.events_within;
        pcpu_within = was.pcpu_within;
      }

  states : HasStates header end (world_with header after next)
  states c c_in = cpu_at-lines pressure normal header w start is.states items fits.known
      (lanes header pressure normal s items h phase) h phase.complete.legal
      (HasLanes-written header pressure normal s items h phase)
      (MakesLines-written header pressure normal s items h phase)
      (control-written header pressure normal s items h phase) c c_in

  pub IsPageStart-left : IsPageStart header end next
  IsPageStart-left = record {
    volumes = after;
    is = record {
      world = world;
      states = states;
      volumes = record {
        pages = λ c k c_in k_in. omega (
          arith,
          volume-after c k c_in k_in,
          is.volumes.pages c k c_in k_in,
          grows.counters c k,
        );
        events = λ c k c_in k_in. omega (arith, is.volumes.events c k c_in k_in, grows.events c k);
        counters = λ c j c_in j_in. omega (arith, is.volumes.counters c j c_in j_in, grows.pcpu c j);
      };
      within = FittingScriptsStayWithin-holds header start items fits is.within;
    };
  }

pub IsPageStart-first : (header : Header) → IsHeader header → (normal : ZoneSize → ℕ → ℕ → Type 0)
    → GivesThresholds normal → (zones : List ℕ) → AreAnswers header normal header.layout.cpus zones
    → IsPageStart header first_start (refreshed header zones (bare_pages header))
IsPageStart-first header valid normal gives zones are = record {
  volumes = replicate (header.layout.cpus * counter_count header.layout) 0;
  is = IsStartOf-first header valid normal gives zones are;
}
