-- For other crates too: volumes count what an open phase spends, from its opening over its lines to its closing.
use Rattle.std.proofs.Common.{◌≡◌, ℕ, ◌+◌, List, [], ◌∷◌, ◌++◌, length, map, ap, ◌∙◌, arith}
use Rattle.std.proofs.lemmas.List.{length-map, map-append}
use Rattle.vms_world.specs.Common.{Decl, Header, counter_count, event_count, IsLineOf, line_of, by_cpu}
use Rattle.vms_world.specs.Common.{spent_on_counter, spent_on_event, spent_on_pcpu, volume, Act, Item, FitVolumes}
use Rattle.vms_world.specs.Common.{event_volume_after, page_volume_after, pcpu_volume_after, volumes_after, IsWorldOf}
use Rattle.vms_script.proofs.Common.{volume-append}
use Rattle.vms_world.specs.declared.worlds.Volumes.{Volumes}
use Rattle.vms_world.specs.declared.worlds.World.{World}
use Rattle.vms_world.proofs.Common.{is_listed_by_cpu}
use Rattle.vms_replay_phase.specs.Common.{CountVolumes, AreVolumesOf, spent_by_line}
use Rattle.vms_replay_phase.proofs.SpentVolumes.{HaveAll, spends-line}

-- the volume of lines with one more
volume-line : (measure : Act → ℕ) (c : ℕ) (items : List Item) (item : Item)
    → volume measure c (map line_of (items ++ item ∷ []))
    ≡ volume measure c (map line_of items) + by_cpu c measure (line_of item)
volume-line measure c items item = omega (
  arith,
  ap (volume measure c) (map-append line_of items (item ∷ [])),
  volume-append measure c (map line_of items) (line_of item ∷ []),
)

-- volumes by their parts
abbrev volumes_of : List ℕ → List ℕ → List ℕ → Volumes
volumes_of pages events counters = record { pages = pages; events = events; counters = counters }

module _ (header : Header) (w : World) where
  -- a phase opens with the volumes of its world
  pub CountVolumes-opening : IsWorldOf header w → CountVolumes header w [] w.volumes
  CountVolumes-opening world = record {
    pages_each = world.page_volumes.one_each;
    pages = λ c k c_in k_in. omega arith;
    events_each = world.event_volumes.one_each;
    events = λ c k c_in k_in. omega arith;
    counters_each = world.pcpu_volumes.one_each;
    counters = λ c j c_in j_in. omega arith;
  }

  module _ (items : List Item) (v : Volumes) (count : CountVolumes header w items v) where
    -- the lists have all volumes
    have_all : HaveAll header v
    have_all = record { pages = count.pages_each; events = count.events_each; counters = count.counters_each }

    -- and go on with a line
    pub CountVolumes-line : (item : Item) → IsLineOf header (line_of item)
        → CountVolumes header w (items ++ item ∷ []) (spent_by_line header item.lane item.act v)
    CountVolumes-line item is =
        let spends = spends-line header v have_all item.lane item.act is in
        record {
          pages_each = spends.all.pages;
          pages = λ c k c_in k_in. omega (
            arith,
            spends.pages c k k_in,
            count.pages c k c_in k_in,
            volume-line (spent_on_counter k) c items item,
          );
          events_each = spends.all.events;
          events = λ c k c_in k_in. omega (
            arith,
            spends.events c k k_in,
            count.events c k c_in k_in,
            volume-line (spent_on_event k) c items item,
          );
          counters_each = spends.all.counters;
          counters = λ c j c_in j_in. omega (
            arith,
            spends.counters c j j_in,
            count.counters c j c_in j_in,
            volume-line (spent_on_pcpu j) c items item,
          );
        }

    -- none is past the most where the lines fit them
    pub AreVolumesOf-counted : IsWorldOf header w → FitVolumes header w items → AreVolumesOf header v
    AreVolumesOf-counted world fit =
        let many : length w.counters.batch ≡ length header.counters =
        ap length world.batches ∙ length-map header.counters (λ (decl : Decl). decl.batch) in
        record {
          pages = record {
            one_each = count.pages_each;
            most = λ c k c_in k_in. omega (arith, count.pages c k c_in k_in, fit.pages c k c_in k_in);
          };
          events = record {
            one_each = count.events_each;
            most = λ c k c_in k_in. omega (arith, count.events c k c_in k_in, fit.events c k c_in k_in);
          };
          counters = record {
            one_each = count.counters_each;
            most = λ c j c_in j_in. omega (
              arith,
              count.counters c j c_in j_in,
              fit.counters c j c_in (omega (arith, many, j_in)),
            );
          };
        }

    -- when the phase closes they are the volumes that it leaves
    pub volumes-counted : v ≡ volumes_after header w items
    volumes-counted =
        let left = volumes_after header w items in
        let pages : v.pages ≡ left.pages = is_listed_by_cpu (page_volume_after header w items) header.layout.cpus
        (counter_count header.layout) v.pages 0 count.pages_each count.pages in
        let events : v.events ≡ left.events = is_listed_by_cpu (event_volume_after w items) header.layout.cpus
        event_count v.events 0 count.events_each count.events in
        let counters : v.counters ≡ left.counters = is_listed_by_cpu (pcpu_volume_after header w items)
        header.layout.cpus (length header.counters) v.counters 0 count.counters_each count.counters in
        ap (λ ps. volumes_of ps v.events v.counters) pages ∙ ap (λ es. volumes_of left.pages es v.counters) events
        ∙ ap (λ js. volumes_of left.pages left.events js) counters
