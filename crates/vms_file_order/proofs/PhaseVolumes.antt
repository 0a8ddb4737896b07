-- For other crates too: lines that fit the volumes of a world keep within them, and so do the volumes that they leave.
use Rattle.std.proofs.Common.{◌≡◌, ℕ, ◌+◌, ◌<◌, List, [], ◌∷◌, length, map, ap, subst, arith}
use Rattle.std.proofs.lemmas.List.{length-map}
use Rattle.vms_world.specs.Common.{Header, counter_count, event_count, Fits, Start, start_at_end, start_past, line_of}
use Rattle.vms_world.specs.Common.{spent_on_counter, spent_on_event, spent_on_pcpu, volume, Item, Line, FitVolumes}
use Rattle.vms_world.specs.Common.{event_volume_after, page_volume_after, pcpu_volume_after, AreComplete}
use Rattle.vms_world.specs.Common.{TableHistories, SpendTheirLines, StayWithinVolumes, left_by, IsWorldOf, pcpu_facts}
use Rattle.vms_pcpu_core.proofs.Common.{HasShape-state_after}
use Rattle.vms_script.specs.Starts.{IsWithin}
use Rattle.vms_script.proofs.Common.{FittingScriptsStayWithin-holds}
use Rattle.vms_world.specs.declared.worlds.World.{World}
use Rattle.vms_world.proofs.Common.{get_or-listed_by_cpu, StayWithinVolumes-lines}
use Rattle.vms_file_order.specs.Common.{CoversVolumes}

-- what a start is after lines: their volumes more
pub record GrowsBy (start next : Start) (lines : List Line) : Type 0 where
  pub counters : (c k : ℕ) → next.counters c k ≡ volume (spent_on_counter k) c lines + start.counters c k
  pub events : (c k : ℕ) → next.events c k ≡ volume (spent_on_event k) c lines + start.events c k
  pub pcpu : (c j : ℕ) → next.pcpu c j ≡ volume (spent_on_pcpu j) c lines + start.pcpu c j

pub GrowsBy-lines : (start : Start) (lines : List Line) → GrowsBy start (start_at_end start lines) lines
GrowsBy-lines start [] = record {
  counters = λ c k. omega arith;
  events = λ c k. omega arith;
  pcpu = λ c j. omega arith;
}
GrowsBy-lines start (line ∷ lines) =
    let later = GrowsBy-lines (start_past line start) lines in
    record {
      counters = λ c k. omega (arith, later.counters c k);
      events = λ c k. omega (arith, later.events c k);
      pcpu = λ c j. omega (arith, later.pcpu c j);
    }

module _ (header : Header) (w : World) (items : List Item) (start : Start) (covers : CoversVolumes header start w) where
  abbrev grows : GrowsBy start (start_at_end start (map line_of items)) (map line_of items)
  grows = GrowsBy-lines start (map line_of items)

  pub FitVolumes-covered : Fits header start items → IsWithin start → FitVolumes header w items
  FitVolumes-covered fits within =
      let end = FittingScriptsStayWithin-holds header start items fits within in
      record {
        pages = λ c k c_in k_in. omega (arith, covers.pages c k c_in k_in, grows.counters c k, end.counters c k);
        events = λ c k c_in k_in. omega (arith, covers.events c k c_in k_in, grows.events c k, end.events c k);
        counters = λ c j c_in j_in. omega (arith, covers.counters c j c_in j_in, grows.pcpu c j, end.pcpu c j);
      }

  pub CoversVolumes-lines : IsWorldOf header w → (hs : TableHistories) → AreComplete header w hs
      → CoversVolumes header (start_at_end start (map line_of items)) (left_by header w items hs)
  CoversVolumes-lines of hs complete = record {
    pages = λ c k c_in k_in. omega (
      arith,
      get_or-listed_by_cpu (page_volume_after header w items) header.layout.cpus (counter_count header.layout) c k 0
          c_in k_in,
      covers.pages c k c_in k_in,
      grows.counters c k,
    );
    events = λ c k c_in k_in. omega (
      arith,
      get_or-listed_by_cpu (event_volume_after w items) header.layout.cpus event_count c k 0 c_in k_in,
      covers.events c k c_in k_in,
      grows.events c k,
    );
    counters = λ c j c_in j_in.
        let here : j < length w.counters.batch = subst (λ batch. j < length batch)
        (HasShape-state_after (pcpu_facts header w) hs.counters complete.counters.legal).batch j_in in
        let declared : j < length header.counters = omega (
          arith,
          here,
          ap length of.batches,
          length-map header.counters (λ decl. decl.batch),
        ) in
        omega (
          arith,
          get_or-listed_by_cpu (pcpu_volume_after header w items) header.layout.cpus (length header.counters) c j 0
              c_in declared,
          covers.counters c j c_in here,
          grows.pcpu c j,
        );
  }

pub FitVolumes-fitting : (header : Header) (w : World) (items : List Item) (start : Start)
    → CoversVolumes header start w → Fits header start items → IsWithin start → FitVolumes header w items
FitVolumes-fitting header w items start covers = FitVolumes-covered header w items start covers

pub StayWithinVolumes-fitting : (header : Header) (w : World) (items : List Item) (hs : TableHistories) (start : Start)
    → SpendTheirLines header items hs → CoversVolumes header start w → Fits header start items → IsWithin start
    → StayWithinVolumes header w hs
StayWithinVolumes-fitting header w items hs start spend covers fits within =
    StayWithinVolumes-lines header w items hs spend (FitVolumes-fitting header w items start covers fits within)

pub CoversVolumes-left : (header : Header) (w : World) (items : List Item) (hs : TableHistories) (start : Start)
    → CoversVolumes header start w → IsWorldOf header w → AreComplete header w hs
    → CoversVolumes header (start_at_end start (map line_of items)) (left_by header w items hs)
CoversVolumes-left header w items hs start covers of = CoversVolumes-lines header w items start covers of hs
