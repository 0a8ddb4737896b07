-- For other crates too: the lines of a CPU's lane, among those of a phase that fits, keep within the CPU's volumes.
use Rattle.std.proofs.Common.{◌≡◌, ℕ, ◌+◌, ◌<◌, ◌≤◌, nat_eq, Bool, true, false, cond, List, [], ◌∷◌, map, filter}
use Rattle.std.proofs.Common.{length, slice_index_or, refl, arith, if◌then◌else◌}
use Rattle.vms_world.specs.Common.{Header, CpuId, most_volume, Fits, is_lane, Start, start_at_end, start_past, line_of}
use Rattle.vms_world.specs.Common.{by_cpu, spent_on_counter, spent_on_event, spent_on_pcpu, Act, Item, Lane as LaneOf}
use Rattle.vms_world.specs.Common.{Cpu, Control, Line, acts_of}
use Rattle.vms_script.specs.Starts.{IsWithin}
use Rattle.vms_script.proofs.Common.{FittingScriptsStayWithin-holds}
use Rattle.vms_tables.specs.declared.passes.CpuPasses.{CpuPasses}
use Rattle.vms_text.specs.declared.acts.Line.TheVariants.{Lane}
use Rattle.vms_lane.specs.Common.{HasRoom, HaveRoom, spent_by_all, sum_of}

module _ (c : CpuId) (measure : Act → ℕ) where
  -- what a line of the phase adds to a measure of the lane's acts
  one-line : (item : Item) (items : List Item) → sum_of measure (acts_of (Cpu c) (item ∷ items))
      ≡ by_cpu c.number measure (line_of item) + sum_of measure (acts_of (Cpu c) items)
  one-line item items = by item.lane
    where
      later : List Item
      later = filter (λ (i : Item). is_lane i.lane (Cpu c)) items

      rest : ℕ
      rest = sum_of measure (map (λ (i : Item). i.act) later)

      at : (b : Bool) → sum_of measure (map (λ (i : Item). i.act) (cond b (item ∷ later) later))
          ≡ (if b then measure item.act else 0) + rest
      at true = refl
      at false = omega arith

      by : (lane : LaneOf)
          → sum_of measure (map (λ (i : Item). i.act) (cond (is_lane lane (Cpu c)) (item ∷ later) later))
          ≡ by_cpu c.number measure (Lane lane item.act) + rest
      by Control = omega arith
      by (Cpu d) = at (nat_eq d.number c.number)

  -- so all lines add the measure of the lane's acts to what the CPU has by then
  module _ (volume : Start → ℕ)
      (grows : (line : Line) (start : Start) → volume (start_past line start)
      ≡ by_cpu c.number measure line + volume start) where
    volume-at_end : (start : Start) (items : List Item) → volume (start_at_end start (map line_of items))
        ≡ sum_of measure (acts_of (Cpu c) items) + volume start
    volume-at_end start [] = omega arith
    volume-at_end start (item ∷ items) = omega (
      arith,
      volume-at_end (start_past (line_of item) start) items,
      grows (line_of item) start,
      one-line item items,
    )

-- no volume is past the most at the end of the phase, so there is room for the lane's acts
module _ (header : Header) (start : Start) (items : List Item) (fits : Fits header start items)
    (within : IsWithin start) (c : CpuId) where
  at_end : IsWithin (start_at_end start (map line_of items))
  at_end = FittingScriptsStayWithin-holds header start items fits within

  room : (measure : ℕ → Act → ℕ) (volume : ℕ → Start → ℕ) (volumes : List ℕ)
      → ((k : ℕ) (line : Line) (s : Start) → volume k (start_past line s)
      ≡ by_cpu c.number (measure k) line + volume k s)
      → ((k : ℕ) → volume k (start_at_end start (map line_of items)) ≤ most_volume)
      → ((k : ℕ) → k < length volumes → slice_index_or volumes k 0 ≤ volume k start)
      → HasRoom (λ k. sum_of (measure k) (acts_of (Cpu c) items)) volumes
  room measure volume volumes grows most covers k inside = omega (
    arith,
    most k,
    covers k inside,
    volume-at_end c (measure k) (volume k) (grows k) start items,
  )

  pub HaveRoom-fitting : (passes : CpuPasses)
      → ((k : ℕ) → k < length passes.page.volume → slice_index_or passes.page.volume k 0 ≤ start.counters c.number k)
      → ((e : ℕ) → e < length passes.event.volume → slice_index_or passes.event.volume e 0 ≤ start.events c.number e)
      → ((j : ℕ) → j < length passes.pcpu.volume → slice_index_or passes.pcpu.volume j 0 ≤ start.pcpu c.number j)
      → HaveRoom (spent_by_all (acts_of (Cpu c) items)) passes
  HaveRoom-fitting passes pages events counters = record {
    page = room spent_on_counter (λ k s. s.counters c.number k) passes.page.volume (λ k line s. refl)
        (at_end.counters c.number) pages;
    event = room spent_on_event (λ e s. s.events c.number e) passes.event.volume (λ e line s. refl)
        (at_end.events c.number) events;
    pcpu = room spent_on_pcpu (λ j s. s.pcpu c.number j) passes.pcpu.volume (λ j line s. refl)
        (at_end.pcpu c.number) counters;
  }
