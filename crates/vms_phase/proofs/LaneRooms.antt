-- A script that fits a start of a world leaves room in the volumes of each CPU for the lines of its lane.
use Rattle.std.proofs.Common.{◌≡◌, ℕ, ◌+◌, nat_eq, Bool, true, false, cond, List, [], ◌∷◌, length, map, filter, refl}
use Rattle.std.proofs.Common.{ap, ◌∙◌, arith, if◌then◌else◌}
use Rattle.std.proofs.lemmas.List.{length-map}
use Rattle.vms_world.specs.Common.{Decl, Header, CpuId, IsCpu, Fits, is_lane, lane_item, lane_items, Start, line_of}
use Rattle.vms_world.specs.Common.{by_cpu, spent_on_counter, spent_on_event, spent_on_pcpu, volume, Act, Item, Lane}
use Rattle.vms_world.specs.Common.{Cpu, Control}
use Rattle.vms_text.specs.declared.acts.Line.TheVariants.{Lane as LaneLine}
use Rattle.vms_world.specs.declared.worlds.World.{World}
use Rattle.vms_file_order.specs.Common.{IsStartOf}
use Rattle.vms_file_order.proofs.Common.{is_lane-sym, FitVolumes-fitting}
use Rattle.vms_lane.specs.Common.{acts_in, sum_of}
use Rattle.vms_phase.specs.Common.{LeaveRoom}

-- the volume of a CPU's lines is what the acts of its lane come to
pub volume-lane : (measure : Act → ℕ) (c : CpuId) (items : List Item)
    → volume measure c.number (map line_of items) ≡ sum_of measure (acts_in (lane_items (Cpu c) items))
volume-lane measure c [] = refl
volume-lane measure c (item ∷ items) =
    ap (λ n. by_cpu c.number measure (line_of item) + n) (volume-lane measure c items)
    ∙ of_lane (filter (λ (i : Item). is_lane (Cpu c) i.lane) items) item.lane
  where
    kept : (rest : List Item) (a b : Bool) → a ≡ b
        → (if a then measure item.act else 0) + sum_of measure (acts_in (map lane_item rest))
        ≡ sum_of measure (acts_in (map lane_item (cond b (item ∷ rest) rest)))
    kept rest true true same = refl
    kept rest false false same = omega arith
    kept rest true false same = absurd cc
    kept rest false true same = absurd cc

    of_lane : (rest : List Item) (lane : Lane)
        → by_cpu c.number measure (LaneLine lane item.act) + sum_of measure (acts_in (map lane_item rest))
        ≡ sum_of measure (acts_in (map lane_item (cond (is_lane (Cpu c) lane) (item ∷ rest) rest)))
    of_lane rest (Cpu d) = kept rest (nat_eq d.number c.number) (nat_eq c.number d.number)
        (is_lane-sym (Cpu d) (Cpu c))
    of_lane rest Control = omega arith

module _ (header : Header) (w : World) (start : Start) (items : List Item) (is : IsStartOf header start w)
    (fits : Fits header start items) (c : CpuId) (c_in : IsCpu header.layout c.number) where
  pub LeaveRoom-fitting : LeaveRoom header w c.number (acts_in (lane_items (Cpu c) items))
  LeaveRoom-fitting =
      let fit = FitVolumes-fitting header w items start is.volumes fits is.within in
      let many : length w.counters.batch ≡ length header.counters =
      ap length is.world.batches ∙ length-map header.counters (λ (decl : Decl). decl.batch) in
      record {
        pages = λ k k_in. omega (
          arith,
          fit.pages c.number k c_in k_in,
          volume-lane (spent_on_counter k) c items,
        );
        events = λ k k_in. omega (
          arith,
          fit.events c.number k c_in k_in,
          volume-lane (spent_on_event k) c items,
        );
        counters = λ j j_in. omega (
          arith,
          fit.counters c.number j c_in (omega (arith, many, j_in)),
          volume-lane (spent_on_pcpu j) c items,
        );
      }
