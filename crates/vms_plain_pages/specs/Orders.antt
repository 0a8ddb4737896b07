-- What a test of a zone for blocks of an order answers, by the state.
use Rattle.std.specs.Prelude.{ℕ, suc, zero, nat_eq, not, Bool, List, if◌then◌else◌, Option, None, is_some, option_map}
use Rattle.std.specs.List.{find}
use Rattle.vms_calls.specs.Common.{Header, WaterMark, Area, areas_from, areas_of, Shape, counter_at, limit_of, State}
use Rattle.vms_calls.specs.Common.{has_room}
use Rattle.vms_calls.specs.declared.answers.OrderVerdict.{OrderVerdict}
use Rattle.vms_plain_pages.specs.Values.{snapshot_of}
use Rattle.vms_plain_pages.specs.Verdicts.{free_of, takes_snapshot, verdict_at}

-- whether an area of zone g has a free block
abbrev pub has_block : Shape → State → ℕ → Area → Bool
has_block shape s g area = not (nat_eq (snapshot_of shape s (counter_at shape g area.position)) 0)

-- the order of the first of these areas that has one
abbrev pub block_found : Shape → State → ℕ → List Area → Option ℕ
block_found shape s g areas = option_map (λ area. area.order) (find (has_block shape s g) areas)

-- the order of the free block that a test finds: none at order 0, and none where the free pages leave no room
abbrev pub area_found : Header → ℕ → WaterMark → (most order : ℕ) → State → Option ℕ
area_found header g mark most zero s = None
area_found header g mark most (suc n) s =
    if has_room (limit_of header g mark most) (suc n) (free_of header.layout s g)
    then block_found header.layout s g (areas_from (suc n) (areas_of header.items))
    else None

-- whether a zone passes: at order 0 by its free pages alone
abbrev pub zone_passes : Header → ℕ → WaterMark → (most order : ℕ) → State → Bool
zone_passes header g mark most zero s = (verdict_at header g mark most s).yes
zone_passes header g mark most (suc n) s = is_some (area_found header g mark most (suc n) s)

-- the answer of a test whether zone g has more free pages than a watermark asks for, and a free block of an order or
-- larger
abbrev pub order_verdict_at : Header → ℕ → WaterMark → (most order : ℕ) → State → OrderVerdict
order_verdict_at header g mark most order s = record {
  yes = zone_passes header g mark most order s;
  free = free_of header.layout s g;
  fast = not (takes_snapshot header.layout s g);
  area = area_found header g mark most order s;
}
