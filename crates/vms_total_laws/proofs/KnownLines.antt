-- For other crates too: lines of a header are of its lanes, and those of the control lane say no change.
use Rattle.std.proofs.Common.{◌≡◌, ℤ, pos, true, List, refl, sym}
use Rattle.std.specs.Prelude.{All}
use Rattle.std.proofs.lemmas.List.Elements.{All-weaker}
use Rattle.vms_world.specs.Common.{Header, IsActOf, IsLaneOf, IsLineOf, line_of, Act, Item, Lane, Cpu, Control}
use Rattle.vms_world.specs.Common.{is_among, lanes_of}
use Rattle.vms_file_order.proofs.Common.{lines-among_lanes}
use Rattle.vms_total_laws.specs.Common.{AreLinesOf}
use Rattle.vms_total_laws.proofs.LaneSums.{of_cpu}

pub among-known : (header : Header) (items : List Item) → AreLinesOf header items
    → All (λ item. is_among item.lane (lanes_of header.layout items) ≡ true) items
among-known header items known = lines-among_lanes header items
    (All-weaker (λ item. IsLineOf header (line_of item)) (λ item. IsLaneOf header item.lane) (λ item is. is.0) items
    known)

-- where acts of the control lane are worth nothing, an act's worth is that of a CPU's
pub of_cpu-known : (header : Header) (worth : Act → ℤ) → ((a : Act) → IsActOf header Control a → worth a ≡ pos 0)
    → (lane : Lane) (a : Act) → IsActOf header lane a → of_cpu worth lane a ≡ worth a
of_cpu-known header worth none (Cpu c) a known = refl
of_cpu-known header worth none Control a known = sym (none a known)
