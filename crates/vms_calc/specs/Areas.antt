-- The declared item that counts the free blocks of an order.
use Rattle.std.specs.Prelude.{ℕ, ◌-◌, ◌&&◌, not, List, [], filter, position, slice_index_or, Option}
use Rattle.std.specs.Str.{bytes_eq}
use Rattle.vms_base.specs.declared.headers.ItemDecl.{ItemDecl}
use Rattle.vms_base.specs.Common.{area_names}

-- which of the zones' declared items counts the free blocks of an order
abbrev pub area_index : List ItemDecl → ℕ → Option ℕ
area_index items order = position
    (λ item. bytes_eq item.name (slice_index_or area_names (order - 1) []) && not item.bytes)
    (filter (λ item. not item.node) items)
