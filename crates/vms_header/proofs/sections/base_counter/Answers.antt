-- An item's position is below 16, so it fits in 32 bits.
use Rattle.std.proofs.Common.{ℕ, ◌≡◌, ◌≤◌, ◌<◌, ◌∙◌, Bool, true, false, List, Some, length, arith, bytes_eq, sym}
use Rattle.std.proofs.Common.{position}
use Rattle.vms_base.specs.declared.headers.ItemDecl.{ItemDecl}
use Rattle.vms_base.specs.Common.{class_names}
use Rattle.vms_text.proofs.Common.{position-lt}
use Rattle.vms_header.proofs.sections.base_counter.Goals as goal

below_sixteen : (node : Bool) (items : List ItemDecl) (word : List ℕ) (positions k : ℕ)
    → length (class_names false items) ≤ positions → length (class_names true items) ≤ positions → positions ≤ 16
    → position (bytes_eq word) (class_names node items) ≡ Some k → k < 16
below_sixteen false items word positions k zones nodes most is =
    omega (arith, position-lt (bytes_eq word) (class_names false items) k is, zones, most)
below_sixteen true items word positions k zones nodes most is =
    omega (arith, position-lt (bytes_eq word) (class_names true items) k is, nodes, most)

pub overflow_cast-position : goal.overflow_cast-position
overflow_cast-position c =
    let below = below_sixteen c.is_node.result c.args.items.now c.args.item.now c.args.layout.now.positions
    c.in_ok-position.position c.requires.zones c.requires.nodes c.requires.most (sym c.class_position.ensures
    ∙ c.in_ok-position.ensures.ok_part) in
    omega (arith, below)
