use Rattle.std.proofs.Common.{◌≡◌, map, take}
use Rattle.vms_world.specs.Common.{class_names}
use Rattle.vms_report.proofs.items.names_of.Given as goal

-- the fixed names so far
abbrev pub invariant-loop-name : goal.invariant-loop-name
invariant-loop-name l = map (λ name. name.now) l.names.items ≡ map (λ name. name.now) (take l.name-index l.fixed)

-- the fixed names, and those that were declared so far
abbrev pub invariant-loop-item : goal.invariant-loop-item
invariant-loop-item l =
    map (λ name. name.now) l.names.items
    ≡ take l.header.layout.positions (class_names l.node (take l.item-index l.header.items))
