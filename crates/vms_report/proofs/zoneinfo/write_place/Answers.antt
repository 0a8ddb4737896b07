-- There is a name for each item of the place.
use Rattle.std.proofs.Common.{Bool, Bor, List, ℕ, ◌∙◌, ap, arith, length, map, take}
use Rattle.std.specs.List.{enumerate_from}
use Rattle.std.proofs.lemmas.List.{length-map}
use Rattle.std.proofs.lemmas.List.FromFn.{length-enumerate_from}
use Rattle.vms_world.specs.Common.{class_names}
use Rattle.vms_text.proofs.Common.{Begins-after, OnErr-from}
use Rattle.vms_report.proofs.zoneinfo.write_place.Goals as goal

pub write_cpus-requires-clause-items : goal.write_cpus-requires-clause-items
write_cpus-requires-clause-items c =
    let header = c.args.header.now in
    let names = map (λ (name : Bor (List ℕ)). name.now) c.names_of-names.result.items in
    let named = ap (λ (xs : List (List ℕ)). length (enumerate_from 0 xs)) (c.names_of-names.ensures.names
    ∙ ap (λ (node : Bool). take header.layout.positions (class_names node header.items)) c.is_node.ensures) in
    omega (
      arith,
      named,
      length-enumerate_from 0 names,
      length-map c.names_of-names.result.items (λ (name : Bor (List ℕ)). name.now),
      c.len.ensures.value,
    )

pub returns-clause-err : goal.returns-clause-err
returns-clause-err c =
    OnErr-from c.write_cpus.result _ _
    (λ begins. Begins-after _ _ _ _ c.in_ok-write_items.ensures.ok begins)
    c.write_cpus.ensures.err
