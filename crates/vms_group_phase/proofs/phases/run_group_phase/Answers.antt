-- There is a value for each line that asks for one, and the values are those that the history tells.
use Rattle.std.proofs.Common.{◌≤◌, List, [], All, length, ap, subst, sym, ◌∙◌}
use Rattle.vms_group_core.specs.declared.steps.GroupFacts.{GroupFacts}
use Rattle.vms_group_core.specs.Common.{History}
use Rattle.vms_group_phase.specs.declared.items.GroupItem.{GroupItem}
use Rattle.vms_group_phase.specs.declared.lanes.LaneValues.{LaneValues}
use Rattle.vms_group_phase.specs.Common.{IsLineOf, asking, lane_lines, pass_of, read_lines, steps_of, taken_after}
use Rattle.vms_group_phase.specs.Common.{values_after, values_of}
use Rattle.vms_group_phase.proofs.PhaseValues.{all-found, values-read}
use Rattle.vms_group_phase.proofs.phases.run_group_phase.Goals as goal

pub values_in_order-requires-clause-enough : goal.values_in_order-requires-clause-enough
values_in_order-requires-clause-enough g c =
    let items = c.args.items.now in
    let known : All (IsLineOf c.in_ok-table.table.facts.tree) items =
    subst (λ (f : GroupFacts). All (IsLineOf f.tree) items) (sym c.in_ok-table.ensures.table) c.requires.fits.lines in
    subst (λ (list : List LaneValues). All (λ (item : GroupItem). length (asking (lane_lines item.cpu.number items))
    ≤ length (values_of list item.cpu.number)) items) (sym c.as_slice.ensures.value)
    (all-found c.in_ok-table.table.facts items c.in_ok-lanes.lanes.items c.run_lanes.new.main.seen known
    c.in_ok-lanes.ensures.each)

pub returns-clause-values : goal.returns-clause-values
returns-clause-values g c =
    let items = c.args.items.now in
    let facts = c.in_ok-table.table.facts in
    let seen = c.run_lanes.new.main.seen in
    let known : All (IsLineOf c.in_ok-table.table.facts.tree) items =
    subst (λ (f : GroupFacts). All (IsLineOf f.tree) items) (sym c.in_ok-table.ensures.table) c.requires.fits.lines in
    c.in_ok-values.ensures
    ∙ ap (λ (list : List LaneValues). taken_after (values_of list) [] items) c.as_slice.ensures.value
    ∙ values-read facts items c.in_ok-lanes.lanes.items seen known c.in_ok-lanes.ensures.each
    (c.answers_are_read.ensures facts)
    ∙ ap (λ (f : GroupFacts).
    values_after (λ lane. read_lines f (lane_lines lane items) (steps_of seen (pass_of items lane))) [] items)
    c.in_ok-table.ensures.table
    ∙ ap (λ (h : History). values_after (λ lane. read_lines
    (record { tree = c.args.tree.now; base = c.args.world.words }) (lane_lines lane items)
    (steps_of h (pass_of items lane))) [] items) (sym (ap (λ history. history.events) c.close-history.ensures.history))
