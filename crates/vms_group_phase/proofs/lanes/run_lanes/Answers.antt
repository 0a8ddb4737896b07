-- Each lane in turn ends next.
use Rattle.std.proofs.Common.{List, length, sym, ap, subst, arith, ◌∙◌}
use Rattle.std.specs.Vec.Iter.{into_iter_items}
use Rattle.std.specs.Prelude.{Result}
use Rattle.vms_base.specs.declared.failures.Memory.{Memory}
use Rattle.vms_group_core.specs.declared.trees.Tree.{Tree}
use Rattle.vms_group_phase.specs.declared.jobs.LaneDone.{LaneDone}
use Rattle.vms_group_phase.specs.Common.{HaveEndedLanes}
use Rattle.vms_group_phase.proofs.EndedLanes.{all-ended, ended-head, ended-next, ended-none, next-from, next-place}
use Rattle.vms_group_phase.proofs.lanes.run_lanes.Goals as goal

pub loop-result-init : goal.loop-result-init
loop-result-init g c =
    let table = c.args.table.now in
    let items = c.args.items.now in
    let main = c.begin_lanes.new.main in
    let values = c.in_ok-values.values.items in
    let results = c.in_ok-results.results in
    let gives = c.into_iter-result-iterator.ensures.into_iter_gives in (
      subst (λ (list : List (Result LaneDone Memory)). HaveEndedLanes table items main values list) (sym gives.0)
          (ended-none table items main c.in_ok-jobs.jobs.items values results.items c.in_ok-jobs.ensures
          c.in_ok-results.ensures (c.in_ok-values.ensures ∙ ap (λ (tree : Tree). tree.cpus) c.tree.ensures)),
      omega (arith, gives.1, results.ok.0, ap length gives.0),
    )

pub join_lane-requires-clause-of : goal.join_lane-requires-clause-of
join_lane-requires-clause-of g c =
    let table = c.args.table.now in
    let items = c.args.items.now in
    let old = c.loop-result.main in
    let values = c.loop-result.values.items in
    let rest = into_iter_items c.next.new.self in
    let have = ended-head table items old values (into_iter_items c.loop-result.result-iterator) rest c.in-Some.result
    c.in_ok-done.done c.in-Some.ensures.steps.0 c.in_ok-done.was c.loop-result.invariant.0 in
    next-from table items old values c.in_ok-done.done rest have

pub join_lane-requires-clause-place : goal.join_lane-requires-clause-place
join_lane-requires-clause-place g c =
    let table = c.args.table.now in
    let items = c.args.items.now in
    let old = c.loop-result.main in
    let values = c.loop-result.values.items in
    let rest = into_iter_items c.next.new.self in
    let have = ended-head table items old values (into_iter_items c.loop-result.result-iterator) rest c.in-Some.result
    c.in_ok-done.done c.in-Some.ensures.steps.0 c.in_ok-done.was c.loop-result.invariant.0 in
    next-place table items old values c.in_ok-done.done rest have

pub loop-result-preserved : goal.loop-result-preserved
loop-result-preserved g c =
    let table = c.args.table.now in
    let items = c.args.items.now in
    let old = c.loop-result.main in
    let values = c.loop-result.values.items in
    let rest = into_iter_items c.next.new.self in
    let have = ended-head table items old values (into_iter_items c.loop-result.result-iterator) rest c.in-Some.result
    c.in_ok-done.done c.in-Some.ensures.steps.0 c.in_ok-done.was c.loop-result.invariant.0 in
    let ends = c.join_lane.ensures in
    let was = c.loop-result.invariant.1 in
    let gone = c.in-Some.ensures.steps.1 in
    let short = ap length c.in-Some.ensures.steps.0 in (
      ended-next table items old values c.in_ok-done.done rest have c.join_lane.new.main
          c.join_lane.new.values.items ends.ended ends.one_each ends.values,
      omega (arith, was, gone, short),
    )

pub returns : goal.returns
returns g c =
    let was = c.loop-result.invariant.1 in
    let over = c.in-None.ensures.steps.0 in
    all-ended c.args.table.now c.args.items.now c.loop-result.main c.loop-result.values.items
    (into_iter_items c.loop-result.result-iterator) (omega (arith, was, over)) c.loop-result.invariant.0
