-- Each line in turn is made, if it is of the lane.
use Rattle.std.proofs.Common.{◌+◌, List, [], ℤ, take, subst, sym, eq-eqb, arith}
use Rattle.std.proofs.lemmas.Bool.Decides.{nat_tests}
use Rattle.vms_group_phase.specs.Common.{RunsLines, lane_lines}
use Rattle.vms_group_phase.proofs.LaneLines.{line_at, line-there}
use Rattle.vms_group_phase.proofs.LineRuns.{room-next, runs-none, runs-other, runs-own}
use Rattle.vms_group_phase.proofs.jobs.make_lines.Goals as goal
use Rattle.vms_group_phase.proofs.jobs.make_lines.Goals.{then-item-cpu+in_ok-keep_value, else-item-cpu}

pub loop-item-init : goal.loop-item-init
loop-item-init g c =
    let facts = c.args.table.now.facts in
    let pass = c.args.pass.now in
    subst (λ (values : List ℤ). RunsLines facts [] values pass pass) (sym c.requires.none)
    (runs-none facts pass c.cpu.result c.requires.table.facts c.cpu.ensures)

pub make_call-answer-requires-clause-room : goal.make_call-answer-requires-clause-room
make_call-answer-requires-clause-room g c =
    let items = c.args.items.now in
    let n = c.loop-item.item-index in
    room-next c.args.table.now.facts.tree c.args.cpu.number n items (line_at items n) c.loop-item.pass.volume
    c.args.pass.now.volume c.loop-item-test.true (line-there items n c.loop-item-test.true)
    (eq-eqb (line_at items n).cpu.number c.args.cpu.number c.if-item-cpu.true) c.loop-item.invariant.grown
    c.requires.room

pub loop-item-preserved : goal.loop-item-preserved
loop-item-preserved g c =
    let facts = c.args.table.now.facts in
    let lane = c.args.cpu.number in
    let items = c.args.items.now in
    let n = c.loop-item.item-index in
    let item = line_at items n in
    let below = c.loop-item-test.true in
    let is = line-there items n c.loop-item-test.true in
    let values = c.loop-item.values.items in
    let mid = c.loop-item.pass in
    let first = c.args.pass.now in
    elim c.if-item-cpu.branch [
      | then-item-cpu+in_ok-keep_value w ↦
          subst (λ pass. RunsLines facts (lane_lines lane (take (n + 1) items)) c.if-item-cpu.values.items pass first)
          (sym w.pass-is)
          (subst (λ kept. RunsLines facts (lane_lines lane (take (n + 1) items)) kept.items w.make_call-answer.new.pass
          first) (sym w.values-is)
          (runs-own facts lane n items item below is values mid first c.loop-item.invariant
          (eq-eqb item.cpu.number lane w.if-item-cpu.true)
          w.keep_value.new.values.items w.make_call-answer.result w.make_call-answer.new.pass
          w.in_ok-keep_value.ensures w.make_call-answer.ensures.makes w.make_call-answer.ensures.grown))
      | else-item-cpu w ↦
          subst (λ pass. RunsLines facts (lane_lines lane (take (n + 1) items)) c.if-item-cpu.values.items pass first)
          (sym w.pass-is)
          (subst (λ kept. RunsLines facts (lane_lines lane (take (n + 1) items)) kept.items mid first) (sym w.values-is)
          (runs-other facts lane n items item below is values mid first c.loop-item.invariant
          (grind (arith, nat_tests, w.if-item-cpu.false))))
    ]
