-- A line of the lane is made next; the lines of others leave what was made so far.
use Rattle.std.proofs.Common.{◌≡◌, true, false, ◌+◌, ◌≤◌, List, [], ◌∷◌, drop, length, map, sym, subst, vec_capacity}
use Rattle.std.proofs.Common.{vec_len, arith}
use Rattle.vms_answers.specs.Common.{answer_of_kept}
use Rattle.vms_world.specs.Common.{LaneItem, lane_item, lane_items}
use Rattle.vms_tables.specs.Common.{world_of}
use Rattle.vms_answers.proofs.Common.{told-keepable}
use Rattle.vms_lane.proofs.ScriptTurns.{MadeSoFar, lane_items-end, lane_items-other, lane_items-own, so_far-act}
use Rattle.vms_lane.proofs.ScriptTurns.{so_far-lines, so_far-may, so_far-next, so_far-spent}
use Rattle.vms_lane.proofs.lane_runs.run_lane.Goals as goal
use Rattle.vms_lane.proofs.lane_runs.run_lane.Goals.{then-is_of, else-is_of}

pub run_line-answer-requires : goal.run_line-answer-requires
run_line-answer-requires g c =
    let header = c.args.header.now in
    let pressure = g.P.Rule.answers c.args.rules.now.pressure in
    let normal = g.N.Rule.answers c.args.rules.now.normal in
    let tables = c.args.tables.now in
    let lane = c.args.lane in
    let script = c.args.lines.now in
    let own = c.lines.inside.lane in
    let items = c.as_slice-item-items.result.now in
    let n = c.loop-item.item-index in
    let now = c.loop-item.passes in
    let first = c.args.passes.now in
    let told = map answer_of_kept c.loop-item.answers.items in
    let count = vec_len c.loop-item.answers in
    let room = vec_capacity c.loop-item.answers in
    let here = c.item-item.result in
    let rest = lane_items own (drop (n + 1) items) in
    let so_far : MadeSoFar header pressure normal tables lane script (lane_item here ∷ rest) now first told count room =
    subst (λ (left : List LaneItem). MadeSoFar header pressure normal tables lane script left now first told count room)
    (lane_items-own own items n here c.item-item.is c.loop-item-test.true
    (subst (λ b. b ≡ true) c.is_of.ensures c.if-is_of.true))
    c.loop-item.invariant in
    record {
      header = c.requires.header;
      tables = c.requires.tables;
      passes = so_far.ready;
      act = so_far-act header pressure normal tables lane script (lane_item here) rest now first told count room so_far;
      may = so_far-may header pressure normal tables lane script (lane_item here) rest now first told count room so_far;
    }

-- what the line answers can be kept
pub note-requires-clause-keepable : goal.note-requires-clause-keepable
note-requires-clause-keepable g c =
    let made = c.run_line-answer.ensures.makes in
    told-keepable c.args.header.now c.requires.header (world_of c.args.tables.now) c.args.lane c.item-item.result.act
    made.steps c.run_line-answer.result made.tells

pub loop-item-preserved : goal.loop-item-preserved
loop-item-preserved g c =
    let header = c.args.header.now in
    let pressure = g.P.Rule.answers c.args.rules.now.pressure in
    let normal = g.N.Rule.answers c.args.rules.now.normal in
    let tables = c.args.tables.now in
    let lane = c.args.lane in
    let script = c.args.lines.now in
    let own = c.lines.inside.lane in
    let items = c.as_slice-item-items.result.now in
    let n = c.loop-item.item-index in
    let now = c.loop-item.passes in
    let first = c.args.passes.now in
    let told = map answer_of_kept c.loop-item.answers.items in
    let count = vec_len c.loop-item.answers in
    let room = vec_capacity c.loop-item.answers in
    let here = c.item-item.result in
    let rest = lane_items own (drop (n + 1) items) in
    elim c.if-is_of.branch [
      | then-is_of w ↦
          let so_far : MadeSoFar header pressure normal tables lane script (lane_item here ∷ rest) now first told count
          room = subst (λ (left : List LaneItem).
          MadeSoFar header pressure normal tables lane script left now first told
          count room) (lane_items-own own items n here c.item-item.is c.loop-item-test.true
          (subst (λ b. b ≡ true) c.is_of.ensures w.if-is_of.true))
          c.loop-item.invariant in
          subst (λ passes. MadeSoFar header pressure normal tables lane script rest passes first
          (map answer_of_kept c.if-is_of.answers.items) (vec_len c.if-is_of.answers) (vec_capacity c.if-is_of.answers))
          (sym w.passes-is)
          (subst (λ answers. MadeSoFar header pressure normal tables lane script rest w.run_line-answer.new.passes first
          (map answer_of_kept answers.items) (vec_len answers) (vec_capacity answers)) (sym w.answers-is)
          (so_far-next header pressure normal tables lane script (lane_item here) rest now first told count room so_far
          w.run_line-answer.new.passes w.run_line-answer.result
          (map answer_of_kept w.note.new.answers.items) (vec_len w.note.new.answers) (vec_capacity w.note.new.answers)
          w.run_line-answer.ensures.ready w.run_line-answer.ensures.makes w.run_line-answer.ensures.leaves
          w.note.ensures.answers w.note.ensures.len w.note.ensures.capacity))
      | else-is_of w ↦
          subst (λ passes. MadeSoFar header pressure normal tables lane script rest passes first
          (map answer_of_kept c.if-is_of.answers.items) (vec_len c.if-is_of.answers) (vec_capacity c.if-is_of.answers))
          (sym w.passes-is)
          (subst (λ answers. MadeSoFar header pressure normal tables lane script rest now first
          (map answer_of_kept answers.items) (vec_len answers) (vec_capacity answers)) (sym w.answers-is)
          (subst (λ (left : List LaneItem).
          MadeSoFar header pressure normal tables lane script left now first told count
          room) (lane_items-other own items n here c.item-item.is c.loop-item-test.true
          (subst (λ b. b ≡ false) c.is_of.ensures w.if-is_of.false))
          c.loop-item.invariant))
    ]

pub returns : goal.returns
returns g c =
    let header = c.args.header.now in
    let pressure = g.P.Rule.answers c.args.rules.now.pressure in
    let normal = g.N.Rule.answers c.args.rules.now.normal in
    let tables = c.args.tables.now in
    let lane = c.args.lane in
    let script = c.args.lines.now in
    let own = c.lines.inside.lane in
    let items = c.as_slice-item-items.result.now in
    let n = c.loop-item.item-index in
    let now = c.loop-item.passes in
    let first = c.args.passes.now in
    let told = map answer_of_kept c.loop-item.answers.items in
    let count = vec_len c.loop-item.answers in
    let room = vec_capacity c.loop-item.answers in
    let past : length items ≤ n = omega (arith, c.loop-item-test.false) in
    let so_far : MadeSoFar header pressure normal tables lane script [] now first told count room =
    subst (λ (left : List LaneItem). MadeSoFar header pressure normal tables lane script left now first told count room)
    (lane_items-end own items n past) c.loop-item.invariant in
    record {
      makes = so_far-lines header pressure normal tables lane script now first told count room so_far
          c.are_live.ensures;
      spends = so_far-spent header pressure normal tables lane script now first told count room so_far;
      ready = so_far.ready;
      err = tt;
    }
