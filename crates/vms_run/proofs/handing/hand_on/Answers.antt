-- A further line: its answer is handed on after those of the lines before it.
use Rattle.std.proofs.Common.{◌++◌, subst, sym}
use Rattle.vms_answers.specs.Common.{merged, taken_answer, HasPlace, left_of, told_by}
use Rattle.vms_world.specs.Common.{Item}
use Rattle.vms_run.proofs.HandedAnswers.{merged-next}
use Rattle.vms_run.proofs.handing.hand_on.Goals as goal

pub hand_line-requires-clause-place : goal.hand_line-requires-clause-place
hand_line-requires-clause-place g c =
    subst (λ (line : Item). HasPlace c.args.lanes.now line.lane) (sym c.item-item.is)
    (c.requires.places c.loop-item.item-index c.item-item.result c.loop-item-test.true)

pub loop-item-preserved : goal.loop-item-preserved
loop-item-preserved g c =
    let items = c.args.items.now in
    let lanes = c.args.lanes.now in
    let n = c.loop-item.item-index in
    let item = c.item-item.result in
    let left = left_of lanes c.loop-item.counts in
    let before = c.loop-item.invariant.0 in (
      before ++ (taken_answer item.number (left item.lane)).0,
      c.in_ok-hand_line.ensures.takes c.args.taker.now before c.loop-item.invariant.1,
      c.in_ok-hand_line.ensures.one_each,
      merged-next items n item c.item-item.is (merged items (told_by lanes)) before left
          (left_of lanes c.hand_line.new.counts)
          c.loop-item-test.true c.loop-item.invariant.3 c.in_ok-hand_line.ensures.left,
    )
