-- One CPU more has the threshold.
use Rattle.std.proofs.Common.{take}
use Rattle.vms_calls.specs.Common.{threshold_steps}
use Rattle.vms_control.proofs.PassCalls.{control-new, of-new, step-at}
use Rattle.vms_control.proofs.SetThresholds.{may-set, next_set, set-counts, set-made, set-unset}
use Rattle.vms_control.proofs.rating.set_thresholds.Goals as goal

pub set_threshold-requires-clause-sets : goal.set_threshold-requires-clause-sets
set_threshold-requires-clause-sets c =
    may-set c.args.place.number c.args.threshold c.args.online.now c.loop-cpu.cpu-index c.loop-cpu-test.true
    c.args.table.now c.loop-cpu.pass c.args.pass.now c.requires.table c.loop-cpu.invariant.made c.requires.may

pub loop-cpu-preserved : goal.loop-cpu-preserved
loop-cpu-preserved c =
    let words = c.args.table.now in
    let g = c.args.place.number in
    let t = c.args.threshold in
    let online = c.args.online.now in
    let i = c.loop-cpu.cpu-index in
    let i_in = c.loop-cpu-test.true in
    let now = c.loop-cpu.pass in
    let old = c.args.pass.now in
    let new = c.set_threshold.new.pass in
    let so_far = c.loop-cpu.invariant in
    let steps = threshold_steps g t (take i online) in
    let at = step-at words new now (next_set g t online i i_in)
    (of-new words now old steps c.requires.table so_far.made) c.set_threshold.ensures in
    let control = control-new words now old steps c.requires.table so_far.made c.requires.control in
    record {
      made = set-made g t online i i_in words now old c.requires.table so_far.made new c.set_threshold.ensures;
      sets = set-counts g t online i i_in words.facts c.requires.online c.requires.place new.seen now.seen old.seen
          now.number at control so_far.sets so_far.unset;
      unset = set-unset g t online i i_in words.facts c.requires.online c.requires.place new.seen now.seen old.seen
          now.number at control so_far.sets so_far.unset;
    }
