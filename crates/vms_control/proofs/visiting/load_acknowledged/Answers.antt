-- What one CPU more acknowledged was loaded.
use Rattle.std.proofs.Common.{take}
use Rattle.vms_calls.specs.Common.{acknowledged_steps}
use Rattle.vms_control.proofs.AcknowledgedLoads.{load-controls, loads-more}
use Rattle.vms_control.proofs.PassCalls.{control-old, of-new}
use Rattle.vms_control.proofs.visiting.load_acknowledged.Goals as goal

pub loop-cpu-preserved : goal.loop-cpu-preserved
loop-cpu-preserved c =
    let words = c.args.table.now in
    let g = c.args.zone.number in
    let online = c.args.online.now in
    let i = c.loop-cpu.cpu-index in
    let i_in = c.loop-cpu-test.true in
    let now = c.loop-cpu.pass in
    let old = c.args.pass.now in
    let new = c.load_acknowledged.new.pass in
    let so_far = c.loop-cpu.invariant in
    let steps = acknowledged_steps g (take i online) so_far.made.0 in
    let of = of-new words now old steps c.requires.table so_far.made.2 in
    record {
      made = loads-more g i online i_in new now old c.load_acknowledged.result c.load_acknowledged.ensures so_far.made;
      control = λ some. control-old words now old steps c.requires.table so_far.made.2
          (load-controls g i online i_in new now old c.load_acknowledged.result c.load_acknowledged.ensures words of);
    }
