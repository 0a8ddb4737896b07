-- What the runner returned was handed on.
use Rattle.vms_replay.specs.Common.{Prints}
use Rattle.vms_run.proofs.KeptPhases.{IsOneRun-handed, IsRun-ok}
use Rattle.vms_run.proofs.threads.run_one.Goals as goal

pub returns : goal.returns
returns g c =
    let header = c.args.header.now in
    let w = c.args.world in
    let items = c.args.script.now in
    let done = c.in_ok-world.field-0 in
    let run = IsRun-ok header w items c.make.result done
    c.make.ensures c.in_ok-world.was in
    IsOneRun-handed header w items done c.in_ok-before.before c.in_ok-lines.lines c.as_slice.result.now
    c.as_slice-2.result.now (λ told. Prints header c.args.printer.now told c.hand_on.new.taker) run
    c.in_ok-before.ensures c.in_ok-lines.ensures c.as_slice.ensures.items c.as_slice-2.ensures.value
    c.in_ok-hand_on.ensures
