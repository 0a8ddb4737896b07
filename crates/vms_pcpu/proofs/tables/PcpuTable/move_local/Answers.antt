-- The goals were that each step may be made, and that the sum fits.
use Rattle.std.proofs.Common.{arith}
use Rattle.vms_pcpu.proofs.MovedLocals.{take-may, add-may, unlock-may, moved}
use Rattle.vms_pcpu.proofs.SmallNumbers.{same_sum}
use Rattle.vms_pcpu.proofs.tables.PcpuTable.move_local.Goals as goal

pub take_local-local-requires-clause-may : goal.take_local-local-requires-clause-may
take_local-local-requires-clause-may c =
    take-may c.args.counter c.args.cpu c.args.amount c.args.worker.now c.requires.may

pub add_count-requires-clause-may : goal.add_count-requires-clause-may
add_count-requires-clause-may c =
    let l = c.take_local-local.result in
    let small = c.take_local-local.ensures.bound in
    let few = c.requires.amount in
    add-may c.args.counter c.args.cpu c.args.amount c.args.worker.now c.requires.may l _
    (same_sum l c.args.amount (omega (arith, small)) (omega (arith, few)))
    c.take_local-local.new.worker c.take_local-local.ensures.made

pub unlock-requires-clause-may : goal.unlock-requires-clause-may
unlock-requires-clause-may c =
    let l = c.take_local-local.result in
    let small = c.take_local-local.ensures.bound in
    let few = c.requires.amount in
    unlock-may c.args.counter c.args.cpu c.args.amount c.args.worker.now c.requires.may l _
    (same_sum l c.args.amount (omega (arith, small)) (omega (arith, few)))
    c.take_local-local.new.worker c.take_local-local.ensures.made c.add_count.new.worker c.add_count.ensures

pub returns : goal.returns
returns c =
    let l = c.take_local-local.result in
    let small = c.take_local-local.ensures.bound in
    let few = c.requires.amount in (
      l,
      moved c.args.counter c.args.cpu c.args.amount c.args.worker.now c.requires.may l _
          (same_sum l c.args.amount (omega (arith, small)) (omega (arith, few)))
          c.take_local-local.new.worker c.take_local-local.ensures.made c.add_count.new.worker c.add_count.ensures
          c.unlock.new.worker c.unlock.ensures,
    )
