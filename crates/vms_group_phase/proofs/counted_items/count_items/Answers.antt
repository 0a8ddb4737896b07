-- No lane has more lines so far than there are.
use Rattle.std.proofs.Common.{◌+◌, ◌<◌, ◌^◌, arith, rules}
use Rattle.vms_group_phase.proofs.LaneLines.{line_at, line-there}
use Rattle.vms_group_phase.proofs.CountedItems.{counted-few, place-known}
use Rattle.vms_group_phase.proofs.counted_items.count_items.Goals as goal

pub overflow_add-count : goal.overflow_add-count
overflow_add-count c =
    let tree = c.args.tree.now in
    let items = c.args.items.now in
    let n = c.loop-item.item-index in
    let item = line_at items n in
    let below = c.loop-item-test.true in
    let is = line-there items n below in
    let counts = c.loop-item.counts in
    let known = place-known tree items n item counts below is c.loop-item.invariant c.requires in
    let few = counted-few tree items n item counts below is c.loop-item.invariant known in
    let got = c.get-count.ensures 0 in
    let more : n + 1 < 2 ^ 64 = search rules in
    omega (arith, few, got, more)
