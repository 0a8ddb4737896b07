use Rattle.std.proofs.Common.{take, drop, ap, ◌∙◌, rules, ◌-◌}
use Rattle.vms_io.proofs.Rooms.{front_moved}
use Rattle.vms_io.proofs.buffers.ReadBuffer.drop_front.Goals as goal

pub returns : goal.returns
returns c =
    let held = c.self.inside.held in
    ap (take (held - c.args.count)) c.copy_within.ensures.items
    ∙ front_moved c.self.inside.room.items held c.args.count (search rules) (search rules)
    ∙ ap (drop c.args.count) c.self.view_is
