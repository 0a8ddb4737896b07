-- Nothing is kept before the first line.
use Rattle.std.proofs.Common.{Some, ap}
use Rattle.vms_replay.proofs.FirstLines.{StandsBefore-first}
use Rattle.vms_replay.proofs.bodies.Replay.make.Goals as goal

pub returns : goal.returns
returns g c = StandsBefore-first c.args.header.now c.requires _ (ap Some c.in_ok-first_world.ensures)
    c.new.ensures.items
    c.new-2.ensures.items
