-- A line that is ignored, and one that is kept.
use Rattle.std.proofs.Common.{Ok, refl, sym, subst}
use Rattle.vms_command.specs.Common.{BodyTakes}
use Rattle.vms_world.specs.Common.{Line, Blank, MayKeep}
use Rattle.vms_script.proofs.Common.{may_keep, judged-known}
use Rattle.vms_replay.specs.Common.{replaying, StandsBefore}
use Rattle.vms_replay.proofs.LineStands.{BodyTakes-going_on, goes-blank}
use Rattle.vms_replay.proofs.bodies.Replay.take.Goals as goal

pub returns-in-Blank : goal.returns-in-Blank
returns-in-Blank g c =
    let self = c.args.self.now in
    let header = c.args.header.now in
    let made = g.E.Engine.made c.args.engine.now in
    let out = c.args.out.now.items in
    subst (λ (line : Line). BodyTakes (replaying g.E.Engine.Makes) (StandsBefore self) (StandsBefore self) made made
    header c.args.number (Ok line) (Ok tt) out out) (sym c.in-Blank.is)
    (BodyTakes-going_on g.E.Engine.Makes self self made header c.args.number (Ok Blank) (Ok tt) out out
    (λ above kept texts stands. refl)
    (λ above kept texts stands judged_is. goes-blank g.E.Engine.Makes self self made header c.args.number above kept
    texts stands refl out))

-- a line that counts is one of its header
pub keep-requires : goal.keep-requires
keep-requires g c =
    let some = c.requires.line in
    let header = c.args.header.now in
    subst MayKeep c.in-Lane.is (may_keep header c.args.line.now c.requires.header
    (judged-known header some.above.lines some.judged.0 c.args.line.now c.requires.header (sym some.judged.1)))
