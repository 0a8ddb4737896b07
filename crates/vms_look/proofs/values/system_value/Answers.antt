-- The goal was how near the value is.
use Rattle.vms_look.proofs.NearValues.{system-near}
use Rattle.vms_look.proofs.values.system_value.Goals as goal

pub returns-clause-truly : goal.returns-clause-truly
returns-clause-truly g c =
    system-near (g.P.Caller.pass c.load_system.new.pass) (g.P.Caller.pass c.args.pass.now) c.args.item
    c.load_system.result c.clamped.result c.load_system.ensures.made c.clamped.ensures
