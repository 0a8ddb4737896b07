-- The goal was how near the value is.
use Rattle.vms_look.proofs.NearValues.{value-near}
use Rattle.vms_look.proofs.values.place_value.Goals as goal

pub returns-clause-truly : goal.returns-clause-truly
returns-clause-truly g c =
    value-near (g.P.Caller.pass c.load_place.new.pass) (g.P.Caller.pass c.args.pass.now) c.args.counter
    c.load_place.result c.clamped.result c.load_place.ensures.made c.clamped.ensures
