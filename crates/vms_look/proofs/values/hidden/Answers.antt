-- The goals were what a look at a CPU made, and what it found.
use Rattle.std.proofs.Common.{FitsSigned, w64, ◌∙◌}
use Rattle.std.proofs.lemmas.Int.{to_z-of_z}
use Rattle.vms_look.proofs.LookSteps.{looked-online, looked-other}
use Rattle.vms_look.proofs.values.hidden.Goals as goal

pub returns-then-is_online-clause-made : goal.returns-then-is_online-clause-made
returns-then-is_online-clause-made g c =
    let k = c.args.counter in
    let w = c.load_diffs-found.result in
    let fits : FitsSigned w64 c.entry.result = search in
    looked-online (g.P.Caller.pass c.load_state.new.pass) (g.P.Caller.pass c.args.pass.now) c.args.cpu
    c.load_state.result c.load_state.ensures.made k (search)
    (g.P.Caller.pass c.load_diffs-found.new.pass)
    c.group-group.result w c.group-group.ensures.value c.load_diffs-found.ensures.made _
    (to_z-of_z w64 c.entry.result fits ∙ c.entry.ensures.value)

pub returns-else-is_online-clause-made : goal.returns-else-is_online-clause-made
returns-else-is_online-clause-made g c =
    let k = c.args.counter in
    looked-other (g.P.Caller.pass c.load_state.new.pass) (g.P.Caller.pass c.args.pass.now) c.args.cpu
    c.load_state.result c.load_state.ensures.made k (search)
