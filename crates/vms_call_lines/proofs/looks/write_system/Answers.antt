-- The load is the whole way.
use Rattle.std.proofs.Common.{ap, w64, ◌∙◌}
use Rattle.std.proofs.lemmas.Int.{to_z-of_z}
use Rattle.vms_calls.specs.Common.{at_least_zero}
use Rattle.vms_call_lines.proofs.LookWays.{writes-system}
use Rattle.vms_call_lines.proofs.looks.write_system.Goals as goal

pub returns-clause-ok : goal.returns-clause-ok
returns-clause-ok c = λ who.
    let told = c.in_ok-value.ensures in
    writes-system who c.args.pages.now c.args.caller c.args.out.now.items c.load_system.new.out.items c.args.item
    c.in_ok-value.value c.clamped.result told.load.0 told.load.1
    (c.clamped.ensures ∙ ap at_least_zero (to_z-of_z w64 c.in_ok-value.value told.fits))
