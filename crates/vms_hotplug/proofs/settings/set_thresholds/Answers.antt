-- All places have got their thresholds.
use Rattle.std.proofs.Common.{arith, get_or, if◌then◌else◌, ◌∙◌}
use Rattle.vms_world.specs.Common.{is_online, state_at, cell, place_count, place_threshold}
use Rattle.vms_world.proofs.Common.{is_listed_by_cpu}
use Rattle.vms_hotplug.proofs.settings.set_thresholds.Goals as goal

pub returns : goal.returns
returns c =
    let places = place_count c.args.layout.now in
    is_listed_by_cpu (λ d g. if is_online (state_at c.args.states.now d)
    then place_threshold c.args.layout.now c.args.zones.now g
    else get_or c.args.thresholds.now (cell places d g) 0) c.args.layout.now.cpus places c.loop-place.thresholds 0
    (c.loop-place.invariant.same_length ∙ c.requires.thresholds)
    (λ d g d_in g_in. c.loop-place.invariant.done d g d_in
    (omega (arith, c.loop-place-test.false, c.places-place-end.ensures.value)))
