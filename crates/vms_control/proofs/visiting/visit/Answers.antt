-- The loads leave room, and with the rating they make the visit.
use Rattle.std.proofs.Common.{suc, length, List, sym, ◌∙◌, subst, arith, get_or}
use Rattle.vms_calls.specs.Common.{ZoneSize, IsValidSize, size_at, choice_of}
use Rattle.vms_control.specs.Common.{never, once}
use Rattle.vms_control.proofs.StepCounts.{set-both, set-none}
use Rattle.vms_control.proofs.VisitedZone.{control-loaded, loads-may, loads-still, no_size, visit-rated, visit-spared}
use Rattle.vms_control.proofs.VisitedZone.{zone-sized, zone-valid}
use Rattle.vms_control.proofs.visiting.visit.Goals as goal

pub returns-then-spares-clause-made : goal.returns-then-spares-clause-made
returns-then-spares-clause-made g c =
    visit-spared c.args.table.now c.load_mark-found.new.pass c.load_acknowledged.new.pass c.args.pass.now
    c.requires.table c.control_passes_know_by_own_steps.ensures c.args.online.now c.args.zone.number c.requires.zone
    c.load_mark-found.result c.load_acknowledged.ensures.made c.load_acknowledged.ensures.control
    c.load_mark-found.ensures.made
    (g.P.Rule.answers c.args.rules.now.pressure) (g.N.Rule.answers c.args.rules.now.normal) c.args.rating
    (sym c.spares.ensures ∙ c.if-spares.true)

pub returns-then-spares-clause-sets : goal.returns-then-spares-clause-sets
returns-then-spares-clause-sets g c =
    let of_zone = once c.args.zone.number (suc c.args.zone.number) in
    let loaded = c.load_mark-found.new.pass.seen in
    set-both c.args.table.now.facts never never never never of_zone of_zone loaded loaded c.args.pass.now.seen
    (set-none c.args.table.now.facts loaded)
    (loads-still c.args.table.now c.load_mark-found.new.pass c.load_acknowledged.new.pass c.args.pass.now
    c.requires.table c.control_passes_know_by_own_steps.ensures c.args.online.now c.args.zone.number c.requires.zone
    c.load_mark-found.result c.load_acknowledged.ensures.made c.load_acknowledged.ensures.control
    c.load_mark-found.ensures.made)
    (λ n. omega arith) (λ n. omega arith)

pub get-size-requires : goal.get-size-requires
get-size-requires g c =
    zone-sized c.args.table.now c.load_mark-found.new.pass c.load_acknowledged.new.pass c.args.pass.now
    c.requires.table c.control_passes_know_by_own_steps.ensures c.args.online.now c.args.zone.number c.requires.zone
    c.load_mark-found.result c.load_acknowledged.ensures.made c.load_acknowledged.ensures.control
    c.load_mark-found.ensures.made
    c.args.header.now.sizes c.requires.sizes

pub choose-chosen-requires-clause-size : goal.choose-chosen-requires-clause-size
choose-chosen-requires-clause-size g c =
    subst IsValidSize (c.get-size.ensures no_size)
    (zone-valid c.args.table.now c.load_mark-found.new.pass c.load_acknowledged.new.pass c.args.pass.now
    c.requires.table c.control_passes_know_by_own_steps.ensures c.args.online.now c.args.zone.number c.requires.zone
    c.load_mark-found.result c.load_acknowledged.ensures.made c.load_acknowledged.ensures.control
    c.load_mark-found.ensures.made
    c.args.header.now.sizes c.requires.sizes)

pub rate-requires-clause-valid : goal.rate-requires-clause-valid
rate-requires-clause-valid g c =
    subst IsValidSize (c.get-size.ensures no_size)
    (zone-valid c.args.table.now c.load_mark-found.new.pass c.load_acknowledged.new.pass c.args.pass.now
    c.requires.table c.control_passes_know_by_own_steps.ensures c.args.online.now c.args.zone.number c.requires.zone
    c.load_mark-found.result c.load_acknowledged.ensures.made c.load_acknowledged.ensures.control
    c.load_mark-found.ensures.made
    c.args.header.now.sizes c.requires.sizes)

pub rate-requires-clause-control : goal.rate-requires-clause-control
rate-requires-clause-control g c =
    control-loaded c.args.table.now c.load_mark-found.new.pass c.load_acknowledged.new.pass c.args.pass.now
    c.requires.table c.control_passes_know_by_own_steps.ensures c.args.online.now c.args.zone.number c.requires.zone
    c.load_mark-found.result c.load_acknowledged.ensures.made c.load_acknowledged.ensures.control
    c.load_mark-found.ensures.made

pub rate-requires-clause-room : goal.rate-requires-clause-room
rate-requires-clause-room g c =
    loads-may c.args.table.now c.load_mark-found.new.pass c.load_acknowledged.new.pass c.args.pass.now
    c.requires.table c.control_passes_know_by_own_steps.ensures c.args.online.now c.args.zone.number c.requires.zone
    c.load_mark-found.result c.load_acknowledged.ensures.made c.load_acknowledged.ensures.control
    c.load_mark-found.ensures.made
    (c.requires.room c.load_acknowledged.ensures.control)

pub returns-clause-made : goal.returns-clause-made
returns-clause-made g c =
    let pressure = g.P.Rule.answers c.args.rules.now.pressure in
    let normal = g.N.Rule.answers c.args.rules.now.normal in
    let online = length c.args.online.now in
    let chosen = c.choose-chosen.result in
    let choice : choice_of c.args.rating pressure normal (size_at c.args.table.now.facts.sizes c.args.zone.number)
    online chosen.threshold chosen.usual =
    subst (λ (sizes : List ZoneSize). choice_of c.args.rating pressure normal (get_or sizes c.args.zone.number no_size)
    online chosen.threshold chosen.usual) c.requires.sizes
    (subst (λ (size : ZoneSize). choice_of c.args.rating pressure normal size online chosen.threshold chosen.usual)
    (sym (c.get-size.ensures no_size)) c.choose-chosen.ensures.chosen) in
    visit-rated c.args.table.now c.load_mark-found.new.pass c.load_acknowledged.new.pass c.args.pass.now
    c.requires.table c.control_passes_know_by_own_steps.ensures c.args.online.now c.args.zone.number c.requires.zone
    c.load_mark-found.result c.load_acknowledged.ensures.made c.load_acknowledged.ensures.control
    c.load_mark-found.ensures.made
    pressure normal c.args.rating (sym c.spares.ensures ∙ c.if-spares.false) chosen.threshold chosen.usual choice
    c.rate.new.pass c.rate.ensures.made

pub returns-clause-sets : goal.returns-clause-sets
returns-clause-sets g c =
    let of_zone = once c.args.zone.number (suc c.args.zone.number) in
    set-both c.args.table.now.facts never never of_zone of_zone of_zone of_zone c.rate.new.pass.seen
    c.load_mark-found.new.pass.seen c.args.pass.now.seen c.rate.ensures.sets
    (loads-still c.args.table.now c.load_mark-found.new.pass c.load_acknowledged.new.pass c.args.pass.now
    c.requires.table c.control_passes_know_by_own_steps.ensures c.args.online.now c.args.zone.number c.requires.zone
    c.load_mark-found.result c.load_acknowledged.ensures.made c.load_acknowledged.ensures.control
    c.load_mark-found.ensures.made)
    (λ n. omega arith) (λ n. omega arith)
