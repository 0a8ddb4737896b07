-- The mark is the one that covers, and it and the thresholds may be set.
use Rattle.vms_calls.specs.Common.{mark_steps}
use Rattle.vms_control.proofs.PassCalls.{control-new}
use Rattle.vms_control.proofs.RatedZone.{mark-is, may-mark, may-thresholds, rated}
use Rattle.vms_control.proofs.rating.rate.Goals as goal

pub mark_zone-requires-clause-sets : goal.mark_zone-requires-clause-sets
mark_zone-requires-clause-sets c =
    may-mark c.args.table.now c.args.pass.now c.requires.table c.is_live.ensures c.requires.control
    c.args.online.now c.requires.online c.args.zone.number c.args.chosen.threshold c.args.chosen.usual c.args.found
    c.requires.zone c.requires.found c.requires.least c.requires.most c.requires.least_usual c.requires.usual
    c.cover_mark.result
    (mark-is c.args.table.now.facts c.args.pass.now.number c.args.online.now c.args.pass.now.seen c.args.zone.number
    c.args.chosen.usual c.args.chosen.threshold c.args.size.now c.linux_mark-linux.result c.hidden_under-hidden.result
    c.cover_mark.result c.requires.size c.linux_mark-linux.ensures.value c.hidden_under-hidden.ensures.value
    c.cover_mark.ensures.value)

pub set_thresholds-requires-clause-control : goal.set_thresholds-requires-clause-control
set_thresholds-requires-clause-control c =
    control-new c.args.table.now c.mark_zone.new.pass c.args.pass.now
    (mark_steps c.args.zone.number c.args.found c.cover_mark.result) c.requires.table c.mark_zone.ensures.made
    c.requires.control

pub set_thresholds-requires-clause-may : goal.set_thresholds-requires-clause-may
set_thresholds-requires-clause-may c =
    may-thresholds c.args.table.now c.args.pass.now c.requires.table c.is_live.ensures c.requires.control
    c.args.online.now c.requires.online c.args.zone.number c.args.chosen.threshold c.args.chosen.usual c.args.found
    c.requires.zone c.requires.found c.requires.least c.requires.most c.requires.least_usual c.requires.usual
    c.cover_mark.result
    (mark-is c.args.table.now.facts c.args.pass.now.number c.args.online.now c.args.pass.now.seen c.args.zone.number
    c.args.chosen.usual c.args.chosen.threshold c.args.size.now c.linux_mark-linux.result c.hidden_under-hidden.result
    c.cover_mark.result c.requires.size c.linux_mark-linux.ensures.value c.hidden_under-hidden.ensures.value
    c.cover_mark.ensures.value)
    c.mark_zone.new.pass c.mark_zone.ensures.made

pub returns-clause-made : goal.returns-clause-made
returns-clause-made c =
    rated c.args.table.now c.args.pass.now c.requires.table c.is_live.ensures c.requires.control
    c.args.online.now c.requires.online c.args.zone.number c.args.chosen.threshold c.args.chosen.usual c.args.found
    c.requires.zone c.requires.found c.requires.least c.requires.most c.requires.least_usual c.requires.usual
    c.cover_mark.result
    (mark-is c.args.table.now.facts c.args.pass.now.number c.args.online.now c.args.pass.now.seen c.args.zone.number
    c.args.chosen.usual c.args.chosen.threshold c.args.size.now c.linux_mark-linux.result c.hidden_under-hidden.result
    c.cover_mark.result c.requires.size c.linux_mark-linux.ensures.value c.hidden_under-hidden.ensures.value
    c.cover_mark.ensures.value)
    c.mark_zone.new.pass c.mark_zone.ensures.made c.set_thresholds.new.pass c.set_thresholds.ensures.made
