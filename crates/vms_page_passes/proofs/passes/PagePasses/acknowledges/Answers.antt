-- The note of the zone shows the rest of the condition.
use Rattle.std.proofs.Common.{◌<◌, length, sym, ap, arith}
use Rattle.vms_history.specs.Common.{IsZone}
use Rattle.vms_page_passes.proofs.ShownConditions.{acknowledges-shown}
use Rattle.vms_page_passes.proofs.passes.PagePasses.acknowledges.Goals as goal

pub returns-in-Some : goal.returns-in-Some
returns-in-Some c = λ h held stands keeps.
    let facts = c.args.facts.now in
    let below : c.args.slot < facts.layout.cpus = omega arith in
    let zone_in : IsZone facts.layout c.args.zone.number = omega (arith, ap length c.zones.ensures.value) in
    let is = acknowledges-shown facts h held c.args.slot c.args.pass stands c.args.self.now keeps c.args.zone
    c.args.number below zone_in c.in-Some.told (sym c.in-Some.ensures) in (
      λ yes. is.0 (c.may_be_acknowledged.ensures.0 yes),
      λ may. c.may_be_acknowledged.ensures.1 (is.1 may),
    )
