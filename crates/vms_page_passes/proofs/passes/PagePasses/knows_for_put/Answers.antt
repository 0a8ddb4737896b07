-- What was found and loaded stands, and the rest is that nothing is carried.
use Rattle.std.proofs.Common.{◌<◌, arith}
use Rattle.vms_history.specs.Common.{IsCounter}
use Rattle.vms_page_passes.proofs.ShownConditions.{knows_for_put-shown}
use Rattle.vms_page_passes.proofs.passes.PagePasses.knows_for_put.Goals as goal
use Rattle.vms_page_passes.proofs.passes.PagePasses.knows_for_put.Goals.{then-has_found, else-has_found}

pub returns-then-has_loaded : goal.returns-then-has_loaded
returns-then-has_loaded c = λ h held stands keeps.
    let facts = c.args.facts.now in
    let below : c.args.slot < facts.layout.cpus = omega arith in
    let counter_in : IsCounter facts.layout c.args.counter.number = omega arith in
    let nothing = c.carries_nothing.ensures facts h held c.args.pass stands keeps in
    elim c.if-has_found.branch [
      | then-has_found w ↦
          let list = c.has_found.ensures.0 w.if-has_found.true in
          let told = w.has_loaded.ensures.0 (cc) in
          let is = knows_for_put-shown facts h held c.args.slot c.args.pass stands c.args.self.now keeps c.args.counter
          c.args.list c.args.t below counter_in (rw (← c.group-group.ensures.value) list) told.0 told.1
          (rw (← c.place_of-place.ensures.value) told.2) in
          (λ yes. is.0 (nothing.0 yes), λ knows. nothing.1 (is.1 knows))
      | else-has_found w ↦ absurd (cc)
    ]
