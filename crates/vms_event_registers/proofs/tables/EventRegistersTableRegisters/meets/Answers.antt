-- The conditions are those that the registers show.
use Rattle.vms_event_registers.proofs.ShownConditions.{adds, counts, finds, kept, takes}
use Rattle.vms_event_registers.proofs.tables.EventRegistersTableRegisters.meets.Goals as goal

pub may_count-requires : goal.may_count-requires
may_count-requires c =
    kept c.args.facts.now c.requires.0 c.requires.1 c.args.slot c.args.pass c.requires.2 c.args.self.now c.requires.3

pub finds_word-requires : goal.finds_word-requires
finds_word-requires c =
    kept c.args.facts.now c.requires.0 c.requires.1 c.args.slot c.args.pass c.requires.2 c.args.self.now c.requires.3

pub may_take-requires : goal.may_take-requires
may_take-requires c =
    kept c.args.facts.now c.requires.0 c.requires.1 c.args.slot c.args.pass c.requires.2 c.args.self.now c.requires.3

pub may_add-requires : goal.may_add-requires
may_add-requires c = record {
  kept = kept c.args.facts.now c.requires.0 c.requires.1 c.args.slot c.args.pass c.requires.2 c.args.self.now
      c.requires.3;
  slot = c.requires.2.slot_in;
}

pub returns-in-AddE : goal.returns-in-AddE
returns-in-AddE c = rw c.in-AddE.is (λ h held stands keeps.
    let is = counts c.args.facts.now h held c.args.slot c.args.pass stands c.args.self.now keeps c.in-AddE.event
    c.in-AddE.n in
    (λ yes. is.0 (c.may_count.ensures.0 yes), λ meets. c.may_count.ensures.1 (is.1 meets)))

pub returns-in-LoadE : goal.returns-in-LoadE
returns-in-LoadE c = rw c.in-LoadE.is (λ h held stands keeps.
    let is = finds c.args.facts.now h held c.args.slot c.args.pass stands c.args.self.now keeps c.in-LoadE.cpu
    c.in-LoadE.event
    c.in-LoadE.v in
    (λ yes. is.0 (c.finds_word.ensures.0 yes), λ meets. c.finds_word.ensures.1 (is.1 meets)))

pub returns-in-TakeE : goal.returns-in-TakeE
returns-in-TakeE c = rw c.in-TakeE.is (λ h held stands keeps.
    let is = takes c.args.facts.now h held c.args.slot c.args.pass stands c.args.self.now keeps c.in-TakeE.cpu
    c.in-TakeE.event
    c.in-TakeE.v in
    (λ yes. is.0 (c.may_take.ensures.0 yes), λ meets. c.may_take.ensures.1 (is.1 meets)))

pub returns-in-AddF : goal.returns-in-AddF
returns-in-AddF c = rw c.in-AddF.is (λ h held stands keeps.
    let is = adds c.args.facts.now h held c.args.slot c.args.pass stands c.args.self.now keeps c.in-AddF.cpu
    c.in-AddF.event
    c.in-AddF.v in
    (λ yes. is.0 (c.may_add.ensures.0 yes), λ meets. c.may_add.ensures.1 (is.1 meets)))
