-- The conditions are those that the registers show.
use Rattle.std.proofs.Common.{◌≡◌, to_z, of_z, w64, rules}
use Rattle.vms_group_registers.proofs.ShownConditions.{adds_up, adds_value, changes, finds_pending, finds_up}
use Rattle.vms_group_registers.proofs.ShownConditions.{finds_value, kept}
use Rattle.vms_group_registers.proofs.tables.GroupRegistersTableRegisters.meets.Goals as goal

pub may_change-requires : goal.may_change-requires
may_change-requires c =
    kept c.args.facts.now c.requires.0 c.requires.1 c.args.slot c.args.pass c.requires.2 c.args.self.now c.requires.3

pub finds_pending-requires : goal.finds_pending-requires
finds_pending-requires c =
    kept c.args.facts.now c.requires.0 c.requires.1 c.args.slot c.args.pass c.requires.2 c.args.self.now c.requires.3

pub finds_up-requires : goal.finds_up-requires
finds_up-requires c =
    kept c.args.facts.now c.requires.0 c.requires.1 c.args.slot c.args.pass c.requires.2 c.args.self.now c.requires.3

pub may_add_value-requires-clause-kept : goal.may_add_value-requires-clause-kept
may_add_value-requires-clause-kept c =
    kept c.args.facts.now c.requires.0 c.requires.1 c.args.slot c.args.pass c.requires.2 c.args.self.now c.requires.3

pub may_add_up-requires : goal.may_add_up-requires
may_add_up-requires c =
    kept c.args.facts.now c.requires.0 c.requires.1 c.args.slot c.args.pass c.requires.2 c.args.self.now c.requires.3

pub finds_value-requires : goal.finds_value-requires
finds_value-requires c =
    kept c.args.facts.now c.requires.0 c.requires.1 c.args.slot c.args.pass c.requires.2 c.args.self.now c.requires.3

pub returns-in-AddP : goal.returns-in-AddP
returns-in-AddP c =
    let back : to_z w64 (of_z w64 c.in-AddP.amount) ≡ c.in-AddP.amount = search rules in
    let told = rw back at c.may_change.ensures in
    rw c.in-AddP.is (λ h held stands keeps.
    let is = changes c.args.facts.now h held c.args.slot c.args.pass stands c.args.self.now keeps
    c.in-AddP.group c.in-AddP.amount in
    (λ yes. is.0 (told.0 yes), λ meets. told.1 (is.1 meets)))

pub returns-in-TakeP : goal.returns-in-TakeP
returns-in-TakeP c =
    let back : to_z w64 (of_z w64 c.in-TakeP.v) ≡ c.in-TakeP.v = search rules in
    let told = rw back at c.finds_pending.ensures in
    rw c.in-TakeP.is (λ h held stands keeps.
    let is = finds_pending c.args.facts.now h held c.args.slot c.args.pass stands c.args.self.now keeps
    c.in-TakeP.cpu c.in-TakeP.group c.in-TakeP.v in
    (λ yes. is.0 (told.0 yes), λ meets. told.1 (is.1 meets)))

pub returns-in-TakeU : goal.returns-in-TakeU
returns-in-TakeU c =
    let back : to_z w64 (of_z w64 c.in-TakeU.v) ≡ c.in-TakeU.v = search rules in
    let told = rw back at c.finds_up.ensures in
    rw c.in-TakeU.is (λ h held stands keeps.
    let is = finds_up c.args.facts.now h held c.args.slot c.args.pass stands c.args.self.now keeps
    c.in-TakeU.group c.in-TakeU.v in
    (λ yes. is.0 (told.0 yes), λ meets. told.1 (is.1 meets)))

pub returns-in-AddV : goal.returns-in-AddV
returns-in-AddV c =
    let back : to_z w64 (of_z w64 c.in-AddV.amount) ≡ c.in-AddV.amount = search rules in
    let told = rw back at c.may_add_value.ensures in
    rw c.in-AddV.is (λ h held stands keeps.
    let is = adds_value c.args.facts.now h held c.args.slot c.args.pass stands c.args.self.now keeps
    c.in-AddV.group c.in-AddV.amount in
    (λ yes. is.0 (told.0 yes), λ meets. told.1 (is.1 meets)))

pub returns-in-AddU : goal.returns-in-AddU
returns-in-AddU c =
    let back : to_z w64 (of_z w64 c.in-AddU.amount) ≡ c.in-AddU.amount = search rules in
    let told = rw back at c.may_add_up.ensures in
    rw c.in-AddU.is (λ h held stands keeps.
    let is = adds_up c.args.facts.now h held c.args.slot c.args.pass stands c.args.self.now keeps
    c.in-AddU.group c.in-AddU.amount in
    (λ yes. is.0 (told.0 yes), λ meets. told.1 (is.1 meets)))

pub returns-in-LoadV : goal.returns-in-LoadV
returns-in-LoadV c =
    let back : to_z w64 (of_z w64 c.in-LoadV.v) ≡ c.in-LoadV.v = search rules in
    let told = rw back at c.finds_value.ensures in
    rw c.in-LoadV.is (λ h held stands keeps.
    let is = finds_value c.args.facts.now h held c.args.slot c.args.pass stands c.args.self.now keeps
    c.in-LoadV.group c.in-LoadV.v in
    (λ yes. is.0 (told.0 yes), λ meets. told.1 (is.1 meets)))
