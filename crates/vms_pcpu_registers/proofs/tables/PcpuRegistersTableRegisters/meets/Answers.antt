-- The conditions are those that the registers show.
use Rattle.std.proofs.Common.{◌≡◌, to_z, of_z, w64, rules}
use Rattle.vms_pcpu_registers.proofs.ShownConditions.{adds_count, adds_local, finds_count, finds_local, gives_back}
use Rattle.vms_pcpu_registers.proofs.ShownConditions.{kept, misses, takes, wins}
use Rattle.vms_pcpu_registers.proofs.tables.PcpuRegistersTableRegisters.meets.Goals as goal

pub may_add_local-requires : goal.may_add_local-requires
may_add_local-requires c =
    kept c.args.facts.now c.requires.0 c.requires.1 c.args.slot c.args.pass c.requires.2 c.args.self.now c.requires.3

pub finds_local-requires : goal.finds_local-requires
finds_local-requires c =
    kept c.args.facts.now c.requires.0 c.requires.1 c.args.slot c.args.pass c.requires.2 c.args.self.now c.requires.3

pub finds_count-requires : goal.finds_count-requires
finds_count-requires c =
    kept c.args.facts.now c.requires.0 c.requires.1 c.args.slot c.args.pass c.requires.2 c.args.self.now c.requires.3

pub may_win-requires : goal.may_win-requires
may_win-requires c =
    kept c.args.facts.now c.requires.0 c.requires.1 c.args.slot c.args.pass c.requires.2 c.args.self.now c.requires.3

pub may_miss-requires : goal.may_miss-requires
may_miss-requires c =
    kept c.args.facts.now c.requires.0 c.requires.1 c.args.slot c.args.pass c.requires.2 c.args.self.now c.requires.3

pub may_take-requires-clause-kept : goal.may_take-requires-clause-kept
may_take-requires-clause-kept c =
    kept c.args.facts.now c.requires.0 c.requires.1 c.args.slot c.args.pass c.requires.2 c.args.self.now c.requires.3

pub may_add_count-requires-clause-kept : goal.may_add_count-requires-clause-kept
may_add_count-requires-clause-kept c =
    kept c.args.facts.now c.requires.0 c.requires.1 c.args.slot c.args.pass c.requires.2 c.args.self.now c.requires.3

pub may_unlock-requires-clause-kept : goal.may_unlock-requires-clause-kept
may_unlock-requires-clause-kept c =
    kept c.args.facts.now c.requires.0 c.requires.1 c.args.slot c.args.pass c.requires.2 c.args.self.now c.requires.3

pub returns-in-AddL : goal.returns-in-AddL
returns-in-AddL c =
    let back : to_z w64 (of_z w64 c.in-AddL.amount) ≡ c.in-AddL.amount = search rules in
    let told = rw back at c.may_add_local.ensures in
    rw c.in-AddL.is (λ h held stands keeps.
    let is = adds_local c.args.facts.now h held c.args.slot c.args.pass stands c.args.self.now keeps
    c.in-AddL.counter c.in-AddL.amount in
    (λ yes. is.0 (told.0 yes), λ meets. told.1 (is.1 meets)))

pub returns-in-LoadL : goal.returns-in-LoadL
returns-in-LoadL c =
    let back : to_z w64 (of_z w64 c.in-LoadL.v) ≡ c.in-LoadL.v = search rules in
    let told = rw back at c.finds_local.ensures in
    rw c.in-LoadL.is (λ h held stands keeps.
    let is = finds_local c.args.facts.now h held c.args.slot c.args.pass stands c.args.self.now keeps
    c.in-LoadL.counter c.in-LoadL.cpu c.in-LoadL.v in
    (λ yes. is.0 (told.0 yes), λ meets. told.1 (is.1 meets)))

pub returns-in-LoadC : goal.returns-in-LoadC
returns-in-LoadC c =
    let back : to_z w64 (of_z w64 c.in-LoadC.v) ≡ c.in-LoadC.v = search rules in
    let told = rw back at c.finds_count.ensures in
    rw c.in-LoadC.is (λ h held stands keeps.
    let is = finds_count c.args.facts.now h held c.args.slot c.args.pass stands c.args.self.now keeps
    c.in-LoadC.counter c.in-LoadC.v in
    (λ yes. is.0 (told.0 yes), λ meets. told.1 (is.1 meets)))

pub returns-in-Won : goal.returns-in-Won
returns-in-Won c = rw c.in-Won.is (λ h held stands keeps.
    let is = wins c.args.facts.now h held c.args.slot c.args.pass stands c.args.self.now keeps
    c.in-Won.counter in
    (λ yes. is.0 (c.may_win.ensures.0 yes), λ meets. c.may_win.ensures.1 (is.1 meets)))

pub returns-in-Missed : goal.returns-in-Missed
returns-in-Missed c = rw c.in-Missed.is (λ h held stands keeps.
    let is = misses c.args.facts.now h held c.args.slot c.args.pass stands c.args.self.now keeps
    c.in-Missed.counter in
    (λ yes. is.0 (c.may_miss.ensures.0 yes), λ meets. c.may_miss.ensures.1 (is.1 meets)))

pub returns-in-TakeL : goal.returns-in-TakeL
returns-in-TakeL c =
    let back : to_z w64 (of_z w64 c.in-TakeL.v) ≡ c.in-TakeL.v = search rules in
    let told = rw back at c.may_take.ensures in
    rw c.in-TakeL.is (λ h held stands keeps.
    let is = takes c.args.facts.now h held c.args.slot c.args.pass stands c.args.self.now keeps
    c.in-TakeL.counter c.in-TakeL.cpu c.in-TakeL.v in
    (λ yes. is.0 (told.0 yes), λ meets. told.1 (is.1 meets)))

pub returns-in-AddC : goal.returns-in-AddC
returns-in-AddC c =
    let back : to_z w64 (of_z w64 c.in-AddC.added) ≡ c.in-AddC.added = search rules in
    let told = rw back at c.may_add_count.ensures in
    rw c.in-AddC.is (λ h held stands keeps.
    let is = adds_count c.args.facts.now h held c.args.slot c.args.pass stands c.args.self.now keeps
    c.in-AddC.counter c.in-AddC.added in
    (λ yes. is.0 (told.0 yes), λ meets. told.1 (is.1 meets)))

pub returns-in-Unlock : goal.returns-in-Unlock
returns-in-Unlock c = rw c.in-Unlock.is (λ h held stands keeps.
    let is = gives_back c.args.facts.now h held c.args.slot c.args.pass stands c.args.self.now keeps
    c.in-Unlock.counter in
    (λ yes. is.0 (c.may_unlock.ensures.0 yes), λ meets. c.may_unlock.ensures.1 (is.1 meets)))
