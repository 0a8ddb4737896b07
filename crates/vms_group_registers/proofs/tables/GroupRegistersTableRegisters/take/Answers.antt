-- Each kind of step leaves the registers of the longer history.
use Rattle.std.proofs.Common.{◌≡◌, arith, to_z, of_z, w64, rules}
use Rattle.vms_group_registers.proofs.Bounds.{change-room, found-pending, found-up, may-add_up, may-add_value}
use Rattle.vms_group_registers.proofs.Bounds.{may-change, take_pending-room, take_up-room, up-room, value-room}
use Rattle.vms_group_registers.proofs.ShownConditions.{kept}
use Rattle.vms_group_registers.proofs.ShownSteps.{add_up-keeps, add_value-keeps, change-keeps, load-keeps}
use Rattle.vms_group_registers.proofs.ShownSteps.{take_pending-keeps, take_up-keeps}
use Rattle.vms_group_registers.proofs.tables.GroupRegistersTableRegisters.take.Goals as goal

pub change-requires : goal.change-requires
change-requires c =
    let facts = c.args.facts.now in
    let r = c.args.self.now in
    let may = rw c.in-AddP.is at c.requires.2 in
    let back : to_z w64 (of_z w64 c.in-AddP.amount) ≡ c.in-AddP.amount = search rules in
    let all = may-change facts c.requires.0 c.requires.1 c.args.slot c.args.pass r c.requires.3 c.in-AddP.group
    c.in-AddP.amount may in
    record {
      kept = kept facts c.requires.0 c.requires.1 c.args.slot c.args.pass may.stands r c.requires.3;
      cpu = all.0;
      group = all.1;
      room = rw back (change-room facts c.requires.0 c.requires.1 c.args.slot c.args.pass r c.requires.3
          c.in-AddP.group c.in-AddP.amount may);
      volume = let most = all.2 in rw back (omega arith);
    }

pub take_pending-requires : goal.take_pending-requires
take_pending-requires c =
    let facts = c.args.facts.now in
    let r = c.args.self.now in
    let may = rw c.in-TakeP.is at c.requires.2 in
    let back : to_z w64 (of_z w64 c.in-TakeP.v) ≡ c.in-TakeP.v = search rules in
    let all = found-pending facts c.requires.0 c.requires.1 c.args.slot c.args.pass r c.requires.3 c.in-TakeP.cpu
    c.in-TakeP.group c.in-TakeP.v may in
    record {
      kept = kept facts c.requires.0 c.requires.1 c.args.slot c.args.pass may.stands r c.requires.3;
      slot = may.stands.slot_in;
      cpu = all.0;
      group = all.1;
      room = rw back (take_pending-room facts c.requires.0 c.requires.1 c.args.slot c.args.pass r c.requires.3
          c.in-TakeP.cpu c.in-TakeP.group c.in-TakeP.v may);
    }

pub take_up-requires : goal.take_up-requires
take_up-requires c =
    let facts = c.args.facts.now in
    let r = c.args.self.now in
    let may = rw c.in-TakeU.is at c.requires.2 in
    let back : to_z w64 (of_z w64 c.in-TakeU.v) ≡ c.in-TakeU.v = search rules in
    let all = found-up facts c.requires.0 c.requires.1 c.args.slot c.args.pass r c.requires.3 c.in-TakeU.group
    c.in-TakeU.v may in
    record {
      kept = kept facts c.requires.0 c.requires.1 c.args.slot c.args.pass may.stands r c.requires.3;
      slot = may.stands.slot_in;
      group = all.0;
      room = rw back (take_up-room facts c.requires.0 c.requires.1 c.args.slot c.args.pass r c.requires.3
          c.in-TakeU.group c.in-TakeU.v may);
    }

pub add_value-requires : goal.add_value-requires
add_value-requires c =
    let facts = c.args.facts.now in
    let r = c.args.self.now in
    let may = rw c.in-AddV.is at c.requires.2 in
    let back : to_z w64 (of_z w64 c.in-AddV.amount) ≡ c.in-AddV.amount = search rules in
    let all = may-add_value facts c.requires.0 c.requires.1 c.args.slot c.args.pass r c.requires.3 c.in-AddV.group
    c.in-AddV.amount may in
    record {
      kept = kept facts c.requires.0 c.requires.1 c.args.slot c.args.pass may.stands r c.requires.3;
      slot = may.stands.slot_in;
      group = all.0;
      sum = rw back (value-room facts c.requires.0 c.requires.1 c.args.slot c.args.pass r c.requires.3 c.in-AddV.group
          c.in-AddV.amount may);
      room = all.3;
    }

pub add_up-requires : goal.add_up-requires
add_up-requires c =
    let facts = c.args.facts.now in
    let r = c.args.self.now in
    let may = rw c.in-AddU.is at c.requires.2 in
    let back : to_z w64 (of_z w64 c.in-AddU.amount) ≡ c.in-AddU.amount = search rules in
    let all = may-add_up facts c.requires.0 c.requires.1 c.args.slot c.args.pass r c.requires.3 c.in-AddU.group
    c.in-AddU.amount may in
    record {
      kept = kept facts c.requires.0 c.requires.1 c.args.slot c.args.pass may.stands r c.requires.3;
      group = all.0;
      sum = rw back (up-room facts c.requires.0 c.requires.1 c.args.slot c.args.pass r c.requires.3 c.in-AddU.group
          c.in-AddU.amount may);
      rises = rw back all.1;
    }

pub returns-in-AddP : goal.returns-in-AddP
returns-in-AddP c =
    let back : to_z w64 (of_z w64 c.in-AddP.amount) ≡ c.in-AddP.amount = search rules in
    rw (c.in-AddP.is, c.change.ensures, back) (λ h held may keeps.
    let facts = c.args.facts.now in
    let all = may-change facts h held c.args.slot c.args.pass c.args.self.now keeps c.in-AddP.group c.in-AddP.amount
    may in
    change-keeps facts h held c.args.slot c.args.pass may.stands c.args.self.now keeps c.in-AddP.group
    c.in-AddP.amount all.0 all.1)

pub returns-in-TakeP : goal.returns-in-TakeP
returns-in-TakeP c =
    let back : to_z w64 (of_z w64 c.in-TakeP.v) ≡ c.in-TakeP.v = search rules in
    rw (c.in-TakeP.is, c.take_pending.ensures, back) (λ h held may keeps.
    take_pending-keeps c.args.facts.now h held c.args.slot c.args.pass may.stands c.args.self.now keeps c.in-TakeP.cpu
    c.in-TakeP.group c.in-TakeP.v may.meets.0.group)

pub returns-in-TakeU : goal.returns-in-TakeU
returns-in-TakeU c =
    let back : to_z w64 (of_z w64 c.in-TakeU.v) ≡ c.in-TakeU.v = search rules in
    rw (c.in-TakeU.is, c.take_up.ensures, back) (λ h held may keeps.
    take_up-keeps c.args.facts.now h held c.args.slot c.args.pass may.stands c.args.self.now keeps c.in-TakeU.group
    c.in-TakeU.v may.meets.0.group)

pub returns-in-AddV : goal.returns-in-AddV
returns-in-AddV c =
    let back : to_z w64 (of_z w64 c.in-AddV.amount) ≡ c.in-AddV.amount = search rules in
    rw (c.in-AddV.is, c.add_value.ensures, back) (λ h held may keeps.
    let facts = c.args.facts.now in
    let all = may-add_value facts h held c.args.slot c.args.pass c.args.self.now keeps c.in-AddV.group
    c.in-AddV.amount may in
    let is_tree = (kept facts h held c.args.slot c.args.pass may.stands c.args.self.now keeps).base.tree in
    add_value-keeps facts h held c.args.slot c.args.pass may.stands c.args.self.now keeps is_tree c.in-AddV.group
    c.in-AddV.amount all.0 all.1 all.3)

pub returns-in-AddU : goal.returns-in-AddU
returns-in-AddU c =
    let back : to_z w64 (of_z w64 c.in-AddU.amount) ≡ c.in-AddU.amount = search rules in
    let told = rw back at c.add_up.ensures in
    rw (c.in-AddU.is, told.3) (λ h held may keeps.
    let facts = c.args.facts.now in
    let all = may-add_up facts h held c.args.slot c.args.pass c.args.self.now keeps c.in-AddU.group
    c.in-AddU.amount may in
    add_up-keeps facts h held c.args.slot c.args.pass may.stands c.args.self.now keeps c.in-AddU.group
    c.in-AddU.amount told.0 all.0 all.1 told.1 told.2)

pub returns-in-LoadV : goal.returns-in-LoadV
returns-in-LoadV c = rw c.in-LoadV.is (λ h held may keeps.
    load-keeps c.args.facts.now h held c.args.slot c.args.pass may.stands c.args.self.now keeps _ _)

pub returns-in-Split : goal.returns-in-Split
returns-in-Split c = rw c.in-Split.is (λ h held may keeps. let works = may.works in absurd (cc))

pub returns-in-Join : goal.returns-in-Join
returns-in-Join c = rw c.in-Join.is (λ h held may keeps. let works = may.works in absurd (cc))
