-- Each kind of step leaves the registers of the longer history.
use Rattle.std.proofs.Common.{◌≡◌, arith, to_z, of_z, w64, rules}
use Rattle.vms_pcpu_registers.proofs.Bounds.{amount-room, carried-room, count-room, local-room, may-add_local}
use Rattle.vms_pcpu_registers.proofs.Bounds.{volume-room}
use Rattle.vms_pcpu_registers.proofs.ShownConditions.{kept}
use Rattle.vms_pcpu_registers.proofs.ShownSteps.{add_count-keeps, add_local-keeps, load_count-keeps, load_local-keeps}
use Rattle.vms_pcpu_registers.proofs.ShownSteps.{miss-keeps, take-keeps, unlock-keeps, win-keeps}
use Rattle.vms_pcpu_registers.proofs.tables.PcpuRegistersTableRegisters.take.Goals as goal

pub add_local-requires : goal.add_local-requires
add_local-requires c =
    let facts = c.args.facts.now in
    let r = c.args.self.now in
    let may = rw c.in-AddL.is at c.requires.2 in
    let added = may-add_local facts c.requires.0 c.requires.1 c.args.slot c.args.pass r c.requires.3 c.in-AddL.counter
    c.in-AddL.amount may in
    let back : to_z w64 (of_z w64 c.in-AddL.amount) ≡ c.in-AddL.amount = search rules in
    record {
      kept = kept facts c.requires.0 c.requires.1 c.args.slot c.args.pass may.stands r c.requires.3;
      cpu = added.0;
      counter = added.1;
      room = rw back (local-room facts c.requires.0 c.requires.1 c.args.slot c.args.pass r c.requires.3
          c.in-AddL.counter c.in-AddL.amount may);
      volume = rw back (let most = added.3 in omega arith);
    }

pub set_lock-requires : goal.set_lock-requires
set_lock-requires c =
    let may = rw c.in-Won.is at c.requires.2 in
    record {
      kept = kept c.args.facts.now c.requires.0 c.requires.1 c.args.slot c.args.pass may.stands c.args.self.now
          c.requires.3;
      slot = may.stands.slot_in;
      counter = may.meets.counter;
    }

pub take_local-requires : goal.take_local-requires
take_local-requires c =
    let facts = c.args.facts.now in
    let r = c.args.self.now in
    let may = rw c.in-TakeL.is at c.requires.2 in
    let back : to_z w64 (of_z w64 c.in-TakeL.v) ≡ c.in-TakeL.v = search rules in
    record {
      kept = kept facts c.requires.0 c.requires.1 c.args.slot c.args.pass may.stands r c.requires.3;
      slot = may.stands.slot_in;
      counter = may.meets.counter;
      cpu = may.meets.cpu;
      room = rw back (carried-room facts c.requires.0 c.requires.1 c.args.slot c.args.pass r c.requires.3
          c.in-TakeL.counter c.in-TakeL.cpu c.in-TakeL.v may);
    }

pub add_count-requires-clause-kept : goal.add_count-requires-clause-kept
add_count-requires-clause-kept c =
    let may = rw c.in-AddC.is at c.requires.2 in
    kept c.args.facts.now c.requires.0 c.requires.1 c.args.slot c.args.pass may.stands c.args.self.now c.requires.3

pub add_count-requires-clause-room : goal.add_count-requires-clause-room
add_count-requires-clause-room c =
    let may = rw c.in-AddC.is at c.requires.2 in
    let back : to_z w64 (of_z w64 c.in-AddC.added) ≡ c.in-AddC.added = search rules in
    rw back (count-room c.args.facts.now c.requires.0 c.requires.1 c.args.slot c.args.pass c.args.self.now c.requires.3
    c.in-AddC.counter c.in-AddC.added may)

pub add_count-requires-clause-amount : goal.add_count-requires-clause-amount
add_count-requires-clause-amount c =
    let may = rw c.in-AddC.is at c.requires.2 in
    let back : to_z w64 (of_z w64 c.in-AddC.added) ≡ c.in-AddC.added = search rules in
    rw back (amount-room c.args.facts.now c.requires.0 c.requires.1 c.args.slot c.args.pass c.args.self.now c.requires.3
    c.in-AddC.counter c.in-AddC.added may)

pub add_count-requires-clause-volume : goal.add_count-requires-clause-volume
add_count-requires-clause-volume c =
    let may = rw c.in-AddC.is at c.requires.2 in
    let back : to_z w64 (of_z w64 c.in-AddC.added) ≡ c.in-AddC.added = search rules in
    rw back (volume-room c.args.facts.now c.requires.0 c.requires.1 c.args.slot c.args.pass c.args.self.now c.requires.3
    c.in-AddC.counter c.in-AddC.added may)

pub set_lock-requires-in-Unlock : goal.set_lock-requires-in-Unlock
set_lock-requires-in-Unlock c =
    let may = rw c.in-Unlock.is at c.requires.2 in
    record {
      kept = kept c.args.facts.now c.requires.0 c.requires.1 c.args.slot c.args.pass may.stands c.args.self.now
          c.requires.3;
      slot = may.stands.slot_in;
      counter = may.meets.counter;
    }

pub returns-in-AddL : goal.returns-in-AddL
returns-in-AddL c =
    let back : to_z w64 (of_z w64 c.in-AddL.amount) ≡ c.in-AddL.amount = search rules in
    rw (c.in-AddL.is, c.add_local.ensures, back) (λ h held may keeps.
    let facts = c.args.facts.now in
    let added = may-add_local facts h held c.args.slot c.args.pass c.args.self.now keeps c.in-AddL.counter
    c.in-AddL.amount may in
    add_local-keeps facts h held c.args.slot c.args.pass may.stands c.args.self.now keeps c.in-AddL.counter
    c.in-AddL.amount added.0 added.1)

pub returns-in-Won : goal.returns-in-Won
returns-in-Won c = rw (c.in-Won.is, c.set_lock.ensures) (λ h held may keeps.
    win-keeps c.args.facts.now h held c.args.slot c.args.pass may.stands c.args.self.now keeps c.in-Won.counter
    may.meets.counter)

pub returns-in-TakeL : goal.returns-in-TakeL
returns-in-TakeL c =
    let back : to_z w64 (of_z w64 c.in-TakeL.v) ≡ c.in-TakeL.v = search rules in
    rw (c.in-TakeL.is, c.take_local.ensures, back) (λ h held may keeps.
    take-keeps c.args.facts.now h held c.args.slot c.args.pass may.stands c.args.self.now keeps c.in-TakeL.counter
    c.in-TakeL.cpu c.in-TakeL.v may.meets.counter)

pub returns-in-AddC : goal.returns-in-AddC
returns-in-AddC c =
    let back : to_z w64 (of_z w64 c.in-AddC.added) ≡ c.in-AddC.added = search rules in
    rw (c.in-AddC.is, c.add_count.ensures, back) (λ h held may keeps.
    add_count-keeps c.args.facts.now h held c.args.slot c.args.pass may.stands c.args.self.now keeps c.in-AddC.counter
    c.in-AddC.added may.meets.counter)

pub returns-in-Unlock : goal.returns-in-Unlock
returns-in-Unlock c = rw (c.in-Unlock.is, c.set_lock-in-Unlock.ensures) (λ h held may keeps.
    unlock-keeps c.args.facts.now h held c.args.slot c.args.pass may.stands c.args.self.now keeps c.in-Unlock.counter
    may.meets.counter)

pub returns-in-LoadL : goal.returns-in-LoadL
returns-in-LoadL c = rw c.in-LoadL.is (λ h held may keeps.
    load_local-keeps c.args.facts.now h held c.args.slot c.args.pass may.stands c.args.self.now keeps _ _ _)

pub returns-in-LoadC : goal.returns-in-LoadC
returns-in-LoadC c = rw c.in-LoadC.is (λ h held may keeps.
    load_count-keeps c.args.facts.now h held c.args.slot c.args.pass may.stands c.args.self.now keeps _ _)

pub returns-in-Missed : goal.returns-in-Missed
returns-in-Missed c = rw c.in-Missed.is (λ h held may keeps.
    miss-keeps c.args.facts.now h held c.args.slot c.args.pass may.stands c.args.self.now keeps _)

pub returns-in-Split : goal.returns-in-Split
returns-in-Split c = rw c.in-Split.is (λ h held may keeps. let works = may.works in absurd (cc))

pub returns-in-Join : goal.returns-in-Join
returns-in-Join c = rw c.in-Join.is (λ h held may keeps. let works = may.works in absurd (cc))
