-- Each kind of step leaves the registers of the longer history.
use Rattle.std.proofs.Common.{arith}
use Rattle.vms_event_registers.proofs.Bounds.{add-room, carried-small, count-room, may-count, stood-small}
use Rattle.vms_event_registers.proofs.ShownConditions.{adds, kept, takes}
use Rattle.vms_event_registers.proofs.ShownSteps.{add-keeps, count-keeps, load-keeps, take-keeps}
use Rattle.vms_event_registers.proofs.tables.EventRegistersTableRegisters.take.Goals as goal

pub count-requires : goal.count-requires
count-requires c =
    let facts = c.args.facts.now in
    let r = c.args.self.now in
    let may = rw c.in-AddE.is at c.requires.2 in
    let counted = may-count facts c.requires.0 c.requires.1 c.args.slot c.args.pass c.in-AddE.event c.in-AddE.n may r
    c.requires.3 in
    record {
      kept = kept facts c.requires.0 c.requires.1 c.args.slot c.args.pass may.stands r c.requires.3;
      cpu = counted.0;
      event = counted.1;
      word = count-room facts c.requires.0 c.requires.1 c.args.slot c.args.pass c.in-AddE.event c.in-AddE.n may r
          c.requires.3;
      volume = let most = counted.2 in omega arith;
    }

pub carry-requires : goal.carry-requires
carry-requires c =
    let facts = c.args.facts.now in
    let r = c.args.self.now in
    let may = rw c.in-TakeE.is at c.requires.2 in
    let taken = (takes facts c.requires.0 c.requires.1 c.args.slot c.args.pass may.stands r c.requires.3 c.in-TakeE.cpu
    c.in-TakeE.event c.in-TakeE.v).1 may.meets in
    let small = stood-small facts c.requires.0 c.requires.1 c.args.slot c.args.pass _ may r c.requires.3
    c.in-TakeE.cpu.number c.in-TakeE.event.number taken.2 taken.3 in
    record {
      kept = kept facts c.requires.0 c.requires.1 c.args.slot c.args.pass may.stands r c.requires.3;
      slot = may.stands.slot_in;
      cpu = taken.2;
      event = taken.3;
      small = let is = taken.4 in omega arith;
      room = carried-small facts c.requires.0 c.requires.1 c.args.slot c.args.pass _ may r c.requires.3
          c.in-TakeE.event.number taken.3;
    }

pub put_down-requires : goal.put_down-requires
put_down-requires c =
    let facts = c.args.facts.now in
    let r = c.args.self.now in
    let may = rw c.in-AddF.is at c.requires.2 in
    record {
      kept = kept facts c.requires.0 c.requires.1 c.args.slot c.args.pass may.stands r c.requires.3;
      slot = may.stands.slot_in;
      cpu = may.meets.cpu;
      event = may.meets.event;
      word = add-room facts c.requires.0 c.requires.1 c.args.slot c.args.pass c.in-AddF.cpu c.in-AddF.event c.in-AddF.v
          may r c.requires.3;
    }

pub returns-in-AddE : goal.returns-in-AddE
returns-in-AddE c = rw (c.in-AddE.is, c.count.ensures) (λ h held may keeps.
    let facts = c.args.facts.now in
    let counted = may-count facts h held c.args.slot c.args.pass c.in-AddE.event c.in-AddE.n may c.args.self.now
    keeps in
    count-keeps facts h held c.args.slot c.args.pass may.stands c.args.self.now keeps c.in-AddE.event c.in-AddE.n
    counted.0
    counted.1)

pub returns-in-TakeE : goal.returns-in-TakeE
returns-in-TakeE c = rw (c.in-TakeE.is, c.carry.ensures) (λ h held may keeps.
    let facts = c.args.facts.now in
    let taken = (takes facts h held c.args.slot c.args.pass may.stands c.args.self.now keeps c.in-TakeE.cpu
    c.in-TakeE.event
    c.in-TakeE.v).1 may.meets in
    take-keeps facts h held c.args.slot c.args.pass may.stands c.args.self.now keeps c.in-TakeE.cpu c.in-TakeE.event
    c.in-TakeE.v
    taken.0 taken.3)

pub returns-in-AddF : goal.returns-in-AddF
returns-in-AddF c = rw (c.in-AddF.is, c.put_down.ensures) (λ h held may keeps.
    let facts = c.args.facts.now in
    let added = (adds facts h held c.args.slot c.args.pass may.stands c.args.self.now keeps c.in-AddF.cpu
    c.in-AddF.event
    c.in-AddF.v).1 may.meets in
    add-keeps facts h held c.args.slot c.args.pass may.stands c.args.self.now keeps c.in-AddF.cpu c.in-AddF.event
    c.in-AddF.v
    added.1 added.2)

pub returns-in-LoadE : goal.returns-in-LoadE
returns-in-LoadE c = rw c.in-LoadE.is (λ h held may keeps.
    load-keeps c.args.facts.now h held c.args.slot c.args.pass may.stands c.args.self.now keeps _ _ _)

pub returns-in-Split : goal.returns-in-Split
returns-in-Split c = rw c.in-Split.is (λ h held may keeps. let works = may.works in absurd (cc))

pub returns-in-Join : goal.returns-in-Join
returns-in-Join c = rw c.in-Join.is (λ h held may keeps. let works = may.works in absurd (cc))
