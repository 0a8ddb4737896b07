-- The lists fit the layout, the numbers that a step names stand in them, and sums fit.
use Rattle.std.proofs.Common.{rules, SFits, w64}
use Rattle.std.proofs.lemmas.Int.{to_z-of_z}
use Rattle.vms_page_words.proofs.Bounds.{mark_sets-room, system-room, threshold_sets-room, value-room}
use Rattle.vms_page_words.proofs.WordsKept.{shaped}
use Rattle.vms_page_words.proofs.words.PageWords.take.Goals as goal

pub put-requires-clause-shaped : goal.put-requires-clause-shaped
put-requires-clause-shaped c =
    shaped c.args.facts.now c.requires.0 c.requires.1 c.args.slot c.requires.2 c.requires.3.stands c.args.self.now
    c.requires.4

pub add_to_place-requires-clause-counter : goal.add_to_place-requires-clause-counter
add_to_place-requires-clause-counter c =
    let may = rw c.in-AddG.is at c.requires.3 in
    let fits = shaped c.args.facts.now c.requires.0 c.requires.1 c.args.slot c.requires.2 may.stands c.args.self.now
    c.requires.4 in
    rw fits.place may.meets.counter

pub add_to_place-requires-clause-room : goal.add_to_place-requires-clause-room
add_to_place-requires-clause-room c =
    let may = rw c.in-AddG.is at c.requires.3 in
    let fits : SFits w64 c.in-AddG.amount = search rules in
    rw (to_z-of_z w64 c.in-AddG.amount fits)
    (value-room c.args.facts.now c.requires.0 c.requires.1 c.args.slot c.requires.2 c.args.self.now c.requires.4
    c.in-AddG.counter c.in-AddG.amount may)

pub add_to_system-requires-clause-item : goal.add_to_system-requires-clause-item
add_to_system-requires-clause-item c =
    let may = rw c.in-AddS.is at c.requires.3 in
    let fits = shaped c.args.facts.now c.requires.0 c.requires.1 c.args.slot c.requires.2 may.stands c.args.self.now
    c.requires.4 in
    rw fits.system may.meets.item

pub add_to_system-requires-clause-room : goal.add_to_system-requires-clause-room
add_to_system-requires-clause-room c =
    let may = rw c.in-AddS.is at c.requires.3 in
    let fits : SFits w64 c.in-AddS.amount = search rules in
    rw (to_z-of_z w64 c.in-AddS.amount fits)
    (system-room c.args.facts.now c.requires.0 c.requires.1 c.args.slot c.requires.2 c.args.self.now c.requires.4
    c.in-AddS.item c.in-AddS.amount may)

pub zero_group-requires-clause-shaped : goal.zero_group-requires-clause-shaped
zero_group-requires-clause-shaped c =
    shaped c.args.facts.now c.requires.0 c.requires.1 c.args.slot c.requires.2 c.requires.3.stands c.args.self.now
    c.requires.4

pub set_threshold-requires-clause-shaped : goal.set_threshold-requires-clause-shaped
set_threshold-requires-clause-shaped c =
    shaped c.args.facts.now c.requires.0 c.requires.1 c.args.slot c.requires.2 c.requires.3.stands c.args.self.now
    c.requires.4

pub set_threshold-requires-clause-room : goal.set_threshold-requires-clause-room
set_threshold-requires-clause-room c =
    let may = rw c.in-SetT.is at c.requires.3 in
    threshold_sets-room c.args.facts.now c.requires.0 c.requires.1 c.args.slot c.requires.2 _ may c.args.self.now
    c.requires.4 c.in-SetT.cpu.number c.in-SetT.place.number may.meets.cpu may.meets.place

pub set_mark-requires-clause-shaped : goal.set_mark-requires-clause-shaped
set_mark-requires-clause-shaped c =
    shaped c.args.facts.now c.requires.0 c.requires.1 c.args.slot c.requires.2 c.requires.3.stands c.args.self.now
    c.requires.4

pub set_mark-requires-clause-room : goal.set_mark-requires-clause-room
set_mark-requires-clause-room c =
    let may = rw c.in-SetM.is at c.requires.3 in
    mark_sets-room c.args.facts.now c.requires.0 c.requires.1 c.args.slot c.requires.2 _ may c.args.self.now
    c.requires.4 c.in-SetM.zone.number may.meets.zone

pub set_absent-requires-clause-shaped : goal.set_absent-requires-clause-shaped
set_absent-requires-clause-shaped c =
    shaped c.args.facts.now c.requires.0 c.requires.1 c.args.slot c.requires.2 c.requires.3.stands c.args.self.now
    c.requires.4

pub acknowledge-requires-clause-shaped : goal.acknowledge-requires-clause-shaped
acknowledge-requires-clause-shaped c =
    shaped c.args.facts.now c.requires.0 c.requires.1 c.args.slot c.requires.2 c.requires.3.stands c.args.self.now
    c.requires.4
