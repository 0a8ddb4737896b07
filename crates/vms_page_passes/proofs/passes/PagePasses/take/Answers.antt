-- Each kind of step leaves what the longer history asks.
use Rattle.std.proofs.Common.{◌≡◌, ◌%◌, pos, get_or, to_z, of_z, w64, rules, refl, ◌∙◌, arith}
use Rattle.std.proofs.lemmas.Int.{ints}
use Rattle.vms_history.specs.Common.{item_of}
use Rattle.vms_base.proofs.Common.{item_of-lt}
use Rattle.vms_cells.specs.Cells.{at}
use Rattle.vms_page_passes.proofs.ShownConditions.{carried-here, carried_of_item-here, has_room, is_layout, kept}
use Rattle.vms_page_passes.proofs.Slots.{slot-owned}
use Rattle.vms_page_passes.proofs.TakenSteps.{add-keeps, add_to_system-keeps, find-keeps, load-keeps, miss-keeps}
use Rattle.vms_page_passes.proofs.TakenSteps.{put-keeps, same-keeps, take-keeps}
use Rattle.vms_page_passes.proofs.passes.PagePasses.take.Goals as goal

pub put-requires-clause-kept : goal.put-requires-clause-kept
put-requires-clause-kept c =
    kept c.args.facts.now c.requires.0 c.requires.1 c.args.slot c.args.pass c.requires.2.stands c.args.self.now
    c.requires.3

pub put-requires-clause-slot : goal.put-requires-clause-slot
put-requires-clause-slot c =
    let may = rw c.in-Put.is at c.requires.2 in
    let meets = may.meets in
    (slot-owned c.args.facts.now c.requires.0 c.requires.1 c.args.slot c.args.pass may.stands meets.cpu meets.owns).0

pub put-requires-clause-counter_room : goal.put-requires-clause-counter_room
put-requires-clause-counter_room c =
    let facts = c.args.facts.now in
    let may = rw c.in-Put.is at c.requires.2 in
    let meets = may.meets in
    let none : at c.args.self.now.carried.by_counter c.args.slot c.in-Put.counter.number (pos 0) ≡ pos 0 =
    carried-here facts c.requires.0 c.requires.1 c.args.slot c.args.pass may.stands c.args.self.now c.requires.3
    c.in-Put.counter.number meets.counter
    ∙ meets.nothing_carried.counters c.in-Put.counter.number in
    rw none (omega (arith, ints, c.change-changed.ensures.bound))

pub put-requires-clause-item_room : goal.put-requires-clause-item_room
put-requires-clause-item_room c =
    let facts = c.args.facts.now in
    let may = rw c.in-Put.is at c.requires.2 in
    let meets = may.meets in
    let i = item_of facts.layout c.in-Put.counter.number in
    let layout = is_layout facts c.requires.0 c.requires.1 c.args.slot c.args.pass may.stands c.args.self.now
    c.requires.3 in
    let none : at c.args.self.now.carried.by_item c.args.slot i (pos 0) ≡ pos 0 =
    carried_of_item-here facts c.requires.0 c.requires.1 c.args.slot c.args.pass may.stands c.args.self.now
    c.requires.3 i (item_of-lt facts.layout layout c.in-Put.counter.number)
    ∙ meets.nothing_carried.items i in
    rw none (omega (arith, ints, c.change-changed.ensures.bound))

pub take_group-requires-clause-kept : goal.take_group-requires-clause-kept
take_group-requires-clause-kept c =
    kept c.args.facts.now c.requires.0 c.requires.1 c.args.slot c.args.pass c.requires.2.stands c.args.self.now
    c.requires.3

pub take_group-requires-clause-room : goal.take_group-requires-clause-room
take_group-requires-clause-room c =
    has_room c.args.facts.now c.requires.0 c.requires.1 c.args.slot c.args.pass c.requires.2.stands c.args.self.now
    c.requires.3

pub returns-in-LoadT : goal.returns-in-LoadT
returns-in-LoadT c = rw (c.in-LoadT.is, c.load.ensures) (λ h held may keeps.
    let facts = c.args.facts.now in
    let meets = may.meets in
    load-keeps facts h held c.args.slot c.args.pass may.stands c.args.self.now keeps _ _ _
    (slot-owned facts h held c.args.slot c.args.pass may.stands meets.cpu meets.owns).0 meets.place)

pub returns-in-LoadD : goal.returns-in-LoadD
returns-in-LoadD c = rw (c.in-LoadD.is, c.find.ensures) (λ h held may keeps.
    let meets = may.meets in
    find-keeps c.args.facts.now h held c.args.slot c.args.pass may.stands c.args.self.now keeps _ _ c.in-LoadD.list
    meets.cpu meets.group)

pub returns-in-Put : goal.returns-in-Put
returns-in-Put c =
    let facts = c.args.facts.now in
    let found = get_or c.in-Put.list.values (c.in-Put.counter.number % 8) (pos 0) in
    let found_kept : to_z w64 (of_z w64 found) ≡ found = search rules in
    let delta_kept : to_z w64 (of_z w64 c.in-Put.delta) ≡ c.in-Put.delta = search rules in
    let differential = rw (found_kept, delta_kept) at c.change-changed.ensures.differential in
    let amount = rw (found_kept, delta_kept) at c.change-changed.ensures.carried in
    let founds = rw differential at c.put.ensures.found in
    let carries = rw amount at c.put.ensures.carried in
    rw c.in-Put.is (λ h held may keeps.
    let meets = may.meets in
    put-keeps facts h held c.args.slot c.args.pass may.stands c.args.self.now keeps c.in-Put.counter c.in-Put.list
    c.in-Put.t c.in-Put.delta c.in-Put.mode c.put.new.self
    (slot-owned facts h held c.args.slot c.args.pass may.stands meets.cpu meets.owns).0 meets.counter founds
    c.put.ensures.loaded carries)

pub returns-in-Miss : goal.returns-in-Miss
returns-in-Miss c = rw (c.in-Miss.is, c.find-in-Miss.ensures) (λ h held may keeps.
    let facts = c.args.facts.now in
    let meets = may.meets in
    miss-keeps facts h held c.args.slot c.args.pass may.stands c.args.self.now keeps _ _
    (slot-owned facts h held c.args.slot c.args.pass may.stands meets.cpu meets.owns).0 meets.group)

pub returns-in-AddG : goal.returns-in-AddG
returns-in-AddG c = rw c.in-AddG.is (λ h held may keeps.
    add-keeps c.args.facts.now h held c.args.slot c.args.pass may.stands c.args.self.now keeps _ _ _ may.meets
    c.drop_counter.ensures)

pub returns-in-AddS : goal.returns-in-AddS
returns-in-AddS c = rw c.in-AddS.is (λ h held may keeps.
    add_to_system-keeps c.args.facts.now h held c.args.slot c.args.pass may.stands c.args.self.now keeps _ _ _ may.meets
    c.drop_item.ensures)

pub returns-in-Take : goal.returns-in-Take
returns-in-Take c = rw c.in-Take.is (λ h held may keeps.
    let meets = may.meets in
    take-keeps c.args.facts.now h held c.args.slot c.args.pass may.stands c.args.self.now keeps _ _ _ _ meets.cpu
    meets.group c.take_group.ensures.found c.take_group.ensures.loaded c.take_group.ensures.carried)

pub returns-in-LoadG : goal.returns-in-LoadG
returns-in-LoadG c = rw c.in-LoadG.is (λ h held may keeps.
    same-keeps c.args.facts.now h held c.args.slot c.args.pass may.stands c.args.self.now keeps _ (λ j. refl)
    (λ g. refl) (λ k. refl) (λ i. refl))

pub returns-in-LoadS : goal.returns-in-LoadS
returns-in-LoadS c = rw c.in-LoadS.is (λ h held may keeps.
    same-keeps c.args.facts.now h held c.args.slot c.args.pass may.stands c.args.self.now keeps _ (λ j. refl)
    (λ g. refl) (λ k. refl) (λ i. refl))

pub returns-in-LoadM : goal.returns-in-LoadM
returns-in-LoadM c = rw c.in-LoadM.is (λ h held may keeps.
    same-keeps c.args.facts.now h held c.args.slot c.args.pass may.stands c.args.self.now keeps _ (λ j. refl)
    (λ g. refl) (λ k. refl) (λ i. refl))

pub returns-in-LoadO : goal.returns-in-LoadO
returns-in-LoadO c = rw c.in-LoadO.is (λ h held may keeps.
    same-keeps c.args.facts.now h held c.args.slot c.args.pass may.stands c.args.self.now keeps _ (λ j. refl)
    (λ g. refl) (λ k. refl) (λ i. refl))

pub returns-in-SetT : goal.returns-in-SetT
returns-in-SetT c = rw c.in-SetT.is (λ h held may keeps.
    same-keeps c.args.facts.now h held c.args.slot c.args.pass may.stands c.args.self.now keeps _ (λ j. refl)
    (λ g. refl) (λ k. refl) (λ i. refl))

pub returns-in-SetM : goal.returns-in-SetM
returns-in-SetM c = rw c.in-SetM.is (λ h held may keeps.
    same-keeps c.args.facts.now h held c.args.slot c.args.pass may.stands c.args.self.now keeps _ (λ j. refl)
    (λ g. refl) (λ k. refl) (λ i. refl))

pub returns-in-SetO : goal.returns-in-SetO
returns-in-SetO c = rw c.in-SetO.is (λ h held may keeps.
    same-keeps c.args.facts.now h held c.args.slot c.args.pass may.stands c.args.self.now keeps _ (λ j. refl)
    (λ g. refl) (λ k. refl) (λ i. refl))

pub returns-in-SetA : goal.returns-in-SetA
returns-in-SetA c = rw c.in-SetA.is (λ h held may keeps.
    same-keeps c.args.facts.now h held c.args.slot c.args.pass may.stands c.args.self.now keeps _ (λ j. refl)
    (λ g. refl) (λ k. refl) (λ i. refl))

pub returns-in-LoadA : goal.returns-in-LoadA
returns-in-LoadA c = rw c.in-LoadA.is (λ h held may keeps.
    same-keeps c.args.facts.now h held c.args.slot c.args.pass may.stands c.args.self.now keeps _ (λ j. refl)
    (λ g. refl) (λ k. refl) (λ i. refl))
