-- Each kind of step leaves the peaks of the longer history.
use Rattle.std.proofs.Common.{◌≡◌, ℕ, Some, ap, arith, of_z, rules, sym, to_z, w64, ◌∙◌}
use Rattle.vms_history.specs.Common.{CpuId, Dead, Online, owner_in}
use Rattle.vms_core.specs.Common.{cpu_in, role}
use Rattle.vms_core.proofs.Common.{cpu_at-state_after}
use Rattle.vms_page_peaks.proofs.KeptSteps.{IsOther-left, KeepsPeaks-absent, KeepsPeaks-other, KeepsPeaks-put}
use Rattle.vms_page_peaks.proofs.KeptSteps.{KeepsPeaks-raised, KeepsPeaks-settled}
use Rattle.vms_page_peaks.proofs.RaisedSums.{part, small}
use Rattle.vms_page_peaks.proofs.Slots.{slot-owned}
use Rattle.vms_page_peaks.proofs.peaks.PagePeaks.take.Goals as goal

pub raise-requires-clause-part : goal.raise-requires-clause-part
raise-requires-clause-part c = λ within.
    let facts = c.args.facts.now in
    let h = c.requires.0 in
    let may = rw c.in-SetT.is at c.requires.3 in
    let online : cpu_in facts c.in-SetT.cpu.number h ≡ Online =
    sym (cpu_at-state_after facts h may.stands.legal c.in-SetT.cpu.number may.meets.cpu) ∙ may.meets.online in
    rw online at (part facts h c.args.self.now c.requires.4 c.in-SetT.cpu.number c.in-SetT.place.number may.meets.cpu
    (omega (arith, c.requires.4.one_sum_each)))

pub raise-requires-clause-room : goal.raise-requires-clause-room
raise-requires-clause-room c = λ within.
    let few = small c.args.facts.now c.requires.0 c.args.self.now c.requires.4 c.requires.3.stands.legal
    c.in-SetT.place.number (omega (arith, c.requires.4.one_sum_each)) in
    omega arith

pub settle-requires-clause-part : goal.settle-requires-clause-part
settle-requires-clause-part c =
    let may = rw c.in-LoadA.is at c.requires.3 in
    let told = rw c.in-LoadA.is at c.requires.5 in
    rw told.cpu (part c.args.facts.now c.requires.0 c.args.self.now c.requires.4 c.in-LoadA.cpu.number
    c.in-LoadA.zone.number may.meets.cpu may.meets.zone)

pub settle-requires-clause-room : goal.settle-requires-clause-room
settle-requires-clause-room c =
    let may = rw c.in-LoadA.is at c.requires.3 in
    let few = small c.args.facts.now c.requires.0 c.args.self.now c.requires.4 may.stands.legal c.in-LoadA.zone.number
    may.meets.zone in
    omega arith

pub take_out-requires-clause-part : goal.take_out-requires-clause-part
take_out-requires-clause-part c = λ g within.
    let facts = c.args.facts.now in
    let h = c.requires.0 in
    let may = rw c.in-SetO.is at c.requires.3 in
    let dead : cpu_in facts c.in-SetO.cpu.number h ≡ Dead =
    sym (cpu_at-state_after facts h may.stands.legal c.in-SetO.cpu.number may.meets.cpu) ∙ may.meets.dead in
    rw dead at (part facts h c.args.self.now c.requires.4 c.in-SetO.cpu.number g may.meets.cpu
    (omega (arith, c.requires.4.one_sum_each)))

pub returns-in-Put : goal.returns-in-Put
returns-in-Put c =
    let delta : to_z w64 (of_z w64 c.in-Put.delta) ≡ c.in-Put.delta = search rules in
    rw (c.in-Put.is, c.spend.ensures, delta) (λ h held p may keeps told.
    let facts = c.args.facts.now in
    let owned = slot-owned facts h held c.args.slot p may.stands may.meets.cpu may.meets.owns.owner in
    let owner : owner_in role h p ≡ Some (record { number = c.args.slot }) =
    may.meets.owns.owner ∙ ap (λ (n : ℕ). let o : CpuId = record { number = n } in Some o) owned.1 in
    KeepsPeaks-put facts h p c.args.self.now keeps (record { number = c.args.slot }) c.in-Put.counter c.in-Put.field-1
    c.in-Put.field-2 c.in-Put.delta c.in-Put.field-4 owner owned.0 may.meets.counter)

pub returns-in-SetT : goal.returns-in-SetT
returns-in-SetT c = rw c.in-SetT.is (λ h held p may keeps told.
    let facts = c.args.facts.now in
    let online : cpu_in facts c.in-SetT.cpu.number h ≡ Online =
    sym (cpu_at-state_after facts h may.stands.legal c.in-SetT.cpu.number may.meets.cpu) ∙ may.meets.online in
    KeepsPeaks-raised facts h p c.args.self.now keeps c.in-SetT.cpu c.in-SetT.place c.in-SetT.t c.raise.new.self
    may.meets.cpu online c.raise.ensures.node c.raise.ensures.zone)

pub returns-in-LoadA : goal.returns-in-LoadA
returns-in-LoadA c = rw c.in-LoadA.is (λ h held p may keeps told.
    KeepsPeaks-settled c.args.facts.now h p c.args.self.now keeps c.in-LoadA.cpu c.in-LoadA.zone c.in-LoadA.told
    c.args.newest c.settle.new.self may.meets.cpu may.meets.zone told c.settle.ensures.other c.settle.ensures.newest)

pub returns-in-SetO : goal.returns-in-SetO
returns-in-SetO c = rw c.in-SetO.is (λ h held p may keeps told.
    let facts = c.args.facts.now in
    let dead : cpu_in facts c.in-SetO.cpu.number h ≡ Dead =
    sym (cpu_at-state_after facts h may.stands.legal c.in-SetO.cpu.number may.meets.cpu) ∙ may.meets.dead in
    KeepsPeaks-absent facts h p c.args.self.now keeps c.in-SetO.cpu c.take_out.new.sums may.meets.cpu dead
    c.take_out.ensures.zones c.take_out.ensures.rest)

pub returns-in_default : goal.returns-in_default
returns-in_default c = λ h held p may keeps told.
    KeepsPeaks-other c.args.facts.now h p c.args.self.now keeps c.args.step.now
    (IsOther-left c.args.step.now c.in_default.not-Put c.in_default.not-SetT c.in_default.not-SetO
    c.in_default.not-LoadA)
