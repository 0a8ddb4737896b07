-- The slot of a pass that may begin is free, and holds it then.
use Rattle.std.proofs.Common.{◌≡◌, ◌<◌, Some, subst}
use Rattle.vms_history.specs.Common.{CpuId, Acts}
use Rattle.vms_history.proofs.Common.{base_can_begin}
use Rattle.vms_registers.specs.Shows.{held_by}
use Rattle.vms_registers.specs.Slots.{slot_of}
use Rattle.vms_registers.proofs.Judged.{Shows-begins, slot-within}
use Rattle.vms_registers.proofs.registers.Registers.begin.Goals as goal

pub cpus-requires : goal.cpus-requires
cpus-requires g c = base_can_begin g.T.Table.machine c.args.facts.now c.requires.0 c.requires.2.legal

pub begin-requires : goal.begin-requires
begin-requires g c =
    let m = g.T.Table.machine in
    let facts = c.args.facts.now in
    let h = c.requires.0 in
    let shows = rw (← c.self.view_is) at c.requires.2 in
    let acts = subst (Acts m facts h 0) c.requires.4 c.requires.3.1 in
    let within : (cpu : CpuId) → c.args.who ≡ Some cpu → cpu.number < g.T.TableRegisters.cpus_of facts =
    λ cpu is. rw (← c.cpus.ensures.value) (c.cpus.ensures.owned cpu (subst (m.MayOwn facts) is acts.2)) in
    rw (c.slot_at.ensures, c.cpus.ensures.value)
    (slot-within m g.T.TableRegisters.cpus_of g.T.TableRegisters.Keeps facts h _ shows c.args.who within)

pub returns : goal.returns
returns g c = rw (c.begin.ensures, c.slot_at.ensures, c.cpus.ensures.value, ← c.self.view_is)
    (λ h step shows legal begins.
    let m = g.T.Table.machine in
    let facts = c.args.facts.now in
    let acts = subst (Acts m facts h 0) begins legal.1 in
    let within : (cpu : CpuId) → c.args.who ≡ Some cpu → cpu.number < g.T.TableRegisters.cpus_of facts =
    λ cpu is. rw (← c.cpus.ensures.value) (c.cpus.ensures.owned cpu (subst (m.MayOwn facts) is acts.2)) in
    Shows-begins m g.T.TableRegisters.cpus_of g.T.TableRegisters.Keeps facts h _ shows c.args.pass c.args.who step legal
    begins within
    (λ next in_slot own. g.met.T.TableRegisters.begins facts h (held_by c.self.inside.passes.holders) next
    (slot_of (g.T.TableRegisters.cpus_of facts) c.args.who) c.args.pass step c.self.inside.own in_slot own))
