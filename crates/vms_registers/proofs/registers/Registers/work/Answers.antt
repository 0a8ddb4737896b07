-- The pass that makes a step stands in its slot.
use Rattle.vms_registers.specs.Shows.{held_by}
use Rattle.vms_registers.proofs.Judged.{Shows-works, may-work}
use Rattle.vms_registers.proofs.registers.Registers.work.Goals as goal

pub take-requires : goal.take-requires
take-requires g c =
    let m = g.T.Table.machine in
    let h = c.requires.0 in
    let shows = rw (← c.self.view_is) at c.requires.1 in (
      h,
      held_by c.self.inside.passes.holders,
      may-work m g.T.TableRegisters.cpus_of g.T.TableRegisters.Keeps c.args.facts.now h _ shows c.args.caller
          c.in-Some.slot c.args.step.now c.in-Some.ensures c.requires.2 c.requires.3 c.requires.4,
      shows.own,
    )

pub returns : goal.returns
returns g c = rw (c.look_at.ensures, ← c.self.view_is) (λ h shows legal short works.
    let m = g.T.Table.machine in
    let cpus_of = g.T.TableRegisters.cpus_of in
    let facts = c.args.facts.now in
    let may = may-work m cpus_of g.T.TableRegisters.Keeps facts h _ shows c.args.caller c.in-Some.slot c.args.step.now
    c.in-Some.ensures legal short works in
    Shows-works m cpus_of g.T.TableRegisters.Keeps facts h _ shows c.args.caller c.args.step.now c.take.new.self
    c.in-Some.ensures.0 legal
    (c.take.ensures h (held_by c.self.inside.passes.holders) may shows.own))
