-- The slot of the pass that ends is free then.
use Rattle.std.proofs.Common.{subst}
use Rattle.vms_history.specs.Common.{Acts}
use Rattle.vms_registers.specs.Shows.{held_by}
use Rattle.vms_registers.proofs.Judged.{Shows-ends, lives-some}
use Rattle.vms_registers.proofs.registers.Registers.end.Goals as goal

pub returns : goal.returns
returns g c = rw (c.end.ensures, ← c.self.view_is) (λ facts h step shows legal ends.
    Shows-ends g.T.Table.machine g.T.TableRegisters.cpus_of g.T.TableRegisters.Keeps facts h _ shows c.args.pass
    c.in-Some.slot step legal ends c.in-Some.ensures
    (λ next in_slot own. g.met.T.TableRegisters.ends facts h (held_by c.self.inside.passes.holders) next
    c.in-Some.slot c.args.pass step c.self.inside.own in_slot own))

-- a pass that may end lives, so some slot holds it
pub returns-in_default : goal.returns-in_default
returns-in_default g c = rw (← c.self.view_is) (λ facts h step shows legal ends.
    let acts = subst (Acts g.T.Table.machine facts h 0) ends legal.1 in
    absurd (lives-some g.T.Table.machine g.T.TableRegisters.cpus_of g.T.TableRegisters.Keeps facts h _ shows c.args.pass
    acts.1 c.in_default.ensures))
