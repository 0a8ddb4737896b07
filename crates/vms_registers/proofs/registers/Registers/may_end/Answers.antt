-- A pass lives exactly where a slot holds it.
use Rattle.std.proofs.Common.{sym, true≢false}
use Rattle.vms_registers.specs.Shows.{held_by}
use Rattle.vms_registers.proofs.HeldEvents.{stands-lives}
use Rattle.vms_registers.proofs.Judged.{lives-some, stands-held}
use Rattle.vms_registers.proofs.registers.Registers.may_end.Goals as goal

pub may_end-requires : goal.may_end-requires
may_end-requires g c =
    let m = g.T.Table.machine in
    let cpus_of = g.T.TableRegisters.cpus_of in
    let h = c.requires.0 in
    let shows = rw (← c.self.view_is) at c.requires.1 in (
      h,
      held_by c.self.inside.passes.holders,
      stands-held m cpus_of g.T.TableRegisters.Keeps c.args.facts.now h _ shows c.args.pass c.in-Some.slot
          c.in-Some.ensures,
      shows.own,
    )

pub returns-in-None : goal.returns-in-None
returns-in-None g c = rw (← c.self.view_is) (λ h shows. (
  λ no. absurd (true≢false (sym no)),
  λ may. absurd (lives-some g.T.Table.machine g.T.TableRegisters.cpus_of g.T.TableRegisters.Keeps c.args.facts.now h _
      shows c.args.pass may.1 c.in-None.ensures),
))

pub returns-in-Some : goal.returns-in-Some
returns-in-Some g c = rw (← c.self.view_is) (λ h shows.
    let m = g.T.Table.machine in
    let cpus_of = g.T.TableRegisters.cpus_of in
    let held = held_by c.self.inside.passes.holders in
    let stands = stands-held m cpus_of g.T.TableRegisters.Keeps c.args.facts.now h _ shows c.args.pass
    c.in-Some.slot c.in-Some.ensures in
    let ends = c.may_end.ensures h held stands shows.own in (
      λ yes. (
        c.if-caller-ne0.false,
        stands-lives m c.args.facts.now (cpus_of c.args.facts.now) h held c.in-Some.slot c.args.pass stands,
        ends.0 yes,
      ),
      λ may. ends.1 may.2,
    ))
