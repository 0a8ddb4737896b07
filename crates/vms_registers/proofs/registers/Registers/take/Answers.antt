-- A step that works goes to the pass in its slot, and one of the main pass begins or ends a pass.
use Rattle.std.proofs.Common.{◌≡◌, ◌∷◌, ap, sym, ◌∙◌, subst}
use Rattle.vms_history.specs.Common.{Acts, IsLegal, Begins, Ends}
use Rattle.vms_judge.specs.Roles.{role_of}
use Rattle.vms_registers.specs.Shows.{Shows}
use Rattle.vms_registers.proofs.registers.Registers.take.Goals as goal

pub work-requires : goal.work-requires
work-requires g c =
    (c.requires.0, c.requires.1, c.requires.2, c.requires.3, sym c.role.ensures ∙ ap role_of c.in-Works.is)

pub begin-requires : goal.begin-requires
begin-requires g c =
    let m = g.T.Table.machine in
    let facts = c.args.facts.now in
    let h = c.requires.0 in
    let step = c.args.step.now in
    let is : m.role step ≡ Begins c.in-Begins.pass c.in-Begins.who =
    sym c.role.ensures ∙ ap role_of c.in-Begins.is in
    let main = (subst (Acts m facts h c.args.caller) is c.requires.2.1).0 in (
      h,
      step,
      c.requires.1,
      subst (λ p. IsLegal m facts (record { caller = p; step = step } ∷ h)) main c.requires.2,
      is,
    )

pub returns-in-Works : goal.returns-in-Works
returns-in-Works g c = λ h shows legal short.
    c.work.ensures h shows legal short (sym c.role.ensures ∙ ap role_of c.in-Works.is)

pub returns-in-Begins : goal.returns-in-Begins
returns-in-Begins g c = λ h shows legal short.
    let m = g.T.Table.machine in
    let facts = c.args.facts.now in
    let step = c.args.step.now in
    let is : m.role step ≡ Begins c.in-Begins.pass c.in-Begins.who =
    sym c.role.ensures ∙ ap role_of c.in-Begins.is in
    let main = (subst (Acts m facts h c.args.caller) is legal.1).0 in
    subst (λ p. Shows m g.T.TableRegisters.cpus_of g.T.TableRegisters.Keeps facts
    (record { caller = p; step = step } ∷ h) c.begin.new.self) (sym main)
    (c.begin.ensures h step shows
    (subst (λ p. IsLegal m facts (record { caller = p; step = step } ∷ h)) main legal) is)

pub returns-in-Ends : goal.returns-in-Ends
returns-in-Ends g c = λ h shows legal short.
    let m = g.T.Table.machine in
    let facts = c.args.facts.now in
    let step = c.args.step.now in
    let is : m.role step ≡ Ends c.in-Ends.pass = sym c.role.ensures ∙ ap role_of c.in-Ends.is in
    let main = (subst (Acts m facts h c.args.caller) is legal.1).0 in
    subst (λ p. Shows m g.T.TableRegisters.cpus_of g.T.TableRegisters.Keeps facts
    (record { caller = p; step = step } ∷ h) c.end.new.self) (sym main)
    (c.end.ensures facts h step shows
    (subst (λ p. IsLegal m facts (record { caller = p; step = step } ∷ h)) main legal) is)
