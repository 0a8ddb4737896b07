-- A line that is ignored, and one that ends the phase alone.
use Rattle.std.proofs.Common.{rules, ◌≡◌, Ok, refl, sym, subst}
use Rattle.std.specs.Prelude.{Result}
use Rattle.vms_group_lines.specs.declared.causes.GroupCause.{GroupCause}
use Rattle.vms_group_lines.specs.declared.lines.GroupLine.{GroupLine}
use Rattle.vms_group_lines.specs.declared.lines.GroupLine.TheVariants.{Blank, Sync}
use Rattle.vms_groups.specs.GroupStates.{TakesJudged}
use Rattle.vms_groups.proofs.EndedPhases.{TakesJudged-sync}
use Rattle.vms_groups.proofs.PhaseLines.{PhaseStands-blank, TakesJudged-going_on, prints-nothing}
use Rattle.vms_groups.proofs.TextWaits.{printed_now-nothing}
use Rattle.vms_groups.proofs.open_phases.OpenPhase.take.Goals as goal

pub returns-in-Ok-Blank : goal.returns-in-Ok-Blank
returns-in-Ok-Blank g c =
    let self = c.args.self.now in
    let header = c.args.header.now in
    let n = c.args.number in
    let made = g.E.GroupEngine.made c.args.engine.now in
    let out = c.args.out.now.items in
    let is : c.args.judged ≡ Ok Blank = first_of (search rules, cc) in
    subst (λ (judged : Result GroupLine GroupCause). TakesJudged header n judged self self made made (Ok tt) out out)
    (sym is)
    (TakesJudged-going_on header n (Ok Blank) self self made (Ok tt) out out (λ kept. refl)
    (λ kept texts stands may. record {
      prints = prints-nothing out _ (printed_now-nothing texts);
      stands = PhaseStands-blank header kept texts self self stands refl;
    }))

pub returns-in-Ok-Sync : goal.returns-in-Ok-Sync
returns-in-Ok-Sync g c =
    let header = c.args.header.now in
    let is : c.args.judged ≡ Ok Sync = first_of (search rules, cc) in
    subst (λ (judged : Result GroupLine GroupCause). TakesJudged header c.args.number judged c.args.self.now
    c.end.new.self (g.E.GroupEngine.made c.args.engine.now) (g.E.GroupEngine.made c.end.new.engine) c.end.result
    c.args.out.now.items c.end.new.out.items)
    (sym is)
    (TakesJudged-sync header c.args.number c.args.self.now c.end.new.self _ _ c.args.out.now.items c.end.new.out.items
    c.end.result c.end.ensures)
