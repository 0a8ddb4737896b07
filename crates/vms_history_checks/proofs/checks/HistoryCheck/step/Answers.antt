-- What the line says is taken as it is.
use Rattle.std.proofs.Common.{◌≡◌, refl, sym, ap, subst, ◌∙◌, arith}
use Rattle.std.specs.Prelude.{Option, Some}
use Rattle.vms_written_lines.specs.declared.lines.WrittenLine.{WrittenLine}
use Rattle.vms_written_lines.specs.declared.lines.WrittenLine.TheVariants.{Blank, Event, Phase}
use Rattle.vms_written_lines.specs.Lines.{read_line}
use Rattle.vms_phase_checks.specs.declared.faults.EventCause.TheVariants.{BadEvent}
use Rattle.vms_history_checks.specs.Accepts.{IsLineFault}
use Rattle.vms_history_checks.specs.Said.{with_said}
use Rattle.vms_history_checks.specs.Says.{Says}
use Rattle.vms_history_checks.proofs.checks.HistoryCheck.step.Goals as goal

pub overflow_add-self : goal.overflow_add-self
overflow_add-self g c = omega (arith, c.requires.check.2.lines, c.requires.few)

pub returns-in-None : goal.returns-in-None
returns-in-None g c segments hs accepts = (
  refl,
  subst (λ (said : Option WrittenLine). IsLineFault g.W.LaneWalk.pressure g.W.LaneWalk.normal c.args.header.now segments
      hs said BadEvent) (sym c.in-None.is ∙ c.read_line.ensures) refl,
)

pub returns-in-Some-Blank : goal.returns-in-Some-Blank
returns-in-Some-Blank g c segments hs accepts =
    let said : Some Blank ≡ read_line c.args.header.now.layout c.args.line.now =
    ap (λ (line : WrittenLine). Some line) (sym c.in-Some-Blank.field-0-is) ∙ sym c.in-Some-Blank.is
    ∙ c.read_line.ensures in (
      hs,
      subst (λ (line : Option WrittenLine). with_said line hs ≡ Some hs) said refl,
      record {
        all = accepts.all;
        left = accepts.left;
        at = accepts.at;
        begun = accepts.begun;
        crossed = accepts.crossed;
        bounds = accepts.bounds;
        all_scripts = accepts.all_scripts;
        few = accepts.few;
        scripts = accepts.scripts;
        events = accepts.events;
        lines = omega (arith, accepts.lines);
      },
      refl,
    )

pub returns-in-Some-Phase : goal.returns-in-Some-Phase
returns-in-Some-Phase g c segments hs accepts =
    let said : Some Phase ≡ read_line c.args.header.now.layout c.args.line.now =
    ap (λ (line : WrittenLine). Some line) (sym c.in-Some-Phase.field-0-is) ∙ sym c.in-Some-Phase.is
    ∙ c.read_line.ensures in
    subst (λ (line : Option WrittenLine). Says g.W.LaneWalk.Stands g.W.LaneWalk.pressure g.W.LaneWalk.normal
    c.args.header.now segments hs line c.args.self.now c.begin.new.self c.begin.result) said
    (c.begin.ensures segments hs accepts)

pub returns-in-Some-Event : goal.returns-in-Some-Event
returns-in-Some-Event g c segments hs accepts =
    let said : Some (Event c.in-Some-Event.caller c.in-Some-Event.step)
    ≡ read_line c.args.header.now.layout c.args.line.now =
    ap (λ (line : WrittenLine). Some line) (sym c.in-Some-Event.field-0-is) ∙ sym c.in-Some-Event.is
    ∙ c.read_line.ensures in
    subst (λ (line : Option WrittenLine). Says g.W.LaneWalk.Stands g.W.LaneWalk.pressure g.W.LaneWalk.normal
    c.args.header.now segments hs line c.args.self.now c.take.new.self c.take.result) said
    (c.take.ensures segments hs accepts)
