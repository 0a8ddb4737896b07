-- A line that counts, and one that doesn't.
use Rattle.std.proofs.Common.{◌≡◌, ◌+◌, IfOk, List, Option, None, refl, sym, subst}
use Rattle.std.specs.Prelude.{Result, Ok, Err}
use Rattle.vms_line.specs.declared.causes.LineCause.{LineCause}
use Rattle.vms_stream.specs.declared.statuses.Status.{Status}
use Rattle.vms_script.specs.Common.{NumberedLine}
use Rattle.vms_text.specs.declared.acts.Line.{Line}
use Rattle.vms_command.specs.Common.{IsJudgedAfter, LinesAbove}
use Rattle.vms_certifying.specs.TraceParts.{KeepsLines, KeepsNext}
use Rattle.vms_certifying.proofs.KeptLines.{next-refused}
use Rattle.vms_certifying.proofs.trace_parts.TracePart.take_judged.Goals as goal

pub take_counted-requires-clause-judged : goal.take_counted-requires-clause-judged
take_counted-requires-clause-judged g c =
    let known = c.requires.judged in (
      known.0,
      subst (λ (said : Result Line LineCause). IsJudgedAfter c.args.self.now.header known.0 said) c.in-Ok.is known.1,
    )

-- what was said of a line that counts
said-of : {E : Type 0} (Takes : Result Line LineCause → Option Status → Type 0) (said other : Result Line LineCause)
    (result : Result (Option Status) E) → said ≡ other → IfOk result (λ halt. Takes other halt)
    → IfOk result (λ halt. Takes said halt)
said-of Takes said other (Ok halt) is goes = subst (λ (r : Result Line LineCause). Takes r halt) (sym is) goes
said-of Takes said other (Err error) is goes = tt

pub returns-in-Ok : goal.returns-in-Ok
returns-in-Ok g c =
    said-of (λ said halt. (lines : List NumberedLine) (above : LinesAbove)
    → KeepsLines g.J.HistoryJudge.Gathers lines above c.args.self.now
    → KeepsNext g.J.HistoryJudge.Gathers c.args.number said halt c.args.self.now c.take_counted.new.self lines above)
    c.args.said _ c.take_counted.result c.in-Ok.is c.take_counted.ensures

pub returns-in-Err : goal.returns-in-Err
returns-in-Err g c = λ lines above keeps.
    let part = c.args.self.now in
    let part' = record part { refused = part.refused + 1 } in
    subst (λ (said : Result Line LineCause). KeepsNext g.J.HistoryJudge.Gathers c.args.number said None part part' lines
    above) (sym c.in-Err.is)
    (next-refused g.J.HistoryJudge.Gathers lines above part keeps c.args.number c.in-Err.field-0 part' refl refl)
