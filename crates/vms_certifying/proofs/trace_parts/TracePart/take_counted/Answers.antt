-- A blank line, one of a lane, and a boundary line.
use Rattle.std.proofs.Common.{◌≡◌, IfOk, List, Option, None, sym, subst}
use Rattle.std.specs.Prelude.{Result, Ok, Err}
use Rattle.vms_stream.specs.declared.statuses.Status.{Status}
use Rattle.vms_script.specs.Common.{NumberedLine, MayKeep}
use Rattle.vms_script.proofs.Common.{judged-known, may_keep}
use Rattle.vms_text.specs.declared.acts.Line.{Line}
use Rattle.vms_command.specs.Common.{LinesAbove}
use Rattle.vms_certifying.specs.TraceParts.{KeepsLines, KeepsNext}
use Rattle.vms_certifying.proofs.KeptLines.{next-blank}
use Rattle.vms_certifying.proofs.trace_parts.TracePart.take_counted.Goals as goal

pub keep-requires : goal.keep-requires
keep-requires g c =
    let header = c.args.self.now.header in
    let valid = c.requires.lines.keeps.header in
    let known = c.requires.judged in
    subst MayKeep c.in-Lane.is (may_keep header c.args.line valid
    (judged-known header known.0.lines known.1.0 c.args.line valid (sym known.1.1)))

pub returns-in-Blank : goal.returns-in-Blank
returns-in-Blank g c = λ lines above keeps.
    let part = c.args.self.now in
    subst (λ (line : Line). KeepsNext g.J.HistoryJudge.Gathers c.args.number (Ok line) None part part lines above)
    (sym c.in-Blank.is) (next-blank g.J.HistoryJudge.Gathers lines above part keeps c.args.number)

-- what was said of the line that was read
line-of : {E : Type 0} (Takes : Line → Option Status → Type 0) (line other : Line)
    (result : Result (Option Status) E) → line ≡ other → IfOk result (λ halt. Takes other halt)
    → IfOk result (λ halt. Takes line halt)
line-of Takes line other (Ok halt) is goes = subst (λ (l : Line). Takes l halt) (sym is) goes
line-of Takes line other (Err error) is goes = tt

pub returns-in-Lane : goal.returns-in-Lane
returns-in-Lane g c =
    line-of (λ line halt. (lines : List NumberedLine) (above : LinesAbove)
    → KeepsLines g.J.HistoryJudge.Gathers lines above c.args.self.now
    → KeepsNext g.J.HistoryJudge.Gathers c.args.number (Ok line) halt c.args.self.now c.keep.new.self lines above)
    c.args.line _ c.keep.result c.in-Lane.is c.keep.ensures

pub returns-in-Boundary : goal.returns-in-Boundary
returns-in-Boundary g c =
    line-of (λ line halt. (lines : List NumberedLine) (above : LinesAbove)
    → KeepsLines g.J.HistoryJudge.Gathers lines above c.args.self.now
    → KeepsNext g.J.HistoryJudge.Gathers c.args.number (Ok line) halt c.args.self.now c.pass.new.self lines above)
    c.args.line _ c.pass.result c.in-Boundary.is c.pass.ensures
