-- what is read of a line that is fed, and what is said of its text
use Rattle.std.proofs.Common.{◌≡◌, Err, Ok, ap, sym, subst, ◌∙◌}
use Rattle.vms_base.specs.declared.headers.Header.{Header}
use Rattle.vms_text.specs.declared.acts.Line.TheVariants.{Boundary, Lane}
use Rattle.vms_line.specs.Common.{read_line}
use Rattle.vms_script.specs.Common.{FeedsLine}
use Rattle.vms_script.proofs.Feeding.{Feeds-read, IsFedLine-read, MayJudge-read}
use Rattle.vms_script.proofs.KeptLines.{may_keep}
use Rattle.vms_script.proofs.Known.{judged-unread}
use Rattle.vms_script.proofs.scripters.Scripter.feed.Goals as goal

pub keep-requires-clause-judge : goal.keep-requires-clause-judge
keep-requires-clause-judge c =
    MayJudge-read c.args.header.now c.args.line.now (Lane c.in-Ok-Lane.lane c.in-Ok-Lane.act) c.args.self.now
    c.requires.header c.requires.scripter (sym c.read.ensures ∙ c.in-Ok-Lane.is ∙ ap Ok c.in-Ok-Lane.field-0-is)

pub keep-requires-clause-lane : goal.keep-requires-clause-lane
keep-requires-clause-lane c =
    let may = keep-requires-clause-judge c in
    may_keep may.header (Lane c.in-Ok-Lane.lane c.in-Ok-Lane.act) may.is_header may.is_line

pub cross-requires-clause-judge : goal.cross-requires-clause-judge
cross-requires-clause-judge c =
    MayJudge-read c.args.header.now c.args.line.now (Boundary c.in-Ok-Boundary.boundary) c.args.self.now
    c.requires.header c.requires.scripter (sym c.read.ensures ∙ c.in-Ok-Boundary.is ∙ ap Ok c.in-Ok-Boundary.field-0-is)

pub returns-in-Ok-Lane-clause-fed : goal.returns-in-Ok-Lane-clause-fed
returns-in-Ok-Lane-clause-fed c = λ script of is_open holds.
    Feeds-read c.args.header.now c.args.number c.args.line.now (Lane c.in-Ok-Lane.lane c.in-Ok-Lane.act) script
    c.args.self.now c.keep.new.self c.keep.result c.requires.header of is_open holds
    (sym c.read.ensures ∙ c.in-Ok-Lane.is ∙ ap Ok c.in-Ok-Lane.field-0-is) (c.keep.ensures.fed script)

pub returns-in-Ok-Boundary-clause-fed : goal.returns-in-Ok-Boundary-clause-fed
returns-in-Ok-Boundary-clause-fed c = λ script of is_open holds.
    Feeds-read c.args.header.now c.args.number c.args.line.now (Boundary c.in-Ok-Boundary.boundary) script
    c.args.self.now c.cross.new.self c.cross.result c.requires.header of is_open holds
    (sym c.read.ensures ∙ c.in-Ok-Boundary.is ∙ ap Ok c.in-Ok-Boundary.field-0-is) (c.cross.ensures script)

-- a boundary line finds no want of memory
pub returns-in-Ok-Boundary-clause-full : goal.returns-in-Ok-Boundary-clause-full
returns-in-Ok-Boundary-clause-full c = λ full.
    let some = c.requires.scripter in
    let fed = IsFedLine-read c.args.header.now c.args.line.now (Boundary c.in-Ok-Boundary.boundary) some.script
    c.args.self.now c.requires.header some.of some.is_open some.holds
    (sym c.read.ensures ∙ c.in-Ok-Boundary.is ∙ ap Ok c.in-Ok-Boundary.field-0-is) in
    let lane = subst (FeedsLine c.args.number (Boundary c.in-Ok-Boundary.boundary) some.script c.cross.new.self) full
    (c.cross.ensures some.script fed) in
    let boundary : Boundary c.in-Ok-Boundary.boundary ≡ Lane lane.0 lane.1 = lane.2 in absurd cc

pub returns-in-Err-clause-fed : goal.returns-in-Err-clause-fed
returns-in-Err-clause-fed c = λ script of is_open holds. (
  judged-unread script.header script.lines c.args.line.now c.in-Err.cause
      (subst (λ (header : Header). read_line header c.args.line.now ≡ Err c.in-Err.cause) (sym of)
      (sym c.read.ensures ∙ c.in-Err.is)),
  holds,
)
