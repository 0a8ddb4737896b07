-- A boundary line that is no report.
use Rattle.std.proofs.Common.{sym, ◌∙◌, ◌≡◌, false}
use Rattle.vms_command.specs.Limits.{is_report}
use Rattle.vms_certifying.proofs.KeptLines.{next-boundary}
use Rattle.vms_certifying.proofs.trace_parts.TracePart.pass.Goals as goal

pub returns : goal.returns
returns g c = λ lines above keeps.
    let plain : is_report c.args.boundary ≡ false = sym c.is_report.ensures ∙ c.if-is_report.false in
    next-boundary g.J.HistoryJudge.Gathers lines above c.args.self.now keeps c.boundaries_cut.ensures c.args.number
    c.args.boundary plain c.cross.new.self (c.in_ok-cross.ensures.crosses lines above keeps)
