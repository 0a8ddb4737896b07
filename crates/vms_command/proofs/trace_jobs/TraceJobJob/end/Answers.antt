-- A trace that ends in its header, in its body, or past a line that stopped the command.
use Rattle.std.proofs.Common.{ap, ◌∙◌, ◌++◌}
use Rattle.std.proofs.lemmas.Result.{err_from_is_err_and}
use Rattle.vms_header.specs.declared.causes.HeaderCause.{HeaderCause}
use Rattle.vms_command.specs.Common.{header_line}
use Rattle.vms_command.proofs.CommandLines.{InSomeBody-at_work, body-ends, end-failed, header-ends, stopped-ends}
use Rattle.vms_command.proofs.trace_jobs.TraceJobJob.end.Goals as goal

pub end-requires : goal.end-requires
end-requires g c = (
  c.requires.0,
  InSomeBody-at_work g.B.Body.command g.B.Body.Stands c.args.self.now c.in-Body.body c.requires.0
      c.in-Body.is c.requires.1,
)

pub returns-in_err-write_header_line-in-Header : goal.returns-in_err-write_header_line-in-Header
returns-in_err-write_header_line-in-Header g c =
    let p = err_from_is_err_and c.from_residual.result c.from_residual.ensures.1 in
    rw p.1 (end-failed g.B.Body.command g.B.Body.Stands g.B.Body.Shows c.args.self.now
    (g.B.Body.made c.args.engine.now) p.0 _ _)

pub returns-in_ok-write_header_line-in-Header : goal.returns-in_ok-write_header_line-in-Header
returns-in_ok-write_header_line-in-Header g c =
    header-ends g.B.Body.command g.B.Body.Stands g.B.Body.Shows c.args.self.now c.in-Header.reader
    (g.B.Body.made c.args.engine.now) c.args.out.now.items c.write_header_line.new.out.items c.in-Header.is
    (c.in_ok-write_header_line-in-Header.ensures.ok ∙ ap (λ (cause : HeaderCause). c.args.out.now.items
    ++ header_line (record { line = c.args.self.now.line; cause = cause })) c.missing.ensures)

pub returns-in-Body : goal.returns-in-Body
returns-in-Body g c =
    body-ends g.B.Body.command g.B.Body.Stands g.B.Body.Shows c.args.self.now c.in-Body.body _ _ c.end.result
    c.args.out.now.items c.end.new.out.items c.in-Body.is c.end.ensures

pub returns-in-Stopped : goal.returns-in-Stopped
returns-in-Stopped g c =
    stopped-ends g.B.Body.command g.B.Body.Stands g.B.Body.Shows c.args.self.now (g.B.Body.made c.args.engine.now) _
    c.args.out.now.items c.in-Stopped.is
