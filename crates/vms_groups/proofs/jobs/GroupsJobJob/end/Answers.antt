-- A trace that ends in its header, in its body, or past a line that stopped the command.
use Rattle.std.proofs.Common.{ap, ◌∙◌, ◌++◌}
use Rattle.std.proofs.lemmas.Result.{err_from_is_err_and}
use Rattle.vms_group_lines.specs.declared.causes.GroupCause.{GroupCause}
use Rattle.vms_groups.specs.GroupTexts.{group_header_line}
use Rattle.vms_groups.proofs.JobLines.{InSomeBody-at_work, body-ends, end-failed, header-ends, stopped-ends}
use Rattle.vms_groups.proofs.jobs.GroupsJobJob.end.Goals as goal

pub end-requires : goal.end-requires
end-requires g c =
    (c.requires.0, InSomeBody-at_work c.args.self.now c.in-Body.body c.requires.0 c.in-Body.is c.requires.1)

pub returns-in_err-write_header_line-in-Header : goal.returns-in_err-write_header_line-in-Header
returns-in_err-write_header_line-in-Header g c =
    let p = err_from_is_err_and c.from_residual.result c.from_residual.ensures.1 in
    rw p.1 (end-failed c.args.self.now (g.E.GroupEngine.made c.args.engine.now) p.0 _ _)

pub returns-in_ok-write_header_line-in-Header : goal.returns-in_ok-write_header_line-in-Header
returns-in_ok-write_header_line-in-Header g c =
    header-ends c.args.self.now c.in-Header.reader (g.E.GroupEngine.made c.args.engine.now) c.args.out.now.items
    c.write_header_line.new.out.items c.in-Header.is
    (c.in_ok-write_header_line-in-Header.ensures.ok ∙ ap (λ (cause : GroupCause). c.args.out.now.items
    ++ group_header_line (record { line = c.args.self.now.line; cause = cause })) c.missing.ensures)

pub returns-in-Body : goal.returns-in-Body
returns-in-Body g c =
    body-ends c.args.self.now c.in-Body.body _ _ c.end.result c.args.out.now.items c.end.new.out.items c.in-Body.is
    c.end.ensures

pub returns-in-Stopped : goal.returns-in-Stopped
returns-in-Stopped g c =
    stopped-ends c.args.self.now (g.E.GroupEngine.made c.args.engine.now) _ c.args.out.now.items c.in-Stopped.is
