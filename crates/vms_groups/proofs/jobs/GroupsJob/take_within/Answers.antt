-- A line of a body, and one of a header.
use Rattle.std.proofs.Common.{refl, ◌+◌}
use Rattle.vms_groups.specs.declared.jobs.Work.TheVariants as works
use Rattle.vms_groups.proofs.JobLines.{InBody-at_work, body-takes, head-takes}
use Rattle.vms_groups.proofs.jobs.GroupsJob.take_within.Goals as goal

pub take_line-requires-clause-body : goal.take_line-requires-clause-body
take_line-requires-clause-body g c = (
  c.requires.stands.0,
  InBody-at_work c.args.self.now.line c.args.self.now.work c.in-Body.body c.requires.stands.0 c.in-Body.is
      c.requires.stands.1.work,
)

pub returns-in-Body : goal.returns-in-Body
returns-in-Body g c =
    let before = c.args.self.now in
    body-takes before (record before { line = before.line + 1; work = works.Body c.take_line.new.self })
    c.args.line.now c.args.out.now.items c.take_line.new.out.items refl c.requires.within c.in-Body.body
    c.take_line.new.self _ _ c.take_line.result c.in-Body.is refl c.take_line.ensures

pub returns : goal.returns
returns g c =
    head-takes c.args.self.now c.take_header_line.new.self c.args.line.now c.args.out.now.items
    c.take_header_line.new.out.items c.requires.within (g.E.GroupEngine.made c.args.engine.now)
    c.take_header_line.result c.in_default.not-Body c.take_header_line.ensures.work c.take_header_line.ensures.line
