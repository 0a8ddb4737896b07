-- The body stands after some lines, and closes.
use Rattle.vms_command.proofs.CommandLines.{SomeEnd-stood, body-closes}
use Rattle.vms_command.proofs.body_jobs.BodyJob.end.Goals as goal

pub end-requires-clause-body : goal.end-requires-clause-body
end-requires-clause-body g c =
    SomeEnd-stood g.B.Body.command g.B.Body.Stands c.args.self.now c.requires.0 c.requires.1

pub returns : goal.returns
returns g c =
    body-closes g.B.Body.command g.B.Body.Stands g.B.Body.Shows c.args.self.now _ _ c.args.out.now.items
    c.end.new.out.items c.end.result c.end.ensures
