-- A command that makes no phase.
use Rattle.vms_stream.specs.Common.{reading_of}
use Rattle.vms_stream.proofs.PlainAnswers.{Says-plain}
use Rattle.vms_stream.proofs.laws.plain_commands_say_plainly.Goals as goal

pub returns : goal.returns
returns g c none outcomes status taken written src src' phased =
    Says-plain g.J.Job.behavior none outcomes g.J.Job.Shows status taken written
    (reading_of g.S.Source.remaining g.S.Source.calls src src') phased.says
