-- What the stream answers, by the text too.
use Rattle.vms_certifying.specs.JobStates.{made_by}
use Rattle.vms_certifying.proofs.CommandAnswers.{SaysCertified-phased}
use Rattle.vms_certifying.proofs.tool.tool_certify.Goals as goal

pub returns : goal.returns
returns g c =
    SaysCertified-phased g.J.HistoryJudge.rules g.S.Source.remaining g.S.Source.faults g.S.Source.calls g.K.Sink.written
    g.K.Sink.faults g.K.Sink.calls c.args.src.now c.stream-status.new.src c.args.out.now c.stream-status.new.out
    (made_by c.none.result) (made_by c.stream-status.result.1) c.stream-status.result.0 c.stream-status.ensures
