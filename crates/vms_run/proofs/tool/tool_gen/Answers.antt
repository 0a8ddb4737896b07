-- What was run is a text that was made.
use Rattle.vms_run.proofs.MadeAnswers.{AnswersMade-replayed}
use Rattle.vms_run.proofs.tool.tool_gen.Goals as goal

pub returns : goal.returns
returns g c =
    AnswersMade-replayed c.make-src.result c.tool_run.new.src c.args.numbers c.args.histories.now
    c.tool_run.new.histories g.K.Sink.written g.K.Sink.faults g.K.Sink.calls c.args.out.now c.tool_run.new.out
    c.tool_run.result c.make-src.ensures c.tool_run.ensures
