-- The phases that lead through the lines taken are those of the text.
use Rattle.vms_groups.proofs.GroupAnswers.{AnswersWith-led}
use Rattle.vms_groups.proofs.tool.run_trace.Goals as goal

pub returns : goal.returns
returns g c =
    AnswersWith-led c.phases_lead_through_texts.ensures (g.E.GroupEngine.made c.args.engine)
    (g.E.GroupEngine.made c.stream.result.1) g.S.Source.remaining g.S.Source.faults g.S.Source.calls g.K.Sink.written
    g.K.Sink.faults g.K.Sink.calls c.args.src.now c.stream.new.src c.args.out.now c.stream.new.out c.stream.result.0
    c.stream.ensures
