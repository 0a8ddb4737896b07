-- The phases that lead through the lines taken lead through the segments of the text.
use Rattle.vms_replay.proofs.ReplayAnswers.{AnswersReplayed-led}
use Rattle.vms_replay.proofs.tool.replay_trace.Goals as goal

pub returns : goal.returns
returns g c =
    AnswersReplayed-led g.E.Engine.Makes c.phases_lead_through_texts.ensures (g.E.Engine.made c.args.engine)
    (g.E.Engine.made c.follow.result.1) g.S.Source.remaining g.S.Source.faults g.S.Source.calls g.K.Sink.written
    g.K.Sink.faults g.K.Sink.calls c.args.src.now c.follow.new.src c.args.out.now c.follow.new.out c.follow.result.0
    c.follow.ensures
