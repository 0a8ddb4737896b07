use Rattle.vms_trace_parts.proofs.TextAnswers.{CopiesTexts-holds}
use Rattle.vms_trace_parts.proofs.laws.copies_texts.Goals as goal

pub returns : goal.returns
returns g c =
    CopiesTexts-holds c.boundaries_cut.ensures c.lines_make_one_phase.ensures c.segments_may_stand.ensures
    g.S.Source.remaining g.S.Source.calls
