-- File order is one, and so is what a replay writes.
use Rattle.vms_tool.proofs.OneOutput.{check-once, check_text-once, replay-once, replay_text-once}
use Rattle.vms_tool.proofs.OneVerdict.{certify_text-once}
use Rattle.vms_world.specs.Common.{normal_threshold_of, pressure_threshold_of}
use Rattle.vms_own_acts.specs.Common.{IsExactly}
use Rattle.vms_tool.proofs.laws.texts_have_one_output.Goals as goal

pub returns-clause-replay : goal.returns-clause-replay
returns-clause-replay g c =
    replay-once c.file_order_is_one.ensures.histories g.S.Source.remaining g.S.Source.calls
    g.T.Source.remaining g.T.Source.calls

pub returns-clause-check : goal.returns-clause-check
returns-clause-check g c = check-once g.S.Source.remaining g.S.Source.calls
    g.T.Source.remaining g.T.Source.calls

pub returns-clause-replay_text : goal.returns-clause-replay_text
returns-clause-replay_text g c =
    replay_text-once c.file_order_is_one.ensures.histories g.S.Source.remaining g.S.Source.calls
    g.T.Source.remaining g.T.Source.calls

pub returns-clause-check_text : goal.returns-clause-check_text
returns-clause-check_text g c = check_text-once g.S.Source.remaining g.S.Source.calls
    g.T.Source.remaining g.T.Source.calls

pub returns-clause-certify_text : goal.returns-clause-certify_text
returns-clause-certify_text g c =
    certify_text-once (IsExactly pressure_threshold_of) (IsExactly normal_threshold_of)
    (λ lines header count is. (c.headers_are_writable.ensures lines header count is).is_header)
    c.lines_have_one_verdict.ensures.cause c.lines_have_one_verdict.ensures.taken g.S.Source.remaining g.S.Source.calls
    g.T.Source.remaining g.T.Source.calls
