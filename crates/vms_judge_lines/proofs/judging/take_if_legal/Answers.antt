-- The registers show the history with the event.
use Rattle.vms_judge_lines.proofs.judging.take_if_legal.Goals as goal

pub returns : goal.returns
returns g c = λ h shows short.
    let legal = (c.judges.ensures h shows).0 c.if-not-judges.false in
    (legal, c.take.ensures h shows legal short)
