-- A whole history, and one that isn't.
use Rattle.vms_history_judge.proofs.judges.counted_of.Goals as goal

pub returns-in-Ok : goal.returns-in-Ok
returns-in-Ok g c = λ segments hs accepts.
    c.in-Ok.ensures c.args.header.now segments hs c.requires.header accepts

pub returns-in-Err : goal.returns-in-Err
returns-in-Err g c = λ segments hs accepts.
    (c.in-Err.ensures c.args.header.now segments hs c.requires.header accepts).1
