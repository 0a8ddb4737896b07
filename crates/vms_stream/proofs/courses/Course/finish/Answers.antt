-- The end that isn't come to, whose output isn't written, or that is.
use Rattle.std.proofs.lemmas.Result.{err_from_is_err_and}
use Rattle.std.proofs.Common.{◌++◌}
use Rattle.vms_stream.specs.Common.{reading_of}
use Rattle.vms_stream.proofs.LastCalls.{LastCall-none}
use Rattle.vms_stream.proofs.PhasedEnds.{Closes-with, FinishesPhased-ended, FinishesPhased-unended}
use Rattle.vms_stream.proofs.PhasedEnds.{FinishesPhased-unwritten}
use Rattle.vms_stream.proofs.courses.Course.finish.Goals as goal

pub returns-in_err-ending-clause-finishes : goal.returns-in_err-ending-clause-finishes
returns-in_err-ending-clause-finishes g c = λ first last outcomes taken written consumes ended is.
    let p = err_from_is_err_and c.from_residual.result c.from_residual.ensures.1 in
    rw p.1 (FinishesPhased-unended g.J.Job.behavior g.J.Job.Shows outcomes taken written c.args.self.now is
    c.requires.at_end c.end.ensures.outcomes _ _ _ c.end.ensures.grows c.end.ensures.leads
    (reading_of g.S.Source.remaining g.S.Source.calls first last) ended (LastCall-none _ _ first last taken consumes)
    p.0 p.2)

pub returns-in_err-flush-clause-finishes : goal.returns-in_err-flush-clause-finishes
returns-in_err-flush-clause-finishes g c = λ first last outcomes taken written consumes ended is.
    let p = err_from_is_err_and c.from_residual-in_err-flush.result c.from_residual-in_err-flush.ensures.1 in
    let phased = g.J.Job.behavior in
    let shows = g.J.Job.Shows in
    let closes = c.in_ok-ending.ensures in
    let further = closes.outcomes in
    rw (p.1, p.2) (FinishesPhased-unwritten phased shows outcomes taken written c.args.self.now is c.requires.at_end
    further _ _ _ closes.grows closes.leads
    (reading_of g.S.Source.remaining g.S.Source.calls first last) ended (LastCall-none _ _ first last taken consumes)
    _ c.in_ok-ending.ending c.end.new.out.items
    (Closes-with phased shows _ (outcomes ++ further) further c.in_ok-ending.ending _ _ closes.goes)
    c.in_err-flush.ensures.err.0 _ c.in_err-flush.ensures.err.1 c.in_err-flush.ensures.cause)

pub returns-clause-finishes : goal.returns-clause-finishes
returns-clause-finishes g c = λ first last outcomes taken written consumes ended is.
    let phased = g.J.Job.behavior in
    let shows = g.J.Job.Shows in
    let closes = c.in_ok-ending.ensures in
    let further = closes.outcomes in
    FinishesPhased-ended phased shows outcomes taken written c.args.self.now is c.requires.at_end
    further _ _ _ closes.grows closes.leads
    (reading_of g.S.Source.remaining g.S.Source.calls first last) ended (LastCall-none _ _ first last taken consumes)
    _ c.in_ok-ending.ending c.end.new.out.items
    (Closes-with phased shows _ (outcomes ++ further) further c.in_ok-ending.ending _ _ closes.goes)
    c.in_ok-flush.ensures.ok
