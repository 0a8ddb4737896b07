-- A piece that isn't read, whose lines aren't all judged, or whose output isn't written.
use Rattle.std.proofs.Common.{◌∙◌, ap, arith, length, refl}
use Rattle.std.proofs.KnownBytes.{Appends-trans}
use Rattle.std.proofs.lemmas.Result.{err_from_is_err_and}
use Rattle.vms_stream.specs.Common.{reading_of}
use Rattle.vms_stream.proofs.CourseEnds.{writes_after}
use Rattle.vms_stream.proofs.LastCalls.{LastCall-kept, LastCall-read}
use Rattle.vms_stream.proofs.Stopping.{CountsReads-stopped, CountsWrites-stopped}
use Rattle.vms_stream.proofs.TwoPieces.{length-partial_line}
use Rattle.vms_stream.proofs.TakenTexts.{MayHalt-stood}
use Rattle.vms_stream.proofs.PhasedSteps.{StepsPhased-failed, StepsPhased-judged, StepsPhased-unread}
use Rattle.vms_stream.proofs.PhasedSteps.{StepsPhased-unwritten}
use Rattle.vms_stream.proofs.courses.Course.step.Goals as goal

pub read-requires-clause-held : goal.read-requires-clause-held
read-requires-clause-held g c =
    let is = c.requires.course.3.is_course in
    omega (arith, ap length (is.held c.requires.before_end), length-partial_line c.requires.course.1, is.counted)

pub returns-in_err-read-clause-steps : goal.returns-in_err-read-clause-steps
returns-in_err-read-clause-steps g c = λ first outcomes taken written consumes is.
    let p = err_from_is_err_and c.from_residual.result c.from_residual.ensures.1 in
    rw (p.1, p.2) (StepsPhased-unread g.J.Job.behavior g.J.Job.Shows outcomes taken written
    c.args.self.now is c.requires.before_end (g.J.Job.Stands c.args.job.now) c.read.new.self _ _ _ _ _ _
    (LastCall-kept _ _ first c.args.src.now c.read.new.src taken consumes c.read.ensures.once
    c.in_err-read.ensures.unread)
    c.in_err-read.ensures.unread c.in_err-read.ensures.cause)

pub returns-in_err-halt-clause-steps : goal.returns-in_err-halt-clause-steps
returns-in_err-halt-clause-steps g c = λ first outcomes taken written consumes is.
    let p = err_from_is_err_and c.from_residual-in_err-halt.result c.from_residual-in_err-halt.ensures.1 in
    let takes = c.in_err-halt.ensures.takes in
    rw (p.1, p.2) (StepsPhased-failed g.J.Job.behavior g.J.Job.Shows outcomes taken written
    c.args.self.now is c.requires.before_end (g.J.Job.Stands c.judge.new.job) takes.outcomes c.read.new.self _ _
    c.in_ok-read.ensures.ok c.in_ok-read.ensures.counted c.in_ok-read.ensures.end
    (ap (λ v. v.items) c.in_ok-read.ensures.waits)
    (reading_of g.S.Source.remaining g.S.Source.calls first c.read.new.src) (λ end. end)
    (LastCall-read _ _ first c.args.src.now c.read.new.src taken consumes c.read.ensures.once _
    c.in_ok-read.ensures.ok.consumes) takes.leads c.judge.new.self _ _ _ _ _ takes.moved
    c.in_err-halt.ensures.cause takes.grows takes.appends takes.fails)

pub returns-in_err-flush-clause-steps : goal.returns-in_err-flush-clause-steps
returns-in_err-flush-clause-steps g c = λ first outcomes taken written consumes is.
    let p = err_from_is_err_and c.from_residual-in_err-flush.result c.from_residual-in_err-flush.ensures.1 in
    let takes = c.in_ok-halt.ensures.takes in
    rw (p.1, p.2) (StepsPhased-unwritten g.J.Job.behavior g.J.Job.Shows outcomes taken written
    c.args.self.now is c.requires.before_end (g.J.Job.Stands c.judge.new.job) takes.outcomes c.read.new.self _ _
    c.in_ok-read.ensures.ok c.in_ok-read.ensures.counted c.in_ok-read.ensures.end
    (ap (λ v. v.items) c.in_ok-read.ensures.waits)
    (reading_of g.S.Source.remaining g.S.Source.calls first c.read.new.src) (λ end. end)
    (LastCall-read _ _ first c.args.src.now c.read.new.src taken consumes c.read.ensures.once _
    c.in_ok-read.ensures.ok.consumes) takes.leads c.in_ok-halt.halt _ takes.goes c.flush.new.self _ _ _ _
    takes.moved c.judge.new.self.waiting.items c.in_err-flush.ensures.err.0 _ refl takes.grows
    (Appends-trans _ _ _ _ _ takes.appends c.in_err-flush.ensures.err.1) c.in_err-flush.ensures.cause)

pub returns-in_err-flush-clause-writes : goal.returns-in_err-flush-clause-writes
returns-in_err-flush-clause-writes g c =
    let p = err_from_is_err_and c.from_residual-in_err-flush.result c.from_residual-in_err-flush.ensures.1 in
    rw (p.1, p.2) (writes_after g.K.Sink.written g.K.Sink.faults g.K.Sink.calls c.args.out.now c.judge.new.out
    c.flush.new.out _ c.in_ok-halt.ensures.counts c.in_err-flush.ensures.counts)

pub returns-clause-steps : goal.returns-clause-steps
returns-clause-steps g c = λ first outcomes taken written consumes is.
    let takes = c.in_ok-halt.ensures.takes in
    StepsPhased-judged g.J.Job.behavior g.J.Job.Shows outcomes taken written
    c.args.self.now is c.requires.before_end (g.J.Job.Stands c.judge.new.job) takes.outcomes c.read.new.self _ _
    c.in_ok-read.ensures.ok c.in_ok-read.ensures.counted c.in_ok-read.ensures.end
    (ap (λ v. v.items) c.in_ok-read.ensures.waits)
    (reading_of g.S.Source.remaining g.S.Source.calls first c.read.new.src) (λ end. end)
    (LastCall-read _ _ first c.args.src.now c.read.new.src taken consumes c.read.ensures.once _
    c.in_ok-read.ensures.ok.consumes) takes.leads c.in_ok-halt.halt _ takes.goes c.flush.new.self
    (c.flush.ensures.same_count ∙ c.judge.ensures.same_count) (c.flush.ensures.same_end ∙ c.judge.ensures.same_end)
    c.in_ok-flush.ensures.empty
    (λ before within. c.flush.ensures.same_input ∙ c.in_ok-halt.ensures.held before within)
    _ _ _ _ c.stop_at.result takes.grows (Appends-trans _ _ _ _ _ takes.appends c.in_ok-flush.ensures.ok)
    c.stop_at.ensures

pub returns-clause-reads : goal.returns-clause-reads
returns-clause-reads g c =
    let is = c.requires.course.3 in
    CountsReads-stopped g.S.Source.remaining g.S.Source.faults g.S.Source.calls _ c.args.src.now c.read.new.src
    c.in_ok-read.ensures.counts c.in_ok-halt.halt c.stop_at.result
    (MayHalt-stood g.J.Job.behavior (g.J.Job.Stands c.args.job.now) _ _ is.is_course.stands_after _ _
    c.in_ok-halt.halt _ _ c.in_ok-halt.ensures.takes.goes) c.stop_at.ensures

pub returns-clause-writes : goal.returns-clause-writes
returns-clause-writes g c =
    let is = c.requires.course.3 in
    CountsWrites-stopped g.K.Sink.written g.K.Sink.faults g.K.Sink.calls _ c.args.out.now c.flush.new.out
    (c.in_ok-flush.ensures.counts ∙ c.in_ok-halt.ensures.counts) c.in_ok-halt.halt c.stop_at.result
    (MayHalt-stood g.J.Job.behavior (g.J.Job.Stands c.args.job.now) _ _ is.is_course.stands_after _ _
    c.in_ok-halt.halt _ _ c.in_ok-halt.ensures.takes.goes) c.stop_at.ensures
