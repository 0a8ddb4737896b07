-- The beginning, a piece further, and the ways to end.
use Rattle.std.proofs.Common.{◌++◌, ◌∙◌, [], refl, sym}
use Rattle.std.proofs.lemmas.Bool.{false≢true}
use Rattle.std.proofs.KnownBytes.{Appends-nil, Appends-trans, Consumes-nil, Consumes-trans}
use Rattle.std.proofs.lemmas.Result.{err_from_is_err_and}
use Rattle.vms_stream.proofs.PhasedEnds.{AnswersPhased-ended, AnswersPhased-stopped, AnswersPhased-unbegun}
use Rattle.vms_stream.proofs.PhasedEnds.{IsPhasedCourse-begun}
use Rattle.vms_stream.proofs.TakenTexts.{Grows-nil, Grows-trans}
use Rattle.vms_stream.proofs.streaming.run.Goals as goal

pub returns-in_err-course : goal.returns-in_err-course
returns-in_err-course g c =
    let p = err_from_is_err_and c.from_residual.result c.from_residual.ensures.1 in
    rw p.1 (AnswersPhased-unbegun g.J.Job.behavior g.J.Job.Shows (g.J.Job.made c.args.engine.now)
    g.S.Source.remaining g.S.Source.faults g.S.Source.calls g.K.Sink.written g.K.Sink.faults g.K.Sink.calls
    c.args.src.now c.args.out.now p.0 p.2)

pub pieces-init : goal.pieces-init
pieces-init g c =
    let begun = c.in_ok-course.ensures in
    record {
      outcomes = [];
      taken = [];
      written = [];
      grows = Grows-nil (g.J.Job.made c.args.engine.now);
      consumes = Consumes-nil (g.S.Source.remaining c.args.src.now);
      appends = Appends-nil (g.K.Sink.written c.args.out.now);
      course = IsPhasedCourse-begun g.J.Job.behavior g.J.Job.Shows (g.J.Job.Stands c.args.job.now)
          c.in_ok-course.course c.requires begun.0 begun.1 begun.2 begun.3;
      ended = λ end. absurd (false≢true (sym begun.3 ∙ end));
      reads = refl;
      writes = refl;
    }

pub pieces-preserved : goal.pieces-preserved
pieces-preserved g c =
    let inv = c.pieces.invariant in
    let steps = c.in_ok-step.ensures.steps c.args.src.now inv.outcomes inv.taken inv.written inv.consumes inv.course in
    record {
      outcomes = inv.outcomes ++ steps.further;
      taken = inv.taken ++ steps.more;
      written = inv.written ++ steps.moved;
      grows = Grows-trans _ _ _ inv.outcomes steps.further inv.grows steps.grows;
      consumes = Consumes-trans _ _ _ inv.taken steps.more inv.consumes steps.consumes;
      appends = Appends-trans _ _ _ inv.written steps.moved inv.appends steps.appends;
      course = steps.outcome.0;
      ended = steps.outcome.1;
      reads = c.in_ok-step.ensures.reads ∙ inv.reads;
      writes = c.in_ok-step.ensures.writes ∙ inv.writes;
    }

pub returns-in_err-step : goal.returns-in_err-step
returns-in_err-step g c =
    let p = err_from_is_err_and c.from_residual-in_err-step.result c.from_residual-in_err-step.ensures.1 in
    let inv = c.pieces.invariant in
    rw (p.1, p.2) (AnswersPhased-stopped g.J.Job.behavior g.J.Job.Shows g.S.Source.remaining
    g.S.Source.faults g.S.Source.calls g.K.Sink.written g.K.Sink.faults g.K.Sink.calls inv.outcomes inv.taken
    inv.written _ _ _ _ _ _ _ _ _ inv.grows inv.consumes inv.appends inv.reads inv.writes
    (g.J.Job.Stands c.step.new.job) c.step.new.self _
    (c.in_err-step.ensures.steps c.args.src.now inv.outcomes inv.taken inv.written inv.consumes inv.course)
    c.in_err-step.ensures.reads c.in_err-step.ensures.writes)

pub returns : goal.returns
returns g c =
    let inv = c.pieces.invariant in
    AnswersPhased-ended g.J.Job.behavior g.J.Job.Shows g.S.Source.remaining g.S.Source.faults g.S.Source.calls
    g.K.Sink.written g.K.Sink.faults g.K.Sink.calls inv.outcomes inv.taken inv.written _ _ _ c.args.src.now c.pieces.src
    c.pieces.src c.args.out.now c.pieces.out c.finish.new.out inv.grows inv.consumes inv.appends inv.reads inv.writes
    c.finish.result
    (c.finish.ensures.finishes c.args.src.now c.pieces.src inv.outcomes inv.taken inv.written inv.consumes
    (inv.ended c.pieces-test.false) inv.course) c.finish.ensures.reads c.finish.ensures.writes
