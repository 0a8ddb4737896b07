-- A phase that doesn't begin, and the rest of one that has begun.
use Rattle.std.proofs.lemmas.Result.{err_from_is_err_and}
use Rattle.vms_recording.proofs.MadePhases.{WritesPhase-begun, WritesPhase-unbegun}
use Rattle.vms_recording.proofs.phase_pieces.write_pieces.Goals as goal

pub returns-in_err-phase-clause-writes : goal.returns-in_err-phase-clause-writes
returns-in_err-phase-clause-writes g c =
    let p = err_from_is_err_and c.from_residual.result c.from_residual.ensures.1 in
    rw p.1 (WritesPhase-unbegun c.args.header.now c.args.base c.args.items.now c.args.waiting.now.items
    c.begin.new.out.items (g.K.Sink.written c.args.out.now) p.0)

pub write_begun-requires-clause-writing : goal.write_begun-requires-clause-writing
write_begun-requires-clause-writing g c = (c.args.base, c.in_ok-phase.ensures.ok.0, c.in_ok-phase.ensures.ok.1)

pub returns-clause-writes : goal.returns-clause-writes
returns-clause-writes g c =
    WritesPhase-begun c.args.header.now c.args.base c.args.items.now c.args.waiting.now.items
    c.write_begun.new.waiting.items (g.K.Sink.written c.args.out.now) c.in_ok-phase.ensures.ok.0 c.begin.new.out.items
    c.in_ok-phase.ensures.ok.2 (g.K.Sink.written c.write_begun.new.out) c.write_begun.result
    (c.write_begun.ensures.writes c.args.base c.in_ok-phase.ensures.ok.0 c.in_ok-phase.ensures.ok.1)
