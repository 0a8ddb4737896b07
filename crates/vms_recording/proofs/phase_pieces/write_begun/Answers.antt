-- A phase whose lines aren't all made and written, one that doesn't end, and one that does.
use Rattle.std.proofs.Common.{◌++◌, ◌∙◌}
use Rattle.std.proofs.lemmas.Result.{err_from_is_err_and}
use Rattle.vms_recording.proofs.CountedFaults.{faults-after}
use Rattle.vms_recording.proofs.MadePhases.{WritesRest-stopped, WritesRest-unwritten, WritesRest-whole}
use Rattle.vms_recording.proofs.phase_pieces.write_begun.Goals as goal

pub returns-in_err-write_lines-clause-writes : goal.returns-in_err-write_lines-clause-writes
returns-in_err-write_lines-clause-writes g c s h writing =
    let p = err_from_is_err_and c.from_residual.result c.from_residual.ensures.1 in
    rw p.1 (WritesRest-stopped c.args.header.now s c.args.items.now h c.args.waiting.now.items
    c.write_lines.new.waiting.items (g.K.Sink.written c.args.out.now) c.write_lines.new.waiting.items
    (g.K.Sink.written c.write_lines.new.out) c.write_lines.new.phase _
    (c.in_err-write_lines.ensures.writes s h writing) p.0)

pub end-requires : goal.end-requires
end-requires g c =
    let w = c.requires.writing in
    let lines = c.in_ok-write_lines.ensures.writes w.0 w.1 w.2 in
    (c.args.header.now, w.0, c.args.items.now, lines.more ++ w.1, lines.goes.1)

pub returns-in_err-pages-clause-writes : goal.returns-in_err-pages-clause-writes
returns-in_err-pages-clause-writes g c s h writing =
    let p = err_from_is_err_and c.from_residual-in_err-pages.result c.from_residual-in_err-pages.ensures.1 in
    rw p.1 (WritesRest-stopped c.args.header.now s c.args.items.now h c.args.waiting.now.items
    c.end.new.out.items (g.K.Sink.written c.args.out.now) c.write_lines.new.waiting.items
    (g.K.Sink.written c.write_lines.new.out) c.write_lines.new.phase _
    (c.in_ok-write_lines.ensures.writes s h writing) p.0)

pub returns-in_err-write_above-clause-writes : goal.returns-in_err-write_above-clause-writes
returns-in_err-write_above-clause-writes g c s h writing =
    let p = err_from_is_err_and c.from_residual-in_err-write_above.result
    c.from_residual-in_err-write_above.ensures.1 in
    let lines = c.in_ok-write_lines.ensures.writes s h writing in
    let ended = c.in_ok-pages.ensures.ok c.args.header.now s c.args.items.now (lines.more ++ h) lines.goes.1 in
    rw p.1 (WritesRest-unwritten c.args.header.now s c.args.items.now h c.args.waiting.now.items
    c.write_above.new.waiting.items (g.K.Sink.written c.args.out.now) c.write_lines.new.waiting.items
    (g.K.Sink.written c.write_lines.new.out) c.write_lines.new.phase _ lines c.in_ok-pages.pages
    c.end.new.out.items ended.0 ended.1 ended.2 ended.3 (g.K.Sink.written c.write_above.new.out) _
    c.in_err-write_above.ensures.writes p.0)

pub returns-in_err-write_above-clause-counts : goal.returns-in_err-write_above-clause-counts
returns-in_err-write_above-clause-counts g c =
    let p = err_from_is_err_and c.from_residual-in_err-write_above.result
    c.from_residual-in_err-write_above.ensures.1 in
    rw (p.1, p.2) (faults-after g.K.Sink.written g.K.Sink.faults g.K.Sink.calls c.args.out.now c.write_lines.new.out
    c.write_above.new.out _ c.in_ok-write_lines.ensures.counts c.in_err-write_above.ensures.counts)

pub returns-clause-writes : goal.returns-clause-writes
returns-clause-writes g c s h writing =
    let lines = c.in_ok-write_lines.ensures.writes s h writing in
    let ended = c.in_ok-pages.ensures.ok c.args.header.now s c.args.items.now (lines.more ++ h) lines.goes.1 in
    WritesRest-whole c.args.header.now s c.args.items.now h c.args.waiting.now.items
    c.write_above.new.waiting.items (g.K.Sink.written c.args.out.now) c.write_lines.new.waiting.items
    (g.K.Sink.written c.write_lines.new.out) c.write_lines.new.phase _ lines c.in_ok-pages.pages
    c.end.new.out.items ended.0 ended.1 ended.2 ended.3 (g.K.Sink.written c.write_above.new.out)
    c.in_ok-write_above.ensures.writes

pub returns-clause-counts : goal.returns-clause-counts
returns-clause-counts g c = c.in_ok-write_above.ensures.counts ∙ c.in_ok-write_lines.ensures.counts
