-- A line that isn't made, one that isn't written, and those that are.
use Rattle.std.proofs.Common.{◌+◌, ◌++◌, arith, drop, refl, take, ◌∙◌}
use Rattle.std.proofs.lemmas.Result.{err_from_is_err_and}
use Rattle.vms_recording.proofs.CountedFaults.{faults-after}
use Rattle.vms_recording.proofs.OpenPhases.{IsOpen-first, IsOpen-line, IsOpen-moved, WritesLines-stopped}
use Rattle.vms_recording.proofs.OpenPhases.{WritesLines-whole, parts-next}
use Rattle.vms_recording.proofs.phase_pieces.write_lines.Goals as goal

pub loop-item-init : goal.loop-item-init
loop-item-init g c = record {
  is_open = λ s h writing. IsOpen-first c.args.header.now s c.args.items.now h c.args.waiting.now.items
      (g.K.Sink.written c.args.out.now) c.args.phase.now writing;
  none_fails = refl;
}

pub write_line-requires-clause-writing : goal.write_line-requires-clause-writing
write_line-requires-clause-writing g c =
    let header = c.args.header.now in
    let items = c.args.items.now in
    let w = c.requires.writing in
    let opened = c.loop-item.invariant.is_open w.0 w.1 w.2 in (
      w.0,
      items,
      take c.loop-item.item-index items,
      drop (c.loop-item.item-index + 1) items,
      opened.more ++ w.1,
      opened.writing,
      parts-next header w.0 items w.1 c.args.waiting.now.items (g.K.Sink.written c.args.out.now) c.loop-item.item-index
          c.loop-item.phase c.loop-item.waiting.items (g.K.Sink.written c.loop-item.out) opened c.item-item.result
          c.item-item.result c.loop-item-test.true c.item-item.is,
    )

pub returns-in_err-write_line-clause-writes : goal.returns-in_err-write_line-clause-writes
returns-in_err-write_line-clause-writes g c s h writing =
    let p = err_from_is_err_and c.from_residual.result c.from_residual.ensures.1 in
    rw p.1 (WritesLines-stopped c.args.header.now s c.args.items.now h c.args.waiting.now.items
    (g.K.Sink.written c.args.out.now) c.loop-item.item-index c.loop-item.phase c.loop-item.waiting.items
    (g.K.Sink.written c.loop-item.out) (c.loop-item.invariant.is_open s h writing) _ _ p.0)

pub returns-in_err-write_above-clause-writes : goal.returns-in_err-write_above-clause-writes
returns-in_err-write_above-clause-writes g c s h writing =
    let p = err_from_is_err_and c.from_residual-in_err-write_above.result
    c.from_residual-in_err-write_above.ensures.1 in
    let header = c.args.header.now in
    let items = c.args.items.now in
    let waiting = c.args.waiting.now.items in
    let held = g.K.Sink.written c.args.out.now in
    let n = c.loop-item.item-index in
    let opened = c.loop-item.invariant.is_open s h writing in
    let parts = parts-next header s items h waiting held n c.loop-item.phase c.loop-item.waiting.items
    (g.K.Sink.written c.loop-item.out) opened c.item-item.result c.item-item.result
    c.loop-item-test.true c.item-item.is in
    let on = c.in_ok-write_line.ensures.ok s items (take n items) (drop (n + 1) items) (opened.more ++ h) opened.writing
    parts in
    let made = IsOpen-line header s items h waiting held n c.loop-item.phase c.loop-item.waiting.items
    (g.K.Sink.written c.loop-item.out) opened c.item-item.result c.item-item.result
    c.loop-item-test.true c.item-item.is on.0 c.write_line.new.self on.1 c.write_line.new.out.items on.2 in
    let writes = c.in_err-write_above.ensures.writes in
    rw p.1 (WritesLines-stopped header s items h waiting held (n + 1) c.write_line.new.self writes.rest
    (g.K.Sink.written c.write_above.new.out)
    (IsOpen-moved header s items h waiting held (n + 1) c.write_line.new.self c.write_line.new.out.items
    (g.K.Sink.written c.loop-item.out) made (g.K.Sink.written c.write_above.new.out) writes.moved writes.rest
    writes.parts writes.appends writes.rest refl) _ _ p.0)

pub returns-in_err-write_above-clause-counts : goal.returns-in_err-write_above-clause-counts
returns-in_err-write_above-clause-counts g c =
    let p = err_from_is_err_and c.from_residual-in_err-write_above.result
    c.from_residual-in_err-write_above.ensures.1 in
    rw (p.1, p.2) (faults-after g.K.Sink.written g.K.Sink.faults g.K.Sink.calls c.args.out.now c.loop-item.out
    c.write_above.new.out _ c.loop-item.invariant.none_fails c.in_err-write_above.ensures.counts)

pub loop-item-preserved : goal.loop-item-preserved
loop-item-preserved g c = record {
  is_open = λ s h writing.
      let header = c.args.header.now in
      let items = c.args.items.now in
      let waiting = c.args.waiting.now.items in
      let held = g.K.Sink.written c.args.out.now in
      let n = c.loop-item.item-index in
      let opened = c.loop-item.invariant.is_open s h writing in
      let parts = parts-next header s items h waiting held n c.loop-item.phase c.loop-item.waiting.items
      (g.K.Sink.written c.loop-item.out) opened c.item-item.result c.item-item.result
      c.loop-item-test.true c.item-item.is in
      let on = c.in_ok-write_line.ensures.ok s items (take n items) (drop (n + 1) items) (opened.more ++ h) opened.writing
      parts in
      let made = IsOpen-line header s items h waiting held n c.loop-item.phase c.loop-item.waiting.items
      (g.K.Sink.written c.loop-item.out) opened c.item-item.result c.item-item.result
      c.loop-item-test.true c.item-item.is on.0 c.write_line.new.self on.1 c.write_line.new.out.items on.2 in
      let writes = c.in_ok-write_above.ensures.writes in
      IsOpen-moved header s items h waiting held (n + 1) c.write_line.new.self c.write_line.new.out.items
      (g.K.Sink.written c.loop-item.out) made (g.K.Sink.written c.write_above.new.out) writes.moved writes.rest
      writes.parts writes.appends c.write_above.new.waiting.items writes.kept;
  none_fails = c.in_ok-write_above.ensures.counts ∙ c.loop-item.invariant.none_fails;
}

pub returns-clause-writes : goal.returns-clause-writes
returns-clause-writes g c s h writing =
    WritesLines-whole c.args.header.now s c.args.items.now h c.args.waiting.now.items
    (g.K.Sink.written c.args.out.now) c.loop-item.item-index c.loop-item.phase c.loop-item.waiting.items
    (g.K.Sink.written c.loop-item.out) (c.loop-item.invariant.is_open s h writing) (omega arith)
