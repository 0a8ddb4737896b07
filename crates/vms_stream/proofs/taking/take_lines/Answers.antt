-- The lines so far, one more line, and what is written meanwhile.
use Rattle.std.proofs.Common.{◌≡◌, ℕ, List, [], ◌∷◌, ◌++◌, Some, None, refl, sym, ap, ◌∙◌, append_assoc}
use Rattle.std.proofs.KnownBytes.{Appends-nil}
use Rattle.std.proofs.lemmas.Result.{err_from_is_err_and}
use Rattle.vms_stream.proofs.CourseEnds.{writes_after}
use Rattle.vms_stream.proofs.TakenLines.{nonempty, one_further}
use Rattle.vms_stream.proofs.LeadingOutcomes.{OutcomesLead-more, OutcomesLead-none}
use Rattle.vms_stream.proofs.TakenTexts.{Grows-nil, TakesText-failed, TakesText-line, TakesText-moved, TakesText-none}
use Rattle.vms_stream.proofs.TakenTexts.{TakesText-stopped}
use Rattle.vms_text.specs.Common.{lines_of}
use Rattle.vms_stream.proofs.taking.take_lines.Goals as goal

pub lines-init : goal.lines-init
lines-init g c = record {
  above = [];
  parts = refl;
  took = TakesText-none g.J.Job.behavior (g.J.Job.Stands c.args.job.now)
      (g.J.Job.made c.args.engine.now) c.args.waiting.now.items (g.K.Sink.written c.args.out.now);
  writes = refl;
}

pub returns-in_err-halt-clause-takes : goal.returns-in_err-halt-clause-takes
returns-in_err-halt-clause-takes g c =
    let p = err_from_is_err_and c.from_residual.result c.from_residual.ensures.1 in
    let inv = c.lines.invariant in
    let line = c.split_line.result.0.now in
    let after = c.split_line.result.1.now in
    let some = nonempty c.lines.rest.now c.is_empty.result c.is_empty.ensures c.lines-test.true in
    let lines : lines_of c.args.text.now ≡ inv.above ++ (line ∷ lines_of after)
    = one_further _ inv.above c.lines.rest.now line after inv.parts some c.split_line.ensures
    ∙ append_assoc inv.above (line ∷ []) (lines_of after) in
    rw p.1 (TakesText-failed g.J.Job.behavior _ _ _ _ inv.above _ _ _ _ inv.took _ _ c.take_line.ensures.outcomes
    (lines_of c.args.text.now) (line ∷ lines_of after) p.0 _ [] c.lines.waiting.items c.take_line.new.out.items lines
    c.take_line.ensures.grows
    (λ s here. OutcomesLead-more g.J.Job.behavior s c.take_line.ensures.outcomes (line ∷ []) (lines_of after)
    (c.take_line.ensures.leads s here)) refl (Appends-nil _))

pub returns-in-Some-clause-takes : goal.returns-in-Some-clause-takes
returns-in-Some-clause-takes g c =
    let inv = c.lines.invariant in
    let line = c.split_line.result.0.now in
    let after = c.split_line.result.1.now in
    let some = nonempty c.lines.rest.now c.is_empty.result c.is_empty.ensures c.lines-test.true in
    TakesText-stopped g.J.Job.behavior _ _ _ _ (lines_of c.args.text.now) (inv.above ++ line ∷ [])
    (lines_of after) c.in-Some.halt _ _ _ _
    (one_further _ inv.above c.lines.rest.now line after inv.parts some c.split_line.ensures)
    (TakesText-line g.J.Job.behavior _ _ _ _ inv.above _ _ _ _ inv.took _ _ line c.take_line.result
    c.in_ok-halt.field-0 (Some c.in-Some.halt) _ c.in_ok-halt.was c.in-Some.is c.take_line.ensures)

pub returns-in_err-write_above-clause-takes : goal.returns-in_err-write_above-clause-takes
returns-in_err-write_above-clause-takes g c =
    let p = err_from_is_err_and c.from_residual-in_err-write_above.result
    c.from_residual-in_err-write_above.ensures.1 in
    let inv = c.lines.invariant in
    let line = c.split_line.result.0.now in
    let after = c.split_line.result.1.now in
    let some = nonempty c.lines.rest.now c.is_empty.result c.is_empty.ensures c.lines-test.true in
    let writes = c.write_above.ensures.writes in
    rw p.1 (TakesText-failed g.J.Job.behavior _ _ _ _ (inv.above ++ line ∷ []) _ _ _ _
    (TakesText-line g.J.Job.behavior _ _ _ _ inv.above _ _ _ _ inv.took _ _ line c.take_line.result
    c.in_ok-halt.field-0 None _ c.in_ok-halt.was c.in_default.is c.take_line.ensures) _ _ []
    (lines_of c.args.text.now) (lines_of after) p.0 _ writes.moved writes.rest c.write_above.new.waiting.items
    (one_further _ inv.above c.lines.rest.now line after inv.parts some c.split_line.ensures)
    (Grows-nil _) (λ s here. OutcomesLead-none g.J.Job.behavior s (lines_of after)) writes.parts writes.appends)

pub returns-in_err-write_above-clause-counts : goal.returns-in_err-write_above-clause-counts
returns-in_err-write_above-clause-counts g c =
    let p = err_from_is_err_and c.from_residual-in_err-write_above.result
    c.from_residual-in_err-write_above.ensures.1 in
    rw (p.1, p.2) (writes_after g.K.Sink.written g.K.Sink.faults g.K.Sink.calls c.args.out.now c.lines.out
    c.write_above.new.out _ c.lines.invariant.writes c.in_err-write_above.ensures.counts)

pub lines-preserved : goal.lines-preserved
lines-preserved g c =
    let inv = c.lines.invariant in
    let line = c.split_line.result.0.now in
    let after = c.split_line.result.1.now in
    let some = nonempty c.lines.rest.now c.is_empty.result c.is_empty.ensures c.lines-test.true in
    let writes = c.in_ok-write_above.ensures.writes in
    record {
      above = inv.above ++ line ∷ [];
      parts = one_further _ inv.above c.lines.rest.now line after inv.parts some c.split_line.ensures;
      took = TakesText-moved g.J.Job.behavior _ _ _ _ (inv.above ++ line ∷ []) _ _ _ _
          (TakesText-line g.J.Job.behavior _ _ _ _ inv.above _ _ _ _ inv.took _ _ line c.take_line.result
          c.in_ok-halt.field-0 None _ c.in_ok-halt.was c.in_default.is c.take_line.ensures) _ writes.moved
          c.write_above.new.waiting.items
          (writes.parts ∙ ap (λ (rest : List ℕ). writes.moved ++ rest) (sym writes.waits)) writes.appends;
      writes = c.in_ok-write_above.ensures.counts ∙ inv.writes;
    }
