-- The lines are of lanes, the page counters may begin a phase, and the phase is open before its first line.
use Rattle.std.proofs.Common.{sym, subst}
use Rattle.std.proofs.lemmas.Result.{IfOk-weaker}
use Rattle.vms_world.specs.Common.{lanes_of}
use Rattle.vms_file_order.specs.Common.{opening_of, page_passes}
use Rattle.vms_phase_lines.specs.Common.{HaveBegun}
use Rattle.vms_phase_lines.proofs.PhaseEnds.{IsBase-fit, IsWriting-open}
use Rattle.vms_phase_lines.proofs.phases.PhaseWriter.begin.Goals as goal

pub open-requires-clause-items : goal.open-requires-clause-items
open-requires-clause-items c = λ k d within. (c.requires.fit.fits.known k d within).0

pub make-requires : goal.make-requires
make-requires c = IsBase-fit c.args.header.now c.args.base c.args.items.now c.requires.fit

pub returns-clause-ok : goal.returns-clause-ok
returns-clause-ok c = IfOk-weaker c.make.result _ _ (λ writer made.
    let header = c.args.header.now in
    let lanes = lanes_of header.layout c.args.items.now in (
      opening_of page_passes lanes,
      IsWriting-open header c.args.base c.args.items.now c.requires.fit writer.lanes
          (subst (HaveBegun header lanes) (sym made.0) c.in_ok-lanes.ensures.begins) writer.peaks made.2 writer.pages
          made.1,
      c.in_ok-lanes.ensures.lines,
    )) c.make.ensures
