-- The page counters are those that the boundary line makes.
use Rattle.std.proofs.Common.{refl, subst, sym}
use Rattle.vms_own_acts.specs.Common.{IsExactly}
use Rattle.vms_world.specs.Common.{State, normal_threshold_of}
use Rattle.vms_written.specs.Common.{CrossesPages}
use Rattle.vms_written_states.specs.PageStarts.{IsPageStart}
use Rattle.vms_recording.proofs.RecordedPhases.{one-state}
use Rattle.vms_recording.proofs.writers.HistoryWriter.cross.Goals as goal

pub cross-requires-clause-may : goal.cross-requires-clause-may
cross-requires-clause-may c =
    let r = c.requires.recording in
    let same = one-state c.args.self.now.pages c.in-Some.pages r.3 c.in-Some.is r.5.pages in (
      r.2,
      subst (λ (s : State). IsPageStart c.args.header.now r.2 s) (sym same) r.5.recorded.begun,
      r.6,
      r.7,
    )

pub returns : goal.returns
returns c segments hs start s written number is known allowed =
    let header = c.args.header.now in
    let b = c.args.boundary in
    let same = one-state c.args.self.now.pages c.in-Some.pages s c.in-Some.is is.pages in (
      c.cross.new.pages,
      record {
        recorded = c.recorded_histories_go_on.ensures.boundary header segments hs start s c.cross.new.pages number b
            is.recorded known allowed (subst (λ (t : State). CrossesPages header (IsExactly normal_threshold_of) b t
            c.cross.new.pages) same c.cross.ensures);
        pages = refl;
        lines = is.lines;
        few = is.few;
      },
    )
