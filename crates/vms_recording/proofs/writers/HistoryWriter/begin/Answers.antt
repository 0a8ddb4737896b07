-- No segment is recorded yet.
use Rattle.std.proofs.Common.{◌≤◌, List, [], arith, length, refl, subst, sym, ℕ}
use Rattle.vms_recorded.specs.Histories.{HasRecorded}
use Rattle.vms_world.specs.Common.{State, first_start}
use Rattle.vms_recording.specs.Common.{most_waiting}
use Rattle.vms_recording.proofs.writers.HistoryWriter.begin.Goals as goal

pub returns : goal.returns
returns c =
    let header = c.args.header.now in
    let made = c.in_ok-pages.ensures in (
      c.in_ok-pages.pages,
      record {
        recorded = subst (λ (s : State). HasRecorded header [] [] first_start s) (sym made.2)
            (c.recorded_histories_go_on.ensures.first header made.0 c.requires made.1);
        pages = refl;
        lines = c.new.ensures.items;
        few = subst (λ (bytes : List ℕ). length bytes ≤ most_waiting) (sym c.new.ensures.items) (omega arith);
      },
    )
