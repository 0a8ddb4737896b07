-- The goal was that the settings are those of the state at the start.
use Rattle.std.proofs.Common.{refl, ◌∙◌}
use Rattle.vms_words.proofs.OpeningSettings.{KeepsSettings-opening}
use Rattle.vms_words.proofs.kept.Settings.opening.Goals as goal

pub returns : goal.returns
returns c sizes =
    KeepsSettings-opening (record { layout = c.args.layout.now; sizes = sizes; base = c.args.state.now })
    c.requires.layout
    c.requires.opening
    (record {
      peaks = c.in_ok-opening_peaks.field-0;
      thresholds = c.in_ok-from_slice.field-0;
      threshold_sets = c.in_ok-from_slice-2.field-0;
      mark_sets = c.in_ok-from_slice-3.field-0;
      cpus = c.in_ok-from_slice-4.field-0;
      largest_sets = 0;
    })
    c.in_ok-opening_peaks.ensures.len c.in_ok-opening_peaks.ensures.each
    (c.in_ok-from_slice.ensures ∙ c.as_slice.ensures) (c.in_ok-from_slice-2.ensures ∙ c.as_slice-2.ensures)
    (c.in_ok-from_slice-3.ensures ∙ c.as_slice-3.ensures) (c.in_ok-from_slice-4.ensures ∙ c.as_slice-4.ensures) refl
