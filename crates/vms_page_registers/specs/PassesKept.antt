-- A pass that begins, and one that ends, leave the registers as they are.
use Rattle.std.specs.Prelude.{ℕ, ◌∷◌}
use Rattle.vms_core.specs.declared.steps.Facts.{Facts}
use Rattle.vms_core.specs.declared.steps.Step.{Step}
use Rattle.vms_core.specs.Common.{History, pages, role}
use Rattle.vms_registers.specs.Slots.{BeginsIn, EndsIn, owner_of}
use Rattle.vms_registers.proofs.QuietRoles.{begins-differs, ends-differs}
use Rattle.vms_page_words.proofs.WordsKept.{KeepsWords-begins, KeepsWords-ends}
use Rattle.vms_page_passes.proofs.PassesKept.{KeepsPassNotes-begins, KeepsPassNotes-ends}
use Rattle.vms_page_peaks.proofs.PassesKept.{KeepsPeaks-quiet}
use Rattle.vms_page_registers.specs.declared.registers.PageRegisters.{PageRegisters}
use Rattle.vms_page_registers.specs.Keeps.{KeepsPages}

module _ (facts : Facts) (h : History) (held next : ℕ → ℕ) (slot q : ℕ) (step : Step) (r : PageRegisters)
    (keeps : KeepsPages facts h held r) where
  pub KeepsPages-begins : BeginsIn pages facts facts.layout.cpus h held slot q step next
      → KeepsPages facts (record { caller = 0; step = step } ∷ h) next r
  KeepsPages-begins begins = record {
    words = KeepsWords-begins facts h held next slot q step r.words keeps.words begins;
    passes = KeepsPassNotes-begins facts h held next slot q step r.passes keeps.passes begins;
    peaks = KeepsPeaks-quiet facts h 0 step r.peaks
        (begins-differs (role step) q (owner_of facts.layout.cpus slot) begins.begins) keeps.peaks;
  }

  pub KeepsPages-ends : EndsIn pages facts facts.layout.cpus h held slot q step next
      → KeepsPages facts (record { caller = 0; step = step } ∷ h) next r
  KeepsPages-ends ends = record {
    words = KeepsWords-ends facts h held next slot q step r.words keeps.words ends;
    passes = KeepsPassNotes-ends facts h held next slot q step r.passes keeps.passes ends;
    peaks = KeepsPeaks-quiet facts h 0 step r.peaks (ends-differs (role step) q ends.ends) keeps.peaks;
  }
