-- What the registers of the page counters keep of a history.
use Rattle.std.specs.Prelude.{ℕ}
use Rattle.vms_core.specs.declared.steps.Facts.{Facts}
use Rattle.vms_core.specs.Common.{History, pages}
use Rattle.vms_registers.specs.Shows.{Parts, Shows}
use Rattle.vms_page_words.specs.Words.{KeepsWords}
use Rattle.vms_page_passes.specs.Keeps.{KeepsPassNotes}
use Rattle.vms_page_peaks.specs.Keeps.{KeepsPeaks}
use Rattle.vms_page_registers.specs.declared.registers.PageRegisters.{PageRegisters}

-- the numbers that stand, what the pass in each slot knows and carries, and what each CPU has spent and may hide
pub record KeepsPages (facts : Facts) (h : History) (held : ℕ → ℕ) (r : PageRegisters) : Type 0 where
  pub words : KeepsWords facts h r.words
  pub passes : KeepsPassNotes facts h held r.passes
  pub peaks : KeepsPeaks facts h r.peaks

-- registers of passes and of the page counters are those after a history
abbrev pub ShowsPages : Facts → History → Parts PageRegisters → Type 0
ShowsPages facts h r = Shows pages (λ facts. facts.layout.cpus) KeepsPages facts h r
