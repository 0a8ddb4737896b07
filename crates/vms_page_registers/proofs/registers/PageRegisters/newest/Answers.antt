-- The numbers that stand are those that the history tells.
use Rattle.std.proofs.Common.{◌≢◌, ℕ, Option, arith, refl, ◌∙◌}
use Rattle.vms_history.specs.Common.{CpuId, PlaceId}
use Rattle.vms_core.specs.declared.steps.Facts.{Facts}
use Rattle.vms_core.specs.declared.steps.Step.{Step}
use Rattle.vms_core.specs.declared.steps.Step.TheVariants.{LoadA}
use Rattle.vms_core.specs.Common.{History}
use Rattle.vms_page_words.proofs.WordsKept.{cpu-told, sets-told, shaped, threshold-told}
use Rattle.vms_page_peaks.specs.declared.peaks.Newest.{Newest}
use Rattle.vms_page_peaks.specs.Keeps.{TellsNewest}
use Rattle.vms_page_registers.proofs.registers.PageRegisters.newest.Goals as goal

pub cpu-requires : goal.cpu-requires
cpu-requires c =
    let may = rw c.in-LoadA.is at c.requires.3 in
    record {
      shaped = shaped c.args.facts.now c.requires.0 c.requires.1 c.args.slot c.requires.2 may.stands
          c.args.self.now.words c.requires.4.words;
      cpu = may.meets.cpu;
    }

pub threshold-requires : goal.threshold-requires
threshold-requires c =
    let may = rw c.in-LoadA.is at c.requires.3 in
    record {
      shaped = shaped c.args.facts.now c.requires.0 c.requires.1 c.args.slot c.requires.2 may.stands
          c.args.self.now.words c.requires.4.words;
      cpu = may.meets.cpu;
      place = let zone = may.meets.zone in omega arith;
    }

pub threshold_sets-requires : goal.threshold_sets-requires
threshold_sets-requires c =
    let may = rw c.in-LoadA.is at c.requires.3 in
    record {
      shaped = shaped c.args.facts.now c.requires.0 c.requires.1 c.args.slot c.requires.2 may.stands
          c.args.self.now.words c.requires.4.words;
      cpu = may.meets.cpu;
      place = let zone = may.meets.zone in omega arith;
    }

pub returns-in-LoadA : goal.returns-in-LoadA
returns-in-LoadA c = rw c.in-LoadA.is (λ h held p may keeps.
    let facts = c.args.facts.now in
    let cpu = c.in-LoadA.cpu.number in
    let zone = c.in-LoadA.zone.number in
    let words = c.args.self.now.words in
    let zone_in = may.meets.zone in
    record {
      cpu = c.cpu.ensures ∙ cpu-told facts h held c.args.slot p may.stands words keeps.words cpu may.meets.cpu;
      threshold = c.threshold.ensures
          ∙ threshold-told facts h held c.args.slot p may.stands words keeps.words cpu zone may.meets.cpu (omega arith);
      number = c.threshold_sets.ensures
          ∙ sets-told facts h held c.args.slot p may.stands words keeps.words cpu zone may.meets.cpu (omega arith);
    })

-- beside another step anything stands
tells-other : (facts : Facts) (h : History) (step : Step) (newest : Newest)
    → ((c : CpuId) (g : PlaceId) (x : Option ℕ) → step ≢ LoadA c g x) → TellsNewest facts h step newest
tells-other facts h (LoadA c g x) newest other = absurd (other c g x refl)
tells-other facts h _ newest other = tt

pub returns-in_default : goal.returns-in_default
returns-in_default c = λ h held p may keeps.
    tells-other c.args.facts.now h c.args.step.now _ c.in_default.not-LoadA
