-- The text is certified, and it ends with the end of a line.
use Rattle.std.proofs.Common.{inr}
use Rattle.vms_recorded_texts.specs.RecordedTexts.{recorded_text}
use Rattle.vms_recorded_texts.proofs.AnsweredTexts.{answer-is}
use Rattle.vms_recorded_texts.proofs.WholeTexts.{recorded-ends}
use Rattle.vms_recorded_texts.proofs.laws.recorded_texts_have_no_fault.Goals as goal

pub returns : goal.returns
returns c lines hs status output left is within says =
    answer-is c.judged_faults_are_final.ensures.certified c.faults_are_final.ensures.cut_off
    c.faults_are_final.ensures.none (recorded_text lines hs) hs status output _ (recorded-ends lines hs) within
    (c.recorded_texts_are_certified.ensures.certified lines hs is
    (c.recorded_texts_are_certified.ensures.short lines hs (inr within))) says
