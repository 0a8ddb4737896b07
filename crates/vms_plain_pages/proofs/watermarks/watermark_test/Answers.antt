-- The steps of the test.
use Rattle.std.proofs.Common.{sym, subst, rules}
use Rattle.vms_calls.specs.Common.{IsWatermarkTest}
use Rattle.vms_calls.specs.declared.answers.Verdict.{Verdict}
use Rattle.vms_plain_pages.specs.Common.{CallLeadsAlone}
use Rattle.vms_plain_pages.proofs.TestSteps.{test-made}
use Rattle.vms_plain_pages.proofs.watermarks.watermark_test.Goals as goal

pub returns-clause-answer : goal.returns-clause-answer
returns-clause-answer c = search rules

pub returns-clause-made : goal.returns-clause-made
returns-clause-made c = λ who.
    subst (λ (verdict : Verdict). CallLeadsAlone who
    (λ steps. IsWatermarkTest c.args.header.now c.args.zone c.args.mark c.args.most steps verdict)
    c.args.pages.now c.args.pages.now)
    (sym (returns-clause-answer c))
    (test-made c.args.header.now c.requires.header.is_layout c.args.pages.now c.requires.room c.args.zone
    c.requires.zone c.args.mark c.args.most who)
