-- The three loads, and then the verdict.
use Rattle.std.proofs.Common.{ℕ, ap, w64}
use Rattle.std.proofs.lemmas.Int.{to_z-of_z}
use Rattle.vms_calls.specs.Common.{CounterId}
use Rattle.vms_text.proofs.Common.{Begins-after, OnErr-true}
use Rattle.vms_call_lines.proofs.TestWays.{writes-test}
use Rattle.vms_call_lines.proofs.tests.write_test.Goals as goal

pub returns-clause-ok : goal.returns-clause-ok
returns-clause-ok c = λ who.
    let first = c.in_ok-first.ensures.ok in
    let value = c.in_ok-value.ensures in
    let second = c.in_ok-second.ensures.ok in
    writes-test who c.args.pages.now c.args.caller c.args.header.now c.args.zone c.args.mark c.args.most
    c.in_ok-first.first c.in_ok-second.second c.counter-counter.result c.in_ok-value.value _ c.is_doubtful-doubt.result _
    c.args.out.now.items c.load_mark.new.out.items c.load_value.new.out.items c.load_mark-2.new.out.items
    c.write_frees.new.out.items
    (ap (λ (n : ℕ). let x : CounterId = record { number = n } in x) c.counter-counter.ensures.value)
    first.0 first.1 first.2 value.load.0 value.load.1 second.0 second.1 second.2
    (to_z-of_z w64 c.in_ok-value.value value.fits) c.is_doubtful-doubt.ensures (c.in_ok-verdict.ensures.ok who)

pub returns-in_err-value-clause-err : goal.returns-in_err-value-clause-err
returns-in_err-value-clause-err c =
    OnErr-true c.from_residual-in_err-value.result _
    (Begins-after _ _ _ _ c.in_ok-first.ensures.ok.2 c.in_err-value.ensures.err)

pub returns-in_err-second-clause-err : goal.returns-in_err-second-clause-err
returns-in_err-second-clause-err c =
    OnErr-true c.from_residual-in_err-second.result _
    (Begins-after _ _ _ _ c.in_ok-first.ensures.ok.2
    (Begins-after _ _ _ _ c.in_ok-value.ensures.load.1 c.in_err-second.ensures.err))

pub returns-in_err-verdict-clause-err : goal.returns-in_err-verdict-clause-err
returns-in_err-verdict-clause-err c =
    OnErr-true c.from_residual-in_err-verdict.result _
    (Begins-after _ _ _ _ c.in_ok-first.ensures.ok.2
    (Begins-after _ _ _ _ c.in_ok-value.ensures.load.1
    (Begins-after _ _ _ _ c.in_ok-second.ensures.ok.2 c.in_err-verdict.ensures.err)))
