-- The next line is a step of ParsingSteps: it goes on, ends the header or is at fault.
use Rattle.std.proofs.Common.{ℕ, ◌≡◌, ◌≢◌, ◌==◌, Bool, false, List, [], length, Err, ap, arith, sym, subst}
use Rattle.std.proofs.lemmas.Bool.Decides.{nat_tests}
use Rattle.vms_header.specs.Common.{ReadsHeader}
use Rattle.vms_header.proofs.ParsingSteps.{IsReadTo-ends, IsReadTo-goes, IsReadTo-refused}
use Rattle.vms_header.proofs.parsing.parse_header.Goals as goal

filled : (rest : List ℕ) (empty : Bool) → empty ≡ (length rest == 0) → empty ≡ false → rest ≢ []
filled rest empty is some none = let long = ap length none in grind (arith, nat_tests)

pub returns-in-Ok-Ends-clause-read : goal.returns-in-Ok-Ends-clause-read
returns-in-Ok-Ends-clause-read c =
    let some = filled c.loop-rest.rest.now c.is_empty.result c.is_empty.ensures c.loop-rest-test.true in
    let step = rw c.in-Ok-Ends.field-0-is at c.in-Ok-Ends.ensures.step in
    IsReadTo-ends c.args.text.now c.loop-rest.line c.loop-rest.reader c.loop-rest.rest.now c.split_line.result.0.now
    c.split_line.result.1.now step.0 c.in-Ok-Ends.header c.loop-rest.invariant c.split_line.ensures some step.1 step.2

pub returns-in-Err-clause-read : goal.returns-in-Err-clause-read
returns-in-Err-clause-read c =
    let some = filled c.loop-rest.rest.now c.is_empty.result c.is_empty.ensures c.loop-rest-test.true in
    let refused = IsReadTo-refused c.args.text.now c.loop-rest.line c.loop-rest.reader c.loop-rest.rest.now
    c.split_line.result.0.now c.split_line.result.1.now c.in-Err.error c.loop-rest.invariant c.split_line.ensures some
    c.in-Err.ensures.step in
    subst (λ error. ReadsHeader c.args.text.now (Err error)) (sym c.at_line.ensures) refused

pub loop-rest-preserved : goal.loop-rest-preserved
loop-rest-preserved c =
    let some = filled c.loop-rest.rest.now c.is_empty.result c.is_empty.ensures c.loop-rest-test.true in
    let step = rw c.in-Ok-Goes.field-0-is at c.in-Ok-Goes.ensures.step in
    IsReadTo-goes c.args.text.now c.loop-rest.line c.loop-rest.reader c.in-Ok-Goes.next c.loop-rest.rest.now
    c.split_line.result.0.now c.split_line.result.1.now c.loop-rest.invariant c.split_line.ensures some step
