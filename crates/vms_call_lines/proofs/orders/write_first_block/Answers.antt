-- An area with a block ends the search, and one without is passed over.
use Rattle.std.proofs.Common.{◌≡◌, ℕ, ◌+◌, ◌-◌, drop, Bool, Some, None, subst, arith}
use Rattle.vms_calls.specs.Common.{area_names, areas_from, areas_named, areas_of}
use Rattle.vms_calc.proofs.Common.{areas_from-later}
use Rattle.vms_plans.specs.Common.{blocks_plan, either, ends}
use Rattle.vms_text.proofs.Common.{Begins-after, OnErr-true}
use Rattle.vms_call_lines.specs.Lines.{BeginsWriting}
use Rattle.vms_call_lines.proofs.OrderWays.{begins-next}
use Rattle.vms_call_lines.proofs.Writing.{begins-nothing, writes-ends, writes-then}
use Rattle.vms_call_lines.proofs.orders.write_first_block.Goals as goal

pub loop-number-init : goal.loop-number-init
loop-number-init c = λ who.
    let shape = c.args.header.now.layout in
    let zone = c.args.zone in
    let items = c.args.header.now.items in
    let plan = blocks_plan shape zone (areas_from c.args.order (areas_of items)) in
    subst (λ areas. BeginsWriting who plan c.args.pages.now c.args.caller c.args.out.now.items c.args.out.now.items
    (blocks_plan shape zone areas) c.args.pages.now)
    (areas_from-later items c.args.order 1 area_names c.requires.least)
    (begins-nothing who c.args.caller plan c.args.pages.now c.args.out.now.items)

pub returns-then-branch-clause-ok : goal.returns-then-branch-clause-ok
returns-then-branch-clause-ok c = λ who.
    let shape = c.args.header.now.layout in
    let zone = c.args.zone in
    let items = c.args.header.now.items in
    let s = c.args.pages.now in
    let p = c.args.caller in
    let n = c.loop-number.number in
    let out = c.args.out.now.items in
    let out' = c.write_blocks.new.out.items in
    let plan = blocks_plan shape zone (areas_from c.args.order (areas_of items)) in
    let later = areas_named items (n + 1) (drop (n + 1 - 1) area_names) in
    writes-then who p plan (ends (Some n)) s s s out out' out' (Some n)
    (subst (λ (b : Bool). BeginsWriting who plan s p out out' (either b (ends (Some n)) (blocks_plan shape zone later)) s)
    c.if-branch.true
    (begins-next who s p shape zone items n plan c.in_ok-write_blocks.field-0 out c.loop-number.out.items out'
    (omega arith) (omega arith) (c.loop-number.invariant who) (c.in_ok-write_blocks.ensures.ok who)))
    (writes-ends who p (Some n) s out')

pub loop-number-preserved : goal.loop-number-preserved
loop-number-preserved c = λ who.
    let shape = c.args.header.now.layout in
    let zone = c.args.zone in
    let items = c.args.header.now.items in
    let s = c.args.pages.now in
    let p = c.args.caller in
    let n = c.loop-number.number in
    let out = c.args.out.now.items in
    let out' = c.write_blocks.new.out.items in
    let plan = blocks_plan shape zone (areas_from c.args.order (areas_of items)) in
    let later = areas_named items (n + 1) (drop (n + 1 - 1) area_names) in
    subst (λ (b : Bool). BeginsWriting who plan s p out out' (either b (ends (Some n)) (blocks_plan shape zone later)) s)
    c.if-branch.false
    (begins-next who s p shape zone items n plan c.in_ok-write_blocks.field-0 out c.loop-number.out.items out'
    (omega arith) (omega arith) (c.loop-number.invariant who) (c.in_ok-write_blocks.ensures.ok who))

pub returns-clause-ok : goal.returns-clause-ok
returns-clause-ok c = λ who.
    let shape = c.args.header.now.layout in
    let zone = c.args.zone in
    let items = c.args.header.now.items in
    let s = c.args.pages.now in
    let p = c.args.caller in
    let out = c.args.out.now.items in
    let out' = c.loop-number.out.items in
    let plan = blocks_plan shape zone (areas_from c.args.order (areas_of items)) in
    let done : c.loop-number.number ≡ 11 = omega (arith, c.loop-number-test.false, c.loop-number.auto.«number-end») in
    writes-then who p plan (ends None) s s s out out' out' None
    (subst (λ (n : ℕ). BeginsWriting who plan s p out out'
    (blocks_plan shape zone (areas_named items n (drop (n - 1) area_names))) s) done (c.loop-number.invariant who))
    (writes-ends who p None s out')

pub returns-in_err-write_blocks-clause-err : goal.returns-in_err-write_blocks-clause-err
returns-in_err-write_blocks-clause-err c =
    OnErr-true c.from_residual.result _
    (Begins-after _ _ _ _ (c.loop-number.invariant None).lines c.in_err-write_blocks.ensures.err)
