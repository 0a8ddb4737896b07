-- The value, or the snapshot.
use Rattle.std.proofs.Common.{ℕ, Bool, true, false, nat_lt, ap, sym, subst, w64, ◌∙◌}
use Rattle.std.proofs.lemmas.Int.{to_z-of_z}
use Rattle.vms_calls.specs.Common.{CounterId, at_least_zero}
use Rattle.vms_plans.specs.Common.{frees_plan}
use Rattle.vms_call_lines.specs.Lines.{WritesWay}
use Rattle.vms_call_lines.proofs.TestWays.{writes-fast, writes-slow}
use Rattle.vms_call_lines.proofs.tests.write_frees.Goals as goal

pub returns-then-not-doubt-clause-ok : goal.returns-then-not-doubt-clause-ok
returns-then-not-doubt-clause-ok c = λ who.
    subst (λ (b : Bool). WritesWay who (frees_plan c.args.header.now c.args.zone c.args.mark c.args.most b c.args.value)
    c.args.pages.now c.args.caller c.args.out.now.items c.args.out.now.items
    (record { yes = nat_lt c.limit-limit.result c.clamped-free.result; free = c.clamped-free.result; fast = true })
    c.args.pages.now) (sym c.if-not-doubt.true)
    (writes-fast who c.args.pages.now c.args.caller c.args.header.now c.args.zone c.args.mark c.args.most
    c.limit-limit.result c.clamped-free.result c.args.value c.args.out.now.items c.limit-limit.ensures.value
    (c.clamped-free.ensures ∙ ap at_least_zero (to_z-of_z w64 c.args.value c.ranges.value)))

pub returns-clause-ok : goal.returns-clause-ok
returns-clause-ok c = λ who.
    subst (λ (b : Bool). WritesWay who (frees_plan c.args.header.now c.args.zone c.args.mark c.args.most b c.args.value)
    c.args.pages.now c.args.caller c.args.out.now.items c.write_snapshot.new.out.items
    (record { yes = nat_lt c.limit-limit.result c.in_ok-free.free; free = c.in_ok-free.free; fast = false })
    c.args.pages.now) (sym c.if-not-doubt.false)
    (writes-slow who c.args.pages.now c.args.caller c.args.header.now c.args.zone c.args.mark c.args.most
    c.limit-limit.result c.in_ok-free.free c.args.value c.counter-counter.result c.args.out.now.items
    c.write_snapshot.new.out.items c.limit-limit.ensures.value
    (ap (λ (n : ℕ). let x : CounterId = record { number = n } in x) c.counter-counter.ensures.value)
    (c.in_ok-free.ensures.writes who))
