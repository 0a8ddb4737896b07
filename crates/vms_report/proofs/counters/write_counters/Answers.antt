-- The line of a counter more.
use Rattle.std.proofs.Common.{◌≡◌, ◌<◌, ◌++◌, ◌∙◌, flat_map, map, take, List, ap, sym, arith, length, get_or, ℕ, rules}
use Rattle.std.proofs.Common.{subst}
use Rattle.std.specs.List.{enumerate_from}
use Rattle.vms_world.specs.Common.{Decl, sentence}
use Rattle.vms_report.specs.Common.{percpu_counter_words}
use Rattle.vms_text.specs.Writing.{Begins}
use Rattle.vms_text.proofs.Common.{Begins-after, OnErr-true, append_twice}
use Rattle.vms_report.proofs.Entries.{lines-more}
use Rattle.vms_report.proofs.counters.write_counters.Goals as goal

pub loop-counter-preserved : goal.loop-counter-preserved
loop-counter-preserved c =
    let counters = c.args.header.now.counters in
    let n = c.loop-counter.counter in
    let d = c.decl-item.result in
    let listed = c.«as_slice-decl-items».ensures in
    let within : n < length counters = omega (arith, c.loop-counter-test.true, ap length listed) in
    let is : d ≡ get_or counters n d = c.decl-item.is ∙ ap (λ (xs : List Decl). get_or xs n d) listed in
    append_twice _ _ _ _ _ _ c.in_ok-write_counter.ensures.ok c.loop-counter.invariant
    (ap (λ (decl : Decl). flat_map sentence
    (map (percpu_counter_words c.args.world.now) (enumerate_from 0 (take n counters)))
    ++ sentence (percpu_counter_words c.args.world.now (n, decl))) is
    ∙ sym (lines-more sentence (percpu_counter_words c.args.world.now) counters n d within))

pub returns-in_err-write_counter-clause-err : goal.returns-in_err-write_counter-clause-err
returns-in_err-write_counter-clause-err c =
    let start : c.reserve.new.self.items ≡ c.args.out.now.items = search rules in
    OnErr-true c.from_residual-in_err-write_counter.result _
    (subst (λ (front : List ℕ). Begins front c.write_counter.new.out.items) start
    (Begins-after _ _ _ _ c.loop-counter.invariant c.in_err-write_counter.ensures.err))
