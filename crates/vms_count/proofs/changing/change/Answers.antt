-- The goals were what the threshold's load leaves, and what the steps are together.
use Rattle.std.proofs.Common.{FitsSigned, w64, List, ap, ◌∙◌, subst}
use Rattle.std.proofs.lemmas.Int.{to_z-of_z}
use Rattle.vms_calls.specs.Common.{place_of, Carries, Step, pages}
use Rattle.vms_seats.specs.Common.{Made}
use Rattle.vms_count.specs.Common.{HasExchanged}
use Rattle.vms_count.proofs.ChangeSteps.{changed-whole, changed-nothing, known-cpu, nothing-threshold, has-loaded}
use Rattle.vms_count.proofs.changing.change.Goals as goal

pub exchange-amount-requires-clause-cpu : goal.exchange-amount-requires-clause-cpu
exchange-amount-requires-clause-cpu c =
    known-cpu c.args.pass.now.pass c.args.table.now.facts c.requires.table.facts c.cpu-cpu.ensures.live c.cpu-cpu.result
    c.cpu-cpu.ensures.owns

pub exchange-amount-requires-clause-loaded : goal.exchange-amount-requires-clause-loaded
exchange-amount-requires-clause-loaded c =
    has-loaded c.args.table.now.facts.layout c.load_threshold-threshold.new.pass.pass c.args.pass.now.pass
    c.args.counter c.place_of-place.result c.load_threshold-threshold.result.t c.load_threshold-threshold.result.number
    (c.place_of-place.ensures.value ∙ ap (λ shape. place_of shape c.args.counter.number) c.layout.ensures)
    c.load_threshold-threshold.ensures.made

pub exchange-amount-requires-clause-nothing : goal.exchange-amount-requires-clause-nothing
exchange-amount-requires-clause-nothing c =
    nothing-threshold c.args.table.now.facts.layout c.load_threshold-threshold.new.pass.pass c.args.pass.now.pass
    c.place_of-place.result c.load_threshold-threshold.result.t c.load_threshold-threshold.result.number
    c.load_threshold-threshold.ensures.made c.requires.nothing

pub returns-clause-made : goal.returns-clause-made
returns-clause-made c =
    let fits : FitsSigned w64 c.exchange-amount.result = search in
    changed-whole c.args.table.now.facts.layout c.carry.new.pass.pass c.exchange-amount.new.pass.pass
    c.load_threshold-threshold.new.pass.pass c.args.pass.now.pass c.args.counter c.load_threshold-threshold.result.t
    c.load_threshold-threshold.result.number c.args.delta c.args.mode c.exchange-amount.result c.place_of-place.result
    (c.place_of-place.ensures.value ∙ ap (λ shape. place_of shape c.args.counter.number) c.layout.ensures)
    c.load_threshold-threshold.ensures.made
    (subst (λ d. HasExchanged c.exchange-amount.new.pass.pass c.load_threshold-threshold.new.pass.pass c.args.counter
    c.load_threshold-threshold.result.t d c.args.mode c.exchange-amount.result)
    (to_z-of_z w64 c.args.delta c.ranges.delta) c.exchange-amount.ensures.made)
    (subst (λ z. (additions : List Step) × Carries c.args.table.now.facts.layout c.args.counter z additions
    × Made pages c.carry.new.pass.pass c.exchange-amount.new.pass.pass additions)
    (to_z-of_z w64 c.exchange-amount.result fits) c.carry.ensures.made)

pub returns-clause-carries : goal.returns-clause-carries
returns-clause-carries c =
    changed-nothing c.args.table.now.facts.layout c.carry.new.pass.pass c.args.pass.now.pass c.args.counter
    c.args.delta c.args.mode (returns-clause-made c) c.requires.nothing
