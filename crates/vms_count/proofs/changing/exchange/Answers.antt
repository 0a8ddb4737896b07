-- The goals were that the pass may put, again after a miss, and what its steps are together.
use Rattle.std.proofs.Common.{◌≡◌, FitsSigned, w64, to_z, of_z, sym, subst}
use Rattle.std.proofs.lemmas.Int.{to_z-of_z}
use Rattle.vms_calls.specs.Common.{own}
use Rattle.vms_words.specs.Common.{MayPut, HasPut}
use Rattle.vms_count.specs.Common.{HasExchanged, CarriesFor}
use Rattle.vms_count.proofs.ChangeSteps.{first-put, won-made, won-carries, second-put, missed-made, missed-carries}
use Rattle.vms_count.proofs.changing.exchange.Goals as goal

pub put-requires-clause-puts : goal.put-requires-clause-puts
put-requires-clause-puts c =
    let looked = c.load_diffs-found in
    subst (λ d. MayPut looked.new.pass c.args.counter looked.result c.args.threshold d)
    (sym (to_z-of_z w64 c.args.delta c.ranges.delta))
    (first-put c.args.table.now.facts c.args.pass.now c.requires.table.facts c.args.cpu c.requires.owns
    c.args.counter c.requires.counter c.args.threshold c.requires.loaded c.requires.nothing c.args.delta c.requires.room
    looked.new.pass c.group-group.result looked.result c.group-group.ensures.value looked.ensures.made
    looked.ensures.volume)

pub put-requires-in-Missed-clause-puts : goal.put-requires-in-Missed-clause-puts
put-requires-in-Missed-clause-puts c =
    let looked = c.load_diffs-found in
    subst (λ d. MayPut c.put.new.pass c.args.counter c.zeros-zeros.result c.args.threshold d)
    (sym (to_z-of_z w64 c.args.delta c.ranges.delta))
    (second-put c.args.table.now.facts c.args.pass.now c.requires.table.facts c.args.cpu c.requires.owns
    c.args.counter c.requires.counter c.args.threshold c.requires.loaded c.requires.nothing c.args.delta c.requires.room
    looked.new.pass c.group-group.result looked.result c.group-group.ensures.value looked.ensures.made
    looked.ensures.volume c.put.new.pass c.in-Missed.ensures c.zeros-zeros.result c.zeros-zeros.ensures)

pub returns-in-Done-clause-made : goal.returns-in-Done-clause-made
returns-in-Done-clause-made c =
    let looked = c.load_diffs-found in
    let amount = c.in-Done.amount in
    let fits : FitsSigned w64 amount = search in
    let same : to_z w64 (of_z w64 amount) ≡ amount = to_z-of_z w64 amount fits in
    subst (λ z. HasExchanged c.put.new.pass.pass c.args.pass.now.pass c.args.counter c.args.threshold c.args.delta
    c.args.mode z) (sym same)
    (won-made c.args.table.now.facts c.args.pass.now c.requires.table.facts c.args.cpu c.requires.owns
    c.args.counter c.requires.counter c.args.threshold c.requires.loaded c.requires.nothing c.args.delta c.requires.room
    looked.new.pass c.group-group.result looked.result c.group-group.ensures.value looked.ensures.made
    looked.ensures.volume c.args.mode
    c.put.new.pass amount
    (subst (λ d. HasPut c.put.new.pass looked.new.pass c.args.counter looked.result c.args.threshold d
    c.args.mode amount)
    (to_z-of_z w64 c.args.delta c.ranges.delta) c.in-Done.ensures))

pub returns-in-Done-clause-carries : goal.returns-in-Done-clause-carries
returns-in-Done-clause-carries c =
    let looked = c.load_diffs-found in
    let amount = c.in-Done.amount in
    let fits : FitsSigned w64 amount = search in
    let same : to_z w64 (of_z w64 amount) ≡ amount = to_z-of_z w64 amount fits in
    subst (λ z. CarriesFor c.args.table.now.facts.layout c.args.counter.number z
    (own c.put.new.pass.pass.seen c.put.new.pass.pass.number)) (sym same)
    (won-carries c.args.table.now.facts c.args.pass.now c.requires.table.facts c.args.cpu c.requires.owns
    c.args.counter c.requires.counter c.args.threshold c.requires.loaded c.requires.nothing c.args.delta c.requires.room
    looked.new.pass c.group-group.result looked.result c.group-group.ensures.value looked.ensures.made
    looked.ensures.volume c.args.mode
    c.put.new.pass amount
    (subst (λ d. HasPut c.put.new.pass looked.new.pass c.args.counter looked.result c.args.threshold d
    c.args.mode amount)
    (to_z-of_z w64 c.args.delta c.ranges.delta) c.in-Done.ensures))

pub returns-in-Done-put-clause-made : goal.returns-in-Done-put-clause-made
returns-in-Done-put-clause-made c =
    let looked = c.load_diffs-found in
    let amount = c.in-Done-put.amount in
    let fits : FitsSigned w64 amount = search in
    let same : to_z w64 (of_z w64 amount) ≡ amount = to_z-of_z w64 amount fits in
    subst (λ z. HasExchanged c.put-in-Missed.new.pass.pass c.args.pass.now.pass c.args.counter c.args.threshold
    c.args.delta c.args.mode z) (sym same)
    (missed-made c.args.table.now.facts c.args.pass.now c.requires.table.facts c.args.cpu c.requires.owns
    c.args.counter c.requires.counter c.args.threshold c.requires.loaded c.requires.nothing c.args.delta c.requires.room
    looked.new.pass c.group-group.result looked.result c.group-group.ensures.value looked.ensures.made
    looked.ensures.volume c.put.new.pass c.in-Missed.ensures c.zeros-zeros.result c.zeros-zeros.ensures c.args.mode
    c.put-in-Missed.new.pass amount
    (subst (λ d. HasPut c.put-in-Missed.new.pass c.put.new.pass c.args.counter c.zeros-zeros.result c.args.threshold d
    c.args.mode amount)
    (to_z-of_z w64 c.args.delta c.ranges.delta) c.in-Done-put.ensures))

pub returns-in-Done-put-clause-carries : goal.returns-in-Done-put-clause-carries
returns-in-Done-put-clause-carries c =
    let looked = c.load_diffs-found in
    let amount = c.in-Done-put.amount in
    let fits : FitsSigned w64 amount = search in
    let same : to_z w64 (of_z w64 amount) ≡ amount = to_z-of_z w64 amount fits in
    subst (λ z. CarriesFor c.args.table.now.facts.layout c.args.counter.number z
    (own c.put-in-Missed.new.pass.pass.seen c.put-in-Missed.new.pass.pass.number)) (sym same)
    (missed-carries c.args.table.now.facts c.args.pass.now c.requires.table.facts c.args.cpu c.requires.owns
    c.args.counter c.requires.counter c.args.threshold c.requires.loaded c.requires.nothing c.args.delta c.requires.room
    looked.new.pass c.group-group.result looked.result c.group-group.ensures.value looked.ensures.made
    looked.ensures.volume c.put.new.pass c.in-Missed.ensures c.zeros-zeros.result c.zeros-zeros.ensures c.args.mode
    c.put-in-Missed.new.pass amount
    (subst (λ d. HasPut c.put-in-Missed.new.pass c.put.new.pass c.args.counter c.zeros-zeros.result c.args.threshold d
    c.args.mode amount)
    (to_z-of_z w64 c.args.delta c.ranges.delta) c.in-Done-put.ensures))
