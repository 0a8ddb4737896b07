-- The goals were that an addition that the volume leaves room for isn't refused, and which steps each call makes.
use Rattle.std.proofs.Common.{◌≡◌, ◌+◌, ◌≤◌, Some, slice_index, unsigned_abs, ℤ, w64, to_z, of_z, FitsSigned, refl, sym}
use Rattle.std.proofs.Common.{ap, ◌∙◌, subst, arith, rules}
use Rattle.std.proofs.lemmas.Int.{to_z-of_z}
use Rattle.vms_history.specs.Common.{most_volume}
use Rattle.vms_pcpu_core.specs.declared.answers.PcpuAnswer.{PcpuAnswer}
use Rattle.vms_pcpu_core.specs.declared.answers.PcpuAnswer.TheVariants.{Done, Limited, Compared, Total, Count}
use Rattle.vms_pcpu_core.specs.declared.pcpu_calls.PcpuCall.{PcpuCall}
use Rattle.vms_pcpu_core.specs.declared.pcpu_calls.PcpuCall.TheVariants.{Add, LimitedAdd, Compare, Sum, Read, Sync}
use Rattle.vms_pcpu_core.specs.declared.steps.PcpuFacts.{PcpuFacts}
use Rattle.vms_pcpu_core.specs.declared.steps.PcpuStep.{PcpuStep}
use Rattle.vms_pcpu_core.specs.Common.{IsOwnersCall, IsPcpuCall, LeavesVolume}
use Rattle.vms_pcpu.specs.Common.{MakesCall}
use Rattle.vms_seats.specs.Common.{Pass}
use Rattle.vms_pcpu.proofs.tables.PcpuTable.call.Goals as goal

-- the steps of the call that was made, with the answer that came, are those of an equal call with an equal answer
made-as : (facts : PcpuFacts) (new old : Pass PcpuFacts PcpuStep) (call made_call : PcpuCall) (answer came : PcpuAnswer)
    → call ≡ made_call → came ≡ answer
    → MakesCall new old (λ own steps. IsPcpuCall facts (Some own) made_call steps came)
    → MakesCall new old (λ own steps. IsPcpuCall facts (Some own) call steps answer)
made-as facts new old call made_call answer came is says made =
    subst (λ (one : PcpuCall). MakesCall new old (λ own steps. IsPcpuCall facts (Some own) one steps answer)) (sym is)
    (subst (λ (one : PcpuAnswer). MakesCall new old (λ own steps. IsPcpuCall facts (Some own) made_call steps one)) says
    made)

pub unreachable-requires : goal.unreachable-requires
unreachable-requires g c =
    let amount = c.in-Add.amount in
    let fits : FitsSigned w64 amount = search rules in
    let same : unsigned_abs (to_z w64 (of_z w64 amount)) ≡ unsigned_abs amount =
    ap unsigned_abs (to_z-of_z w64 amount fits) in
    let room : slice_index c.args.pass.now.volume c.in-Add.counter.number + unsigned_abs amount ≤ most_volume =
    subst (LeavesVolume (slice_index c.args.pass.now.volume)) c.in-Add.is c.requires.room in
    let over = c.in-Err.ensures.overflow.0 refl in
    omega arith

pub unreachable-requires-in-Err-limited_add : goal.unreachable-requires-in-Err-limited_add
unreachable-requires-in-Err-limited_add g c =
    let amount = c.in-LimitedAdd.amount in
    let fits : FitsSigned w64 amount = search rules in
    let same : unsigned_abs (to_z w64 (of_z w64 amount)) ≡ unsigned_abs amount =
    ap unsigned_abs (to_z-of_z w64 amount fits) in
    let room : slice_index c.args.pass.now.volume c.in-LimitedAdd.counter.number + unsigned_abs amount ≤ most_volume =
    subst (LeavesVolume (slice_index c.args.pass.now.volume)) c.in-LimitedAdd.is c.requires.room in
    let over = c.in-Err-limited_add.ensures.overflow.0 refl in
    omega arith

pub returns-in-Ok-clause-made : goal.returns-in-Ok-clause-made
returns-in-Ok-clause-made g c =
    let counter = c.in-Add.counter in
    let amount = c.in-Add.amount in
    let fits : FitsSigned w64 amount = search rules in
    made-as c.args.self.now.facts c.add.new.pass.pass c.args.pass.now.pass c.args.call
    (Add counter (to_z w64 (of_z w64 amount))) Done Done
    (c.in-Add.is ∙ ap (Add counter) (sym (to_z-of_z w64 amount fits))) refl c.in-Ok.ensures.made

pub returns-in-Ok-limited_add-clause-made : goal.returns-in-Ok-limited_add-clause-made
returns-in-Ok-limited_add-clause-made g c =
    let counter = c.in-LimitedAdd.counter in
    let limit = c.in-LimitedAdd.limit in
    let amount = c.in-LimitedAdd.amount in
    let limit_fits : FitsSigned w64 limit = search rules in
    let amount_fits : FitsSigned w64 amount = search rules in
    made-as c.args.self.now.facts c.limited_add.new.pass.pass c.args.pass.now.pass c.args.call
    (LimitedAdd counter (to_z w64 (of_z w64 limit)) (to_z w64 (of_z w64 amount))) (Limited c.in-Ok-limited_add.made)
    (Limited c.in-Ok-limited_add.made)
    (c.in-LimitedAdd.is
    ∙ ap (λ (l : ℤ). LimitedAdd counter l amount) (sym (to_z-of_z w64 limit limit_fits))
    ∙ ap (LimitedAdd counter (to_z w64 (of_z w64 limit))) (sym (to_z-of_z w64 amount amount_fits))) refl
    c.in-Ok-limited_add.ensures.made

pub returns-in-Compare-clause-made : goal.returns-in-Compare-clause-made
returns-in-Compare-clause-made g c =
    let counter = c.in-Compare.counter in
    let rhs = c.in-Compare.rhs in
    let fits : FitsSigned w64 rhs = search rules in
    made-as c.args.self.now.facts c.compare.new.pass.pass c.args.pass.now.pass c.args.call
    (Compare counter (to_z w64 (of_z w64 rhs))) (Compared c.compare.result) (Compared c.compare.result)
    (c.in-Compare.is ∙ ap (Compare counter) (sym (to_z-of_z w64 rhs fits))) refl c.compare.ensures.made

pub returns-in-Sum-clause-made : goal.returns-in-Sum-clause-made
returns-in-Sum-clause-made g c =
    let sum = c.sum.result in
    let fits : FitsSigned w64 sum = search rules in
    made-as c.args.self.now.facts c.sum.new.pass.pass c.args.pass.now.pass c.args.call (Sum c.in-Sum.counter)
    (Total (to_z w64 (of_z w64 sum))) (Total sum) c.in-Sum.is (ap Total (sym (to_z-of_z w64 sum fits)))
    c.sum.ensures.made

pub returns-in-Read-clause-made : goal.returns-in-Read-clause-made
returns-in-Read-clause-made g c =
    let count = c.read.result in
    let fits : FitsSigned w64 count = search rules in
    made-as c.args.self.now.facts c.read.new.pass.pass c.args.pass.now.pass c.args.call (Read c.in-Read.counter)
    (Count (to_z w64 (of_z w64 count))) (Count count) c.in-Read.is (ap Count (sym (to_z-of_z w64 count fits)))
    c.read.ensures.made

pub returns-in-Sync-clause-made : goal.returns-in-Sync-clause-made
returns-in-Sync-clause-made g c =
    made-as c.args.self.now.facts c.sync.new.pass.pass c.args.pass.now.pass c.args.call (Sync c.in-Sync.counter) Done
    Done c.in-Sync.is refl c.sync.ensures.made

pub returns-in-FoldDead-clause-made : goal.returns-in-FoldDead-clause-made
returns-in-FoldDead-clause-made g c = absurd (subst IsOwnersCall c.in-FoldDead.is c.requires.owners)
